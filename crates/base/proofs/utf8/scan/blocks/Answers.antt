use mathlib.Core.Path.{sym, ◌∙◌}
use native.Mathlib.Omega.{arith}
use borrow.Author.Tests.{eqb-true}
use Rattle.base.specs.Text.{ascii}
use Rattle.base.proofs.Tests.{every_in}
use Rattle.base.proofs.utf8.Laws.{both_true}
use Rattle.base.proofs.utf8.Turns.{ascii-byte, ascii_run}
use Rattle.base.proofs.utf8.Automaton.{state_zero, flow_here, flow_end}
use Rattle.base.proofs.utf8.scan.blocks.Goals as goal

pub loop-j-preserved-then-plain_block : goal.loop-j-preserved-then-plain_block
loop-j-preserved-then-plain_block c =
    let p = both_true _ _ (sym c.plain_block.ensures ∙ c.if-plain_block.true) in
    let z = state_zero _ (eqb-true _ _ p.0) in
    let f = c.loop-j.invariant.1 in
    (omega (arith, c.loop-j.invariant.0, f.start), flow_here _ _ _ f.held z (omega (arith, f.fits)), ascii_run _ _ 32 (omega (arith, f.fits)) (λ k h. ascii-byte _ (every_in ascii c.args.s.now c.loop-j.j 32 (omega (arith, f.fits)) p.1 k h)) ∙ flow_end _ _ _ _ f z ∙ c.loop-j.invariant.2)
