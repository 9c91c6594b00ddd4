-- `utf8::scan::far_run` meets its contract.
-- Assumes nothing.
use mathlib.Core.Path.{sym, ap, ◌∙◌}
use native.Mathlib.Omega.{arith}
use lib.ListN.{length}
use Rattle.base.proofs.Parts.{part_all}
use Rattle.base.proofs.utf8.Turns.{run_end}
use Rattle.base.proofs.utf8.scan.far_run.Goals as goal

pub returns : goal.returns
returns c =
    let e = part_all c.args.s.now in
    let l = ap length e in
    let w = c.walk.ensures in
    rw e at (run_end _ _ _ _ (w.2 ∙ c.blocks-e.ensures.2) (λ z. omega (arith, l, w.3 z (sym l))) w.4)
