-- `utf8::short_valid` meets its contract.
-- Assumes nothing.
use native.Mathlib.Omega.{arith}
use borrow.Author.Tests.{eqb-true}
use lib.ListN.{length}
use Rattle.base.proofs.utf8.Automaton.{state_zero, flow_end}
use Rattle.base.proofs.utf8.Turns.{valid_end}
use Rattle.base.proofs.utf8.short_valid.Goals as goal

pub returns : goal.returns
returns c = λ e.
    let s = c.args.text.now in
    let f = flow_end s 0 (length s) _ c.flow_over.ensures (state_zero _ (eqb-true _ _ e)) in
    omega (arith, f, valid_end s (length s) (omega arith))
