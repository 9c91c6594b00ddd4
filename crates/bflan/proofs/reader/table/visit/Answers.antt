use Rattle.std.proofs.Common.{arith}
use mathlib.Core.Path.{refl}
use Rattle.bflan.proofs.reader.Walks.{visit_next, walking_turn, walking_stop, handed_on}
use Rattle.bflan.proofs.reader.table.visit.Goals as goal

pub returns-in_err-p : goal.returns-in_err-p
returns-in_err-p g c =
    rw (handed_on c.from_residual.ensures.1) (walking_stop c.loop-i.invariant _ (c.in_err-p.ensures c.loop-i.p) (visit_next _ _ _ _ _ _ _ c.loop-i-test.true (omega (arith, c.offset_at-off.ensures.0))) refl _)

pub loop-i-preserved : goal.loop-i-preserved
loop-i-preserved g c =
    walking_turn c.loop-i.invariant _ (c.in_ok-p.ensures c.loop-i.p) (visit_next _ _ _ _ _ _ _ c.loop-i-test.true (omega (arith, c.offset_at-off.ensures.0))) refl
