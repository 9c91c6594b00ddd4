use mathlib.Core.Path.{refl}
use Rattle.bflan.proofs.reader.Walks.{many_next, walking_turn, walking_stop, handed_on}
use Rattle.bflan.proofs.reader.datum.data.Goals as goal

pub returns-in_err-q : goal.returns-in_err-q
returns-in_err-q c = rw (handed_on c.from_residual.ensures.1) (walking_stop c.loop-i.invariant _ c.in_err-q.ensures (many_next _ _ _ _ _ c.loop-i-test.true) refl _)

pub loop-i-preserved : goal.loop-i-preserved
loop-i-preserved c = walking_turn c.loop-i.invariant _ c.in_ok-q.ensures (many_next _ _ _ _ _ c.loop-i-test.true) refl
