use native.Mathlib.Omega.{arith}
use Rattle.base.proofs.utf8.Automaton.{flow_turn}
use Rattle.base.proofs.utf8.flow.Automaton.flow_over.Goals as goal

pub loop-j-preserved : goal.loop-j-preserved
loop-j-preserved c = (omega arith, flow_turn _ _ _ _ _ _ c.loop-j.invariant.1 (omega arith) c.next_state-q.ensures.0 c.next_state-q.ensures.1)
