-- `utf8::flow::flow_over` meets its contract. The loop's invariant: the automaton is on its way.
-- Assumes nothing.
use Prim.Native.Nat.{◌≤◌}
use Rattle.base.specs.inner.Flow.{Flow}
use Rattle.base.proofs.utf8.flow.Automaton.flow_over.Given as goal

abbrev pub invariant-loop-j : goal.invariant-loop-j
invariant-loop-j l = (l.j ≤ l.stop) × Flow l.s l.from l.state l.j l.q
