-- `utf8::scan::walk` meets its contract. The loop's invariant: the automaton is inside the character that starts at `i`, or there is none yet.
-- Assumes nothing.
use mathlib.Core.Path.{◌≡◌}
use Prim.Native.Nat.{◌+◌, ◌-◌, ◌≤◌}
use lib.ListN.{drop}
use Rattle.base.specs.Utf8.{valid_up_to}
use Rattle.base.specs.inner.Flow.{state_of, State}
use Rattle.base.proofs.utf8.Inside.{Inside}
use Rattle.base.proofs.utf8.scan.walk.Given as goal

abbrev pub invariant-loop-j : goal.invariant-loop-j
invariant-loop-j l = (l.from ≤ l.i) × (l.j ≤ l.stop) × State l.q × Inside l.s l.i l.j (state_of l.q) × (l.i + valid_up_to (drop l.i l.s) ≡ l.from + valid_up_to (drop l.from l.s))

abbrev pub decreases-loop-j : goal.decreases-loop-j
decreases-loop-j l = l.stop - l.j
