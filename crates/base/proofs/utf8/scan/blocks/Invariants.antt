-- `utf8::scan::blocks` meets its contract. The loop's invariant: from `good` on it is as far to the first ill-formed subpart as from the start, and the automaton came from there.
-- Assumes nothing.
use mathlib.Core.Path.{◌≡◌}
use Prim.Native.Nat.{◌+◌, ◌-◌, ◌≤◌}
use lib.ListN.{length, drop}
use Rattle.base.specs.Utf8.{valid_up_to}
use Rattle.base.specs.inner.Flow.{Flow}
use Rattle.base.proofs.utf8.scan.blocks.Given as goal

abbrev pub invariant-loop-j : goal.invariant-loop-j
invariant-loop-j l = (l.from ≤ l.good) × Flow l.s l.good 0 l.j l.q × (l.good + valid_up_to (drop l.good l.s) ≡ l.from + valid_up_to (drop l.from l.s))

abbrev pub decreases-loop-j : goal.decreases-loop-j
decreases-loop-j l = length l.s - l.j
