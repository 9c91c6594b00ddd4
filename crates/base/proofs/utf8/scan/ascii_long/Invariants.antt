-- `utf8::scan::ascii_long` meets its contract. The loop's invariant: every byte passed is ASCII.
-- Assumes nothing.
use Prim.Native.Nat.{ℕ, ◌-◌, ◌≤◌, ◌<◌}
use mathlib.Core.Path.{◌≡◌}
use mathlib.Core.Bool.{true}
use lib.ListN.{length, get_or}
use Rattle.base.specs.Text.{ascii}
use Rattle.base.proofs.utf8.scan.ascii_long.Given as goal

abbrev pub invariant-loop-i : goal.invariant-loop-i
invariant-loop-i l = (l.i ≤ length l.s) × ((k : ℕ) → k < l.i → ascii (get_or l.s k 0) ≡ true)

abbrev pub decreases-loop-i : goal.decreases-loop-i
decreases-loop-i l = length l.s - l.i
