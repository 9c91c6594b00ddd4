-- The count lies within the room. The measure is what is left of it.
use Rattle.std.proofs.Common.{length, ◌-◌, ◌≤◌}
use Rattle.console.proofs.input.read_input.Given as goal

abbrev pub invariant-loop-n : goal.invariant-loop-n
invariant-loop-n g l = l.n ≤ length l.room

abbrev pub decreases-loop-n : goal.decreases-loop-n
decreases-loop-n g l = length l.room - l.n
