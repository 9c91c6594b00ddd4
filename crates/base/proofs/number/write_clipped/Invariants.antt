-- `number::write_clipped` meets its contract. The loop's invariant: what is still to be written, written, makes the list that all of it makes.
-- Assumes nothing.
use mathlib.Core.Path.{◌≡◌}
use Prim.Native.Nat.{◌+◌, ◌-◌}
use lib.ListN.{length}
use Rattle.base.specs.Number.{put}
use Rattle.base.proofs.number.write_clipped.Given as goal

abbrev pub invariant-loop-i : goal.invariant-loop-i
invariant-loop-i l = (length l.out ≡ length l.initial.out) × (put (l.k - l.i) l.out (l.at + l.i) l.w ≡ put l.k l.initial.out l.at l.v)
