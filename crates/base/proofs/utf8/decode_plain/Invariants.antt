-- `utf8::decode_plain` meets its contract. The loop's invariant: what is still to be decoded, stored, makes the list that all of it makes.
-- Assumes nothing.
use Prim.Native.Nat.{◌-◌}
use mathlib.Core.Path.{◌≡◌}
use lib.ListN.{length, drop}
use lib.Seq.{sets}
use Rattle.base.specs.Utf8.{decode}
use Rattle.base.proofs.utf8.Turns.{Counted}
use Rattle.base.proofs.utf8.decode_plain.Given as goal

abbrev pub invariant-loop-i : goal.invariant-loop-i
invariant-loop-i l = Counted l.text l.i l.extra l.count × (length l.out ≡ length l.initial.out) × (sets l.out l.o (decode (drop l.i l.text)) ≡ sets l.initial.out l.at (decode l.text))

abbrev pub decreases-loop-i : goal.decreases-loop-i
decreases-loop-i l = length l.text - l.i
