-- `utf8::put_lone` meets its contract. The loop's invariant: what is still to be decoded, stored, makes the list that all of it makes.
-- Assumes nothing.
use Prim.Native.Nat.{◌-◌}
use mathlib.Core.Path.{◌≡◌}
use lib.ListN.{length, drop}
use lib.Seq.{sets}
use Rattle.base.specs.Utf8.{decode}
use Rattle.base.specs.inner.Scan.{Lones}
use Rattle.base.proofs.utf8.put_lone.Given as goal

abbrev pub invariant-loop-out : goal.invariant-loop-out
invariant-loop-out l = Lones l.text l.i l.end × (length l.out ≡ length l.initial.out) × (sets l.out l.next (decode (drop l.end l.text)) ≡ sets l.initial.out l.o (decode (drop l.i l.text)))

abbrev pub decreases-loop-out : goal.decreases-loop-out
decreases-loop-out l = length l.text - l.end
