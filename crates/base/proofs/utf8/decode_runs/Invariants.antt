-- `utf8::decode_runs` meets its contract. The loop's invariant: what is still to be decoded, stored, makes the list that all of it makes.
-- Assumes nothing.
use Prim.Native.Nat.{◌-◌}
use mathlib.Core.Path.{◌≡◌}
use lib.ListN.{length, drop}
use lib.Seq.{sets}
use Rattle.base.specs.Utf8.{decode}
use Rattle.base.proofs.utf8.Turns.{Counted}
use Rattle.base.proofs.utf8.decode_runs.Given as goal

abbrev pub invariant-loop-replaced : goal.invariant-loop-replaced
invariant-loop-replaced l = Counted l.text l.i l.extra l.count × (length l.out ≡ length l.initial.out) × (sets l.out l.o (decode (drop l.i l.text)) ≡ sets l.initial.out l.at (decode l.text)) × (l.replaced ≡ l.initial.replaced)

abbrev pub decreases-loop-replaced : goal.decreases-loop-replaced
decreases-loop-replaced l = length l.text - l.i
