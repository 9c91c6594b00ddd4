-- `fill::zeros` meets its contract. The loop's invariant: what is still to be stored, stored, makes the list that all of it makes.
-- Assumes nothing.
use mathlib.Core.Path.{◌≡◌}
use Prim.Native.Nat.{◌+◌}
use lib.ListN.{length, drop, replicate}
use lib.Seq.{sets}
use Rattle.base.proofs.fill.zeros.Given as goal

abbrev pub invariant-loop-i : goal.invariant-loop-i
invariant-loop-i l = (length l.out ≡ length l.initial.out) × (sets l.out (l.at + l.i) (drop l.i (replicate l.n 0)) ≡ sets l.initial.out l.at (replicate l.n 0))
