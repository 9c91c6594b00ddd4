-- `fill::copy_first` meets its contract. The loop's invariant: what is still to be stored, stored, makes the list that all of it makes.
-- Assumes nothing.
use mathlib.Core.Path.{◌≡◌}
use Prim.Native.Nat.{◌+◌, ◌≤◌}
use lib.ListN.{length, take, drop}
use lib.Seq.{sets}
use Rattle.base.proofs.fill.copy_first.Given as goal

abbrev pub invariant-loop-i : goal.invariant-loop-i
invariant-loop-i l = (l.i ≤ l.n) × (length l.out ≡ length l.initial.out) × (sets l.out (l.at + l.i) (drop l.i (take l.n l.src)) ≡ sets l.initial.out l.at (take l.n l.src))
