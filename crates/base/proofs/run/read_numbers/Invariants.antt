-- `run::read_numbers` meets its contract. The loop's invariant: what is still to be stored, stored, makes the list that all of it makes.
-- Assumes nothing.
use Prim.Native.Nat.{◌+◌, ◌≤◌}
use mathlib.Core.Path.{◌≡◌}
use lib.ListN.{length, drop}
use lib.Seq.{sets}
use Rattle.base.specs.Run.{numbers_at}
use Rattle.base.proofs.run.read_numbers.Given as goal

abbrev pub invariant-loop-k : goal.invariant-loop-k
invariant-loop-k l = (l.m ≤ l.n) × (length l.out ≡ length l.initial.out) × (sets l.out (l.o + l.k) (drop l.k (numbers_at l.n l.s l.at)) ≡ sets l.initial.out l.o (numbers_at l.n l.s l.at))
