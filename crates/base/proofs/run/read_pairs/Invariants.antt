-- `run::read_pairs` meets its contract. The loop's invariant: what is still to be stored, stored, makes the list that all of it makes.
-- Assumes nothing.
use Prim.Native.Nat.{◌+◌, ◌*◌, ◌≤◌}
use mathlib.Core.Path.{◌≡◌}
use lib.ListN.{length, drop}
use lib.Seq.{sets}
use Rattle.base.specs.Run.{pairs_at}
use Rattle.base.proofs.run.read_pairs.Given as goal

abbrev pub invariant-loop-k : goal.invariant-loop-k
invariant-loop-k l = (l.full ≤ l.n) × (l.k ≤ l.full) × (length l.out ≡ length l.initial.out) × (sets l.out (l.o + 2 * l.k) (drop (2 * l.k) (pairs_at l.n l.s l.at)) ≡ sets l.initial.out l.o (pairs_at l.n l.s l.at))
