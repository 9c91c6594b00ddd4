-- `run::write_pairs` meets its contract. The loop's invariant: what is still to be stored, stored, makes the list that all of it makes.
-- Assumes nothing.
use Prim.Native.Nat.{◌+◌, ◌*◌, ◌≤◌}
use mathlib.Core.Path.{◌≡◌}
use lib.ListN.{length, take, drop}
use lib.Seq.{sets}
use Rattle.base.specs.Run.{pairs_le}
use Rattle.base.proofs.run.write_pairs.Given as goal

abbrev pub invariant-loop-k : goal.invariant-loop-k
invariant-loop-k l = (l.k ≤ l.full) × (length l.out ≡ length l.initial.out) × (sets l.out (l.at + 8 * l.k) (pairs_le (drop (2 * l.k) (take (2 * l.n) (drop l.from l.words)))) ≡ sets l.initial.out l.at (pairs_le (take (2 * l.n) (drop l.from l.words))))
