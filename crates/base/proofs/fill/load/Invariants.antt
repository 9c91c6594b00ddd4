-- `fill::load` meets its contract. The loop's invariant: the bytes passed stand in the block.
-- Assumes nothing.
use mathlib.Core.Path.{◌≡◌}
use Prim.Native.Nat.{◌≤◌}
use lib.ListN.{length, take, drop}
use Rattle.base.proofs.fill.load.Given as goal

abbrev pub invariant-loop-k : goal.invariant-loop-k
invariant-loop-k l = (l.k ≤ l.n) × (length l.block ≡ 16) × (take l.k l.block ≡ take l.k (drop l.at l.src))
