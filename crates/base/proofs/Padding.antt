-- The padding is what brings a position to the next multiple of 4. Assumes nothing.
use mathlib.Core.Path.{◌≡◌}
use Prim.Native.Nat.{ℕ, ◌+◌, ◌*◌, ◌%◌, ◌<◌}
use native.Mathlib.Omega.{arith}
use Rattle.base.specs.Fill.{padding_of}

pub padding_lt : (n : ℕ) → padding_of n < 4
unfolding padding_of
padding_lt n = omega arith

pub padding_ends : (n : ℕ) → (n + padding_of n) % 4 ≡ 0
unfolding padding_of
padding_ends n = omega arith

-- positions that differ by a multiple of 4 have one padding
pub padding_shift : (n m : ℕ) → padding_of (n + 4 * m) ≡ padding_of n
unfolding padding_of
padding_shift n m = omega arith
