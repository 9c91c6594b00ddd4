-- Zeros up to the next multiple of 4 (document 01, 'Writing').
use Rattle.std.specs.Prelude.{ℕ, ◌-◌, ◌%◌}

-- how many zeros bring the position n to a multiple of 4
unfoldable pub padding_of : ℕ → ℕ
padding_of n = (4 - n % 4) % 4
