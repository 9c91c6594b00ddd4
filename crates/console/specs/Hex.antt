-- Hexadecimal digits as the programs print them (ASCII, capitals).
use Rattle.std.specs.Prelude.{ℕ, ◌+◌, ◌/◌, ◌%◌, List, [], ◌∷◌, ◌++◌, ltb}
use Rattle.base.specs.Choice.{pick}

-- the digit of a number's last four bits: `0` to `9`, then `A` to `F`
unfoldable pub hex_digit : ℕ → ℕ
hex_digit n = pick (ltb (n % 16) 10) (48 + n % 16) (55 + n % 16)

-- a byte by its two digits
unfoldable pub two_digits : ℕ → List ℕ
two_digits b = hex_digit (b / 16) ∷ hex_digit b ∷ []

-- a number of four bytes by its eight digits, those of its highest byte first
unfoldable pub word_digits : ℕ → List ℕ
word_digits n = two_digits (n / 16777216 % 256) ++ (two_digits (n / 65536 % 256) ++ (two_digits (n / 256 % 256) ++ two_digits (n % 256)))

-- a byte that is not to be printed as it is: a backslash, an `x` and the two digits
unfoldable pub escaped : ℕ → List ℕ
escaped b = 92 ∷ 120 ∷ two_digits b
