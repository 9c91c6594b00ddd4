-- Texts among bytes (document 01, 'Bytes and text'): up to the first zero, in a field of fixed length or up to the zero that ends it.
use Rattle.std.specs.Prelude.{◌==◌, Result, Ok, Err, nat_le, nat_lt, slice_index}
use Rattle.std.specs.Prelude.{ℕ, suc, min, ◌+◌, Bool, true, not, ◌&&◌, List, [], ◌∷◌, length, take, drop}
use Rattle.std.proofs.Math.Seq.{slice}
use Rattle.base.specs.Choice.{pick}
use Rattle.base.specs.Utf8.{valid_up_to}
use Rattle.base.specs.Number.{past_end}
use Rattle.base.specs.declared.error.TextError.{TextError}
use Rattle.base.specs.declared.error.TextError.TheVariants.{PastEnd, NoZero}

-- how many bytes stand before the first zero; all, where there is none
unfoldable pub before_zero : List ℕ → ℕ
before_zero [] = 0
before_zero (b ∷ bs) = pick (b == 0) 0 (suc (before_zero bs))

-- where the first fault of a text stands, a zero or an ill-formed subpart; the length, where it has none
unfoldable pub first_fault : List ℕ → ℕ
first_fault t = min (before_zero t) (valid_up_to t)

-- whether every byte passes a test; and the tests: not zero, ASCII (Table 3-7's first row), and both
unfoldable pub every : (ℕ → Bool) → List ℕ → Bool
every test [] = true
every test (b ∷ bs) = test b && every test bs

abbrev pub not_zero : ℕ → Bool
not_zero b = not (b == 0)

abbrev pub ascii : ℕ → Bool
ascii b = nat_lt b 128

abbrev pub plain : ℕ → Bool
plain b = not_zero b && ascii b

abbrev pub zero_free : List ℕ → Bool
zero_free bs = every not_zero bs

-- a plain text: 8 to 32 bytes from 01 to 7F
unfoldable pub is_plain : List ℕ → Bool
is_plain t = (nat_le 8 (length t) && nat_le (length t) 32) && every plain t

-- whether the n bytes from a position on are a plain text, and a zero stands behind them
unfoldable pub plain_at : List ℕ → ℕ → ℕ → Bool
plain_at s at n = (nat_lt (at + n) (length s) && slice_index s (at + n) == 0) && is_plain (slice at (at + n) s)

-- a field of n bytes, read up to its first zero; where the slice ends within it, what remains is the field, and where nothing remains it is
-- refused. A field of no bytes is there up to the slice's end (`read_fixed_string(0)` of the Rust)
unfoldable pub fixed_of : ℕ → List ℕ → ℕ → Result (ℕ × ℕ) TextError
fixed_of n s at =
    pick (nat_le (at + min n 1) (length s)) (Ok (before_zero (take n (drop at s)), at + length (take n (drop at s))))
    (Err (PastEnd (past_end at n)))

-- a text that ends at a zero, which the next position is after; with no zero before the slice ends it is refused at its start
unfoldable pub ended_of : List ℕ → ℕ → Result (ℕ × ℕ) TextError
ended_of s at =
    pick (nat_lt (at + before_zero (drop at s)) (length s)) (Ok (before_zero (drop at s), at + before_zero (drop at s) + 1))
    (Err (NoZero at))
