-- binary32 (IEEE 754, as `lib.Ieee` has it) by its bit patterns, in values and in bytes (document 01, 'The section': a key's floats; 'Form by location': bits unchanged).
use Rattle.std.specs.Prelude.{Result, Ok, Err, from_bits, nat_le, to_bits}
use Rattle.std.specs.Prelude.{ℕ, ◌+◌, ◌||◌, List, length}
use Rattle.std.specs.Float.{binary32}
use Rattle.std.specs.Float.Ieee.{nan_bits}
use Rattle.base.specs.Choice.{pick}
use Rattle.base.specs.Number.{get, put, past_end}
use Rattle.base.specs.declared.float.Binary32.{Binary32}
use Rattle.base.specs.declared.float.Binary32.TheVariants.{Number, Nan}
use Rattle.base.specs.declared.float.Hermite.{Hermite}
use Rattle.base.specs.declared.float.Hermite.TheVariants.{Floats, Patterns}
use Rattle.base.specs.declared.float.HermiteBits.{HermiteBits}
use Rattle.base.specs.declared.error.PastEnd.{PastEnd}

-- the value of a pattern: a NaN keeps it
unfoldable pub float_of : ℕ → Binary32
float_of n = pick (nan_bits binary32 n) (Nan n) (Number (from_bits binary32 n))

-- the pattern of a value; that of `Number nan` is 7FC00000, as `to_bits` has it
unfoldable pub pattern_of : Binary32 → ℕ
pattern_of (Number x) = to_bits binary32 x
pattern_of (Nan n) = n

-- the key of the patterns of a frame, a value and a slope: it keeps them where one is a NaN's
unfoldable pub hermite_of : HermiteBits → Hermite
hermite_of b =
    pick (nan_bits binary32 b.0 || nan_bits binary32 b.1 || nan_bits binary32 b.2) (Patterns b.0 b.1 b.2)
    (Floats (record { frame = from_bits binary32 b.0; value = from_bits binary32 b.1; slope = from_bits binary32 b.2 }))

-- the patterns of a key
unfoldable pub patterns_of : Hermite → HermiteBits
patterns_of (Floats k) = (to_bits binary32 k.frame, to_bits binary32 k.value, to_bits binary32 k.slope)
patterns_of (Patterns f v s) = (f, v, s)

-- a read of a binary32: the value of the four bytes, or the refusal of a read of four
unfoldable pub read_float_of : List ℕ → ℕ → Result (Binary32 × ℕ) PastEnd
read_float_of s at = pick (nat_le (at + 4) (length s)) (Ok (float_of (get 4 s at), at + 4)) (Err (past_end at 4))

-- the three patterns from at on, and s with three patterns there
unfoldable pub patterns_at : List ℕ → ℕ → HermiteBits
patterns_at s at = (get 4 s at, get 4 s (at + 4), get 4 s (at + 8))

unfoldable pub put_patterns : List ℕ → ℕ → HermiteBits → List ℕ
put_patterns s at b = put 4 (put 4 (put 4 s at b.0) (at + 4) b.1) (at + 8) b.2

-- a read of a Hermite key: three reads of four bytes, in order, of which the first that the slice is too short for is refused
unfoldable pub read_hermite_of : List ℕ → ℕ → Result (Hermite × ℕ) PastEnd
read_hermite_of s at =
    pick (nat_le (at + 4) (length s))
    (pick (nat_le (at + 8) (length s))
    (pick (nat_le (at + 12) (length s)) (Ok (hermite_of (patterns_at s at), at + 12))
    (Err (past_end (at + 8) 4)))
    (Err (past_end (at + 4) 4)))
    (Err (past_end at 4))
