-- Little-endian numbers of k bytes (document 01, 'Bytes and text'), for every k at once.
use Rattle.std.specs.Prelude.{nat_le, Result, Ok, Err}
use Rattle.std.specs.Prelude.{ℕ, zero, suc, ◌+◌, ◌*◌, ◌/◌, ◌%◌, List, [], ◌∷◌, length, take, drop}
use Rattle.std.proofs.lemmas.List.Edits.{sets}
use Rattle.base.specs.Choice.{pick}
use Rattle.base.specs.declared.error.PastEnd.{PastEnd}

-- the k bytes of n, the least first
unfoldable pub le : ℕ → ℕ → List ℕ
le zero n = []
le (suc k) n = n % 256 ∷ le k (n / 256)

-- the number that bytes are
unfoldable pub val : List ℕ → ℕ
val [] = 0
val (b ∷ bs) = b + 256 * val bs

-- the number in the k bytes of s from at on; a byte past the end counts as 0
unfoldable pub get : ℕ → List ℕ → ℕ → ℕ
get k s at = val (take k (drop at s))

-- s with the k bytes of n from at on; what would stand past the end is dropped
unfoldable pub put : ℕ → List ℕ → ℕ → ℕ → List ℕ
put k s at n = sets s at (le k n)

-- a read or a seek past the end: the offset and what was requested
abbrev pub past_end : ℕ → ℕ → PastEnd
past_end offset requested = record { offset = offset; requested = requested }

-- a read of k bytes at a position: the number and the position after it, or, past the end, the present position and k
unfoldable pub read_of : ℕ → List ℕ → ℕ → Result (ℕ × ℕ) PastEnd
read_of k s at = pick (nat_le (at + k) (length s)) (Ok (get k s at, at + k)) (Err (past_end at k))
