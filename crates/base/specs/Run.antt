-- Runs of numbers, one after another (document 01, 'The section': keys, lists and offset tables).
use Rattle.std.specs.Prelude.{nat_le, Result, Ok, Err}
use Rattle.std.specs.Prelude.{ℕ, zero, suc, ◌+◌, ◌-◌, ◌*◌, ◌/◌, List, [], ◌∷◌, ◌++◌, length}
use Rattle.std.proofs.lemmas.List.Edits.{sets}
use Rattle.base.specs.Choice.{pick}
use Rattle.base.specs.Number.{le, get, past_end}
use Rattle.base.specs.declared.error.PastEnd.{PastEnd}

-- n numbers of four bytes
unfoldable pub numbers_at : ℕ → List ℕ → ℕ → List ℕ
numbers_at zero s at = []
numbers_at (suc n) s at = get 4 s at ∷ numbers_at n s (at + 4)

-- as many as are whole are read; the next one is refused
unfoldable pub numbers_of : ℕ → List ℕ → ℕ → Result ℕ PastEnd
numbers_of n s at = pick (nat_le n ((length s - at) / 4)) (Ok (at + 4 * n)) (Err (past_end (at + 4 * ((length s - at) / 4)) 4))

-- n pairs of a number of four bytes and one of two, each pair in eight bytes of which the last two are not read
unfoldable pub pairs_at : ℕ → List ℕ → ℕ → List ℕ
pairs_at zero s at = []
pairs_at (suc n) s at = get 4 s at ∷ get 2 s (at + 4) ∷ pairs_at n s (at + 8)

-- the first pair that is not whole, by its place: refused at its first number or at its second
unfoldable pub cut_pair : List ℕ → ℕ → Result ℕ PastEnd
cut_pair s at = pick (nat_le (at + 4) (length s)) (Err (past_end (at + 4) 2)) (Err (past_end at 4))

unfoldable pub pairs_of : ℕ → List ℕ → ℕ → Result ℕ PastEnd
pairs_of n s at = pick (nat_le n ((length s - at + 2) / 8)) (Ok (at + 8 * n)) (cut_pair s (at + 8 * ((length s - at + 2) / 8)))

-- the words after a run: it is stored where it is whole, else nothing is
unfoldable pub stored_run : Result ℕ PastEnd → List ℕ → ℕ → List ℕ → List ℕ
stored_run (Ok next) out o v = sets out o v
stored_run (Err e) out o v = out

-- numbers of four bytes, one after another
unfoldable pub numbers_le : List ℕ → List ℕ
numbers_le [] = []
numbers_le (v ∷ vs) = le 4 v ++ numbers_le vs

-- pairs of a number of four bytes and one of two, two zeros behind each; a number without a second is dropped
unfoldable pub pairs_le : List ℕ → List ℕ
pairs_le [] = []
pairs_le (a ∷ []) = []
pairs_le (a ∷ b ∷ vs) = le 4 a ++ (le 2 b ++ (0 ∷ 0 ∷ pairs_le vs))
