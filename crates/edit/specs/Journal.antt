-- The journal of edits (document 01, 'Edits and undo').
use Rattle.std.specs.Prelude.{ℕ, ◌+◌, ◌-◌, ◌*◌, ◌/◌, Bool, true, ◌&&◌, ◌||◌, List, [], ◌∷◌, ◌++◌, eqb, leb, length, get_or, take, drop, replicate}
use Rattle.base.specs.Number.{le, get}

-- the words of an entry: the byte offset, the byte count, and the old bytes in three words
abbrev pub entry_words : ℕ
entry_words = 5

abbrev pub old_bytes : ℕ
old_bytes = 12

unfoldable pub capacity : List ℕ → ℕ
capacity journal = length journal / entry_words

-- entry n
unfoldable pub entry_at : List ℕ → ℕ → List ℕ
entry_at journal n = take entry_words (drop (entry_words * n) journal)

-- the entry for bytes that stand at an offset: they are filled up with zeros
unfoldable pub padded : List ℕ → List ℕ
padded old = old ++ replicate (old_bytes - length old) 0

unfoldable pub entry_of : ℕ → List ℕ → List ℕ
entry_of at old = at ∷ length old ∷ get 4 (padded old) 0 ∷ get 4 (padded old) 4 ∷ get 4 (padded old) 8 ∷ []

-- what an entry says: the offset, the byte count, and the twelve bytes
abbrev pub offset_in : List ℕ → ℕ
offset_in e = get_or e 0 0

abbrev pub count_in : List ℕ → ℕ
count_in e = get_or e 1 0

unfoldable pub bytes_in : List ℕ → List ℕ
bytes_in e = le 4 (get_or e 2 0) ++ (le 4 (get_or e 3 0) ++ le 4 (get_or e 4 0))

-- whether it can be undone in a section of this length: the byte count is a field's, the fill is zero, and the bytes are there
unfoldable pub field_size : ℕ → Bool
field_size n = eqb n 1 || (eqb n 2 || (eqb n 4 || (eqb n 6 || eqb n 12)))

unfoldable pub all_zero : List ℕ → Bool
all_zero [] = true
all_zero (b ∷ bs) = eqb b 0 && all_zero bs

unfoldable pub restorable : ℕ → List ℕ → Bool
restorable size e = field_size (count_in e) && (all_zero (drop (count_in e) (bytes_in e)) && leb (offset_in e + count_in e) size)
