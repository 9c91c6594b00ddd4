-- Writing what was read: which words and texts reading leaves, and how writing judges them. A name whose decoding has more than 28 bytes
-- is the only fault that they can have (document 01, 'Bytes and text' and 'Flat record').
use Rattle.std.specs.Prelude.{ℕ, ◌+◌, Bool, true, ◌&&◌, List, [], ◌∷◌, leb, length, get_or, take}
use Rattle.base.specs.Choice.{pick}
use Rattle.base.specs.Outcome.{Outcome}
use Rattle.bflan.specs.Layout.{size, written}
use Rattle.bflan.specs.pai1.Calls.{reading}
use Rattle.bflan.specs.pai1.Layout.{section_lay}
use Rattle.bflan.specs.pai1.Record.{AnimContent, PaneAnimInfo, content_cells}
use Rattle.bflan.specs.Cells.{words_in}
use Rattle.bflan.specs.Writing.{bad_word_at, into_output}

-- the words and the texts that a call of reading filled, as many as it answers
unfoldable pub read_words : List ℕ → List ℕ → List ℕ → List ℕ
read_words s w x = take (get_or (reading s w x).0.values 0 0) (reading s w x).1

unfoldable pub read_texts : List ℕ → List ℕ → List ℕ → List ℕ
read_texts s w x = take (get_or (reading s w x).0.values 1 0) (reading s w x).2

-- whether no name has more than 28 bytes
unfoldable pub names_fit : List AnimContent → Bool
names_fit [] = true
names_fit (c ∷ cs) = leb (length c.name) 28 && names_fit cs

-- how many words stand before the first content whose name has more
unfoldable pub until_long : List AnimContent → ℕ
until_long [] = 0
until_long (c ∷ cs) = pick (leb (length c.name) 28) (length (words_in (content_cells c)) + until_long cs) 0

-- the index of that name's length: behind the section's four words and the textures' lengths
unfoldable pub long_at : PaneAnimInfo → ℕ
long_at r = 4 + length r.textures + until_long r.contents

-- what writing answers for a record that was read, and the output
unfoldable pub rewritten : List ℕ → PaneAnimInfo → Outcome × List ℕ
rewritten out r =
    pick (names_fit r.contents) (into_output out (size (section_lay r)) (written (section_lay r)))
    (bad_word_at (long_at r), out)
