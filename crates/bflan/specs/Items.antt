-- The views of what a reading gives: the words and the text bytes of its items, where its texts stand (document 01, 'Flat record'), and how many
-- U+FFFD were put into them (document 02, Point 1).
use Rattle.std.specs.Prelude.{ℕ, ◌+◌, List, [], ◌∷◌, ◌++◌, length}
use Rattle.std.proofs.Math.Seq.{slice}
use Rattle.base.specs.Utf8.{decode, replacements}
use Rattle.bflan.specs.Reader.{Item, word, text}

-- the texts' starts and lengths, in the record's order
unfoldable pub texts_in : List Item → List (ℕ × ℕ)
texts_in [] = []
texts_in (word v ∷ is) = texts_in is
texts_in (text a n ∷ is) = (a, n) ∷ texts_in is

-- a text as it is shown
abbrev pub shown_at : List ℕ → ℕ → ℕ → List ℕ
shown_at s start len = decode (slice start (start + len) s)

unfoldable pub words_of : List ℕ → List Item → List ℕ
words_of s [] = []
words_of s (word v ∷ is) = v ∷ words_of s is
words_of s (text a n ∷ is) = length (shown_at s a n) ∷ words_of s is

unfoldable pub texts_of : List ℕ → List Item → List ℕ
texts_of s [] = []
texts_of s (word v ∷ is) = texts_of s is
texts_of s (text a n ∷ is) = shown_at s a n ++ texts_of s is

-- how many U+FFFD the decodings of the texts put in
unfoldable pub replacements_of : List ℕ → List Item → ℕ
replacements_of s [] = 0
replacements_of s (word v ∷ is) = replacements_of s is
replacements_of s (text a n ∷ is) = replacements (slice a (a + n) s) + replacements_of s is
