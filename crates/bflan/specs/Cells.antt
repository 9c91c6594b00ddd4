-- A record when it is flat: words, and texts of which the length is a word (document 01, 'Flat record').
use Rattle.std.specs.Prelude.{ℕ, List, [], ◌∷◌, ◌++◌, length}

-- a text is its length among the words and its bytes among the texts
pub data Cell : Type 0 where
  word : ℕ → Cell
  chars : List ℕ → Cell

unfoldable pub words_in : List Cell → List ℕ
words_in [] = []
words_in (word v ∷ cs) = v ∷ words_in cs
words_in (chars t ∷ cs) = length t ∷ words_in cs

unfoldable pub bytes_in : List Cell → List ℕ
bytes_in [] = []
bytes_in (word v ∷ cs) = bytes_in cs
bytes_in (chars t ∷ cs) = t ++ bytes_in cs

-- a text by itself
unfoldable pub text_cells : List ℕ → List Cell
text_cells t = chars t ∷ []

unfoldable pub each : {X : Type 0} → (X → List Cell) → List X → List Cell
each f [] = []
each f (x ∷ xs) = f x ++ each f xs
