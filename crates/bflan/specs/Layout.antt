-- What is written, as data: numbers with their widths and bytes, one after another. Its size and its bytes are computed from one description.
use Rattle.std.specs.Prelude.{ℕ, ◌+◌, List, [], ◌∷◌, ◌++◌, length, replicate}
use Rattle.base.specs.Number.{le}

infixr 5 ◌⨾◌
pub data Layout : Type 0 where
  nothing : Layout
  -- n in k bytes
  number : (k n : ℕ) → Layout
  bytes : List ℕ → Layout
  ◌⨾◌ : Layout → Layout → Layout

unfoldable pub size : Layout → ℕ
size nothing = 0
size (number k n) = k
size (bytes bs) = length bs
size (a ⨾ b) = size a + size b

unfoldable pub written : Layout → List ℕ
written nothing = []
written (number k n) = le k n
written (bytes bs) = bs
written (a ⨾ b) = written a ++ written b

abbrev pub zeros : ℕ → Layout
zeros n = bytes (replicate n 0)

-- numbers of the given widths; a value that is missing counts as 0
unfoldable pub row : List ℕ → List ℕ → Layout
row [] vs = nothing
row (k ∷ ks) [] = number k 0 ⨾ row ks []
row (k ∷ ks) (v ∷ vs) = number k v ⨾ row ks vs

module _ {X : Type 0} (lay : X → Layout) where
  -- parts, one after another
  unfoldable pub parts : List X → Layout
  parts [] = nothing
  parts (x ∷ xs) = lay x ⨾ parts xs

  -- their offsets, the first being `from`
  unfoldable pub table : ℕ → List X → Layout
  table from [] = nothing
  table from (x ∷ xs) = number 4 from ⨾ table (from + size (lay x)) xs

-- a text and its zero
unfoldable pub ended : List ℕ → Layout
ended t = bytes t ⨾ number 1 0
