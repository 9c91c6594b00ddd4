-- Limits that every format has (document 01, 'Flat record').
use Rattle.std.specs.Prelude.{ℕ, ◌^◌, ◌<◌, ◌≤◌, ◌≡◌, true, List, [], ◌∷◌, length}
use Rattle.base.specs.Text.{zero_free}
use Rattle.base.specs.Utf8.{well_formed}
use Rattle.bflan.specs.Layout.{Layout, size}

-- the longest section
abbrev pub limit : ℕ
limit = 16777216

abbrev pub All : {X : Type 0} → (X → Type 0) → List X → Type 0
All Q [] = Unit {0}
All Q (x ∷ xs) = Q x × All Q xs

-- values of the given widths, in bytes
abbrev pub Fits : List ℕ → List ℕ → Type 0
Fits [] [] = Unit {0}
Fits [] (v ∷ vs) = ⊥
Fits (k ∷ ks) [] = ⊥
Fits (k ∷ ks) (v ∷ vs) = (v < 256 ^ k) × Fits ks vs

pub record FineText (t : List ℕ) : Type 0 where
  -- its length is a word of 32 bits
  pub short : length t < 256 ^ 4
  pub well_formed : well_formed t ≡ true
  pub zero_free : zero_free t ≡ true

-- a record that is within a format's limits in itself, and is not too long when it is written
pub record WithinBy {A : Type 0} (Fine : A → Type 0) (lay : A → Layout) (r : A) : Type 0 where
  pub fine : Fine r
  pub short : size (lay r) ≤ limit
