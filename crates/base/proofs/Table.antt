-- A table's rule: a test that is computed over the whole table holds of each entry.
-- Assumes nothing.
use mathlib.Core.Bool.{Bool, true, false, ◌&&◌}
use mathlib.Core.List.{List, [], ◌∷◌}
use Prim.Native.Nat.{ℕ, zero, suc, ◌<◌}
use native.Mathlib.Omega.{arith}
use lib.Dec.{T}
use lib.ListN.{length, get_or}

pub both_left : (a b : Bool) → T (a && b) → T a
both_left true b t = tt
both_left false b t = t

pub both_right : (a b : Bool) → T (a && b) → T b
both_right true b t = t
both_right false b t = absurd t

-- the test at (place, entry), for every entry; the tail's test is the same one place on, so that no place is added up
abbrev pub everywhere : (ℕ → ℕ → Bool) → List ℕ → Bool
everywhere f [] = true
everywhere f (x ∷ xs) = f 0 x && everywhere (λ k. f (suc k)) xs

pub at_entry : (f : ℕ → ℕ → Bool) (xs : List ℕ) → T (everywhere f xs) → (k : ℕ) → k < length xs → T (f k (get_or xs k 0))
at_entry f [] t k h = absurd (omega arith)
at_entry f (x ∷ xs) t zero h = both_left (f 0 x) (everywhere (λ k. f (suc k)) xs) t
at_entry f (x ∷ xs) t (suc k) h = at_entry (λ j. f (suc j)) xs (both_right (f 0 x) (everywhere (λ k. f (suc k)) xs) t) k (omega arith)

-- the test at each number below n
abbrev pub below : (ℕ → Bool) → ℕ → Bool
below f zero = true
below f (suc n) = f 0 && below (λ k. f (suc k)) n

pub at_number : (f : ℕ → Bool) (n : ℕ) → T (below f n) → (k : ℕ) → k < n → T (f k)
at_number f zero t k h = absurd (omega arith)
at_number f (suc n) t zero h = both_left (f 0) (below (λ k. f (suc k)) n) t
at_number f (suc n) t (suc k) h = at_number (λ j. f (suc j)) n (both_right (f 0) (below (λ k. f (suc k)) n) t) k (omega arith)
