-- Runs of stores that have no place in common: what one leaves of the other, and that their order is free. Assumes nothing.
use Prim.Native.Nat.{ℕ, suc, ◌+◌, ◌≤◌}
use mathlib.Core.Path.{◌≡◌, refl}
use mathlib.Core.List.{List, [], ◌∷◌}
use mathlib.Core.Logic.{◌⊎◌, inl, inr}
use native.Mathlib.Omega.{arith}
use lib.ListN.{length, get_or, set}
use lib.Seq.{sets, set_comm}
use Rattle.base.proofs.Stores.{sets-before, sets_behind}

-- the j places from b on and the k places from o on have none in common
abbrev pub Apart : ℕ → ℕ → ℕ → ℕ → Type 0
Apart j b k o = (b + j ≤ o) ⊎ (o + k ≤ b)

-- a run leaves every other place
pub sets_away : (s : List ℕ) (o : ℕ) (v : List ℕ) (i : ℕ) → Apart 1 i (length v) o → get_or (sets s o v) i 0 ≡ get_or s i 0
sets_away s o v i (inl h) = sets-before s o v i (omega arith)
sets_away s o v i (inr h) = sets_behind s o v i h

next : (i k o : ℕ) → Apart 1 i (suc k) o → Apart 1 i k (suc o)
next i k o (inl h) = inl (omega arith)
next i k o (inr h) = inr (omega arith)

differ : (i k o : ℕ) → Apart 1 i (suc k) o → i ≡ o → ⊥
differ i k o (inl h) e = omega arith
differ i k o (inr h) e = omega arith

-- a store elsewhere goes past a run
pub set_past : (s : List ℕ) (o : ℕ) (v : List ℕ) (i x : ℕ) → Apart 1 i (length v) o → sets (set s i x) o v ≡ set (sets s o v) i x
set_past s o [] i x h = refl
set_past s o (y ∷ v) i x h = rw (set_comm s i o x y (differ i (length v) o h)) (set_past (set s o y) (suc o) v i x (next i (length v) o h))

first : (j b k o : ℕ) → Apart (suc j) b k o → Apart 1 b k o
first j b k o (inl h) = inl (omega arith)
first j b k o (inr h) = inr h

later : (j b k o : ℕ) → Apart (suc j) b k o → Apart j (suc b) k o
later j b k o (inl h) = inl (omega arith)
later j b k o (inr h) = inr (omega arith)

-- and so does a run
pub sets_past : (s : List ℕ) (o : ℕ) (v : List ℕ) (p : ℕ) (w : List ℕ) → Apart (length w) p (length v) o
    → sets (sets s p w) o v ≡ sets (sets s o v) p w
sets_past s o v p [] h = refl
sets_past s o v p (x ∷ w) h =
    rw (← set_past s o v p x (first (length w) p (length v) o h)) (sets_past (set s p x) o v (suc p) w (later (length w) p (length v) o h))
