-- Runs of stores, `sets l o v`: cut in two, past the end, one over another, and what they leave.
-- Assumes nothing.
use Prim.Native.Nat.{ℕ, zero, suc, ◌+◌, ◌-◌, ◌<◌, ◌≤◌, min}
use mathlib.Core.Path.{◌≡◌, refl, ap, sym, ◌∙◌}
use mathlib.Core.List.{List, [], ◌∷◌, ◌++◌}
use mathlib.Core.Bool.{Bool, true, false}
use borrow.Author.Tests.{leb-true, leb-false}
use lib.Dec.{leb}
use native.Mathlib.Nat.{add-zero, add-suc, suc-add}
use native.Mathlib.Omega.{arith}
use lib.ListN.{length, get_or, set, length-set}
use lib.Seq.{sets, length-sets, set_out, get_or-set_same, get_or-set_other, set_comm, set-set}

-- a run, cut in two
pub sets-append : (l : List ℕ) (o : ℕ) (a b : List ℕ) → sets l o (a ++ b) ≡ sets (sets l o a) (o + length a) b
sets-append l o [] b = rw add-zero
sets-append l o (x ∷ a) b = rw (add-suc, ← suc-add) (sets-append (set l o x) (suc o) a b)

-- a run that starts at or past the end stores nothing
pub sets_out : (l : List ℕ) (o : ℕ) (v : List ℕ) → length l ≤ o → sets l o v ≡ l
sets_out l o [] h = refl
sets_out l o (x ∷ v) h = rw (set_out l o x h) (sets_out l (suc o) v (omega arith))

-- so its start may as well be the end
pub sets_at_end : (l : List ℕ) (o p : ℕ) (v : List ℕ) → length l ≤ o → length l ≤ p → sets l o v ≡ sets l p v
sets_at_end l o p v h k = sets_out l o v h ∙ sym (sets_out l p v k)

-- what a run leaves: the places before it, those behind it, and its own
pub sets-before : (l : List ℕ) (o : ℕ) (v : List ℕ) (j : ℕ) → j < o → get_or (sets l o v) j 0 ≡ get_or l j 0
sets-before l o [] j h = refl
sets-before l o (x ∷ v) j h = sets-before (set l o x) (suc o) v j (omega arith) ∙ get_or-set_other l o j x 0 (omega arith)

pub sets_behind : (l : List ℕ) (o : ℕ) (v : List ℕ) (j : ℕ) → o + length v ≤ j → get_or (sets l o v) j 0 ≡ get_or l j 0
sets_behind l o [] j h = refl
sets_behind l o (x ∷ v) j h = sets_behind (set l o x) (suc o) v j (omega arith) ∙ get_or-set_other l o j x 0 (omega arith)

pub sets-within : (l : List ℕ) (o : ℕ) (v : List ℕ) (j : ℕ) → o + j < length l → j < length v → get_or (sets l o v) (o + j) 0 ≡ get_or v j 0
sets-within l o [] j f h = absurd (omega arith)
sets-within l o (x ∷ v) zero f h = rw add-zero (sets-before (set l o x) (suc o) v o (omega arith) ∙ get_or-set_same l o x 0 (omega arith))
sets-within l o (x ∷ v) (suc j) f h =
    let k : suc o + j < length (set l o x) = simp length-set (omega arith) in
    rw (add-suc, ← suc-add) (sets-within (set l o x) (suc o) v j k (omega arith))

-- a store elsewhere goes past a run
pub sets-set : (l : List ℕ) (o : ℕ) (v : List ℕ) (i x : ℕ) → i < o → sets (set l i x) o v ≡ set (sets l o v) i x
sets-set l o [] i x h = refl
sets-set l o (y ∷ v) i x h = rw (set_comm l i o x y (λ e. omega arith)) (sets-set (set l o y) (suc o) v i x (omega arith))

-- of two runs at one place the later stands, where it is as long
pub sets_over : (l : List ℕ) (o : ℕ) (v w : List ℕ) → length v ≤ length w → sets (sets l o v) o w ≡ sets l o w
sets_over l o [] w e = refl
sets_over l o (x ∷ v) [] e = absurd (omega arith)
sets_over l o (x ∷ v) (y ∷ w) e =
    rw (← sets-set (set l o x) (suc o) v o y (omega arith), set-set l o x y) (sets_over (set l o y) (suc o) v w (omega arith))

pub sets-sets : (l : List ℕ) (o : ℕ) (v w : List ℕ) → length v ≡ length w → sets (sets l o v) o w ≡ sets l o w
sets-sets l o v w e = sets_over l o v w (omega arith)

-- a loop's turn: v is still to be stored from o, and the turn stores a, its first part
pub sets-turn : (l : List ℕ) (o : ℕ) (v a b m : List ℕ) (p : ℕ) → v ≡ a ++ b → m ≡ sets l o a → p ≡ o + length a → sets m p b ≡ sets l o v
sets-turn l o v a b m p ev em ep = rw (ev, em, ep) (sym (sets-append l o a b))

-- a turn that moves on by what it stored
pub sets_on : (l : List ℕ) (o : ℕ) (v a b m : List ℕ) (p : ℕ) → v ≡ a ++ b → m ≡ sets l o a → p ≡ o + min (length a) (length l - o) → sets m p b ≡ sets l o v
sets_on l o v a b m p ev em ep = go (leb (length a) (length l - o)) refl
  where
    n : length m ≡ length l
    n = ap length em ∙ length-sets l o a

    go : (t : Bool) → leb (length a) (length l - o) ≡ t → sets m p b ≡ sets l o v
    go true e = let h = leb-true (length a) (length l - o) e in sets-turn l o v a b m p ev em (omega arith)
    go false e =
        let h = leb-false (length a) (length l - o) e in
        let k = n in
        sets_at_end m p (o + length a) b (omega arith) (omega arith) ∙ sets-turn l o v a b m (o + length a) ev em refl
