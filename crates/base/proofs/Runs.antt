-- Runs of numbers, read and written: how many words, and bytes, they are, and each of them.
-- Assumes nothing.
use Rattle.std.specs.Prelude.{Ok, Err}
use Prim.Native.Nat.{ℕ, zero, suc, min, ◌+◌, ◌-◌, ◌*◌, ◌/◌, ◌%◌, ◌<◌, ◌≤◌}
use mathlib.Core.Path.{◌≡◌, refl, ap, sym, ◌∙◌}
use mathlib.Core.List.{List, [], ◌∷◌, ◌++◌, append_assoc}
use mathlib.Core.Bool.{Bool, true, false}
use native.Mathlib.Numerals.{add-one}
use native.Mathlib.Omega.{arith}
use borrow.Author.Tests.{le-leb, lt-leb, leb-true}
use lib.Dec.{leb}
use lib.ListN.{length, get_or, set, take, drop, length-set, length-append, length-take, length-drop}
use lib.Seq.{sets, length-sets, drop-cons, get_or-take, get_or-drop}
use Rattle.base.proofs.Filling.{fill_none, fill_turn, fill_end}
use Rattle.base.proofs.Numbers.{low, length-le, length-put}
use Rattle.base.proofs.Stores.{sets_out, sets-turn}
use Rattle.base.specs.Choice.{pick}
use Rattle.base.specs.Number.{le, get, put, past_end}
use Rattle.base.specs.Run.{numbers_at, numbers_of, pairs_at, pairs_of, cut_pair, stored_run, numbers_le, pairs_le}

pub length-numbers : (n : ℕ) (s : List ℕ) (at : ℕ) → length (numbers_at n s at) ≡ n
unfolding numbers_at
length-numbers zero s at = refl
length-numbers (suc n) s at = ap suc (length-numbers n s (at + 4))

-- the same, by a name that an attribute can give
pub ruleset numbers_length = (length-numbers)

pub numbers_at_lem : (n : ℕ) (s : List ℕ) (at i : ℕ) → i < n → get_or (numbers_at n s at) i 0 ≡ get 4 s (at + 4 * i)
unfolding numbers_at
numbers_at_lem zero s at i h = absurd (omega arith)
numbers_at_lem (suc n) s at zero h = let e : at ≡ at + 4 * 0 = omega arith in ap (get 4 s) e
numbers_at_lem (suc n) s at (suc i) h = let e : at + 4 + 4 * i ≡ at + 4 * suc i = omega arith in numbers_at_lem n s (at + 4) i (omega arith) ∙ ap (get 4 s) e

pub length_pairs : (n : ℕ) (s : List ℕ) (at : ℕ) → length (pairs_at n s at) ≡ 2 * n
unfolding pairs_at
length_pairs zero s at = refl
length_pairs (suc n) s at = let h = length_pairs n s (at + 8) in omega arith

-- the answers
pub numbers-whole : (n : ℕ) (s : List ℕ) (at : ℕ) → n ≤ (length s - at) / 4 → numbers_of n s at ≡ Ok (at + 4 * n)
unfolding numbers_of
numbers-whole n s at h = rw (le-leb n ((length s - at) / 4) h)

-- the same, by a name that an attribute can give
pub ruleset numbers_there = (numbers-whole)

pub numbers_cut : (n : ℕ) (s : List ℕ) (at : ℕ) → (length s - at) / 4 < n → numbers_of n s at ≡ Err (past_end (at + 4 * ((length s - at) / 4)) 4)
unfolding numbers_of
numbers_cut n s at h = rw (lt-leb n ((length s - at) / 4) h)

pub stored_next : (next : ℕ) (out : List ℕ) (o : ℕ) (v : List ℕ) → stored_run (Ok next) out o v ≡ sets out o v
unfolding stored_run
stored_next next out o v = refl

pub stored_cut : (at k : ℕ) (out : List ℕ) (o : ℕ) (v : List ℕ) → stored_run (Err (past_end at k)) out o v ≡ out
unfolding stored_run
stored_cut at k out o v = refl

-- ---- pairs

pub pairs_first : (n : ℕ) (s : List ℕ) (at i : ℕ) → i < n → get_or (pairs_at n s at) (2 * i) 0 ≡ get 4 s (at + 8 * i)
unfolding pairs_at
pairs_first zero s at i h = absurd (omega arith)
pairs_first (suc n) s at zero h = let e : at ≡ at + 8 * 0 = omega arith in ap (get 4 s) e
pairs_first (suc n) s at (suc i) h =
    let e : at + 8 + 8 * i ≡ at + 8 * suc i = omega arith in
    let d : 2 * suc i ≡ suc (suc (2 * i)) = omega arith in
    rw d (pairs_first n s (at + 8) i (omega arith) ∙ ap (get 4 s) e)

pub pairs_second : (n : ℕ) (s : List ℕ) (at i : ℕ) → i < n → get_or (pairs_at n s at) (2 * i + 1) 0 ≡ get 2 s (at + 8 * i + 4)
unfolding pairs_at
pairs_second zero s at i h = absurd (omega arith)
pairs_second (suc n) s at zero h = let e : at + 4 ≡ at + 8 * 0 + 4 = omega arith in ap (get 2 s) e
pairs_second (suc n) s at (suc i) h =
    let e : at + 8 + 8 * i + 4 ≡ at + 8 * suc i + 4 = omega arith in
    let d : 2 * suc i + 1 ≡ suc (suc (2 * i + 1)) = omega arith in
    rw d (pairs_second n s (at + 8) i (omega arith) ∙ ap (get 2 s) e)

pub pairs_whole : (n : ℕ) (s : List ℕ) (at : ℕ) → n ≤ (length s - at + 2) / 8 → pairs_of n s at ≡ Ok (at + 8 * n)
unfolding pairs_of
pairs_whole n s at h = rw (le-leb n ((length s - at + 2) / 8) h)

pub pairs_cut : (n : ℕ) (s : List ℕ) (at : ℕ) → (length s - at + 2) / 8 < n → pairs_of n s at ≡ cut_pair s (at + 8 * ((length s - at + 2) / 8))
unfolding pairs_of
pairs_cut n s at h = rw (lt-leb n ((length s - at + 2) / 8) h)

pub stored_cut_pair : (s : List ℕ) (at : ℕ) (out : List ℕ) (o : ℕ) (v : List ℕ) → stored_run (cut_pair s at) out o v ≡ out
unfolding cut_pair
stored_cut_pair s at out o v = go (leb (at + 4) (length s))
  where
    go : (b : Bool) → stored_run (pick b (Err (past_end (at + 4) 2)) (Err (past_end at 4))) out o v ≡ out
    go true = stored_cut (at + 4) 2 out o v
    go false = stored_cut at 4 out o v

-- two stores of a turn
pub pair_turn : (l : List ℕ) (o k x y : ℕ) (v : List ℕ) → 2 * k + 1 < length v → x ≡ get_or v (2 * k) 0 → y ≡ get_or v (2 * k + 1) 0
    → sets (set (set l (o + 2 * k) x) (o + 2 * k + 1) y) (o + 2 * (k + 1)) (drop (2 * (k + 1)) v) ≡ sets l (o + 2 * k) (drop (2 * k) v)
pair_turn l o k x y v h ex ey =
    let a : o + 2 * (k + 1) ≡ o + (2 * k + 1 + 1) = omega arith in
    let b : 2 * (k + 1) ≡ 2 * k + 1 + 1 = omega arith in
    let c : o + 2 * k + 1 ≡ o + (2 * k + 1) = omega arith in
    rw (a, b, c, ex, ey) (fill_turn (set l (o + 2 * k) (get_or v (2 * k) 0)) o (2 * k + 1) v h ∙ fill_turn l o (2 * k) v (omega arith))

-- the word of a pair that has room for its first word only, or for none
pub pair_last : (l : List ℕ) (o k n x : ℕ) (v : List ℕ) → length v ≡ 2 * n → k < n → min (2 * n) (length l - o) / 2 ≤ k → x ≡ get_or v (2 * k) 0
    → set l (o + 2 * k) x ≡ sets l (o + 2 * k) (drop (2 * k) v)
pair_last l o k n x v e h r ex =
    let m : length (set l (o + 2 * k) (get_or v (2 * k) 0)) ≡ length l = length-set l (o + 2 * k) (get_or v (2 * k) 0) in
    rw ex
    (sym (fill_end (set l (o + 2 * k) (get_or v (2 * k) 0)) o (2 * k + 1) v (omega (arith, m)))
    ∙ fill_turn l o (2 * k) v (omega arith))

-- ---- what an answer says of a run of numbers

pub numbers_next : (n : ℕ) (s : List ℕ) (at q : ℕ) → numbers_of n s at ≡ Ok q → (n ≤ (length s - at) / 4) × (q ≡ at + 4 * n)
unfolding numbers_of
numbers_next n s at q e = go (leb n ((length s - at) / 4)) refl e
  where
    go : (t : Bool) → leb n ((length s - at) / 4) ≡ t → pick t (Ok (at + 4 * n)) (Err (past_end (at + 4 * ((length s - at) / 4)) 4)) ≡ Ok q → (n ≤ (length s - at) / 4) × (q ≡ at + 4 * n)
    go true l d = (leb-true n ((length s - at) / 4) l, (cc))
    go false l d = let z : ◌≡◌ {A = ℕ} 0 1 = cc in absurd (omega arith)

-- of a table that starts within the slice
pub table_fits : (n : ℕ) (s : List ℕ) (at q : ℕ) → at ≤ length s → numbers_of n s at ≡ Ok q → at + 4 * n ≤ length s
table_fits n s at q h e = let r = numbers_next n s at q e in omega (arith, r.0)

-- ---- runs that are written: the words from a place on

pub length-words : (n from : ℕ) (ws : List ℕ) → length (take n (drop from ws)) ≡ min n (length ws - from)
length-words n from ws = simp (length-take, length-drop)

pub words_at : (n from k : ℕ) (ws : List ℕ) → k < length (take n (drop from ws)) → get_or ws (from + k) 0 ≡ get_or (take n (drop from ws)) k 0
words_at n from k ws h =
    let e = length-words n from ws in
    let i : k < n = omega (arith, h, e) in
    sym (get_or-take n (drop from ws) k 0 i ∙ get_or-drop from ws k 0)

pub words_pair : (n from k : ℕ) (ws : List ℕ) → 2 * k + 1 < length (take n (drop from ws))
    → (get_or ws (from + 2 * k) 0 ≡ get_or (take n (drop from ws)) (2 * k) 0) × (get_or ws (from + 2 * k + 1) 0 ≡ get_or (take n (drop from ws)) (2 * k + 1) 0)
words_pair n from k ws h =
    let e : from + 2 * k + 1 ≡ from + (2 * k + 1) = omega arith in
    (words_at n from (2 * k) ws (omega arith), ap (λ (i : ℕ). get_or ws i 0) e ∙ words_at n from (2 * k + 1) ws h)

-- the counts of a loop over what is there and has room: a turn less, the pairs that are there, and the place behind them
pub count_below : (n w r k : ℕ) → r ≡ min n w → k < r → k < n
count_below n w r k e h = omega arith

pub pair_there : (n left m k : ℕ) → m ≡ min n (left / 2 - 0) → k < m → 2 * k + 1 < min (2 * n) left
pair_there n left m k e h = omega arith

pub pairs_gone : (n left m full k : ℕ) → m ≡ min n (left / 2 - 0) → m ≤ full → full ≤ k → min (2 * n) left / 2 ≤ k
pairs_gone n left m full k e h g = omega arith

pub pair_over : (size at m full : ℕ) → full ≡ min m ((size - at) / 8 - 0) → full < m → size ≤ at + 8 * (full + 1)
pair_over size at m full e h = omega arith

-- ---- numbers of four bytes

pub length-numbers_le : (vs : List ℕ) → length (numbers_le vs) ≡ 4 * length vs
unfolding numbers_le
length-numbers_le [] = refl
length-numbers_le (v ∷ vs) = let h = length-numbers_le vs in let k = length-le 4 v in rw length-append (omega arith)

pub numbers_le-append : (a b : List ℕ) → numbers_le (a ++ b) ≡ numbers_le a ++ numbers_le b
unfolding numbers_le
numbers_le-append [] b = refl
numbers_le-append (v ∷ a) b = ap (λ (t : List ℕ). le 4 v ++ t) (numbers_le-append a b) ∙ sym (append_assoc (le 4 v) (numbers_le a) (numbers_le b))

numbers_le_cons : (v : ℕ) (vs : List ℕ) → numbers_le (v ∷ vs) ≡ le 4 v ++ numbers_le vs
unfolding numbers_le
numbers_le_cons v vs = refl

-- a turn stores the number k
pub numbers_le-turn : (l : List ℕ) (o k x : ℕ) (vs : List ℕ) → k < length vs → x ≡ get_or vs k 0
    → sets (put 4 l (o + 4 * k) x) (o + 4 * (k + 1)) (numbers_le (drop (k + 1) vs)) ≡ sets l (o + 4 * k) (numbers_le (drop k vs))
unfolding put
numbers_le-turn l o k x vs h e =
    let v : numbers_le (drop k vs) ≡ le 4 x ++ numbers_le (drop (k + 1) vs) = rw (add-one k, drop-cons vs k 0 h, e) (numbers_le_cons (get_or vs k 0) (drop (suc k) vs)) in
    let n = length-le 4 x in
    sets-turn l (o + 4 * k) (numbers_le (drop k vs)) (le 4 x) (numbers_le (drop (k + 1) vs)) (sets l (o + 4 * k) (le 4 x)) (o + 4 * (k + 1)) v refl (omega (arith, n))

-- the number k, where there is no room behind it
pub numbers_le_last : (l : List ℕ) (o k x : ℕ) (vs : List ℕ) → k < length vs → length l ≤ o + 4 * (k + 1) → x ≡ get_or vs k 0
    → put 4 l (o + 4 * k) x ≡ sets l (o + 4 * k) (numbers_le (drop k vs))
numbers_le_last l o k x vs h r e =
    let n = length-put 4 l (o + 4 * k) x in
    sym (sets_out (put 4 l (o + 4 * k) x) (o + 4 * (k + 1)) (numbers_le (drop (k + 1) vs)) (omega (arith, n))) ∙ numbers_le-turn l o k x vs h e

-- no number is left
pub numbers_le_end : (l : List ℕ) (o k : ℕ) (vs : List ℕ) → length vs ≤ k → sets l (o + 4 * k) (numbers_le (drop k vs)) ≡ l
numbers_le_end l o k vs h =
    let d = length-drop k vs in
    let n = length-numbers_le (drop k vs) in
    fill_none l (o + 4 * k) (numbers_le (drop k vs)) (omega (arith, d, n))

-- ---- pairs in eight bytes

-- the number of two bytes and the two zeros are a number of four
second : (b : ℕ) → le 4 (b % 65536) ≡ le 2 b ++ (0 ∷ 0 ∷ [])
unfolding le
second b =
    let p : b % 65536 % 256 ≡ b % 256 = omega arith in
    let u : b / 256 ≡ b % 65536 / 256 + 256 * (b / 65536) = omega arith in
    let v : b % 65536 / 256 < 256 = omega arith in
    let w : b % 65536 / 256 % 256 ≡ b % 65536 / 256 = omega arith in
    let q : b % 65536 / 256 % 256 ≡ b / 256 % 256 = w ∙ sym (low (b % 65536 / 256) (b / 65536) v) ∙ ap (λ (n : ℕ). n % 256) (sym u) in
    let r : b % 65536 / 256 / 256 % 256 ≡ 0 = omega arith in
    let t : b % 65536 / 256 / 256 / 256 % 256 ≡ 0 = omega arith in
    rw (p, q, r, t)

pair_le_eq : (a b : ℕ) → pairs_le (a ∷ b ∷ []) ≡ le 4 a ++ (le 2 b ++ (0 ∷ 0 ∷ []))
unfolding pairs_le
pair_le_eq a b = refl

-- so a pair is stored by two numbers of four bytes
pub pair_le : (l : List ℕ) (o a b : ℕ) → put 4 (put 4 l o a) (o + 4) (b % 65536) ≡ sets l o (pairs_le (a ∷ b ∷ []))
unfolding put
pair_le l o a b =
    let e : o + 4 ≡ o + length (le 4 a) = ap (λ (n : ℕ). o + n) (sym (length-le 4 a)) in
    sets-turn l o (pairs_le (a ∷ b ∷ [])) (le 4 a) (le 4 (b % 65536)) (sets l o (le 4 a)) (o + 4) (rw (second b) (pair_le_eq a b)) refl e

pub length-pairs_le : (vs : List ℕ) → length (pairs_le vs) ≡ 8 * (length vs / 2)
unfolding pairs_le le
length-pairs_le [] = omega arith
length-pairs_le (a ∷ []) = omega arith
length-pairs_le (a ∷ b ∷ vs) = let h = length-pairs_le vs in omega arith

pub length_pairs_even : (n : ℕ) (vs : List ℕ) → length vs ≡ 2 * n → length (pairs_le vs) ≡ 8 * n
length_pairs_even n vs e = let h = length-pairs_le vs in omega arith

pub pairs_le-append : (n : ℕ) (a b : List ℕ) → length a ≡ 2 * n → pairs_le (a ++ b) ≡ pairs_le a ++ pairs_le b
unfolding pairs_le le
pairs_le-append n [] b e = refl
pairs_le-append n (x ∷ []) b e = absurd (omega arith)
pairs_le-append n (x ∷ y ∷ a) b e = rw (pairs_le-append (n - 1) a b (omega arith))

-- a turn stores the pair k
pub pairs_le-turn : (l : List ℕ) (o k x y : ℕ) (vs : List ℕ) → 2 * k + 1 < length vs → x ≡ get_or vs (2 * k) 0 → y ≡ get_or vs (2 * k + 1) 0
    → sets (sets l (o + 8 * k) (pairs_le (x ∷ y ∷ []))) (o + 8 * (k + 1)) (pairs_le (drop (2 * (k + 1)) vs)) ≡ sets l (o + 8 * k) (pairs_le (drop (2 * k) vs))
pairs_le-turn l o k x y vs h ex ey =
    let a : 2 * (k + 1) ≡ suc (2 * k + 1) = omega arith in
    let d : drop (2 * k) vs ≡ x ∷ y ∷ drop (2 * (k + 1)) vs =
    rw (a, ex, ey) (drop-cons vs (2 * k) 0 (omega arith) ∙ rw (← add-one (2 * k)) (ap (λ (t : List ℕ). get_or vs (2 * k) 0 ∷ t) (drop-cons vs (2 * k + 1) 0 h))) in
    let n = length_pairs_even 1 (x ∷ y ∷ []) refl in
    sets-turn l (o + 8 * k) (pairs_le (drop (2 * k) vs)) (pairs_le (x ∷ y ∷ [])) (pairs_le (drop (2 * (k + 1)) vs)) (sets l (o + 8 * k) (pairs_le (x ∷ y ∷ []))) (o + 8 * (k + 1))
    (ap pairs_le d ∙ pairs_le-append 1 (x ∷ y ∷ []) (drop (2 * (k + 1)) vs) refl) refl (omega (arith, n))

-- the pair k, where there is no room behind it
pub pairs_le_last : (l : List ℕ) (o k x y : ℕ) (vs : List ℕ) → 2 * k + 1 < length vs → length l ≤ o + 8 * (k + 1) → x ≡ get_or vs (2 * k) 0 → y ≡ get_or vs (2 * k + 1) 0
    → sets l (o + 8 * k) (pairs_le (x ∷ y ∷ [])) ≡ sets l (o + 8 * k) (pairs_le (drop (2 * k) vs))
pairs_le_last l o k x y vs h r ex ey =
    let n = length-sets l (o + 8 * k) (pairs_le (x ∷ y ∷ [])) in
    sym (sets_out (sets l (o + 8 * k) (pairs_le (x ∷ y ∷ []))) (o + 8 * (k + 1)) (pairs_le (drop (2 * (k + 1)) vs)) (omega (arith, n))) ∙ pairs_le-turn l o k x y vs h ex ey

-- no pair is left
pub pairs_le_end : (l : List ℕ) (o k : ℕ) (vs : List ℕ) → length vs / 2 ≤ k → sets l (o + 8 * k) (pairs_le (drop (2 * k) vs)) ≡ l
pairs_le_end l o k vs h =
    let d = length-drop (2 * k) vs in
    let n = length-pairs_le (drop (2 * k) vs) in
    fill_none l (o + 8 * k) (pairs_le (drop (2 * k) vs)) (omega (arith, d, n))
