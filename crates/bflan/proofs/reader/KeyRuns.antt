-- Runs of numbers and of keys: the definitions' reading, number by number, is core's run, tested once; and what such a run leaves.
-- Assumes nothing.
use Rattle.base.specs.declared.error.PastEnd.{PastEnd as Past}
use Prim.Native.Nat.{ℕ, zero, suc, ◌+◌, ◌-◌, ◌*◌, ◌/◌, ◌<◌, ◌≤◌}
use mathlib.Core.Path.{◌≡◌, refl, ap, sym, ◌∙◌}
use mathlib.Core.List.{List, [], ◌∷◌, map}
use mathlib.Core.Bool.{Bool, true, false}
use native.Mathlib.Omega.{arith}
use borrow.Author.Tests.{leb-true, leb-false, le-leb, lt-leb}
use lib.Dec.{leb}
use lib.ListN.{length}
use lib.Seq.{sets}
use Rattle.base.specs.Number.{get, past_end}
use Rattle.base.specs.Run.{numbers_at, numbers_of, pairs_at, pairs_of, cut_pair, stored_run}
use Rattle.base.proofs.Numbers.{read_there, read_short}
use Rattle.base.proofs.Runs.{numbers-whole, numbers_cut, pairs_whole, pairs_cut}
use Rattle.bflan.specs.declared.fault.Fault.{Fault}
use Rattle.bflan.specs.declared.fault.Fault.TheVariants.{PastEnd}
use Rattle.bflan.specs.declared.reader.tally.Tables.{Tables}
use Rattle.bflan.specs.declared.reader.tally.Tally.{Tally}
use Rattle.std.specs.Prelude.{Result, Ok, Err, IsErrAnd}
use Rattle.bflan.specs.Reader.{past_fault, Res, ok, stop, P, and_then, ret, Item, word, num, skip, numbers, many}
use Rattle.bflan.specs.pai1.Reading.{key_of, curve_of, count_of, keys}
use Rattle.bflan.specs.inner.Walk.{Walk, as_items, sat, with_words, tallied, after, walk_of, walked}
use Rattle.bflan.specs.Items.{words_of, texts_of}
use Rattle.bflan.proofs.reader.Walks.{before, joined, before_nil, put-before, many_suc, told_items, told_handed}

-- a run's answer, with its words
abbrev pub as_numbers : Result ℕ Past → List ℕ → Res (List ℕ)
as_numbers (Ok q) vs = ok vs q
as_numbers (Err e) vs = stop (past_fault e)

-- ---- one number

pub num_there : (k : ℕ) (s : List ℕ) (p : ℕ) → p + k ≤ length s → num k s p ≡ ok (get k s p) (p + k)
unfolding num
num_there k s p h = rw (read_there k s p h)

pub num-short : (k : ℕ) (s : List ℕ) (p : ℕ) → length s < p + k → num k s p ≡ stop (PastEnd p k)
unfolding num
num-short k s p h = rw (read_short k s p h)

-- ---- a run of numbers of four bytes: with none, with a first one that is there, with a first one that is not

numbers-none : (s : List ℕ) (p : ℕ) → numbers_of 0 s p ≡ Ok p
numbers-none s p = numbers-whole 0 s p (omega arith) ∙ ap Ok (omega arith)

numbers_more : (n : ℕ) (s : List ℕ) (p : ℕ) → p + 4 ≤ length s → numbers_of (suc n) s p ≡ numbers_of n s (p + 4)
numbers_more n s p h = go (leb n ((length s - (p + 4)) / 4)) refl
  where
    go : (b : Bool) → leb n ((length s - (p + 4)) / 4) ≡ b → numbers_of (suc n) s p ≡ numbers_of n s (p + 4)
    go true e =
        let l = leb-true n ((length s - (p + 4)) / 4) e in
        let q : p + 4 * suc n ≡ p + 4 + 4 * n = omega arith in
        numbers-whole (suc n) s p (omega arith) ∙ ap Ok q ∙ sym (numbers-whole n s (p + 4) l)
    go false e =
        let l = leb-false n ((length s - (p + 4)) / 4) e in
        let q : p + 4 * ((length s - p) / 4) ≡ p + 4 + 4 * ((length s - (p + 4)) / 4) = omega arith in
        numbers_cut (suc n) s p (omega arith) ∙ ap (λ (x : ℕ). Err (past_end x 4)) q ∙ sym (numbers_cut n s (p + 4) l)

numbers_no : (n : ℕ) (s : List ℕ) (p : ℕ) → length s < p + 4 → numbers_of (suc n) s p ≡ Err (past_end p 4)
numbers_no n s p h =
    let q : p + 4 * ((length s - p) / 4) ≡ p = omega arith in
    numbers_cut (suc n) s p (omega arith) ∙ ap (λ (x : ℕ). Err (past_end x 4)) q

-- a word in front of a reading
abbrev front : ℕ → Res (List ℕ) → Res (List ℕ)
front v (ok vs q) = ok (v ∷ vs) q
front v (stop f) = stop f

front_run : (v : ℕ) (r : Result ℕ Past) (vs : List ℕ) → front v (as_numbers r vs) ≡ as_numbers r (v ∷ vs)
front_run v (Ok q) vs = refl
front_run v (Err x) vs = refl

-- the reading, by its first number
numbers_first : (n : ℕ) (s : List ℕ) (p : ℕ) → p + 4 ≤ length s → numbers (suc n) s p ≡ front (get 4 s p) (numbers n s (p + 4))
unfolding numbers
numbers_first n s p h = rw (num_there 4 s p h) (go (numbers n s (p + 4)))
  where
    go : (r : Res (List ℕ)) → and_then r (λ vs. ret (get 4 s p ∷ vs)) s ≡ front (get 4 s p) r
    go (ok vs q) = refl
    go (stop f) = refl

numbers-stop : (n : ℕ) (s : List ℕ) (p : ℕ) → length s < p + 4 → numbers (suc n) s p ≡ stop (PastEnd p 4)
unfolding numbers
numbers-stop n s p h = rw (num-short 4 s p h)

numbers-turn : (n : ℕ) (s : List ℕ) (p : ℕ) → numbers n s (p + 4) ≡ as_numbers (numbers_of n s (p + 4)) (numbers_at n s (p + 4))
    → numbers (suc n) s p ≡ as_numbers (numbers_of (suc n) s p) (get 4 s p ∷ numbers_at n s (p + 4))
numbers-turn n s p i = go (leb (p + 4) (length s)) refl
  where
    go : (b : Bool) → leb (p + 4) (length s) ≡ b → numbers (suc n) s p ≡ as_numbers (numbers_of (suc n) s p) (get 4 s p ∷ numbers_at n s (p + 4))
    go true e =
        let h = leb-true (p + 4) (length s) e in
        rw (numbers_more n s p h, numbers_first n s p h, i) (front_run (get 4 s p) (numbers_of n s (p + 4)) (numbers_at n s (p + 4)))
    go false e =
        let h = leb-false (p + 4) (length s) e in
        rw (numbers_no n s p h, numbers-stop n s p h)

pub numbers_run : (n : ℕ) (s : List ℕ) (p : ℕ) → numbers n s p ≡ as_numbers (numbers_of n s p) (numbers_at n s p)
unfolding numbers numbers_at
numbers_run zero s p = rw (numbers-none s p)
numbers_run (suc n) s p = numbers-turn n s p (numbers_run n s (p + 4))

-- ---- parts one after another

pub many_on : (n : ℕ) (k : P (List Item)) (s : List ℕ) (p : ℕ) {x : List Item} {q : ℕ} → k s p ≡ ok x q → many (suc n) k s p ≡ before x (many n k s q)
unfolding many
many_on n k s p {x} {q} e = rw e (put-before x (many n k s q) s)

pub many-stop : (n : ℕ) (k : P (List Item)) (s : List ℕ) (p : ℕ) {f : Fault} → k s p ≡ stop f → many (suc n) k s p ≡ stop f
unfolding many
many-stop n k s p e = rw e

-- ---- keys of numbers of four bytes: k numbers each

before_items : (v : ℕ) (r : Res (List ℕ)) → before (word v ∷ []) (as_items r) ≡ as_items (front v r)
before_items v (ok vs q) = refl
before_items v (stop f) = refl

joined_front : (v : ℕ) (r : Res (List ℕ)) (f : ℕ → Res (List Item)) → joined (as_items (front v r)) f ≡ before (word v ∷ []) (joined (as_items r) f)
joined_front v (ok vs q) f = go (f q)
  where
    go : (r : Res (List Item)) → before (word v ∷ map word vs) r ≡ before (word v ∷ []) (before (map word vs) r)
    go (ok xs o) = refl
    go (stop g) = refl
joined_front v (stop g) f = refl

joined_turn : (a b : ℕ) (s : List ℕ) (p : ℕ) → as_items (numbers (a + b) s (p + 4)) ≡ joined (as_items (numbers a s (p + 4))) (λ q. as_items (numbers b s q))
    → as_items (numbers (suc (a + b)) s p) ≡ joined (as_items (numbers (suc a) s p)) (λ q. as_items (numbers b s q))
joined_turn a b s p i = go (leb (p + 4) (length s)) refl
  where
    go : (t : Bool) → leb (p + 4) (length s) ≡ t → as_items (numbers (suc (a + b)) s p) ≡ joined (as_items (numbers (suc a) s p)) (λ q. as_items (numbers b s q))
    go true e =
        let h = leb-true (p + 4) (length s) e in
        rw (numbers_first (a + b) s p h, numbers_first a s p h)
        (sym (before_items (get 4 s p) (numbers (a + b) s (p + 4))) ∙ ap (before (word (get 4 s p) ∷ [])) i ∙ sym (joined_front (get 4 s p) (numbers a s (p + 4)) (λ q. as_items (numbers b s q))))
    go false e =
        let h = leb-false (p + 4) (length s) e in
        rw (numbers-stop (a + b) s p h, numbers-stop a s p h)

numbers_joined : (a b : ℕ) (s : List ℕ) (p : ℕ) → as_items (numbers (a + b) s p) ≡ joined (as_items (numbers a s p)) (λ q. as_items (numbers b s q))
unfolding numbers
numbers_joined zero b s p = let e : 0 + b ≡ b = omega arith in rw e (sym (before_nil (as_items (numbers b s p))))
numbers_joined (suc a) b s p = let e : suc a + b ≡ suc (a + b) = omega arith in rw e (joined_turn a b s p (numbers_joined a b s (p + 4)))

joined_same : (r : Res (List Item)) (f g : ℕ → Res (List Item)) → ((q : ℕ) → f q ≡ g q) → joined r f ≡ joined r g
joined_same (ok x q) f g e = ap (before x) (e q)
joined_same (stop h) f g e = refl

-- n parts of a numbers each are a * n numbers
pub many-numbers : (a n : ℕ) (k : P (List Item)) (s : List ℕ) (p : ℕ) → ((q : ℕ) → k s q ≡ as_items (numbers a s q)) → many n k s p ≡ as_items (numbers (a * n) s p)
unfolding many numbers
many-numbers a zero k s p e = let z : a * 0 ≡ 0 = omega arith in rw z
many-numbers a (suc n) k s p e =
    let z : a * suc n ≡ a + a * n = omega arith in
    rw (z, many_suc n k s p, e p, numbers_joined a (a * n) s p)
    (joined_same (as_items (numbers a s p)) (λ q. many n k s q) (λ q. as_items (numbers (a * n) s q)) (λ q. many-numbers a n k s q e))

-- ---- one key

key_one : (s : List ℕ) (p : ℕ) → key_of 0 s p ≡ as_items (numbers 1 s p)
unfolding numbers
key_one s p = go (num 4 s p)
  where
    go : (r : Res ℕ) → and_then r (λ value. ret (word value ∷ [])) s ≡ as_items (and_then r (λ v. ret (v ∷ [])) s)
    go (ok v q) = refl
    go (stop f) = refl

key_three : (c : ℕ) (s : List ℕ) (p : ℕ) → key_of (suc (suc c)) s p ≡ as_items (numbers 3 s p)
unfolding numbers
key_three c s p = one (leb (p + 4) (length s)) refl
  where
    three : (b : Bool) → leb (p + 4 + 4 + 4) (length s) ≡ b → p + 4 + 4 ≤ length s → key_of (suc (suc c)) s p ≡ as_items (numbers 3 s p)
    three true e h = let l = leb-true (p + 4 + 4 + 4) (length s) e in rw (num_there 4 s p (omega arith), num_there 4 s (p + 4) h, num_there 4 s (p + 4 + 4) l)
    three false e h = let l = leb-false (p + 4 + 4 + 4) (length s) e in rw (num_there 4 s p (omega arith), num_there 4 s (p + 4) h, num-short 4 s (p + 4 + 4) l)

    two : (b : Bool) → leb (p + 4 + 4) (length s) ≡ b → p + 4 ≤ length s → key_of (suc (suc c)) s p ≡ as_items (numbers 3 s p)
    two true e h = three (leb (p + 4 + 4 + 4) (length s)) refl (leb-true (p + 4 + 4) (length s) e)
    two false e h = let l = leb-false (p + 4 + 4) (length s) e in rw (num_there 4 s p h, num-short 4 s (p + 4) l)

    one : (b : Bool) → leb (p + 4) (length s) ≡ b → key_of (suc (suc c)) s p ≡ as_items (numbers 3 s p)
    one true e = two (leb (p + 4 + 4) (length s)) refl (leb-true (p + 4) (length s) e)
    one false e = rw (num-short 4 s p (leb-false (p + 4) (length s) e))

-- ---- keys of one kind, as runs

pub many_constants : (n : ℕ) (s : List ℕ) (p : ℕ) → many n (key_of 0) s p ≡ as_items (numbers n s p)
many_constants n s p = let e : 1 * n ≡ n = omega arith in rw e at (many-numbers 1 n (key_of 0) s p (key_one s))

pub many_hermites : (c n : ℕ) (s : List ℕ) (p : ℕ) → many n (key_of (suc (suc c))) s p ≡ as_items (numbers (3 * n) s p)
many_hermites c n s p = many-numbers 3 n (key_of (suc (suc c))) s p (key_three c s)

-- ---- a run of pairs, as above; a pair has eight bytes, of which the last two are not tested

pairs_none : (s : List ℕ) (p : ℕ) → pairs_of 0 s p ≡ Ok p
pairs_none s p = pairs_whole 0 s p (omega arith) ∙ ap Ok (omega arith)

pairs_more : (n : ℕ) (s : List ℕ) (p : ℕ) → p + 4 + 2 ≤ length s → pairs_of (suc n) s p ≡ pairs_of n s (p + 8)
pairs_more n s p h = go (leb n ((length s - (p + 8) + 2) / 8)) refl
  where
    go : (b : Bool) → leb n ((length s - (p + 8) + 2) / 8) ≡ b → pairs_of (suc n) s p ≡ pairs_of n s (p + 8)
    go true e =
        let l = leb-true n ((length s - (p + 8) + 2) / 8) e in
        let q : p + 8 * suc n ≡ p + 8 + 8 * n = omega arith in
        pairs_whole (suc n) s p (omega arith) ∙ ap Ok q ∙ sym (pairs_whole n s (p + 8) l)
    go false e =
        let l = leb-false n ((length s - (p + 8) + 2) / 8) e in
        let q : p + 8 * ((length s - p + 2) / 8) ≡ p + 8 + 8 * ((length s - (p + 8) + 2) / 8) = omega arith in
        pairs_cut (suc n) s p (omega arith) ∙ ap (cut_pair s) q ∙ sym (pairs_cut n s (p + 8) l)

pairs_no : (n : ℕ) (s : List ℕ) (p : ℕ) → length s < p + 4 + 2 → pairs_of (suc n) s p ≡ cut_pair s p
pairs_no n s p h =
    let q : p + 8 * ((length s - p + 2) / 8) ≡ p = omega arith in
    pairs_cut (suc n) s p (omega arith) ∙ ap (cut_pair s) q

cut_second : (s : List ℕ) (p : ℕ) → p + 4 ≤ length s → cut_pair s p ≡ Err (past_end (p + 4) 2)
unfolding cut_pair
cut_second s p h = rw (le-leb (p + 4) (length s) h)

cut_first : (s : List ℕ) (p : ℕ) → length s < p + 4 → cut_pair s p ≡ Err (past_end p 4)
unfolding cut_pair
cut_first s p h = rw (lt-leb (p + 4) (length s) h)

key_pair : (s : List ℕ) (p : ℕ) → p + 4 + 2 ≤ length s → key_of 1 s p ≡ ok (word (get 4 s p) ∷ word (get 2 s (p + 4)) ∷ []) (p + 8)
unfolding skip
key_pair s p h =
    let e : p + 4 + 2 + 2 ≡ p + 8 = omega arith in
    rw (num_there 4 s p (omega arith), num_there 2 s (p + 4) h, e)

key_second : (s : List ℕ) (p : ℕ) → p + 4 ≤ length s → length s < p + 4 + 2 → key_of 1 s p ≡ stop (PastEnd (p + 4) 2)
key_second s p h l = rw (num_there 4 s p h, num-short 2 s (p + 4) l)

key_first : (s : List ℕ) (p : ℕ) → length s < p + 4 → key_of 1 s p ≡ stop (PastEnd p 4)
key_first s p l = rw (num-short 4 s p l)

before_pair : (a b : ℕ) (r : Result ℕ Past) (vs : List ℕ) → before (word a ∷ word b ∷ []) (as_items (as_numbers r vs)) ≡ as_items (as_numbers r (a ∷ b ∷ vs))
before_pair a b (Ok q) vs = refl
before_pair a b (Err x) vs = refl

pairs_turn : (n : ℕ) (s : List ℕ) (p : ℕ) → many n (key_of 1) s (p + 8) ≡ as_items (as_numbers (pairs_of n s (p + 8)) (pairs_at n s (p + 8)))
    → many (suc n) (key_of 1) s p ≡ as_items (as_numbers (pairs_of (suc n) s p) (get 4 s p ∷ get 2 s (p + 4) ∷ pairs_at n s (p + 8)))
pairs_turn n s p i = first (leb (p + 4) (length s)) refl
  where
    second : (b : Bool) → leb (p + 4 + 2) (length s) ≡ b → p + 4 ≤ length s
        → many (suc n) (key_of 1) s p ≡ as_items (as_numbers (pairs_of (suc n) s p) (get 4 s p ∷ get 2 s (p + 4) ∷ pairs_at n s (p + 8)))
    second true e h =
        let l = leb-true (p + 4 + 2) (length s) e in
        rw (many_on n (key_of 1) s p (key_pair s p l), pairs_more n s p l, i) (before_pair (get 4 s p) (get 2 s (p + 4)) (pairs_of n s (p + 8)) (pairs_at n s (p + 8)))
    second false e h =
        let l = leb-false (p + 4 + 2) (length s) e in
        rw (many-stop n (key_of 1) s p (key_second s p h l), pairs_no n s p l, cut_second s p h)

    first : (b : Bool) → leb (p + 4) (length s) ≡ b
        → many (suc n) (key_of 1) s p ≡ as_items (as_numbers (pairs_of (suc n) s p) (get 4 s p ∷ get 2 s (p + 4) ∷ pairs_at n s (p + 8)))
    first true e = second (leb (p + 4 + 2) (length s)) refl (leb-true (p + 4) (length s) e)
    first false e =
        let l = leb-false (p + 4) (length s) e in
        rw (many-stop n (key_of 1) s p (key_first s p l), pairs_no n s p (omega arith), cut_first s p l)

pub pairs_run : (n : ℕ) (s : List ℕ) (p : ℕ) → many n (key_of 1) s p ≡ as_items (as_numbers (pairs_of n s p) (pairs_at n s p))
unfolding many pairs_at
pairs_run zero s p = rw (pairs_none s p)
pairs_run (suc n) s p = pairs_turn n s p (pairs_run n s (p + 8))

-- ---- the keys of a curve

pub keys_constant : (n : ℕ) (s : List ℕ) (p : ℕ) → keys 0 n s p ≡ as_items (numbers n s p)
unfolding keys count_of curve_of
keys_constant n s p = many_constants n s p

pub keys_step : (n : ℕ) (s : List ℕ) (p : ℕ) → keys 1 n s p ≡ as_items (as_numbers (pairs_of n s p) (pairs_at n s p))
unfolding keys count_of curve_of
keys_step n s p = pairs_run n s p

pub keys_hermite : (n : ℕ) (s : List ℕ) (p : ℕ) → keys 2 n s p ≡ as_items (numbers (3 * n) s p)
unfolding keys count_of curve_of
keys_hermite n s p = many_hermites 0 n s p

-- ---- what words leave

pub words-words : (s vs : List ℕ) → words_of s (map word vs) ≡ vs
unfolding words_of
words-words s [] = refl
words-words s (v ∷ vs) = ap (λ (l : List ℕ). v ∷ l) (words-words s vs)

pub texts-words : (s vs : List ℕ) → texts_of s (map word vs) ≡ []
unfolding texts_of
texts-words s [] = refl
texts-words s (v ∷ vs) = texts-words s vs

-- saturating counts add up; the first one of a walk fits
pub sat-sat : (a b c : ℕ) → sat (sat (a + b) + c) ≡ sat (a + (b + c))
sat-sat a b c = omega arith

pub moved_none : (t : Tally) → t.words ≤ 18446744073709551615 → with_words t 0 ≡ t
unfolding with_words
moved_none t h = let e : sat (t.words + 0) ≡ t.words = omega arith in rw e

pub moved_more : (t : Tally) (m n : ℕ) → with_words (with_words t m) n ≡ with_words t (m + n)
unfolding with_words
moved_more t m n = rw (sat-sat t.words m n)

pub moved_fits : (t : Tally) (n : ℕ) → (with_words t n).words ≤ 18446744073709551615
unfolding with_words
moved_fits t n = omega arith

pub tallied-words : (s : List ℕ) (t : Tally) (vs : List ℕ) → t.words ≤ 18446744073709551615 → tallied s t (map word vs) ≡ with_words t (length vs)
unfolding tallied
tallied-words s t [] h = sym (moved_none t h)
tallied-words s t (v ∷ vs) h =
    let e : 1 + length vs ≡ suc (length vs) = omega arith in
    tallied-words s (with_words t 1) vs (moved_fits t 1) ∙ moved_more t 1 (length vs) ∙ ap (with_words t) e

pub numbers_items : (n : ℕ) (s : List ℕ) (p : ℕ) → as_items (numbers n s p) ≡ as_items (as_numbers (numbers_of n s p) (numbers_at n s p))
numbers_items n s p = ap as_items (numbers_run n s p)

-- ---- words, as a walk stores them

pub after_words : (s : List ℕ) (t : Tables) (vs : List ℕ) → t.tally.words ≤ 18446744073709551615
    → record t { words = record t.words { now = sets t.words.now t.tally.words vs }; tally = with_words t.tally (length vs) } ≡ after s t (map word vs)
after_words s t vs h = rw (words-words s vs, texts-words s vs, tallied-words s t.tally vs h)

-- ---- a run in code: its answer and the tables after it, as a walk tells them

module _ (s : List ℕ) (t : Tables) (vs : List ℕ) where
  pub run_on : {q n : ℕ} {r : Result ℕ Past} {whole : Res (List Item)} {out : List ℕ} {u : Tally} → t.tally.words ≤ 18446744073709551615
      → Ok q ≡ r → whole ≡ as_items (as_numbers r vs) → out ≡ stored_run (Ok q) t.words.now t.tally.words vs → u ≡ with_words t.tally n → length vs ≡ n
      → walked (Ok q) (record t { words = record t.words { now = out }; tally = u }) ≡ walk_of s t whole
  unfolding stored_run
  run_on {q} h er ew eo eu l = rw (eu, eo, ew, ← er, ← l) (told_items s t (map word vs) q (after_words s t vs h))

  pub run_no : {e : Past} {r : Result ℕ Past} {whole : Res (List Item)} (a : Walk) (u : Tables) → Err e ≡ r → whole ≡ as_items (as_numbers r vs)
      → IsErrAnd a (λ f. f ≡ past_fault e) → walked a u ≡ walk_of s t whole
  run_no a u er ew d = told_handed s t a u d (rw (ew, ← er))
