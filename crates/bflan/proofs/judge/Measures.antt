-- What `verdict_of` makes of parts one after another, and of loops over them.
-- Assumes nothing.
use Prim.Native.Nat.{ℕ, zero, suc, max, ◌+◌, ◌-◌, ◌*◌, ◌<◌, ◌≤◌}
use mathlib.Core.Path.{◌≡◌, refl, ap, sym, subst, ◌∙◌}
use mathlib.Core.Bool.{Bool, true, false, ◌&&◌}
use mathlib.Core.List.{List, [], ◌∷◌}
use native.Mathlib.Omega.{arith}
use borrow.Author.Tests.{ltb-true, leb-true, leb-false, lt-ltb, le-ltb}
use lib.Dec.{ltb, leb, leb-suc-suc}
use lib.ListN.{length, get_or, replicate}
use Rattle.std.specs.Prelude.{Result, Ok, Err}
use Rattle.std.specs.Result.{IsErrAnd}
use Rattle.std.proofs.lemmas.Result.{err_from_is_err_and}
use Rattle.base.specs.Choice.{pick}
use Rattle.base.specs.Fill.{padding_of}
use Rattle.base.proofs.utf8.Laws.{both_true}
use Rattle.bflan.specs.declared.curve.Curve.{Curve}
use Rattle.bflan.specs.declared.curve.Curve.TheVariants.{Constant, Step, Hermite}
use Rattle.bflan.specs.declared.judge.Mark.{Mark}
use Rattle.bflan.specs.declared.judge.Misfit.{Misfit}
use Rattle.bflan.specs.declared.judge.Misfit.TheVariants.{Word}
use Rattle.bflan.specs.declared.judge.Rest.{Rest}
use Rattle.bflan.specs.Judge.{Judged, fine, bad_word, bad_text, J, and_then, ret, next_word, times, wide, row}
use Rattle.bflan.specs.Layout.{Layout, number, size, parts}
use Rattle.bflan.specs.inner.Measure.{verdict_of, next, measured, fits, word_if, behind, mark_grown, grown, filled_up, mark_padded, padded, onward, each}
use Rattle.bflan.specs.pai1.Curves.{curve_number}
use Rattle.bflan.specs.inner.Walk.{sat}

-- ---- sums as a usize

pub sat_right : (a b : ℕ) → sat (a + sat b) ≡ sat (a + b)
sat_right a b = omega arith

pub sat_left : (a b : ℕ) → sat (sat a + b) ≡ sat (a + b)
sat_left a b = omega arith

-- what is the largest one, so it is with its padding
pub sat-filled : (n : ℕ) → sat (filled_up (sat n)) ≡ sat (filled_up n)
unfolding filled_up
sat-filled n = go (leb n 18446744073709551615) refl
  where
    go : (b : Bool) → leb n 18446744073709551615 ≡ b → sat (sat n + padding_of (sat n)) ≡ sat (n + padding_of n)
    go true e =
        let h = leb-true n 18446744073709551615 e in
        let q : sat n ≡ n = omega arith in
        ap (λ (m : ℕ). sat (m + padding_of m)) q
    go false e =
        let h = leb-false n 18446744073709551615 e in
        let k : ℕ = padding_of (sat n) in
        let l : ℕ = padding_of n in
        omega arith

abbrev pub Verdict : Type 0
Verdict = Result Mark Misfit

abbrev pub marked : ℕ → ℕ → ℕ → Verdict
marked i j n = Ok (record { at = record { word = i; byte = j }; size = n })

-- and with zeros up to a multiple of 4
pub filled : {v : Verdict} {m o : Mark} → v ≡ Ok m → o ≡ mark_padded m → Ok o ≡ padded v
unfolding padded
filled d e = rw (d, e)

pub none_filled : {v : Verdict} {e : Misfit} → v ≡ Err e → Err e ≡ padded v
unfolding padded
none_filled d = rw d

-- a refusal that `?` hands on
pub handed_on : {T : Type 0} {r : Result T Misfit} {e : Misfit} → IsErrAnd r (λ d. d ≡ e) → r ≡ Err e
handed_on {r} i = let p = err_from_is_err_and r i in p.1 ∙ ap Err p.2

-- ---- one part

module _ {A : Type 0} where
  pub measured_by : (s t : A → ℕ) (r : Judged A) → ((a : A) (i j : ℕ) → r ≡ fine a i j → s a ≡ t a) → verdict_of s r ≡ verdict_of t r
  unfolding verdict_of
  measured_by s t (fine a i j) h = ap (λ (n : ℕ). marked i j (sat n)) (h a i j refl)
  measured_by s t (bad_word i) h = refl
  measured_by s t (bad_text j) h = refl

  pub measured_grown : (n : ℕ) (s : A → ℕ) (r : Judged A) → grown n (verdict_of s r) ≡ verdict_of (λ a. n + s a) r
  unfolding verdict_of grown
  measured_grown n s (fine a i j) = ap (marked i j) (sat_right n (s a))
  measured_grown n s (bad_word i) = refl
  measured_grown n s (bad_text j) = refl

  pub measured_padded : (s : A → ℕ) (r : Judged A) → padded (verdict_of s r) ≡ verdict_of (λ a. filled_up (s a)) r
  unfolding verdict_of padded
  measured_padded s (fine a i j) = ap (marked i j) (sat-filled (s a))
  measured_padded s (bad_word i) = refl
  measured_padded s (bad_text j) = refl

pub grown-sat : (n : ℕ) (v : Verdict) → grown (sat n) v ≡ grown n v
unfolding grown
grown-sat n (Ok m) = ap (marked m.at.word m.at.byte) (sat_left n m.size)
grown-sat n (Err e) = refl

pub grown-grown : (n k : ℕ) (v : Verdict) → grown n (grown k v) ≡ grown (n + k) v
unfolding grown
grown-grown n k (Ok m) = ap (marked m.at.word m.at.byte) (let z : ℕ = m.size in let e : sat (n + sat (k + z)) ≡ sat (n + k + z) = omega arith in e)
grown-grown n k (Err e) = refl

-- the answer of a part, where the code goes on with more bytes and where it does not
pub more : (n : ℕ) {v : Verdict} {m o : Mark} → v ≡ Ok m → o ≡ mark_grown n m → Ok o ≡ grown n v
unfolding grown
more n d e = rw (d, e)

pub none_more : (n : ℕ) {v : Verdict} {e : Misfit} → v ≡ Err e → Err e ≡ grown n v
unfolding grown
none_more n d = rw d

-- ---- a part's answer, in the two forms that its caller's arms have

module _ {A : Type 0} (s : A → ℕ) where
  pub record Was (r : Judged A) (m : Mark) : Type 0 where
    pub value : A
    pub is : r ≡ fine value m.at.word m.at.byte
    pub sized : m.size ≡ sat (s value)

  pub was_fine : (r : Judged A) (m : Mark) → verdict_of s r ≡ Ok m → Was r m
  unfolding verdict_of
  was_fine (fine a i j) m e =
      let d : record { at = record { word = i; byte = j }; size = sat (s a) } ≡ m = cc in
      record {
        value = a;
        is = rw (ap (λ (z : Mark). z.at.word) (sym d), ap (λ (z : Mark). z.at.byte) (sym d));
        sized = ap (λ (z : Mark). z.size) (sym d);
      }
  was_fine (bad_word i) m e = let z : ◌≡◌ {A = ℕ} 0 1 = cc in absurd (omega arith)
  was_fine (bad_text j) m e = let z : ◌≡◌ {A = ℕ} 0 1 = cc in absurd (omega arith)

  pub was_then : {C : Type 0} (r : Judged A) (m : Mark) → verdict_of s r ≡ Ok m → ((a : A) → r ≡ fine a m.at.word m.at.byte → m.size ≡ sat (s a) → C) → C
  was_then r m e f = let z = was_fine r m e in f z.value z.is z.sized

-- a part that is refused is so with what is judged behind it
pub refused_first : {A B : Type 0} (s : A → ℕ) (all : B → ℕ) (r : Judged A) (q : A → J B) (w x : List ℕ) {e : Misfit} → verdict_of s r ≡ Err e → Err e ≡ verdict_of all (and_then r q w x)
unfolding verdict_of
refused_first s all (fine a i j) q w x h = cc
refused_first s all (bad_word k) q w x h = sym h
refused_first s all (bad_text k) q w x h = sym h

-- ---- what is made of a part's value

module _ {A B : Type 0} (all : B → ℕ) where
  pub measured_made : (r : Judged A) (w x : List ℕ) (f : A → B) → verdict_of (λ a. all (f a)) r ≡ verdict_of all (and_then r (λ a. ret (f a)) w x)
  unfolding verdict_of
  measured_made (fine a i j) w x f = refl
  measured_made (bad_word i) w x f = refl
  measured_made (bad_text j) w x f = refl

  -- with n bytes more
  pub then_grown : (s : A → ℕ) (r : Judged A) (w x : List ℕ) (n : ℕ) (v : Verdict) (f : A → B) → v ≡ verdict_of s r → ((a : A) (i j : ℕ) → r ≡ fine a i j → n + s a ≡ all (f a))
      → grown n v ≡ verdict_of all (and_then r (λ a. ret (f a)) w x)
  then_grown s r w x n v f e h = ap (grown n) e ∙ measured_grown n s r ∙ measured_by (λ a. n + s a) (λ a. all (f a)) r h ∙ measured_made r w x f

-- ---- a word

pub fits_there : (test : ℕ → Bool) (w : List ℕ) (i : ℕ) → fits test w i ≡ true → i < length w
unfolding fits
fits_there test w i e = ltb-true i (length w) (both_true (ltb i (length w)) (test (get_or w i 0)) e).0

pub fits_holds : (test : ℕ → Bool) (w : List ℕ) (i : ℕ) → fits test w i ≡ true → test (get_or w i 0) ≡ true
unfolding fits
fits_holds test w i e = (both_true (ltb i (length w)) (test (get_or w i 0)) e).1

pub fits_in : (test : ℕ → Bool) (w : List ℕ) (i : ℕ) → i < length w → test (get_or w i 0) ≡ fits test w i
unfolding fits
fits_in test w i h = rw (lt-ltb i (length w) h)

pub fits_out : (test : ℕ → Bool) (w : List ℕ) (i : ℕ) → length w ≤ i → false ≡ fits test w i
unfolding fits
fits_out test w i h = rw (le-ltb i (length w) h)

-- of a word at most n, and of one below the next number
pub fits-most : (n : ℕ) (w : List ℕ) (i : ℕ) → fits (λ v. ltb v (suc n)) w i ≡ fits (λ v. leb v n) w i
unfolding fits
fits-most n w i = ap (λ (b : Bool). ltb i (length w) && b) (leb-suc-suc (get_or w i 0) n)

pub word-fine : (test : ℕ → Bool) (w x : List ℕ) (i j : ℕ) → fits test w i ≡ true → next_word test w x i j ≡ fine (get_or w i 0) (i + 1) j
unfolding next_word fits
word-fine test w x i j e = rw e

pub word_bad : (test : ℕ → Bool) (w x : List ℕ) (i j : ℕ) → fits test w i ≡ false → next_word test w x i j ≡ bad_word i
unfolding next_word fits
word_bad test w x i j e = rw e

-- what is answered of a word
pub word_if_in : (test : ℕ → Bool) (w : List ℕ) (i : ℕ) → i < length w → test (get_or w i 0) ≡ true → Ok (get_or w i 0) ≡ word_if test w i
unfolding word_if
word_if_in test w i h e = rw (sym (fits_in test w i h) ∙ e)

pub word_if_unfit : (test : ℕ → Bool) (w : List ℕ) (i : ℕ) → i < length w → test (get_or w i 0) ≡ false → Err (Word i) ≡ word_if test w i
unfolding word_if
word_if_unfit test w i h e = rw (sym (fits_in test w i h) ∙ e)

pub word_if_out : (test : ℕ → Bool) (w : List ℕ) (i : ℕ) → length w ≤ i → Err (Word i) ≡ word_if test w i
unfolding word_if
word_if_out test w i h = rw (sym (fits_out test w i h))

-- a curve by its number, and a number that no curve has
pub curve_in : (curve : Curve) (w : List ℕ) (i : ℕ) → i < length w → curve_number curve ≡ get_or w i 0 → Ok (curve_number curve) ≡ word_if (λ v. ltb v 3) w i
curve_in curve w i h e = ap Ok e ∙ word_if_in (λ v. ltb v 3) w i h (lt-ltb _ _ (rw (sym e) (below curve)))
  where
    below : (c : Curve) → curve_number c < 3
    below Constant = omega arith
    below Step = omega arith
    below Hermite = omega arith

pub curve_over : (w : List ℕ) (i : ℕ) → i < length w → 2 < get_or w i 0 → Err (Word i) ≡ word_if (λ v. ltb v 3) w i
curve_over w i h l = word_if_unfit (λ v. ltb v 3) w i h (le-ltb _ _ l)

-- and what that says, where the code goes on and where it does not, the place being one that equals the code's
module _ (test : ℕ → Bool) (w : List ℕ) where
  choice : (i : ℕ) (b : Bool) → fits test w i ≡ b → word_if test w i ≡ pick b (Ok (get_or w i 0)) (Err (Word i))
  unfolding word_if
  choice i b e = rw e

  held_at : (i : ℕ) {r : Result ℕ Misfit} {v : ℕ} → r ≡ word_if test w i → r ≡ Ok v → fits test w i ≡ true
  held_at i {r} {v} e d = go (fits test w i) refl
    where
      go : (b : Bool) → fits test w i ≡ b → fits test w i ≡ true
      go true q = q
      go false q = let c = choice i false q in cc

  failed_at : (i : ℕ) {r : Result ℕ Misfit} {m : Misfit} → r ≡ word_if test w i → r ≡ Err m → fits test w i ≡ false
  failed_at i {r} {m} e d = go (fits test w i) refl
    where
      go : (b : Bool) → fits test w i ≡ b → fits test w i ≡ false
      go true q = let c = choice i true q in cc
      go false q = q

  word_at : (i : ℕ) {r : Result ℕ Misfit} {v : ℕ} → r ≡ word_if test w i → r ≡ Ok v → v ≡ get_or w i 0
  word_at i e d = let c = choice i true (held_at i e d) in cc

  misfit_at : (i : ℕ) {r : Result ℕ Misfit} {m : Misfit} → r ≡ word_if test w i → r ≡ Err m → m ≡ Word i
  misfit_at i e d = let c = choice i false (failed_at i e d) in cc

module _ (test : ℕ → Bool) (w : List ℕ) {i : ℕ} {r : Result ℕ Misfit} where
  pub there : {v : ℕ} → r ≡ word_if test w i → r ≡ Ok v → i < length w
  there e d = fits_there test w i (held_at test w i e d)

  module _ {j : ℕ} where
    pub held : {v : ℕ} → r ≡ word_if test w i → r ≡ Ok v → i ≡ j → fits test w j ≡ true
    held e d q = ap (fits test w) (sym q) ∙ held_at test w i e d

    pub word_is : {v : ℕ} → r ≡ word_if test w i → r ≡ Ok v → i ≡ j → v ≡ get_or w j 0
    word_is e d q = word_at test w i e d ∙ ap (λ (k : ℕ). get_or w k 0) q

    pub failed : {m : Misfit} → r ≡ word_if test w i → r ≡ Err m → i ≡ j → fits test w j ≡ false
    failed e d q = ap (fits test w) (sym q) ∙ failed_at test w i e d

    -- a word's refusal, which `?` hands on
    pub refused_word : {T : Type 0} {o : Result T Misfit} {m : Misfit} → r ≡ word_if test w i → IsErrAnd o (λ d. d ≡ m) → r ≡ Err m → i ≡ j → o ≡ Err (Word j)
    refused_word e h d q = handed_on h ∙ ap Err (misfit_at test w i e d) ∙ ap (λ (k : ℕ). Err (Word k)) q

-- ---- words with a test each, and what is judged behind them: a do-block that begins with such words is this, by computation

unfoldable pub tests_then : {A : Type 0} → List (ℕ → Bool) → (List ℕ → J A) → J A
tests_then [] c = c []
tests_then (t ∷ ts) c = λ w x i j. and_then (next_word t w x i j) (λ v. tests_then ts (λ vs. c (v ∷ vs))) w x

-- what it comes to, word by word
pub record Tested {A : Type 0} (ts : List (ℕ → Bool)) (c : List ℕ → J A) (w x : List ℕ) (i j : ℕ) (r : Judged A) : Type 0 where
  pub gives : tests_then ts c w x i j ≡ r

module _ {A : Type 0} {c : List ℕ → J A} {w x : List ℕ} {i j : ℕ} where
  pub tested_bad : {t : ℕ → Bool} {ts : List (ℕ → Bool)} → fits t w i ≡ false → Tested (t ∷ ts) c w x i j (bad_word i)
  unfolding tests_then
  tested_bad {t} e = record { gives = rw (word_bad t w x i j e) }

  pub tested_next : {t : ℕ → Bool} {ts : List (ℕ → Bool)} {r : Judged A} → fits t w i ≡ true → Tested ts (λ vs. c (get_or w i 0 ∷ vs)) w x (i + 1) j r → Tested (t ∷ ts) c w x i j r
  unfolding tests_then
  tested_next {t} e h = record { gives = rw (word-fine t w x i j e) h.gives }

-- all of them hold
abbrev pub Fitting : List (ℕ → Bool) → List ℕ → ℕ → Type 0
Fitting [] w i = Unit
Fitting (t ∷ ts) w i = (fits t w i ≡ true) × Fitting ts w (i + 1)

-- the words, and the place behind them
abbrev pub words_on : List (ℕ → Bool) → List ℕ → ℕ → List ℕ
words_on [] w i = []
words_on (t ∷ ts) w i = get_or w i 0 ∷ words_on ts w (i + 1)

abbrev pub words_end : List (ℕ → Bool) → ℕ → ℕ
words_end [] i = i
words_end (t ∷ ts) i = words_end ts (i + 1)

pub tests_fine : {A : Type 0} (ts : List (ℕ → Bool)) (c : List ℕ → J A) (w x : List ℕ) (i j : ℕ) → Fitting ts w i → tests_then ts c w x i j ≡ c (words_on ts w i) w x (words_end ts i) j
unfolding tests_then
tests_fine [] c w x i j f = refl
tests_fine (t ∷ ts) c w x i j f = rw (word-fine t w x i j f.0) (tests_fine ts (λ vs. c (get_or w i 0 ∷ vs)) w x (i + 1) j f.1)

-- a word that is refused, as the code answers it
pub bad_at : {A : Type 0} (s : A → ℕ) {r : Judged A} {k : ℕ} → r ≡ bad_word k → Err (Word k) ≡ verdict_of s r
unfolding verdict_of
bad_at s e = rw e

-- ---- parts one after another

module _ {A : Type 0} (p : J A) (w x : List ℕ) where
  pub times_none : (n i j : ℕ) → n ≤ 0 → times n p w x i j ≡ fine [] i j
  unfolding times
  times_none zero i j h = refl
  times_none (suc n) i j h = absurd (omega arith)

  pub times-turn : (n i j : ℕ) → 0 < n → times n p w x i j ≡ and_then (p w x i j) (λ a w x i j. and_then (times (n - 1) p w x i j) (λ ps. ret (a ∷ ps)) w x) w x
  unfolding times
  times-turn zero i j h = absurd (omega arith)
  times-turn (suc n) i j h = let e : suc n - 1 ≡ n = omega arith in rw e

-- ---- n parts, by what is answered of each

module _ {A : Type 0} (p : J A) (lay : A → Layout) where
  pub each_measured : (n : ℕ) (r : Rest) → each (measured lay p) n r ≡ measured (parts lay) (times n p) r
  unfolding each onward times verdict_of parts size
  each_measured zero r = refl
  each_measured (suc n) r = go (next p r) (each_measured n)
    where
      go : (q : Judged A) → ((s : Rest) → each (measured lay p) n s ≡ measured (parts lay) (times n p) s)
          → onward (verdict_of (λ a. size (lay a)) q) (λ m. each (measured lay p) n (behind m r)) ≡ verdict_of (λ ps. size (parts lay ps)) (and_then q (λ a w x i j. and_then (times n p w x i j) (λ ps. ret (a ∷ ps)) w x) r.words.now r.texts.now)
      go (fine a k l) h =
          ap (grown (sat (size (lay a)))) (h (record r { at = record { word = k; byte = l } })) ∙ grown-sat (size (lay a)) _
          ∙ then_grown (λ ps. size (parts lay ps)) (λ ps. size (parts lay ps)) (times n p r.words.now r.texts.now k l) r.words.now r.texts.now (size (lay a)) _ (λ ps. a ∷ ps) refl (λ ps u v z. refl)
      go (bad_word k) h = refl
      go (bad_text k) h = refl

-- a loop over such parts of r, with `left` parts to come and the mark m behind it: what is left, with m's bytes, is the whole
pub record Repeating (f : Rest → Verdict) (n : ℕ) (r : Rest) (left : ℕ) (m : Mark) : Type 0 where
  pub small : m.size ≤ 18446744073709551615
  pub same : grown m.size (each f left (behind m r)) ≡ each f n r

each-none : (f : Rest → Verdict) (n : ℕ) (r : Rest) → grown 0 (each f n r) ≡ each f n r
unfolding each onward grown
each-none f zero r = refl
each-none f (suc n) r = go (f r)
  where
    go : (v : Verdict) → grown 0 (onward v (λ m. each f n (behind m r))) ≡ onward v (λ m. each f n (behind m r))
    go (Ok m) = grown-grown 0 m.size (each f n (behind m r)) ∙ ap (λ (k : ℕ). grown k (each f n (behind m r))) (omega arith)
    go (Err e) = refl

module _ {f : Rest → Verdict} {n : ℕ} {r : Rest} where
  pub repeating_start : Repeating f n r n (record { at = r.at; size = 0 })
  repeating_start = record { small = omega arith; same = each-none f n r }

  module _ {left : ℕ} {m : Mark} (h : Repeating f n r left m) where
    step : 0 < left → each f left (behind m r) ≡ onward (f (behind m r)) (λ o. each f (left - 1) (behind o r))
    unfolding each
    step l = go left l
      where
        go : (k : ℕ) → 0 < k → each f k (behind m r) ≡ onward (f (behind m r)) (λ o. each f (k - 1) (behind o r))
        go zero l = absurd (omega arith)
        go (suc k) l = let e : suc k - 1 ≡ k = omega arith in rw e

    pub repeating_bad : 0 < left → {e : Misfit} → f (behind m r) ≡ Err e → Err e ≡ each f n r
    unfolding onward grown
    repeating_bad l d = rw (step l, d) at h.same

    pub repeating_turn : 0 < left → {p o : Mark} → f (behind m r) ≡ Ok p → o ≡ mark_grown m.size p → Repeating f n r (left - 1) o
    unfolding onward
    repeating_turn l {p} {o} d e =
        record {
          small = rw e (omega arith);
          same = rw e (grown-sat (m.size + p.size) _ ∙ sym (grown-grown m.size p.size _) ∙ (rw (step l, d) at h.same));
        }

    pub repeating_end : left ≤ 0 → Ok m ≡ each f n r
    unfolding each grown
    repeating_end l = go left l h.same
      where
        go : (k : ℕ) → k ≤ 0 → grown m.size (each f k (behind m r)) ≡ each f n r → Ok m ≡ each f n r
        go zero l e = ap (marked m.at.word m.at.byte) (omega (arith, h.small)) ∙ e
        go (suc k) l e = absurd (omega arith)

-- ---- parts of k words that are fine wherever their words are there, and else bad where the words end

pub record Value {A : Type 0} (r : Judged A) (i j : ℕ) : Type 0 where
  pub value : A
  pub is : r ≡ fine value i j

pub record Steps {A : Type 0} (p : J A) (w x : List ℕ) (k : ℕ) : Type 0 where
  pub there : (i j : ℕ) → k ≤ length w - i → Value (p w x i j) (i + k) j
  pub short : (i j : ℕ) → length w - i < k → p w x i j ≡ bad_word (max i (length w))

pub steps_as : {A : Type 0} (p : J A) (w x : List ℕ) (k l : ℕ) → Steps p w x k → k ≡ l → Steps p w x l
steps_as p w x k l s e = subst (λ (n : ℕ). Steps p w x n) e s

steps_none : {A : Type 0} (w x : List ℕ) → Steps (ret {A = List A} []) w x 0
steps_none w x =
    record {
      there = λ i j h. record { value = []; is = ap (λ (n : ℕ). fine [] n j) (omega arith) };
      short = λ i j h. absurd (omega arith);
    }

module _ {A : Type 0} (p : J A) (q : J (List A)) (w x : List ℕ) (k l : ℕ) (sp : Steps p w x k) (sq : Steps q w x l) where
  abbrev both : J (List A)
  both w x i j = and_then (p w x i j) (λ a w x i j. and_then (q w x i j) (λ ps. ret (a ∷ ps)) w x) w x

  both_there : (i j : ℕ) → k + l ≤ length w - i → Value (both w x i j) (i + (k + l)) j
  both_there i j h =
      let a = sp.there i j (omega arith) in
      let b = sq.there (i + k) j (omega arith) in
      let e : i + k + l ≡ i + (k + l) = omega arith in
      record { value = a.value ∷ b.value; is = rw (a.is, b.is) (ap (λ (n : ℕ). fine (a.value ∷ b.value) n j) e) }

  both_short : (i j : ℕ) → length w - i < k + l → both w x i j ≡ bad_word (max i (length w))
  both_short i j h = go (leb k (length w - i)) refl
    where
      go : (b : Bool) → leb k (length w - i) ≡ b → both w x i j ≡ bad_word (max i (length w))
      go true e =
          let d = leb-true k (length w - i) e in
          let a = sp.there i j d in
          let m : max (i + k) (length w) ≡ max i (length w) = omega arith in
          rw (a.is, sq.short (i + k) j (omega arith)) (ap bad_word m)
      go false e = rw (sp.short i j (leb-false k (length w - i) e))

  steps_both : Steps both w x (k + l)
  steps_both = record { there = both_there; short = both_short }

module _ (w : List ℕ) (small : (k : ℕ) → get_or w k 0 < 4294967296) (x : List ℕ) where
  pub steps_word : Steps (next_word (wide 4)) w x 1
  unfolding next_word
  steps_word =
      record {
        there = λ i j h. record { value = get_or w i 0; is = rw (lt-ltb i (length w) (omega arith), lt-ltb (get_or w i 0) 4294967296 (small i)) };
        short = λ i j h. let m : i ≡ max i (length w) = omega arith in rw (le-ltb i (length w) (omega arith)) (ap bad_word m);
      }

  pub steps_row : (k : ℕ) → Steps (row (replicate k 4)) w x k
  unfolding row
  steps_row zero = steps_none w x
  steps_row (suc k) = steps_as _ w x (1 + k) (suc k) (steps_both (next_word (wide 4)) (row (replicate k 4)) w x 1 k steps_word (steps_row k)) (omega arith)

pub steps_times : {A : Type 0} (p : J A) (w x : List ℕ) (k : ℕ) → Steps p w x k → (n : ℕ) → Steps (times n p) w x (n * k)
unfolding times
steps_times p w x k s zero = steps_as _ w x 0 (0 * k) (steps_none w x) (omega arith)
steps_times p w x k s (suc n) = steps_as _ w x (k + n * k) (suc n * k) (steps_both p (times n p) w x k (n * k) s (steps_times p w x k s n)) (omega arith)

-- the measure of such parts that all have c bytes
abbrev pub ran : ℕ → ℕ → ℕ → ℕ → ℕ → Verdict
ran k c len i j = pick (leb k (len - i)) (marked (i + k) j (sat c)) (Err (Word (max i len)))

pub steps_measured : {A : Type 0} (p : J A) (w x : List ℕ) (k : ℕ) → Steps p w x k → (s : A → ℕ) (c i j : ℕ) → ((a : A) (u v : ℕ) → p w x i j ≡ fine a u v → s a ≡ c)
    → verdict_of s (p w x i j) ≡ ran k c (length w) i j
unfolding verdict_of
steps_measured p w x k st s c i j h = go (leb k (length w - i)) refl
  where
    go : (b : Bool) → leb k (length w - i) ≡ b → verdict_of s (p w x i j) ≡ pick b (marked (i + k) j (sat c)) (Err (Word (max i (length w))))
    go true e = let a = st.there i j (leb-true k (length w - i) e) in let d = a.is in rw d (ap (λ (n : ℕ). marked (i + k) j (sat n)) (h a.value _ _ d))
    go false e = rw (st.short i j (leb-false k (length w - i) e))

-- ---- their sizes

pub size-parts : {A : Type 0} (lay : A → Layout) (c : ℕ) → ((a : A) → size (lay a) ≡ c) → (ps : List A) → size (parts lay ps) ≡ length ps * c
unfolding parts size
size-parts lay c h [] = omega arith
size-parts lay c h (a ∷ ps) = rw (h a, size-parts lay c h ps) (omega arith)

pub size-numbers : (vs : List ℕ) → size (parts (number 4) vs) ≡ length vs * 4
size-numbers vs = size-parts (number 4) 4 (λ v. unfold size in refl) vs
