-- The automaton inside a character: what it still awaits is what the row of the character's first byte leaves. So where it comes to state 0 the
-- character is whole, and where it comes to state 1, or the text ends, the bytes before are a maximal ill-formed subpart.
-- Assumes nothing.
use Prim.Native.Nat.{ℕ, zero, suc, ◌+◌, ◌-◌, ◌<◌, ◌≤◌, max}
use mathlib.Core.Path.{◌≡◌, refl, ap, sym, ◌∙◌}
use mathlib.Core.Bool.{Bool, true, false}
use mathlib.Core.List.{List, [], ◌∷◌}
use native.Mathlib.Numerals.{add-one}
use native.Mathlib.Omega.{arith}
use borrow.Author.Tests.{ne_eqb, le-leb}
use lib.Dec.{leb}
use lib.ListN.{length, get_or, drop, drop_of_length-le}
use lib.Seq.{drop-cons}
use Rattle.base.specs.Choice.{pick}
use Rattle.base.specs.declared.utf8.step.Step.TheVariants.{Good, Bad}
use Rattle.base.specs.Utf8.{Range, within, class_of, later_of, matched, more, good, step_of, valid_up_to}
use Rattle.base.specs.inner.Flow.{awaits, entered, passed, state_after}
use Rattle.base.proofs.utf8.Steps.{class_below, matched_none, step_none}
use Rattle.base.proofs.utf8.Laws.{good_from}
use Rattle.base.proofs.utf8.Automaton.{entered-awaits, entered_below, entered_known, Awaiting, awaiting, more_is, matched_on}
use Rattle.base.proofs.utf8.Turns.{GoodAt, BadAt, good_at, bad_at}

-- ---- a step, by how many bytes of its row are there

row-whole : (x : ℕ) (xs : List ℕ) (k : ℕ) → leb 1 (class_of x) ≡ true → more x xs ≡ length (later_of (class_of x)) → suc (more x xs) ≡ k → step_of x xs ≡ Good k
unfolding step_of
row-whole x xs k p q e = rw (good_from x xs p q) (ap Good e)

row-short : (x : ℕ) (xs : List ℕ) (k : ℕ) → leb 1 (class_of x) ≡ true → (more x xs ≡ length (later_of (class_of x)) → ⊥) → suc (more x xs) ≡ k → step_of x xs ≡ Bad k
unfolding step_of good
row-short x xs k p q e = rw (p, ne_eqb _ _ q) (ap Bad e)

matched_off : (r : Range) (rs : List Range) (x : ℕ) (xs : List ℕ) → within r x ≡ false → matched (r ∷ rs) (x ∷ xs) ≡ 0
unfolding matched
matched_off r rs x xs e = rw e

matched_end : (r : Range) (rs : List Range) → matched (r ∷ rs) [] ≡ 0
unfolding matched
matched_end r rs = refl

-- ---- inside a character: it starts at i, j bytes from the text's start are read, and the automaton is in state p

pub record Part (s : List ℕ) (i j p : ℕ) : Type 0 where
  pub some : i < j
  pub row : leb 1 (class_of (get_or s i 0)) ≡ true
  pub read : more (get_or s i 0) (drop (i + 1) s) + suc i ≡ j + matched (awaits p) (drop j s)
  pub whole : length (later_of (class_of (get_or s i 0))) + suc i ≡ j + length (awaits p)

pub record Inside (s : List ℕ) (i j p : ℕ) : Type 0 where
  pub start : i ≤ j
  pub fits : j ≤ length s
  pub small : p < 9
  pub known : p ≡ 1 → ⊥
  pub fresh : p ≡ 0 → i ≡ j
  pub later : 1 < p → Part s i j p

pub inside-start : (s : List ℕ) (i : ℕ) → i ≤ length s → Inside s i i 0
inside-start s i h = record { start = omega arith; fits = h; small = omega arith; known = λ e. omega arith; fresh = λ e. refl; later = λ l. absurd (omega arith) }

-- behind one byte more
pub record Turned (s : List ℕ) (i j p : ℕ) : Type 0 where
  pub small : p < 9
  pub lost : p ≡ 1 → BadAt s i (max (j - i) 1)
  pub done : p ≡ 0 → GoodAt s i (j + 1 - i)
  pub later : 1 < p → Part s i (j + 1) p

module _ (s : List ℕ) where
  -- from state 0, by the class of the byte
  turn_first : (j c p : ℕ) → j < length s → c < 10 → class_of (get_or s j 0) ≡ c → p ≡ get_or entered c 1 → Turned s j j p
  turn_first j zero p h l e q =
      record {
        small = omega arith;
        lost = λ k. let b = bad_at s j 1 h (Bad 1) (step_none _ _ e) refl in let m : 1 ≡ max (j - j) 1 = omega arith in rw m at b;
        done = λ k. absurd (omega arith);
        later = λ k. absurd (omega arith);
      }
  turn_first j (suc c) p h l e q =
      let x = get_or s j 0 in
      let xs = drop (j + 1) s in
      let a : awaits p ≡ later_of (suc c) = rw q (entered-awaits c (omega arith)) in
      let r : leb 1 (class_of (get_or s j 0)) ≡ true = rw e (le-leb 1 (suc c) (omega arith)) in
      let n : more (get_or s j 0) (drop (j + 1) s) ≡ matched (awaits p) (drop (j + 1) s) = rw a (more_is (get_or s j 0) (drop (j + 1) s) (suc c) e) in
      let w : length (later_of (class_of (get_or s j 0))) ≡ length (awaits p) = rw (e, a) refl in
      record {
        small = rw q (entered_below (suc c) l);
        lost = λ k. absurd (entered_known c (omega arith) (sym q ∙ k));
        done = λ k.
            let z : more (get_or s j 0) (drop (j + 1) s) ≡ 0 = rw k at n ∙ sym (matched_none _) in
            let y : length (later_of (class_of (get_or s j 0))) ≡ 0 = rw k at w in
            good_at s j (j + 1 - j) h _ refl (row-whole _ _ (j + 1 - j) r (z ∙ sym y) (omega arith));
        later = λ k. record { some = omega arith; row = r; read = omega arith; whole = omega arith };
      }

  -- from another one, by whether the byte fits
  turn-later : (i j m p : ℕ) (a : Awaiting m) (b : Bool) → i < length s → j < length s → Part s i j (suc (suc m)) → within a.first (get_or s j 0) ≡ b
      → p ≡ pick b (get_or passed (suc (suc m)) 1) 1 → Turned s i j p
  turn-later i j m p a true hi h t e q =
      let f : matched (awaits (suc (suc m))) (drop j s) ≡ suc (matched (awaits p) (drop (j + 1) s)) =
      rw (a.rest, add-one, drop-cons s j 0 h, ← q) (matched_on _ _ _ _ e) in
      let g : length (awaits (suc (suc m))) ≡ suc (length (awaits p)) = rw (a.rest, ← q) refl in
      record {
        small = rw q a.small;
        lost = λ k. absurd (a.known (sym q ∙ k));
        done = λ k.
            let z : matched (awaits p) (drop (j + 1) s) ≡ 0 = rw k (sym (matched_none _)) in
            let y : length (awaits p) ≡ 0 = rw k refl in
            good_at s i (j + 1 - i) hi _ refl
            (row-whole _ _ (j + 1 - i) t.row (omega (arith, t.read, t.whole, f, g, z, y)) (omega (arith, t.read, t.some, f, z)));
        later = λ k. record { some = omega (arith, t.some); row = t.row; read = omega (arith, t.read, f); whole = omega (arith, t.whole, g) };
      }
  turn-later i j m p a false hi h t e q =
      let f : matched (awaits (suc (suc m))) (drop j s) ≡ 0 = rw (a.rest, drop-cons s j 0 h) (matched_off _ _ _ _ e) in
      let g : length (awaits (suc (suc m))) ≡ suc (length (awaits (get_or passed (suc (suc m)) 1))) = rw a.rest refl in
      record {
        small = omega arith;
        lost = λ k.
            bad_at s i (max (j - i) 1) hi _ refl
            (row-short _ _ (max (j - i) 1) t.row (λ w. omega (arith, t.read, t.whole, f, g, w)) (omega (arith, t.read, t.some, f)));
        done = λ k. absurd (omega arith);
        later = λ k. absurd (omega arith);
      }

  pub inside-turn : (i j p q : ℕ) → Inside s i j p → j < length s → q ≡ state_after p (get_or s j 0) → Turned s i j q
  unfolding state_after
  inside-turn i j zero q t h e =
      let z : i ≡ j = t.fresh refl in
      rw z (turn_first j (class_of (get_or s j 0)) q h (class_below (get_or s j 0)) refl e)
  inside-turn i j (suc zero) q t h e = absurd (t.known refl)
  inside-turn i j (suc (suc m)) q t h e =
      let a = awaiting m (omega (arith, t.small)) in
      let l = t.later (omega arith) in
      turn-later i j m q a (within a.first (get_or s j 0)) (omega (arith, l.some)) h l refl
      (e ∙ rw (ne_eqb (suc (suc m)) 0 (λ w. omega arith), a.rest) refl)

  -- the text ends inside a character
  pub inside_cut : (i j p : ℕ) → Inside s i j p → length s ≤ j → i < j → BadAt s i (j - i)
  inside_cut i j zero t h l = absurd (omega (arith, t.fresh refl))
  inside_cut i j (suc zero) t h l = absurd (t.known refl)
  inside_cut i j (suc (suc m)) t h l =
      let a = awaiting m (omega (arith, t.small)) in
      let k = t.later (omega arith) in
      let f : matched (awaits (suc (suc m))) (drop j s) ≡ 0 = rw (a.rest, drop_of_length-le s h) (matched_end _ _) in
      let g : length (awaits (suc (suc m))) ≡ suc (length (awaits (get_or passed (suc (suc m)) 1))) = rw a.rest refl in
      bad_at s i (j - i) (omega (arith, t.fits)) _ refl
      (row-short _ _ (j - i) k.row (λ w. omega (arith, k.read, k.whole, f, g, w)) (omega (arith, k.read, k.some, f)))

  -- and on: it goes on inside, or another one starts
  pub inside_on : (i j p : ℕ) → Turned s i j p → i ≤ j → j < length s → (p ≡ 1 → ⊥) → (p ≡ 0 → ⊥) → Inside s i (j + 1) p
  inside_on i j p t l h n z = record { start = omega arith; fits = omega arith; small = t.small; known = n; fresh = λ e. absurd (z e); later = t.later }

  pub inside_new : (j p : ℕ) → j ≤ length s → p ≡ 0 → Inside s j j p
  inside_new j p h z = rw z (inside-start s j h)

  pub inside_done : (i j p : ℕ) → Turned s i j p → i ≤ j → p ≡ 0 → j + 1 + valid_up_to (drop (j + 1) s) ≡ i + valid_up_to (drop i s)
  inside_done i j p t l z =
      let g = (t.done z).on in
      let e : i + (j + 1 - i) ≡ j + 1 = omega arith in
      rw e at g
