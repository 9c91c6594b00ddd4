-- Items as counts: how many words and text bytes they have, and what a tally says of them while its counts fit.
-- Assumes nothing.
use Prim.Native.Nat.{ℕ, zero, suc, ◌+◌, ◌-◌, ◌*◌, ◌<◌, ◌≤◌}
use mathlib.Core.Path.{◌≡◌, refl, ap, ◌∙◌}
use mathlib.Core.Bool.{Bool, true, false}
use mathlib.Core.List.{List, [], ◌∷◌}
use native.Mathlib.Omega.{arith}
use borrow.Author.Tests.{eq-eqb, ne_eqb, ltb-true, ltb-false}
use lib.Dec.{eqb, ltb}
use lib.ListN.{length, get_or, take, length-append, length-take, length-drop}
use lib.Seq.{slice}
use Rattle.base.proofs.utf8.Laws.{decode_bound, decode-long, count-le}
use Rattle.bflan.specs.declared.reader.tally.Tally.{Tally}
use Rattle.bflan.specs.Items.{texts_in}
use Rattle.bflan.specs.Reader.{Item, word, text}
use Rattle.bflan.specs.Items.{shown_at, words_of, texts_of, replacements_of}
use Rattle.bflan.specs.inner.Walk.{with_words, with_text, with_text_of, tallied}
use Rattle.bflan.proofs.reader.Bounds.{Countable}

-- ---- words and text bytes

module _ (s : List ℕ) where
  -- each item is one word
  words-length : (is : List Item) → length (words_of s is) ≡ length is
  unfolding words_of
  words-length [] = refl
  words-length (word v ∷ is) = ap suc (words-length is)
  words-length (text a n ∷ is) = ap suc (words-length is)

  -- a text is shown with at most three bytes for each of the section's
  shown-most : length s ≤ 16777216 → (a n : ℕ) → length (shown_at s a n) ≤ 50331648
  shown-most h a n = omega (arith, decode_bound (slice a (a + n) s), length-drop a (take (a + n) s), length-take (a + n) s)

  texts-most : length s ≤ 16777216 → (is : List Item) → length (texts_of s is) ≤ 50331648 * length (texts_in is)
  unfolding texts_of texts_in
  texts-most h [] = omega arith
  texts-most h (word v ∷ is) = texts-most h is
  texts-most h (text a n ∷ is) = omega (arith, length-append (shown_at s a n) (texts_of s is), shown-most h a n, texts-most h is)

  -- no more U+FFFD are put in than there are text bytes
  replaced-most : (is : List Item) → replacements_of s is ≤ length (texts_of s is)
  unfolding texts_of replacements_of
  replaced-most [] = omega arith
  replaced-most (word v ∷ is) = replaced-most is
  replaced-most (text a n ∷ is) =
      omega (arith, length-append (shown_at s a n) (texts_of s is), count-le (slice a (a + n) s), decode-long (slice a (a + n) s), replaced-most is)

-- ---- a tally whose counts fit

module _ (s : List ℕ) where
  -- room for items behind what was counted
  record Room (t : Tally) (is : List Item) : Type 0 where
    words : t.words + length is ≤ 18446744073709551615
    bytes : t.bytes + length (texts_of s is) ≤ 18446744073709551615
    replaced : t.replaced + replacements_of s is ≤ 18446744073709551615

  record Counted (t : Tally) (is : List Item) : Type 0 where
    words : (tallied s t is).words ≡ t.words + length is
    bytes : (tallied s t is).bytes ≡ t.bytes + length (texts_of s is)
    replaced : (tallied s t is).replaced ≡ t.replaced + replacements_of s is

  counted : (t : Tally) (is : List Item) → Room t is → Counted t is
  unfolding tallied with_words with_text texts_of replacements_of
  counted t [] r = record { words = omega arith; bytes = omega arith; replaced = omega arith }
  counted t (word v ∷ is) r =
      let k = counted (with_words t 1) is (record { words = omega (arith, r.words); bytes = r.bytes; replaced = r.replaced }) in
      record { words = omega (arith, k.words, r.words); bytes = k.bytes; replaced = k.replaced }
  counted t (text a n ∷ is) r =
      let e = length-append (shown_at s a n) (texts_of s is) in
      let k = counted (with_text_of s t a n) is (record { words = omega (arith, r.words); bytes = omega (arith, r.bytes, e); replaced = omega (arith, r.replaced) }) in
      record { words = omega (arith, k.words, r.words); bytes = omega (arith, k.bytes, r.bytes, e); replaced = omega (arith, k.replaced, r.replaced) }

-- ---- the text that is wanted

-- where it stands and its length, as the tally has them
abbrev pub place_of : Tally → ℕ × ℕ
place_of t = (t.start, t.len)

module _ (s : List ℕ) where
  -- before it and behind it nothing changes
  place_kept : (t : Tally) (is : List Item) → length (texts_in is) ≤ t.left → (place_of (tallied s t is) ≡ place_of t) × ((tallied s t is).left + length (texts_in is) ≡ t.left)
  unfolding tallied with_words with_text texts_in
  place_kept t [] h = (refl, omega arith)
  place_kept t (word v ∷ is) h = place_kept (with_words t 1) is h
  place_kept t (text a n ∷ is) h =
      let b : eqb t.left 0 ≡ false = ne_eqb t.left 0 (λ e. omega arith) in
      let l : (with_text_of s t a n).left ≡ t.left - 1 = rw b in
      let k = place_kept (with_text_of s t a n) is (omega (arith, l, h)) in
      (k.0 ∙ rw b, omega (arith, k.1, l, h))

  -- k texts before it; then the count goes round
  place_met : (t : Tally) (is : List Item) (k : ℕ) → t.left ≡ k → k < length (texts_in is) → length (texts_in is) ≤ 18446744073709551615
      → (place_of (tallied s t is) ≡ get_or (texts_in is) k (0, 0)) × ((tallied s t is).left + length (texts_in is) ≡ 18446744073709551616 + k)
  unfolding tallied with_words with_text texts_in
  place_met t [] k e h r = absurd (omega arith)
  place_met t (word v ∷ is) k e h r = place_met (with_words t 1) is k e h r
  place_met t (text a n ∷ is) zero e h r =
      let b : eqb t.left 0 ≡ true = eq-eqb t.left 0 e in
      let l : (with_text_of s t a n).left ≡ 18446744073709551615 = rw b in
      let m = place_kept (with_text_of s t a n) is (omega (arith, l, r)) in
      (m.0 ∙ rw b, omega (arith, m.1, l))
  place_met t (text a n ∷ is) (suc k) e h r =
      let b : eqb t.left 0 ≡ false = ne_eqb t.left 0 (λ z. omega arith) in
      let l : (with_text_of s t a n).left ≡ k = rw b (omega arith) in
      let m = place_met (with_text_of s t a n) is k l (omega arith) (omega arith) in
      (m.0, omega (arith, m.1))

-- ---- a tally as it is made, which wants text k

abbrev pub Fresh : ℕ → Tally → Type 0
Fresh k t = (t.words ≡ 0) × (t.bytes ≡ 0) × (t.replaced ≡ 0) × (t.left ≡ k)

-- ---- of items whose counts fit

module _ (s : List ℕ) (fits : length s ≤ 16777216) (is : List Item) (m : Countable s is) where
  -- what the tables need
  pub needs_bound : (length (words_of s is) ≤ 144115188075855872) × (length (texts_of s is) ≤ 576460752303423488) × (replacements_of s is ≤ 576460752303423488)
  needs_bound = (
    omega (arith, m.items, words-length s is),
    omega (arith, m.texts, texts-most s fits is),
    omega (arith, m.texts, texts-most s fits is, replaced-most s is),
  )

  module _ (t : Tally) (k : ℕ) (new : Fresh k t) where
    -- it has room for them
    whole : Counted s t is
    whole = counted s t is (record { words = omega (arith, new.0, m.items); bytes = omega (arith, new.1, needs_bound.1); replaced = omega (arith, new.2, needs_bound.2) })

    pub whole_words : (tallied s t is).words ≡ length (words_of s is)
    whole_words = omega (arith, whole.words, new.0, words-length s is)

    pub whole-bytes : (tallied s t is).bytes ≡ length (texts_of s is)
    whole-bytes = omega (arith, whole.bytes, new.1)

    pub whole-replaced : (tallied s t is).replaced ≡ replacements_of s is
    whole-replaced = omega (arith, whole.replaced, new.2)

    many : length (texts_in is) ≤ 18446744073709551615
    many = omega (arith, m.texts)

    -- the text that is wanted is there exactly where the count has gone round
    pub whole_met : k < (tallied s t is).left → k < length (texts_in is)
    whole_met h = go (ltb k (length (texts_in is))) refl
      where
        go : (b : Bool) → ltb k (length (texts_in is)) ≡ b → k < length (texts_in is)
        go true e = ltb-true _ _ e
        go false e =
            let l : length (texts_in is) ≤ k = ltb-false _ _ e in
            let p = place_kept s t is (omega (arith, l, new.3)) in
            absurd (omega (arith, p.1, h, new.3))

    pub whole-none : (tallied s t is).left ≤ k → length (texts_in is) ≤ k
    whole-none h = go (ltb k (length (texts_in is))) refl
      where
        go : (b : Bool) → ltb k (length (texts_in is)) ≡ b → length (texts_in is) ≤ k
        go true e = let p = place_met s t is k new.3 (ltb-true _ _ e) many in absurd (omega (arith, p.1, h, many))
        go false e = ltb-false _ _ e

    module _ (h : k < length (texts_in is)) where
      whole_place : place_of (tallied s t is) ≡ get_or (texts_in is) k (0, 0)
      whole_place = (place_met s t is k new.3 h many).0

      pub whole-start : (tallied s t is).start ≡ (get_or (texts_in is) k (0, 0)).0
      whole-start = ap (λ (z : ℕ × ℕ). z.0) whole_place

      pub whole_len : (tallied s t is).len ≡ (get_or (texts_in is) k (0, 0)).1
      whole_len = ap (λ (z : ℕ × ℕ). z.1) whole_place

      -- and that text lies in the section
      pub whole-inside : (tallied s t is).start + (tallied s t is).len ≤ length s
      whole-inside = rw (whole-start, whole_len) (m.inside k)
