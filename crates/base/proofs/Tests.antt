-- Every byte of a list passes a test: by its positions, by its parts, and in the turns of a loop.
-- Assumes nothing.
use Prim.Native.Nat.{ℕ, zero, suc, min, ◌+◌, ◌-◌, ◌<◌, ◌≤◌}
use mathlib.Core.Path.{◌≡◌, refl, sym, ap, ◌∙◌}
use mathlib.Core.Bool.{Bool, true, false, ◌&&◌, and_assoc, and-true, true≢false}
use mathlib.Core.List.{List, [], ◌∷◌}
use native.Mathlib.Nat.{zero-add}
use native.Mathlib.Omega.{arith}
use borrow.Author.Tests.{leb-true, leb-false}
use lib.Dec.{leb}
use lib.ListN.{length, get_or, take, drop, length-take, length-drop}
use lib.Seq.{drop-cons, get_or-take, get_or-drop}
use Rattle.base.specs.Text.{every}
use Rattle.base.proofs.utf8.Laws.{both_true}

-- ---- two tests

pub both : (a b : Bool) → a ≡ true → b ≡ true → a && b ≡ true
both a b e f = rw (e, f)

-- two answers are the same if each yes is one of the other
pub same_answer : (r t : Bool) → (r ≡ true → t ≡ true) → (t ≡ true → r ≡ true) → r ≡ t
same_answer true t f g = sym (f refl)
same_answer false true f g = absurd (true≢false (sym (g refl)))
same_answer false false f g = refl

-- ---- positions: what holds of every byte of a list, by its parts

module _ (P : ℕ → Type 0) (s : List ℕ) where
  pub bytes_on : (i m : ℕ) → ((k : ℕ) → k < i → P (get_or s k 0)) → ((k : ℕ) → k < m → P (get_or s (i + k) 0)) → (k : ℕ) → k < i + m → P (get_or s k 0)
  bytes_on i m f g k h = go (leb i k) refl
    where
      go : (b : Bool) → leb i k ≡ b → P (get_or s k 0)
      go true e =
          let l = leb-true i k e in
          let q : i + (k - i) ≡ k = omega arith in
          rw q at (g (k - i) (omega arith))
      go false e = f k (leb-false i k e)

  -- the last part may overlap the one before it
  pub bytes_last : (i m : ℕ) → m ≤ length s → length s ≤ i + m → ((k : ℕ) → k < i → P (get_or s k 0)) → ((k : ℕ) → k < m → P (get_or s (length s - m + k) 0))
      → (k : ℕ) → k < length s → P (get_or s k 0)
  bytes_last i m l e f g k h = bytes_on (length s - m) m (λ j q. f j (omega arith)) g k (omega arith)

  pub bytes_four : (b : ℕ) → 8 ≤ length s → length s ≤ 32 → b ≡ min 8 (length s - 8)
      → ((k : ℕ) → k < 8 → P (get_or s (0 + k) 0)) → ((k : ℕ) → k < 8 → P (get_or s (b + k) 0)) → ((k : ℕ) → k < 8 → P (get_or s (length s - 8 - b + k) 0))
      → ((k : ℕ) → k < 8 → P (get_or s (length s - 8 + k) 0)) → (k : ℕ) → k < length s → P (get_or s k 0)
  bytes_four b l e eb f g h i =
      bytes_last (length s - 8 - b + 8) 8 l (omega arith)
      (λ k x. bytes_on (length s - 8 - b) 8 (λ j y. bytes_on b 8 (λ n z. rw zero-add at (f n (omega arith))) g j (omega arith)) h k x) i

-- ---- a test

module _ (test : ℕ → Bool) where
  pub every_at : (l : List ℕ) → every test l ≡ true → (k : ℕ) → k < length l → test (get_or l k 0) ≡ true
  unfolding every
  every_at [] e k h = absurd (omega arith)
  every_at (b ∷ bs) e zero h = (both_true (test b) (every test bs) e).0
  every_at (b ∷ bs) e (suc k) h = every_at bs (both_true (test b) (every test bs) e).1 k (omega arith)

  pub every_of : (l : List ℕ) → ((k : ℕ) → k < length l → test (get_or l k 0) ≡ true) → every test l ≡ true
  unfolding every
  every_of [] f = refl
  every_of (b ∷ bs) f = both (test b) (every test bs) (f 0 (omega arith)) (every_of bs (λ k h. f (suc k) (omega arith)))

  module _ (s : List ℕ) (at n : ℕ) (h : at + n ≤ length s) where
    part_size : length (take n (drop at s)) ≡ n
    part_size = simp (length-take, length-drop) (omega arith)

    part_byte : (k : ℕ) → k < n → get_or (take n (drop at s)) k 0 ≡ get_or s (at + k) 0
    part_byte k l = get_or-take n (drop at s) k 0 l ∙ get_or-drop at s k 0

    -- a part, by its places in the whole
    pub every_in : every test (take n (drop at s)) ≡ true → (k : ℕ) → k < n → test (get_or s (at + k) 0) ≡ true
    every_in e k l = ap test (sym (part_byte k l)) ∙ every_at (take n (drop at s)) e k (omega (arith, part_size, l))

    pub every_part : every test s ≡ true → every test (take n (drop at s)) ≡ true
    every_part e =
        every_of (take n (drop at s)) (λ k l.
        let m : k < n = omega (arith, part_size, l) in
        ap test (part_byte k m) ∙ every_at s e (at + k) (omega arith))

    -- a part that fails: the whole does
    pub every_fails : every test (take n (drop at s)) ≡ false → false ≡ every test s
    every_fails e = same_answer false (every test s) (λ z. absurd (true≢false (sym z))) (λ t. sym e ∙ every_part t)

  -- the last block of m bytes, where what is before it passed
  pub every_last : (s : List ℕ) (i m : ℕ) (r : Bool) → m ≤ length s → length s ≤ i + m → ((k : ℕ) → k < i → test (get_or s k 0) ≡ true)
      → r ≡ every test (take m (drop (length s - m) s)) → r ≡ every test s
  every_last s i m r h l f e =
      same_answer r (every test s)
      (λ t. every_of s (bytes_last (λ x. test x ≡ true) s i m h l f (every_in s (length s - m) m (omega arith) (sym e ∙ t))))
      (λ t. e ∙ every_part s (length s - m) m (omega arith) t)

  -- four blocks of 8 bytes, whatever the length from 8 to 32 is
  pub every_four : (s : List ℕ) (i : ℕ) (a b c d : Bool) → 8 ≤ length s → length s ≤ 32 → i ≡ min 8 (length s - 8)
      → a ≡ every test (take 8 (drop 0 s)) → b ≡ every test (take 8 (drop i s)) → c ≡ every test (take 8 (drop (length s - 8 - i) s)) → d ≡ every test (take 8 (drop (length s - 8) s))
      → ((a && b) && c) && d ≡ every test s
  every_four s i a b c d h l ei ea eb ec ed =
      same_answer (((a && b) && c) && d) (every test s)
      (λ t.
      let x = both_true ((a && b) && c) d t in
      let y = both_true (a && b) c x.0 in
      let z = both_true a b y.0 in
      every_of s
      (bytes_four (λ v. test v ≡ true) s i h l ei (every_in s 0 8 (omega arith) (sym ea ∙ z.0)) (every_in s i 8 (omega arith) (sym eb ∙ z.1))
      (every_in s (length s - 8 - i) 8 (omega arith) (sym ec ∙ y.1)) (every_in s (length s - 8) 8 (omega arith) (sym ed ∙ x.1))))
      (λ t.
      both ((a && b) && c) d
      (both (a && b) c (both a b (ea ∙ every_part s 0 8 (omega arith) t) (eb ∙ every_part s i 8 (omega arith) t)) (ec ∙ every_part s (length s - 8 - i) 8 (omega arith) t))
      (ed ∙ every_part s (length s - 8) 8 (omega arith) t))

  -- a turn of a loop that tests k bytes, of which it has tested i
  pub every_turn : (s : List ℕ) (at k i : ℕ) (t all : Bool) → at + k ≤ length s → i < k → t && every test (take (k - i) (drop (at + i) s)) ≡ all
      → (t && test (get_or s (at + i) 0)) && every test (take (k - (i + 1)) (drop (at + (i + 1)) s)) ≡ all
  unfolding every
  every_turn s at k i t all h l e =
      let m : k - i ≡ suc (k - (i + 1)) = omega arith in
      let p : at + (i + 1) ≡ suc (at + i) = omega arith in
      rw (and_assoc, p) (rw (m, drop-cons s (at + i) 0 (omega arith)) at e)

  -- its end: all k are tested
  pub every_done : (l : List ℕ) (k i : ℕ) (t all : Bool) → k ≤ i → t && every test (take (k - i) l) ≡ all → t ≡ all
  unfolding every
  every_done l k i t all h e =
      let m : k - i ≡ 0 = omega arith in
      sym (and-true t) ∙ (rw m at e)
