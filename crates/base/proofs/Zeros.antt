-- The first zero of a text: where it can stand, over a text in two parts, at a position of a slice; and what a text that was found says of its bounds.
-- Assumes nothing.
use Rattle.std.specs.Prelude.{Result, Ok, Err}
use Rattle.base.specs.declared.error.TextError.{TextError}
use Rattle.base.specs.Number.{past_end}
use Rattle.base.proofs.Numbers.{ok_pair}
use Rattle.base.specs.declared.error.TextError.TheVariants.{PastEnd, NoZero}
use Prim.Native.Nat.{ℕ, zero, suc, ◌+◌, ◌-◌, ◌<◌, ◌≤◌, min}
use mathlib.Core.Path.{◌≡◌, refl, sym, ap, ◌∙◌}
use mathlib.Core.Bool.{Bool, true, false, not, ◌&&◌, true≢false}
use mathlib.Core.List.{List, [], ◌∷◌, ◌++◌}
use native.Mathlib.Nat.{zero-add, add-zero, suc-add}
use native.Mathlib.Numerals.{add-one}
use native.Mathlib.Omega.{arith}
use borrow.Author.Tests.{eq-eqb, ne_eqb, eqb-true, eqb-false, ltb-true, ltb-false, lt-ltb, leb-true, leb-false}
use lib.Dec.{eqb, ltb, leb}
use lib.ListN.{length, get_or, take, drop, length-append, length-take, length-drop, take-append-drop, drop_of_length-le}
use lib.Seq.{drop-cons, drop-drop}
use Rattle.base.specs.Choice.{pick}
use Rattle.base.specs.Text.{before_zero, every, zero_free, fixed_of, ended_of}

-- ---- one byte

-- a zero stands before nothing
pub before_zero_lem : (b : ℕ) (bs : List ℕ) → b ≡ 0 → before_zero (b ∷ bs) ≡ 0
unfolding before_zero
before_zero_lem b bs e = rw (eq-eqb _ _ e)

-- another byte is one more
pub before_other : (b : ℕ) (bs : List ℕ) → (b ≡ 0 → ⊥) → before_zero (b ∷ bs) ≡ suc (before_zero bs)
unfolding before_zero
before_other b bs e = rw (ne_eqb _ _ e)

-- and the test of all bytes fails at a zero, or goes on
free_zero : (b : ℕ) (bs : List ℕ) → b ≡ 0 → zero_free (b ∷ bs) ≡ false
unfolding every
free_zero b bs e = rw (eq-eqb _ _ e)

free_other : (b : ℕ) (bs : List ℕ) → (b ≡ 0 → ⊥) → zero_free (b ∷ bs) ≡ zero_free bs
unfolding every
free_other b bs e = rw (ne_eqb _ _ e)

-- a byte that passes the test is above zero
pub byte_some : (b : ℕ) → not (eqb b 0) ≡ true → 0 < b
byte_some zero e = absurd (true≢false (sym e))
byte_some (suc b) e = omega arith

-- ---- lists

-- a byte is zero or not
by_byte {ℓ} : {A : Type ℓ} (b : ℕ) → (b ≡ 0 → A) → ((b ≡ 0 → ⊥) → A) → A
by_byte {A = A} b f g = go (eqb b 0) refl
  where
    go : (t : Bool) → eqb b 0 ≡ t → A
    go true q = f (eqb-true b 0 q)
    go false q = g (eqb-false b 0 q)

pub before-le : (s : List ℕ) → before_zero s ≤ length s
before-le [] = unfold before_zero in omega arith
before-le (b ∷ bs) = by_byte b (λ e. omega (arith, before_zero_lem b bs e)) (λ e. omega (arith, before_other b bs e, before-le bs))

-- the same, by a name that an attribute can give
pub ruleset before_within = (before-le)

-- a zero in the first part is the first of the whole
pub before-append : (a b : List ℕ) → before_zero a < length a → before_zero (a ++ b) ≡ before_zero a
before-append [] b h = absurd (omega arith)
before-append (x ∷ a) b h =
    by_byte x (λ e. before_zero_lem x (a ++ b) e ∙ sym (before_zero_lem x a e))
    (λ e. before_other x (a ++ b) e ∙ ap suc (before-append a b (omega (arith, before_other x a e))) ∙ sym (before_other x a e))

-- a first part with no zero is passed
pub before_free : (a b : List ℕ) → before_zero a ≡ length a → before_zero (a ++ b) ≡ length a + before_zero b
before_free [] b h = sym (zero-add _)
before_free (x ∷ a) b h =
    by_byte x (λ e. absurd (omega (arith, before_zero_lem x a e)))
    (λ e. omega (arith, before_other x (a ++ b) e, before_free a b (omega (arith, before_other x a e))))

-- a list none of whose bytes is zero has no zero, and no byte before the first zero is one
pub free_of : (s : List ℕ) → ((i : ℕ) → i < length s → get_or s i 0 ≡ 0 → ⊥) → before_zero s ≡ length s
free_of [] h = unfold before_zero in refl
free_of (b ∷ bs) h = before_other b bs (h 0 (omega arith)) ∙ ap suc (free_of bs (λ i k. h (suc i) (omega arith)))

pub free_at : (s : List ℕ) (i : ℕ) → i < before_zero s → get_or s i 0 ≡ 0 → ⊥
free_at [] i h e = unfold before_zero in omega arith
free_at (b ∷ bs) zero h e = omega (arith, before_zero_lem b bs e)
free_at (b ∷ bs) (suc i) h e =
    by_byte b (λ z. omega (arith, before_zero_lem b bs z)) (λ z. free_at bs i (omega (arith, before_other b bs z)) e)

-- what stands at the first zero is zero
pub zero_at : (s : List ℕ) → before_zero s < length s → get_or s (before_zero s) 0 ≡ 0
zero_at [] h = absurd (omega arith)
zero_at (b ∷ bs) h =
    by_byte b (λ e. rw (before_zero_lem b bs e) e) (λ e. rw (before_other b bs e) (zero_at bs (omega (arith, before_other b bs e))))

-- the text before the first zero has none
pub before_text : (s : List ℕ) → before_zero (take (before_zero s) s) ≡ before_zero s
before_text [] = unfold before_zero in refl
before_text (b ∷ bs) =
    by_byte b (λ e. rw (before_zero_lem b bs e) (unfold before_zero in refl))
    (λ e. rw (before_other b bs e) (before_other b (take (before_zero bs) bs) e ∙ ap suc (before_text bs)))

-- and that is what the test of all bytes says
pub none_free : (s : List ℕ) → zero_free s ≡ true → before_zero s ≡ length s
none_free [] h = unfold before_zero in refl
none_free (b ∷ bs) h =
    by_byte b (λ e. let z : true ≡ false = sym h ∙ free_zero b bs e in absurd (true≢false z))
    (λ e. before_other b bs e ∙ ap suc (none_free bs (sym (free_other b bs e) ∙ h)))

-- ---- positions

module _ (s : List ℕ) (i : ℕ) (h : i < length s) where
  -- the byte at a position is the first zero, or one more before it
  pub zero_here : get_or s i 0 ≡ 0 → before_zero (drop i s) ≡ 0
  zero_here e = rw (drop-cons s i 0 h) (before_zero_lem _ _ e)

  pub zero_later : (get_or s i 0 ≡ 0 → ⊥) → before_zero (drop i s) ≡ suc (before_zero (drop (i + 1) s))
  zero_later e = rw (add-one, drop-cons s i 0 h) (before_other _ _ e)

-- at or past the end there is nothing
pub zero_none : (s : List ℕ) (i : ℕ) → length s ≤ i → before_zero (drop i s) ≡ 0
zero_none s i h = rw (drop_of_length-le s h) (unfold before_zero in refl)

-- k bytes with no zero are passed
pub zero_block : (s : List ℕ) (i k : ℕ) → i + k ≤ length s → zero_free (take k (drop i s)) ≡ true → before_zero (drop i s) ≡ k + before_zero (drop (i + k) s)
zero_block s i k h e =
    let l : length (take k (drop i s)) ≡ k = simp (length-take, length-drop) (omega arith) in
    ap before_zero (sym (take-append-drop k (drop i s))) ∙ before_free (take k (drop i s)) (drop k (drop i s)) (none_free _ e)
    ∙ rw (l, drop-drop)

-- no zero stands before a place, by that place or by the bytes up to it
pub before_skip : (s : List ℕ) (k : ℕ) → k ≤ before_zero s → before_zero s ≡ k + before_zero (drop k s)
before_skip s zero h = sym (zero-add _)
before_skip [] (suc k) h = absurd (unfold before_zero in omega arith)
before_skip (b ∷ bs) (suc k) h =
    by_byte b (λ e. absurd (omega (arith, before_zero_lem b bs e)))
    (λ e. before_other b bs e ∙ ap suc (before_skip bs k (omega (arith, before_other b bs e))) ∙ sym (suc-add k (before_zero (drop k bs))))

free_nil : zero_free [] ≡ true
unfolding every
free_nil = refl

free_take : (n : ℕ) (s : List ℕ) → n ≤ before_zero s → zero_free (take n s) ≡ true
free_take zero s h = free_nil
free_take (suc n) [] h = absurd (unfold before_zero in omega arith)
free_take (suc n) (b ∷ bs) h =
    by_byte b (λ e. absurd (omega (arith, before_zero_lem b bs e)))
    (λ e. free_other b (take n bs) e ∙ free_take n bs (omega (arith, before_other b bs e)))

-- a block from a place on that no zero stands before
pub block_free : (s : List ℕ) (at n : ℕ) → at ≤ before_zero s → at + n ≤ length s → zero_free (take n (drop at s)) ≡ true → at + n ≤ before_zero s
block_free s at n h k e = omega (arith, before_skip s at h, zero_block s at n k e)

pub block_zero : (s : List ℕ) (at n : ℕ) → at ≤ before_zero s → zero_free (take n (drop at s)) ≡ false → before_zero s < at + n
block_zero s at n h e = go (leb (at + n) (before_zero s)) refl
  where
    go : (t : Bool) → leb (at + n) (before_zero s) ≡ t → before_zero s < at + n
    go true q =
        let l = leb-true (at + n) (before_zero s) q in
        let f = free_take n (drop at s) (omega (arith, before_skip s at h)) in
        let z : true ≡ false = sym f ∙ e in
        absurd (true≢false z)
    go false q = leb-false (at + n) (before_zero s) q

-- four blocks of 8, by what is known of the first three
pub zero_in_four : (s : List ℕ) (at : ℕ) (x y z : Bool) (i j k : ℕ) → at + 32 ≤ length s → at ≤ before_zero s → before_zero s < at + 32
    → x ≡ zero_free (take 8 (drop at s)) → y ≡ zero_free (take 8 (drop (at + 8) s)) → z ≡ zero_free (take 8 (drop (at + 16) s))
    → i ≡ pick x 8 0 → j ≡ pick (x && y) 8 0 → k ≡ pick ((x && y) && z) 8 0 → (at + i + j + k ≤ before_zero s) × (before_zero s < at + i + j + k + 8)
zero_in_four s at false y z i j k h l m ex ey ez ei ej ek =
    let a : i ≡ 0 = ei in
    let b : j ≡ 0 = ej in
    let c : k ≡ 0 = ek in
    let f = block_zero s at 8 l (sym ex) in
    (omega (arith, a, b, c, f), omega (arith, a, b, c, f))
zero_in_four s at true false z i j k h l m ex ey ez ei ej ek =
    let a : i ≡ 8 = ei in
    let b : j ≡ 0 = ej in
    let c : k ≡ 0 = ek in
    let p : at + 8 ≤ before_zero s = block_free s at 8 l (omega arith) (sym ex) in
    let f = block_zero s (at + 8) 8 p (sym ey) in
    (omega (arith, a, b, c, p, f), omega (arith, a, b, c, p, f))
zero_in_four s at true true false i j k h l m ex ey ez ei ej ek =
    let a : i ≡ 8 = ei in
    let b : j ≡ 8 = ej in
    let c : k ≡ 0 = ek in
    let p : at + 8 ≤ before_zero s = block_free s at 8 l (omega arith) (sym ex) in
    let q : at + 8 + 8 ≤ before_zero s = block_free s (at + 8) 8 p (omega arith) (sym ey) in
    let f = block_zero s (at + 16) 8 (omega (arith, q)) (sym ez) in
    (omega (arith, a, b, c, q, f), omega (arith, a, b, c, q, f))
zero_in_four s at true true true i j k h l m ex ey ez ei ej ek =
    let a : i ≡ 8 = ei in
    let b : j ≡ 8 = ej in
    let c : k ≡ 8 = ek in
    let p : at + 8 ≤ before_zero s = block_free s at 8 l (omega arith) (sym ex) in
    let q : at + 8 + 8 ≤ before_zero s = block_free s (at + 8) 8 p (omega arith) (sym ey) in
    let f : at + 16 + 8 ≤ before_zero s = block_free s (at + 16) 8 (omega (arith, q)) (omega arith) (sym ez) in
    (omega (arith, a, b, c, f), omega (arith, a, b, c, m))

-- ---- the answers, taken apart

-- a text of a field: it lies within the field, and the field within the slice
pub record Fixed (n : ℕ) (s : List ℕ) (at len next : ℕ) : Type 0 where
  pub starts : at + min n 1 ≤ length s
  pub text : len ≡ before_zero (take n (drop at s))
  pub within : at + len ≤ next
  pub field : next ≡ at + min n (length s - at)
  pub fits : next ≤ length s

pub fixed_text_lem : (n : ℕ) (s : List ℕ) (at len next : ℕ) → fixed_of n s at ≡ Ok (len, next) → Fixed n s at len next
unfolding fixed_of
fixed_text_lem n s at len next e = go (leb (at + min n 1) (length s)) refl e
  where
    go : (t : Bool) → leb (at + min n 1) (length s) ≡ t
        → pick {A = Result (ℕ × ℕ) TextError} t (Ok (before_zero (take n (drop at s)), at + length (take n (drop at s)))) (Err (PastEnd (past_end at n))) ≡ Ok (len, next)
        → Fixed n s at len next
    go true q e =
        let i : at + min n 1 ≤ length s = leb-true _ _ q in
        let a : before_zero (take n (drop at s)) ≡ len = (ok_pair e).0 in
        let b : at + length (take n (drop at s)) ≡ next = (ok_pair e).1 in
        let l : length (take n (drop at s)) ≡ min n (length s - at) = simp (length-take, length-drop) in
        let z = before-le (take n (drop at s)) in
        record { starts = i; text = sym a; within = omega arith; field = omega arith; fits = omega arith }
    go false q e = let z : ◌≡◌ {A = ℕ} 0 1 = cc in absurd (omega arith)

-- a text that ends at a zero: the zero lies within the slice, and the next position after it
pub record Ended (s : List ℕ) (at len next : ℕ) : Type 0 where
  pub text : len ≡ before_zero (drop at s)
  pub after : next ≡ at + len + 1
  pub fits : next ≤ length s

pub ended_text_lem : (s : List ℕ) (at len next : ℕ) → ended_of s at ≡ Ok (len, next) → Ended s at len next
unfolding ended_of
ended_text_lem s at len next e = go (ltb (at + before_zero (drop at s)) (length s)) refl e
  where
    go : (t : Bool) → ltb (at + before_zero (drop at s)) (length s) ≡ t
        → pick {A = Result (ℕ × ℕ) TextError} t (Ok (before_zero (drop at s), at + before_zero (drop at s) + 1)) (Err (NoZero at)) ≡ Ok (len, next)
        → Ended s at len next
    go true q e =
        let i : at + before_zero (drop at s) < length s = ltb-true _ _ q in
        let a : before_zero (drop at s) ≡ len = (ok_pair e).0 in
        let b : at + before_zero (drop at s) + 1 ≡ next = (ok_pair e).1 in
        record { text = sym a; after = omega arith; fits = omega arith }
    go false q e = let z : ◌≡◌ {A = ℕ} 0 1 = cc in absurd (omega arith)

-- where the text t stands, and a zero after it
pub ended_there : (s : List ℕ) (at : ℕ) (t rest : List ℕ) → drop at s ≡ t ++ 0 ∷ rest → before_zero t ≡ length t → ended_of s at ≡ Ok (length t, at + length t + 1)
unfolding ended_of
ended_there s at t rest e f =
    let b : before_zero (drop at s) ≡ length t = ap before_zero e ∙ before_free t (0 ∷ rest) f ∙ rw (before_zero_lem 0 rest refl, add-zero) in
    let d : length s - at ≡ length t + suc (length rest) = sym (length-drop at s) ∙ ap length e ∙ length-append t (0 ∷ rest) in
    rw (b, lt-ltb (at + length t) (length s) (omega arith))

-- a text that is refused: no zero from its start on
pub ended_unended : (s : List ℕ) (at a : ℕ) → ended_of s at ≡ Err (NoZero a) → (length s ≤ at + before_zero (drop at s)) × (a ≡ at)
unfolding ended_of
ended_unended s at a e = go (ltb (at + before_zero (drop at s)) (length s)) refl e
  where
    go : (t : Bool) → ltb (at + before_zero (drop at s)) (length s) ≡ t
        → pick {A = Result (ℕ × ℕ) TextError} t (Ok (before_zero (drop at s), at + before_zero (drop at s) + 1)) (Err (NoZero at)) ≡ Err (NoZero a)
        → (length s ≤ at + before_zero (drop at s)) × (a ≡ at)
    go true q e = let z : ◌≡◌ {A = ℕ} 0 1 = cc in absurd (omega arith)
    go false q e = (ltb-false _ _ q, cc)

-- and it is refused for nothing else
pub ended_never_past : (s : List ℕ) (at o m : ℕ) → ended_of s at ≡ Err (PastEnd (past_end o m)) → ⊥
unfolding ended_of
ended_never_past s at o m e = go (ltb (at + before_zero (drop at s)) (length s)) e
  where
    go : (t : Bool) → pick {A = Result (ℕ × ℕ) TextError} t (Ok (before_zero (drop at s), at + before_zero (drop at s) + 1)) (Err (NoZero at)) ≡ Err (PastEnd (past_end o m)) → ⊥
    go true e = let z : ◌≡◌ {A = ℕ} 0 1 = cc in omega arith
    go false e = let z : ◌≡◌ {A = ℕ} 0 1 = cc in omega arith
