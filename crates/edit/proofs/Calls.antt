-- What the two calls answer, case by case, and the bytes of a field in three words. Assumes nothing.
use Prim.Native.Nat.{ℕ, zero, suc, ◌+◌, ◌-◌, ◌*◌, ◌/◌, ◌%◌, ◌^◌, ◌<◌, ◌≤◌}
use mathlib.Core.Path.{◌≡◌, refl, sym, ap, ◌∙◌}
use mathlib.Core.Bool.{Bool, true, false, ◌&&◌}
use mathlib.Core.List.{List, [], ◌∷◌, ◌++◌}
use native.Mathlib.Nat.{add-zero, zero-add, suc-add}
use native.Mathlib.Omega.{arith}
use borrow.Author.Tests.{eqb-true, eqb-false, leb-true, ltb-true, ltb-false, le-leb, lt-leb, lt-ltb, le-ltb, eq-eqb, ne_eqb}
use lib.Dec.{eqb, leb, ltb}
use lib.ListN.{length, get_or, take, drop, length-drop}
use lib.Seq.{sets, get_or-drop}
use Rattle.base.specs.Number.{le, put}
use Rattle.base.proofs.Numbers.{length-le}
use Rattle.base.proofs.Stores.{sets-turn}
use Rattle.bflan.specs.Limits.{limit}
use Rattle.bflan.proofs.place.Fields.{and_left, and_right}
use Rattle.edit.specs.declared.journal.Entry.{Entry}
use Rattle.edit.specs.declared.journal.Packed.{Packed}
use Rattle.std.specs.Prelude.{Ok, Err}
use Rattle.edit.specs.declared.undo.UndoError.TheVariants.{NothingToUndo, BadJournal}
use Rattle.edit.specs.Editing.{of_undoing, restored, undoing}
use Rattle.edit.specs.Journal.{entry_words, capacity, entry_at, bytes_in, field_size, all_zero, restorable}
use Rattle.edit.specs.inner.Packing.{unpacked, entry_list}

-- ---- zeros behind the bytes of a number

and_assoc : (a b c : Bool) → (a && b) && c ≡ a && (b && c)
and_assoc true b c = refl
and_assoc false b c = refl

zero_append : (xs ys : List ℕ) → all_zero (xs ++ ys) ≡ all_zero xs && all_zero ys
unfolding all_zero
zero_append [] ys = refl
zero_append (x ∷ xs) ys = ap (λ (t : Bool). eqb x 0 && t) (zero_append xs ys) ∙ sym (and_assoc (eqb x 0) (all_zero xs) (all_zero ys))

zero_step : (n : ℕ) → eqb (n % 256) 0 && eqb (n / 256) 0 ≡ eqb n 0
zero_step n = go (eqb n 0) refl
  where
    other : (n ≡ 0 → ⊥) → (t : Bool) → eqb (n % 256) 0 ≡ t → t && eqb (n / 256) 0 ≡ false
    other e true d = ne_eqb (n / 256) 0 (λ z. e (let y = eqb-true (n % 256) 0 d in omega arith))
    other e false d = refl

    go : (t : Bool) → eqb n 0 ≡ t → eqb (n % 256) 0 && eqb (n / 256) 0 ≡ t
    go true e =
        let z = eqb-true n 0 e in
        let a : n % 256 ≡ 0 = omega arith in
        let b : n / 256 ≡ 0 = omega arith in
        rw (eq-eqb (n % 256) 0 a, eq-eqb (n / 256) 0 b)
    go false e = other (eqb-false n 0 e) (eqb (n % 256) 0) refl

zero_le : (k n : ℕ) → n < 256 ^ k → all_zero (le k n) ≡ eqb n 0
unfolding all_zero le
zero_le zero n h = sym (eq-eqb n 0 (omega arith))
zero_le (suc k) n h = rw (zero_le k (n / 256) (omega arith)) (zero_step n)

ltb_one : (n : ℕ) → eqb n 0 ≡ ltb n 1
ltb_one zero = refl
ltb_one (suc n) = ne_eqb (suc n) 0 (λ e. omega arith) ∙ sym (le-ltb (suc n) 1 (omega arith))

ltb_high : (n b : ℕ) → ltb (n / 256) b ≡ ltb n (256 * b)
ltb_high n b = go (ltb n (256 * b)) refl
  where
    go : (t : Bool) → ltb n (256 * b) ≡ t → ltb (n / 256) b ≡ t
    go true e = lt-ltb (n / 256) b (let h = ltb-true n (256 * b) e in omega arith)
    go false e = le-ltb (n / 256) b (let h = ltb-false n (256 * b) e in omega arith)

-- the bytes behind the first j are zeros where the number is below 256 ^ j
zero_behind : (j k n : ℕ) → n < 256 ^ (j + k) → all_zero (drop j (le (j + k) n)) ≡ ltb n (256 ^ j)
unfolding le
zero_behind zero k n h = rw (zero-add k) (zero_le k n (rw (zero-add k) at h) ∙ ltb_one n)
zero_behind (suc j) k n h =
    let g : n < 256 ^ suc (j + k) = rw (suc-add j k) at h in
    let e : 256 * 256 ^ j ≡ 256 ^ suc j = omega arith in
    rw (suc-add j k) (zero_behind j k (n / 256) (omega (arith, g)) ∙ ltb_high n (256 ^ j) ∙ ap (ltb n) e)

-- ---- the twelve bytes in three words: which counts they may have

module _ (p : Packed) (ha : p.a < 4294967296) (hb : p.b < 4294967296) (hc : p.c < 4294967296) where
  c_zero : all_zero (le 4 p.c) ≡ eqb p.c 0
  c_zero = zero_le 4 p.c hc

  bc_zero : all_zero (le 4 p.b ++ le 4 p.c) ≡ eqb p.b 0 && eqb p.c 0
  bc_zero = zero_append (le 4 p.b) (le 4 p.c) ∙ rw (zero_le 4 p.b hb, c_zero)

  fill_1 : all_zero (drop 1 (unpacked p)) ≡ ltb p.a 256 && (eqb p.b 0 && eqb p.c 0)
  unfolding unpacked le
  fill_1 = zero_append (drop 1 (le 4 p.a)) (le 4 p.b ++ le 4 p.c) ∙ rw (zero_behind 1 3 p.a ha, bc_zero)

  fill_2 : all_zero (drop 2 (unpacked p)) ≡ ltb p.a 65536 && (eqb p.b 0 && eqb p.c 0)
  unfolding unpacked le
  fill_2 = zero_append (drop 2 (le 4 p.a)) (le 4 p.b ++ le 4 p.c) ∙ rw (zero_behind 2 2 p.a ha, bc_zero)

  fill_4 : all_zero (drop 4 (unpacked p)) ≡ eqb p.b 0 && eqb p.c 0
  unfolding unpacked le
  fill_4 = bc_zero

  fill_6 : all_zero (drop 6 (unpacked p)) ≡ ltb p.b 65536 && eqb p.c 0
  unfolding unpacked le
  fill_6 = zero_append (drop 2 (le 4 p.b)) (le 4 p.c) ∙ rw (zero_behind 2 2 p.b hb, c_zero)

  module _ (n : ℕ) where
    pub filled_1 : n ≡ 1 → ltb p.a 256 && (eqb p.b 0 && eqb p.c 0) ≡ field_size n && all_zero (drop n (unpacked p))
    unfolding field_size
    filled_1 e = rw e (sym fill_1)

    pub filled_2 : n ≡ 2 → ltb p.a 65536 && (eqb p.b 0 && eqb p.c 0) ≡ field_size n && all_zero (drop n (unpacked p))
    unfolding field_size
    filled_2 e = rw e (sym fill_2)

    pub filled_4 : n ≡ 4 → eqb p.b 0 && eqb p.c 0 ≡ field_size n && all_zero (drop n (unpacked p))
    unfolding field_size
    filled_4 e = rw e (sym fill_4)

    pub filled_6 : n ≡ 6 → ltb p.b 65536 && eqb p.c 0 ≡ field_size n && all_zero (drop n (unpacked p))
    unfolding field_size
    filled_6 e = rw e (sym fill_6)

other_size : (n : ℕ) → (n ≡ 1 → ⊥) → (n ≡ 2 → ⊥) → (n ≡ 4 → ⊥) → (n ≡ 6 → ⊥) → (n ≡ 12 → ⊥) → field_size n ≡ false
unfolding field_size
other_size n a b c d e = rw (ne_eqb n 1 a, ne_eqb n 2 b, ne_eqb n 4 c, ne_eqb n 6 d, ne_eqb n 12 e)

-- a field has a byte
pub size_some : (n : ℕ) → field_size n ≡ true → 0 < n
unfolding field_size
size_some zero e = absurd (let z : ◌≡◌ {A = ℕ} 0 1 = cc in omega arith)
size_some (suc n) e = omega arith

-- the size that is left
pub size_twelve : (n : ℕ) → field_size n ≡ true → (n ≡ 1 → ⊥) → (n ≡ 2 → ⊥) → (n ≡ 4 → ⊥) → (n ≡ 6 → ⊥) → n ≡ 12
size_twelve n h a b c d = go (eqb n 12) refl
  where
    go : (t : Bool) → eqb n 12 ≡ t → n ≡ 12
    go true e = eqb-true n 12 e
    go false e = absurd (let f : field_size n ≡ false = other_size n a b c d (eqb-false n 12 e) in let g : ◌≡◌ {A = Bool} false true = sym f ∙ h in let z : ◌≡◌ {A = ℕ} 0 1 = cc in omega arith)

-- ---- the first bytes of them, stored

pub put_at : (s : List ℕ) (o o' v : ℕ) → o ≡ o' → put 4 s o v ≡ sets s o' (le 4 v)
unfolding put
put_at s o o' v e = ap (λ (k : ℕ). sets s k (le 4 v)) e

pub behind_put : (s : List ℕ) (at a : ℕ) (v : List ℕ) {s₁ : List ℕ} → s₁ ≡ put 4 s at a → sets s₁ (at + 4) v ≡ sets s at (le 4 a ++ v)
unfolding put
behind_put s at a v {s₁} e = sets-turn s at (le 4 a ++ v) (le 4 a) v s₁ (at + 4) refl e (ap (λ (k : ℕ). at + k) (sym (length-le 4 a)))

module _ (s : List ℕ) (at : ℕ) (p : Packed) (n : ℕ) where
  pub packed_1 : n ≡ 1 → put 1 s at p.a ≡ sets s at (take n (unpacked p))
  unfolding put unpacked
  packed_1 e = rw e (unfold le in refl)

  pub packed_2 : n ≡ 2 → put 2 s at p.a ≡ sets s at (take n (unpacked p))
  unfolding put unpacked
  packed_2 e = rw e (unfold le in refl)

  pub packed_4 : n ≡ 4 → put 4 s at p.a ≡ sets s at (take n (unpacked p))
  unfolding put unpacked
  packed_4 e = rw e (unfold le in refl)

  pub packed_6 : n ≡ 6 → {s₁ s₂ : List ℕ} → s₁ ≡ put 4 s at p.a → s₂ ≡ put 2 s₁ (at + 4) p.b → s₂ ≡ sets s at (take n (unpacked p))
  packed_6 e {s₁} {s₂} e₁ e₂ =
      let l : sets s at (le 4 p.a ++ le 2 p.b) ≡ sets s at (take 6 (unpacked p)) = unfold unpacked le in refl in
      let w : put 2 s₁ (at + 4) p.b ≡ sets s₁ (at + 4) (le 2 p.b) = unfold put in refl in
      rw e (e₂ ∙ w ∙ behind_put s at p.a (le 2 p.b) e₁ ∙ l)

  pub packed_12 : n ≡ 12 → {s₁ s₂ s₃ : List ℕ} → s₁ ≡ put 4 s at p.a → s₂ ≡ put 4 s₁ (at + 4) p.b → s₃ ≡ put 4 s₂ (at + 8) p.c → s₃ ≡ sets s at (take n (unpacked p))
  packed_12 e {s₁} {s₂} {s₃} e₁ e₂ e₃ =
      let q : at + 8 ≡ at + 4 + 4 = omega arith in
      let l : sets s at (le 4 p.a ++ (le 4 p.b ++ le 4 p.c)) ≡ sets s at (take 12 (unpacked p)) = unfold unpacked le in refl in
      let w = put_at s₂ (at + 8) (at + 4 + 4) p.c q in
      rw e
      (e₃ ∙ w ∙ behind_put s₁ (at + 4) p.b (le 4 p.c) e₂
      ∙ behind_put s at p.a (le 4 p.b ++ le 4 p.c) e₁ ∙ l)

-- ---- entries

five : (l : List ℕ) → 5 ≤ length l → get_or l 0 0 ∷ get_or l 1 0 ∷ get_or l 2 0 ∷ get_or l 3 0 ∷ get_or l 4 0 ∷ [] ≡ take 5 l
five [] h = absurd (omega arith)
five (a ∷ []) h = absurd (omega arith)
five (a ∷ b ∷ []) h = absurd (omega arith)
five (a ∷ b ∷ c ∷ []) h = absurd (omega arith)
five (a ∷ b ∷ c ∷ d ∷ []) h = absurd (omega arith)
five (a ∷ b ∷ c ∷ d ∷ e ∷ l) h = refl

pub entry_read : (j : List ℕ) (n : ℕ) → entry_words * n + entry_words ≤ length j
    → get_or j (entry_words * n) 0 ∷ get_or j (entry_words * n + 1) 0 ∷ get_or j (entry_words * n + 2) 0 ∷ get_or j (entry_words * n + 3) 0 ∷ get_or j (entry_words * n + 4) 0 ∷ [] ≡ entry_at j n
unfolding entry_at
entry_read j n h =
    let k : entry_words ≤ length (drop (entry_words * n) j) = rw (length-drop (entry_words * n) j) (omega arith) in
    let f = five (drop (entry_words * n) j) k in
    rw (get_or-drop (entry_words * n) j 0 0, get_or-drop (entry_words * n) j 1 0, get_or-drop (entry_words * n) j 2 0, get_or-drop (entry_words * n) j 3 0, get_or-drop (entry_words * n) j 4 0, add-zero) at f

module _ (e : Entry) (size : ℕ) where
  pub restorable_size : restorable size (entry_list e) ≡ true → field_size e.count ≡ true
  unfolding restorable entry_list
  restorable_size h = and_left (field_size e.count) (all_zero (drop e.count (bytes_in (entry_list e))) && leb (e.at + e.count) size) h

  pub restorable_fits : restorable size (entry_list e) ≡ true → e.at + e.count ≤ size
  unfolding restorable entry_list
  restorable_fits h =
      let z = all_zero (drop e.count (bytes_in (entry_list e))) in
      leb-true (e.at + e.count) size (and_right z (leb (e.at + e.count) size) (and_right (field_size e.count) (z && leb (e.at + e.count) size) h))

  pub restorable_inside : restorable size (entry_list e) ≡ true → e.at < size
  restorable_inside h = omega (arith, restorable_fits h, size_some e.count (restorable_size h))

-- ---- undoing

module _ (s j : List ℕ) (count : ℕ) (h : length s ≤ 16777216) where
  pub undo-none : count ≡ 0 → (of_undoing (Err NothingToUndo), s) ≡ undoing s j count
  unfolding undoing
  undo-none e = rw (le-leb (length s) limit h, eq-eqb count 0 e)

  module _ (k : count ≡ 0 → ⊥) where
    pub undo_above : length j / entry_words < count → (of_undoing (Err (BadJournal count)), s) ≡ undoing s j count
    unfolding undoing capacity
    undo_above l = rw (le-leb (length s) limit h, ne_eqb count 0 k, lt-leb count (length j / entry_words) l)

    pub undo-good : count ≤ length j / entry_words → (e : Entry) (t : Bool) (s' : List ℕ) → entry_list e ≡ entry_at j (count - 1) → t ≡ restorable (length s) (entry_list e) → t ≡ true → s' ≡ restored s (entry_list e)
        → (of_undoing (Ok (count - 1)), s') ≡ undoing s j count
    unfolding undoing capacity
    undo-good l e t s' d f g r =
        let z : restorable (length s) (entry_at j (count - 1)) ≡ true = rw (← d) (sym f ∙ g) in
        rw (le-leb (length s) limit h, ne_eqb count 0 k, le-leb count (length j / entry_words) l, z, ← d, r)
