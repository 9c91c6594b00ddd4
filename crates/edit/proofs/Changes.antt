-- A change: which values a field takes, its bytes as they are written, the entry of the bytes that stood there, and what the call answers.
-- Assumes nothing.
use Prim.Native.Nat.{ℕ, zero, suc, ◌+◌, ◌-◌, ◌*◌, ◌/◌, ◌^◌, ◌<◌, ◌≤◌, min}
use mathlib.Core.Path.{◌≡◌, refl, sym, ap, ◌∙◌}
use mathlib.Core.Bool.{Bool, true, false, ◌&&◌, and-true, and-false}
use mathlib.Core.List.{List, [], ◌∷◌, ◌++◌, append-nil}
use native.Mathlib.Nat.{add-zero}
use native.Mathlib.Omega.{arith}
use borrow.Author.Tests.{leb-true, leb-false, lt-ltb, le-ltb}
use lib.Dec.{leb, ltb}
use lib.ListN.{length, get_or, take, drop, replicate, length-drop}
use lib.Seq.{sets, take-nil, drop-drop, length-take-le}
use Rattle.base.specs.Choice.{pick}
use Rattle.base.specs.Float.{float_of, hermite_of, pattern_of, patterns_of, put_patterns}
use Rattle.base.specs.Number.{le, val, get, put}
use Rattle.base.specs.declared.float.Binary32.{Binary32}
use Rattle.base.specs.declared.float.Hermite.{Hermite as HermiteForm}
use Rattle.base.specs.declared.float.HermiteBits.{HermiteBits}
use Rattle.base.specs.Outcome.{Outcome}
use Rattle.base.proofs.Floats.{pattern_back, patterns_back}
use Rattle.base.proofs.Numbers.{get_zero, get_suc}
use Rattle.bflan.specs.Answer.{too_long}
use Rattle.bflan.specs.Layout.{written, row}
use Rattle.bflan.specs.Limits.{limit}
use Rattle.bflan.specs.pai1.Locating.{of_spot, locating_in, locating, of_located}
use Rattle.bflan.specs.pai1.Places.{Spot, nowhere, spot, widths, total, fit_widths, allowed, fit, locate}
use Rattle.bflan.specs.Reader.{Res, ok, stop, Item}
use Rattle.bflan.specs.pai1.Reading.{section}
use Rattle.bflan.specs.pai1.Record.{key_widths}
use Rattle.bflan.proofs.place.Fields.{unlike, and_left}
use Rattle.bflan.specs.declared.place.Field.{Field}
use Rattle.bflan.specs.declared.place.Field.TheVariants.{FrameCount, Looping, Layer, Target, Key, Value}
use Rattle.std.specs.Prelude.{Result, Ok, Err}
use Rattle.bflan.specs.declared.place.FieldSpot.{FieldSpot}
use Rattle.bflan.specs.declared.place.LocateError.{LocateError}
use Rattle.bflan.specs.declared.place.LocateError.TheVariants.{TooLong, Fault as Unread, NoSuchPlace}
use Rattle.bflan.specs.declared.place.Place.{Place}
use Rattle.edit.proofs.Calls.{put_at, behind_put}
use Rattle.edit.specs.declared.edit.EditError.TheVariants.{JournalFull}
use Rattle.edit.specs.declared.journal.Packed.{Packed}
use Rattle.edit.specs.declared.values.Values.{Values}
use Rattle.edit.specs.declared.values.Values.TheVariants.{One, Two, Three}
use Rattle.edit.specs.Editing.{edit_error, of_editing, old_at, at_spot, on_reading, editing}
use Rattle.edit.specs.Format.{pai1}
use Rattle.edit.specs.Journal.{entry_words, capacity, padded, entry_of}
use Rattle.edit.specs.inner.Packing.{unpacked, packed, words_of, entry_list, values_in, one_most}

-- ---- which values a field takes

most_below : (a m n : ℕ) → n ≡ m + 1 → leb a m ≡ ltb a n
most_below a m n e = go (leb a m) refl
  where
    go : (t : Bool) → leb a m ≡ t → t ≡ ltb a n
    go true d = let h = leb-true a m d in sym (lt-ltb a n (omega arith))
    go false d = let h = leb-false a m d in sym (le-ltb a n (omega arith))

-- one value of k bytes
one_width : (k m : ℕ) → 256 ^ k ≡ m + 1 → (vs : List ℕ) → one_most vs m ≡ fit_widths (k ∷ []) vs
unfolding one_most fit_widths
one_width k m e [] = refl
one_width k m e (a ∷ []) = most_below a m (256 ^ k) e ∙ sym (and-true (ltb a (256 ^ k)))
one_width k m e (a ∷ b ∷ vs) = sym (and-false (ltb a (256 ^ k)))

module _ (vs : List ℕ) where
  pub fit_frames : one_most vs 65535 ≡ fit FrameCount vs
  unfolding fit widths allowed
  fit_frames = one_width 2 65535 refl vs ∙ sym (and-true (fit_widths (2 ∷ []) vs))

  pub fit_layer : one_most vs 255 ≡ fit Layer vs
  unfolding fit widths allowed
  fit_layer = one_width 1 255 refl vs ∙ sym (and-true (fit_widths (1 ∷ []) vs))

  pub fit_value : one_most vs 4294967295 ≡ fit Value vs
  unfolding fit widths allowed
  fit_value = one_width 4 4294967295 refl vs ∙ sym (and-true (fit_widths (4 ∷ []) vs))

  pub fit_key : (c : ℕ) (t : Bool) → t ≡ fit_widths (key_widths c) vs → t ≡ fit (Key c) vs
  unfolding fit widths allowed
  fit_key c t e = e ∙ sym (and-true (fit_widths (key_widths c) vs))

  pub fit_constant : (c : ℕ) → c ≡ 0 → one_most vs 4294967295 ≡ fit (Key c) vs
  fit_constant c e = fit_key c (one_most vs 4294967295) (one_width 4 4294967295 refl vs ∙ (unfold key_widths in rw e))

-- looping is 0 or 1
low_loop : (a : ℕ) → leb a 1 ≡ ltb a 256 && leb a 1
low_loop a = go (leb a 1) refl
  where
    go : (t : Bool) → leb a 1 ≡ t → t ≡ ltb a 256 && t
    go true e = let h = leb-true a 1 e in rw (lt-ltb a 256 (omega arith))
    go false e = sym (and-false (ltb a 256))

pub fit_looping : (vs : List ℕ) → one_most vs 1 ≡ fit Looping vs
unfolding fit widths allowed one_most fit_widths
fit_looping [] = refl
fit_looping (a ∷ []) = low_loop a ∙ ap (λ (t : Bool). t && leb a 1) (sym (and-true (ltb a 256)))
fit_looping (a ∷ b ∷ vs) = ap (λ (t : Bool). t && leb a 1) (sym (and-false (ltb a 256)))

-- a key's values
pub step_one : (a : ℕ) → false ≡ fit_widths (4 ∷ 2 ∷ []) (values_in (One a))
unfolding fit_widths values_in
step_one a = sym (and-false (ltb a 4294967296))

pub step_three : (a b c : ℕ) → false ≡ fit_widths (4 ∷ 2 ∷ []) (values_in (Three a b c))
unfolding fit_widths values_in
step_three a b c = sym (ap (λ (t : Bool). ltb a 4294967296 && t) (and-false (ltb b 65536)) ∙ and-false (ltb a 4294967296))

pub hermite_one : (a : ℕ) → false ≡ fit_widths (4 ∷ 4 ∷ 4 ∷ []) (values_in (One a))
unfolding fit_widths values_in
hermite_one a = sym (and-false (ltb a 4294967296))

pub hermite_two : (a b : ℕ) → false ≡ fit_widths (4 ∷ 4 ∷ 4 ∷ []) (values_in (Two a b))
unfolding fit_widths values_in
hermite_two a b = sym (ap (λ (t : Bool). ltb a 4294967296 && t) (and-false (ltb b 4294967296)) ∙ and-false (ltb a 4294967296))

-- ---- the bytes that are written

module _ (a : ℕ) (b : ℕ) (vs : List ℕ) (k : ℕ) where
  none_more : fit_widths (k ∷ []) (a ∷ b ∷ vs) ≡ true → ⊥
  unfolding fit_widths
  none_more e = unlike (sym (and-false (ltb a (256 ^ k))) ∙ e)

-- ---- a field that takes so many values has as many widths

widths-fit : (f : Field) (vs : List ℕ) → fit f vs ≡ true → fit_widths (widths f) vs ≡ true
unfolding fit
widths-fit f vs e = and_left (fit_widths (widths f) vs) (allowed f vs) e

one_widths : (curve a : ℕ) → fit_widths (key_widths curve) (a ∷ []) ≡ true → key_widths curve ≡ 4 ∷ []
unfolding key_widths values_in
one_widths zero a e = refl
one_widths (suc zero) a e = absurd (unlike (step_one a ∙ e))
one_widths (suc (suc c)) a e = absurd (unlike (hermite_one a ∙ e))

two_widths : (f : Field) (a b : ℕ) → fit_widths (widths f) (a ∷ b ∷ []) ≡ true → widths f ≡ 4 ∷ 2 ∷ []
unfolding widths key_widths values_in
two_widths FrameCount a b e = absurd (none_more a b [] 2 e)
two_widths Looping a b e = absurd (none_more a b [] 1 e)
two_widths Layer a b e = absurd (none_more a b [] 1 e)
two_widths (Target letters) a b e = absurd (none_more a b [] 1 e)
two_widths (Key zero) a b e = absurd (none_more a b [] 4 e)
two_widths (Key (suc zero)) a b e = refl
two_widths (Key (suc (suc c))) a b e = absurd (unlike (hermite_two a b ∙ e))
two_widths Value a b e = absurd (none_more a b [] 4 e)

three_widths : (f : Field) (a b c : ℕ) → fit_widths (widths f) (a ∷ b ∷ c ∷ []) ≡ true → widths f ≡ 4 ∷ 4 ∷ 4 ∷ []
unfolding widths key_widths values_in
three_widths FrameCount a b c e = absurd (none_more a b (c ∷ []) 2 e)
three_widths Looping a b c e = absurd (none_more a b (c ∷ []) 1 e)
three_widths Layer a b c e = absurd (none_more a b (c ∷ []) 1 e)
three_widths (Target letters) a b c e = absurd (none_more a b (c ∷ []) 1 e)
three_widths (Key zero) a b c e = absurd (none_more a b (c ∷ []) 4 e)
three_widths (Key (suc zero)) a b c e = absurd (unlike (step_three a b c ∙ e))
three_widths (Key (suc (suc k))) a b c e = refl
three_widths Value a b c e = absurd (none_more a b (c ∷ []) 4 e)

-- so its bytes are the first of the values' words
pub bytes_packed : (f : Field) (v : Values) → fit f (values_in v) ≡ true → take (total (widths f)) (unpacked (words_of v)) ≡ written (row (widths f) (values_in v))
unfolding widths total unpacked words_of values_in written row le
bytes_packed FrameCount (One a) h = refl
bytes_packed Looping (One a) h = refl
bytes_packed Layer (One a) h = refl
bytes_packed (Target letters) (One a) h = refl
bytes_packed (Key c) (One a) h = rw (one_widths c a (widths-fit (Key c) (a ∷ []) h)) refl
bytes_packed Value (One a) h = refl
bytes_packed f (Two a b) h = rw (two_widths f a b (widths-fit f (a ∷ b ∷ []) h)) refl
bytes_packed f (Three a b c) h = rw (three_widths f a b c (widths-fit f (a ∷ b ∷ c ∷ []) h)) refl

-- a key's values, each written behind the one before it
module _ (s : List ℕ) (at : ℕ) where
  pub one_written : (k a : ℕ) → put k s at a ≡ sets s at (written (row (k ∷ []) (a ∷ [])))
  unfolding written row put
  one_written k a = ap (sets s at) (sym (append-nil (le k a)))

  step_written : {s₁ s₂ : List ℕ} (a v : ℕ) → s₁ ≡ put 4 s at a → s₂ ≡ put 2 s₁ (at + 4) v → s₂ ≡ sets s at (written (row (4 ∷ 2 ∷ []) (a ∷ v ∷ [])))
  unfolding written row put
  step_written {s₁} {s₂} a v e₁ e₂ = e₂ ∙ ap (sets s₁ (at + 4)) (sym (append-nil (le 2 v))) ∙ behind_put s at a (le 2 v ++ []) e₁

  hermite_written : (b : HermiteBits) → put_patterns s at b ≡ sets s at (written (row (4 ∷ 4 ∷ 4 ∷ []) (b.0 ∷ b.1 ∷ b.2 ∷ [])))
  unfolding put_patterns written row
  hermite_written b =
      let s₁ : List ℕ = put 4 s at b.0 in
      let s₂ : List ℕ = put 4 s₁ (at + 4) b.1 in
      let q : at + 8 ≡ at + 4 + 4 = omega arith in
      put_at s₂ (at + 8) (at + 4 + 4) b.2 q ∙ ap (sets s₂ (at + 4 + 4)) (sym (append-nil (le 4 b.2)))
      ∙ behind_put s₁ (at + 4) b.1 (le 4 b.2 ++ []) refl
      ∙ behind_put s at b.0 (le 4 b.1 ++ (le 4 b.2 ++ [])) refl

  module _ (f : Field) (v : Values) (h : fit f (values_in v) ≡ true) where
    pub constant_put : (a curve : ℕ) (x : Binary32) → v ≡ One a → f ≡ Key curve → a < 2 ^ 32 → x ≡ float_of a → {s' : List ℕ} → s' ≡ put 4 s at (pattern_of x)
        → s' ≡ sets s at (written (row (widths f) (values_in v)))
    unfolding key_widths values_in widths
    constant_put a curve x e ef ha ex e' =
        let w : fit_widths (key_widths curve) (a ∷ []) ≡ true = widths-fit (Key curve) (a ∷ []) (ap (λ (g : Field). fit g (a ∷ [])) (sym ef) ∙ ap (λ (z : Values). fit f (values_in z)) (sym e) ∙ h) in
        e' ∙ ap (put 4 s at) (ap pattern_of ex ∙ pattern_back a ha) ∙ one_written 4 a
        ∙ ap (λ (ks : List ℕ). sets s at (written (row ks (a ∷ [])))) (sym (ap widths ef ∙ one_widths curve a w)) ∙ ap (λ (z : Values). sets s at (written (row (widths f) (values_in z)))) (sym e)

    pub step_put : (a b : ℕ) (x : Binary32) → v ≡ Two a b → a < 2 ^ 32 → x ≡ float_of a → {s₁ s₂ : List ℕ} → s₁ ≡ put 4 s at (pattern_of x) → s₂ ≡ put 2 s₁ (at + 4) b
        → s₂ ≡ sets s at (written (row (widths f) (values_in v)))
    unfolding values_in
    step_put a b x e ha ex e₁ e₂ =
        let w : fit_widths (widths f) (a ∷ b ∷ []) ≡ true = widths-fit f (a ∷ b ∷ []) (ap (λ (z : Values). fit f (values_in z)) (sym e) ∙ h) in
        step_written a b (e₁ ∙ ap (put 4 s at) (ap pattern_of ex ∙ pattern_back a ha)) e₂
        ∙ ap (λ (ks : List ℕ). sets s at (written (row ks (a ∷ b ∷ [])))) (sym (two_widths f a b w)) ∙ ap (λ (z : Values). sets s at (written (row (widths f) (values_in z)))) (sym e)

    pub hermite_put : (a b c : ℕ) (k : HermiteForm) → v ≡ Three a b c → a < 2 ^ 32 → b < 2 ^ 32 → c < 2 ^ 32 → k ≡ hermite_of (a, b, c) → {s' : List ℕ} → s' ≡ put_patterns s at (patterns_of k)
        → s' ≡ sets s at (written (row (widths f) (values_in v)))
    unfolding values_in
    hermite_put a b c k e ha hb hc ek e' =
        let w : fit_widths (widths f) (a ∷ b ∷ c ∷ []) ≡ true = widths-fit f (a ∷ b ∷ c ∷ []) (ap (λ (z : Values). fit f (values_in z)) (sym e) ∙ h) in
        e' ∙ ap (put_patterns s at) (ap patterns_of ek ∙ patterns_back (a, b, c) (record { frame = ha; value = hb; slope = hc })) ∙ hermite_written (a, b, c)
        ∙ ap (λ (ks : List ℕ). sets s at (written (row ks (a ∷ b ∷ c ∷ [])))) (sym (three_widths f a b c w)) ∙ ap (λ (z : Values). sets s at (written (row (widths f) (values_in z)))) (sym e)

-- ---- the bytes that stood there

-- zeros behind a list change none of its numbers
zeros_at : (m i : ℕ) → ◌≡◌ {A = ℕ} (get_or (replicate m 0) i 0) 0
zeros_at zero i = refl
zeros_at (suc m) zero = refl
zeros_at (suc m) (suc i) = zeros_at m i

pad_at : (xs : List ℕ) (m i : ℕ) → get_or (xs ++ replicate m 0) i 0 ≡ get_or xs i 0
pad_at [] m i = zeros_at m i
pad_at (x ∷ xs) m zero = refl
pad_at (x ∷ xs) m (suc i) = pad_at xs m i

pad_get : (k : ℕ) (xs : List ℕ) (m i : ℕ) → get k (xs ++ replicate m 0) i ≡ get k xs i
pad_get zero xs m i = get_zero (xs ++ replicate m 0) i ∙ sym (get_zero xs i)
pad_get (suc k) xs m i = rw (get_suc k (xs ++ replicate m 0) i, get_suc k xs i, pad_at xs m i, pad_get k xs m (i + 1))

drop-take : (j n : ℕ) (l : List ℕ) → drop j (take n l) ≡ take (n - j) (drop j l)
drop-take zero n l = let e : n - 0 ≡ n = omega arith in rw e
drop-take (suc j) zero l = let e : 0 - suc j ≡ 0 = omega arith in rw e
drop-take (suc j) (suc n) [] = sym (take-nil (suc n - suc j))
drop-take (suc j) (suc n) (x ∷ l) = let e : suc n - suc j ≡ n - j = omega arith in rw e (drop-take j n l)

take_min : (k m : ℕ) (l : List ℕ) → take k (take m l) ≡ take (min k m) l
take_min zero m l = let e : min 0 m ≡ 0 = omega arith in rw e
take_min (suc k) zero l = let e : min (suc k) 0 ≡ 0 = omega arith in rw e
take_min (suc k) (suc m) [] = sym (take-nil (min (suc k) (suc m)))
take_min (suc k) (suc m) (x ∷ l) = let e : min (suc k) (suc m) ≡ suc (min k m) = omega arith in rw e (ap (λ (t : List ℕ). x ∷ t) (take_min k m l))

-- a number in the first n bytes from at on
part_get : (n k : ℕ) (s : List ℕ) (at j : ℕ) → get k (take n (drop at s)) j ≡ get (min k (n - j)) s (at + j)
unfolding get
part_get n k s at j = ap val (ap (take k) (drop-take j n (drop at s)) ∙ take_min k (n - j) (drop j (drop at s)) ∙ ap (take (min k (n - j))) (drop-drop j at s))

old_get : (n : ℕ) (s : List ℕ) (at j : ℕ) → get 4 (padded (take n (drop at s))) j ≡ get (min 4 (n - j)) s (at + j)
unfolding padded
old_get n s at j = pad_get 4 (take n (drop at s)) (12 - length (take n (drop at s))) j ∙ part_get n 4 s at j

-- the three words by three numbers, of as many bytes as there are
module _ (n : ℕ) (s : List ℕ) (at : ℕ) where
  old_words : (ka kb kc : ℕ) {a b c : ℕ} → min 4 (n - 0) ≡ ka → min 4 (n - 4) ≡ kb → min 4 (n - 8) ≡ kc → a ≡ get ka s at → b ≡ get kb s (at + 4) → c ≡ get kc s (at + 8)
      → ◌≡◌ {A = Packed} (record { a = a; b = b; c = c }) (packed (take n (drop at s)))
  unfolding packed
  old_words ka kb kc ma mb mc ea eb ec = rw (ea, eb, ec, old_get n s at 0, old_get n s at 4, old_get n s at 8, ma, mb, mc, add-zero at)

  none : (i : ℕ) → 0 ≡ get 0 s i
  none i = sym (get_zero s i)

  module _ (h : at + n ≤ length s) where
    pub old_1 : {v : ℕ} → n ≡ 1 → v ≡ get 1 s at → ◌≡◌ {A = Packed} (record { a = v; b = 0; c = 0 }) (packed (take n (drop at s)))
    old_1 e ev = old_words 1 0 0 (omega arith) (omega arith) (omega arith) ev (none (at + 4)) (none (at + 8))

    pub old_2 : {v : ℕ} → n ≡ 2 → v ≡ get 2 s at → ◌≡◌ {A = Packed} (record { a = v; b = 0; c = 0 }) (packed (take n (drop at s)))
    old_2 e ev = old_words 2 0 0 (omega arith) (omega arith) (omega arith) ev (none (at + 4)) (none (at + 8))

    pub old_4 : {v : ℕ} → n ≡ 4 → v ≡ get 4 s at → ◌≡◌ {A = Packed} (record { a = v; b = 0; c = 0 }) (packed (take n (drop at s)))
    old_4 e ev = old_words 4 0 0 (omega arith) (omega arith) (omega arith) ev (none (at + 4)) (none (at + 8))

    pub old_6 : {v w : ℕ} → n ≡ 6 → v ≡ get 4 s at → w ≡ get 2 s (at + 4) → ◌≡◌ {A = Packed} (record { a = v; b = w; c = 0 }) (packed (take n (drop at s)))
    old_6 e ev ew = old_words 4 2 0 (omega arith) (omega arith) (omega arith) ev ew (none (at + 8))

    pub old_12 : {v w x : ℕ} → n ≡ 12 → v ≡ get 4 s at → w ≡ get 4 s (at + 4) → x ≡ get 4 s (at + 8)
        → ◌≡◌ {A = Packed} (record { a = v; b = w; c = x }) (packed (take n (drop at s)))
    old_12 e ev ew ex = old_words 4 4 4 (omega arith) (omega arith) (omega arith) ev ew ex

-- ---- the entry

pub entry_kept : (j s : List ℕ) (count at n m : ℕ) (old : Packed) → n ≡ m → old ≡ packed (take n (drop at s)) → at + m ≤ length s
    → sets j (entry_words * count) (entry_list (record { at = at; count = n; old = old })) ≡ sets j (entry_words * count) (entry_of at (old_at s at m))
unfolding entry_list packed entry_of
entry_kept j s count at n m old en eo h =
    let l : length (take m (drop at s)) ≡ m = length-take-le m (drop at s) (rw length-drop (omega arith)) in
    rw (eo, en, l)

-- ---- the call, in a section that reads

module _ (s j : List ℕ) (count at : ℕ) (f : Field) (vs : List ℕ) (t : Bool) (et : t ≡ fit f vs) where
  module _ (e : t ≡ true) where
    pub spot_full : length j / entry_words ≤ count → (of_editing (Err (JournalFull (length j / entry_words))), s, j) ≡ at_spot s j count vs (spot at f)
    unfolding at_spot capacity
    spot_full h = rw (sym et ∙ e, le-ltb count (length j / entry_words) h)

    pub spot_edited : count < length j / entry_words → {s' j' : List ℕ} → s' ≡ sets s at (written (row (widths f) vs)) → j' ≡ sets j (entry_words * count) (entry_of at (old_at s at (total (widths f))))
        → (of_editing (Ok (count + 1)), s', j') ≡ at_spot s j count vs (spot at f)
    unfolding at_spot capacity
    spot_edited h es ej = rw (sym et ∙ e, lt-ltb count (length j / entry_words) h, es, ej)

-- ---- the call, by where its field is

-- what locating refuses, the edit refuses with the same number and values
pub refused_same : (error : LocateError) → of_editing (Err (edit_error error)) ≡ of_located (Err error)
unfolding edit_error of_located
refused_same (TooLong size) = refl
refused_same (Unread f) = refl
refused_same NoSuchPlace = refl

module _ (s j : List ℕ) (count : ℕ) (p : Place) (vs : List ℕ) where
  -- where locating refuses, so does the edit
  abbrev pub by_located : Result FieldSpot LocateError → Outcome × List ℕ × List ℕ
  by_located (Err error) = (of_located (Err error), s, j)
  by_located (Ok x) = at_spot s j count vs (spot x.at x.field)

  editing_by : editing pai1 s j count p vs ≡ by_located (locating s p)
  unfolding editing on_reading locating locating_in of_spot of_located at_spot
  editing_by = go (leb (length s) limit) (section s 0)
    where
      last : (x : Spot) → at_spot s j count vs x ≡ by_located (of_spot x)
      last nowhere = refl
      last (spot at f) = refl

      go : (b : Bool) (r : Res (List Item)) → pick b (on_reading pai1 s j count p vs r) (too_long (length s), s, j) ≡ by_located (pick b (locating_in s p r) (Err (TooLong (length s))))
      go true (ok is e) = last (locate s p)
      go true (stop f) = refl
      go false r = refl

  pub edit_by : {x : Result FieldSpot LocateError} → x ≡ locating s p → by_located x ≡ editing pai1 s j count p vs
  edit_by e = ap by_located e ∙ sym editing_by
