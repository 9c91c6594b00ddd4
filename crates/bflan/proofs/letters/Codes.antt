-- The laws of an info's letters: each is proved for a kind and holds of letters by their kind. Assumes nothing.
use mathlib.Core.Path.{◌≡◌, refl, ap, ◌∙◌, sym}
use mathlib.Core.Bool.{Bool, true, false, ◌&&◌, ◌||◌}
use mathlib.Core.List.{List, [], ◌∷◌}
use mathlib.Core.Logic.{◌⊎◌, inl, inr, ⊎_elim}
use Prim.Native.Nat.{ℕ, ◌<◌, ◌≤◌, ◌^◌}
use native.Mathlib.Omega.{arith}
use borrow.Author.Tests.{ltb-true, lt-ltb, le-ltb, eqb-true, eq-eqb, ne_eqb}
use lib.Ieee.Bits.{is_true}
use lib.Dec.{T, eqb, ltb, ltb→lt}
use Rattle.base.specs.Choice.{pick}
use Rattle.base.specs.Number.{val}
use Rattle.base.proofs.Table.{both_left, both_right}
use Rattle.bflan.specs.pai1.Letters.{Listing, listings, fleu, kind_in, kind_of, word_under, letters_of, target_under, target_of, listed_in, letters_fit, fits_under, target_fits}
use Rattle.bflan.specs.declared.letters.AnimInfoType.{AnimInfoType}
use Rattle.bflan.specs.declared.letters.AnimInfoType.TheVariants.{Standard, ExtendedUserData, Invalid}

-- ---- each definition, where the letters' kind is known

pub letters_by : (l : ℕ) {k : AnimInfoType} → kind_of l ≡ k → letters_of l ≡ word_under k l
unfolding letters_of
letters_by l e = rw e

pub target_by : (l raw : ℕ) {k : AnimInfoType} → kind_of l ≡ k → target_of l raw ≡ target_under k raw
unfolding target_of
target_by l raw e = rw e

pub target_fits_by : (l t : ℕ) {k : AnimInfoType} → kind_of l ≡ k → target_fits l t ≡ fits_under k t
unfolding target_fits
target_fits_by l t e = rw e

-- ---- which kind letters have

-- a test that each row's kind passes, and the kind of the letters in no row, is passed by the kind of all letters
abbrev every : (AnimInfoType → Bool) → List Listing → Bool
every f [] = true
every f (r ∷ rs) = f (Standard r.count) && every f rs

in_rows : (f : AnimInfoType → Bool) (rs : List Listing) (other : AnimInfoType) (l : ℕ) → T (every f rs) → T (f other) → T (f (kind_in rs other l))
in_rows f [] other l t o = o
in_rows f (r ∷ rs) other l t o = go (eqb l r.code) (Standard r.count) (kind_in rs other l) (both_left (f (Standard r.count)) (every f rs) t) (in_rows f rs other l (both_right (f (Standard r.count)) (every f rs) t) o)
  where
    go : (b : Bool) (x y : AnimInfoType) → T (f x) → T (f y) → T (f (pick b x y))
    go true x y p q = p
    go false x y p q = q

-- a letters' number is above 0, so that 0 is below it, and fits a byte
abbrev sized : AnimInfoType → Bool
sized (Standard n) = ltb 0 n && ltb n 256
sized ExtendedUserData = true
sized Invalid = true

kind_sized : (l : ℕ) → T (sized (kind_of l))
unfolding kind_of listings
kind_sized l = in_rows sized listings (pick (eqb l fleu) ExtendedUserData Invalid) l tt (go (eqb l fleu))
  where
    go : (b : Bool) → T (sized (pick b ExtendedUserData Invalid))
    go true = tt
    go false = tt

-- word 0 is of no row
pub kind_zero : kind_of 0 ≡ Invalid
unfolding kind_of listings fleu val
kind_zero = refl

-- the word that is kept is of the same kind as the letters
pub kind_kept : (l : ℕ) → kind_of (letters_of l) ≡ kind_of l
kind_kept l = go (kind_of l) refl
  where
    go : (k : AnimInfoType) → kind_of l ≡ k → kind_of (letters_of l) ≡ k
    go (Standard n) e = ap kind_of (letters_by l e) ∙ e
    go ExtendedUserData e = ap kind_of (letters_by l e) ∙ e
    go Invalid e = ap kind_of (letters_by l e) ∙ kind_zero

-- the letters that a record may have, by their kind
abbrev pub word_fits : AnimInfoType → ℕ → Bool
word_fits (Standard n) l = true
word_fits ExtendedUserData l = true
word_fits Invalid l = eqb l 0

fit_in : (rs : List Listing) (other : AnimInfoType) (l : ℕ) → (listed_in rs l || word_fits other l) ≡ word_fits (kind_in rs other l) l
fit_in [] other l = refl
fit_in (r ∷ rs) other l = go (fit_in rs other l) (eqb l r.code)
  where
    go : (listed_in rs l || word_fits other l) ≡ word_fits (kind_in rs other l) l → (b : Bool) → ((b || listed_in rs l) || word_fits other l) ≡ word_fits (pick b (Standard r.count) (kind_in rs other l)) l
    go i true = refl
    go i false = i

pub letters_fit_by : (l : ℕ) {k : AnimInfoType} → kind_of l ≡ k → letters_fit l ≡ word_fits k l
unfolding letters_fit kind_of
letters_fit_by l {k} e = go (eqb l fleu) ∙ ap (λ (x : AnimInfoType). word_fits x l) e
  where
    go : (b : Bool) → (listed_in listings l || (b || eqb l 0)) ≡ word_fits (kind_in listings (pick b ExtendedUserData Invalid) l) l
    go true = fit_in listings ExtendedUserData l
    go false = fit_in listings Invalid l

-- ---- the word that is kept

-- kept again, it is the same
pub letters_again : (l : ℕ) → letters_of (letters_of l) ≡ letters_of l
letters_again l = go (kind_of l) refl
  where
    go : (k : AnimInfoType) → kind_of l ≡ k → letters_of (letters_of l) ≡ letters_of l
    go (Standard n) e = letters_by (letters_of l) (kind_kept l ∙ e)
    go ExtendedUserData e = letters_by (letters_of l) (kind_kept l ∙ e)
    go Invalid e = letters_by (letters_of l) (kind_kept l ∙ e) ∙ sym (letters_by l e)

-- it is the letters or 0, and so no wider than they
pub letters_is : (l : ℕ) → (letters_of l ≡ l) ⊎ (letters_of l ≡ 0)
letters_is l = go (kind_of l) refl
  where
    go : (k : AnimInfoType) → kind_of l ≡ k → (letters_of l ≡ l) ⊎ (letters_of l ≡ 0)
    go (Standard n) e = inl (letters_by l e)
    go ExtendedUserData e = inl (letters_by l e)
    go Invalid e = inr (letters_by l e)

pub letters_lt : (l : ℕ) → l < 256 ^ 4 → letters_of l < 256 ^ 4
letters_lt l h = ⊎_elim (λ e. omega arith) (λ e. omega arith) (letters_is l)

-- the record may have it
pub letters_fit_lem : (l : ℕ) → letters_fit (letters_of l) ≡ true
letters_fit_lem l = go (kind_of l) refl
  where
    go : (k : AnimInfoType) → kind_of l ≡ k → letters_fit (letters_of l) ≡ true
    go (Standard n) e = letters_fit_by (letters_of l) (kind_kept l ∙ e)
    go ExtendedUserData e = letters_fit_by (letters_of l) (kind_kept l ∙ e)
    go Invalid e = letters_fit_by (letters_of l) (kind_kept l ∙ e) ∙ eq-eqb (letters_of l) 0 (letters_by l e)

-- and a word that the record may have is kept as it is
pub letters_own : (l : ℕ) → letters_fit l ≡ true → letters_of l ≡ l
letters_own l h = go (kind_of l) refl
  where
    go : (k : AnimInfoType) → kind_of l ≡ k → letters_of l ≡ l
    go (Standard n) e = letters_by l e
    go ExtendedUserData e = letters_by l e
    go Invalid e = letters_by l e ∙ sym (eqb-true l 0 (sym (letters_fit_by l e) ∙ h))

-- ---- target numbers

pub target_below : (l raw : ℕ) {n : ℕ} → kind_of l ≡ Standard n → raw < n → target_of l raw ≡ raw
target_below l raw {n} e h = target_by l raw e ∙ rw (lt-ltb raw n h)

pub target_above : (l raw : ℕ) {n : ℕ} → kind_of l ≡ Standard n → n ≤ raw → target_of l raw ≡ 0
target_above l raw {n} e h = target_by l raw e ∙ rw (le-ltb raw n h)

-- under the word that is kept they are as under the letters
pub target-kept : (l raw : ℕ) → target_of (letters_of l) raw ≡ target_of l raw
unfolding target_of
target-kept l raw = rw (kind_kept l)

pub target_fits-kept : (l t : ℕ) → target_fits (letters_of l) t ≡ target_fits l t
unfolding target_fits
target_fits-kept l t = rw (kind_kept l)

-- what is read is 0, the raw number or 255
pub target_is : (l raw : ℕ) → (target_of l raw ≡ 0) ⊎ ((target_of l raw ≡ raw) ⊎ (target_of l raw ≡ 255))
unfolding target_of
target_is l raw = go (kind_of l)
  where
    part : (b : Bool) → (pick b raw 0 ≡ 0) ⊎ ((pick b raw 0 ≡ raw) ⊎ (pick b raw 0 ≡ 255))
    part true = inr (inl refl)
    part false = inl refl

    go : (k : AnimInfoType) → (target_under k raw ≡ 0) ⊎ ((target_under k raw ≡ raw) ⊎ (target_under k raw ≡ 255))
    go (Standard n) = part (ltb raw n)
    go ExtendedUserData = inr (inr refl)
    go Invalid = inr (inr refl)

-- the record may have what is read
pub target_fits_lem : (l raw : ℕ) → target_fits l (target_of l raw) ≡ true
unfolding target_of target_fits
target_fits_lem l raw = go (kind_of l) (kind_sized l)
  where
    part : (n : ℕ) (b : Bool) → ltb raw n ≡ b → ltb 0 n ≡ true → ltb (pick b raw 0) n ≡ true
    part n true t p = t
    part n false t p = p

    go : (k : AnimInfoType) → T (sized k) → fits_under k (target_under k raw) ≡ true
    go (Standard n) s = part n (ltb raw n) refl (is_true (ltb 0 n) (both_left (ltb 0 n) (ltb n 256) s))
    go ExtendedUserData s = refl
    go Invalid s = refl

-- what the record may have fits a byte, and reads as itself
pub fits_lt : (l t : ℕ) → target_fits l t ≡ true → t < 256
unfolding target_fits
fits_lt l t = go (kind_of l) (kind_sized l)
  where
    go : (k : AnimInfoType) → T (sized k) → fits_under k t ≡ true → t < 256
    go (Standard n) s h = let a = ltb-true t n h in let b = ltb→lt n 256 (both_right (ltb 0 n) (ltb n 256) s) in omega arith
    go ExtendedUserData s h = let a = eqb-true t 255 h in omega arith
    go Invalid s h = let a = eqb-true t 255 h in omega arith

pub fits_own : (l t : ℕ) → target_fits l t ≡ true → target_of l t ≡ t
unfolding target_fits target_of
fits_own l t = go (kind_of l)
  where
    go : (k : AnimInfoType) → fits_under k t ≡ true → target_under k t ≡ t
    go (Standard n) h = rw h
    go ExtendedUserData h = sym (eqb-true t 255 h)
    go Invalid h = sym (eqb-true t 255 h)

-- so what is read fits a byte, whatever the raw number, and read again it is the same
pub target_lt : (l raw : ℕ) → target_of l raw < 256
target_lt l raw = fits_lt l (target_of l raw) (target_fits_lem l raw)

pub target_again : (l raw : ℕ) → target_of (letters_of l) (target_of l raw) ≡ target_of l raw
target_again l raw = target-kept l (target_of l raw) ∙ fits_own l (target_of l raw) (target_fits_lem l raw)

-- ---- a match over the codes

-- the letters are none of the rows' codes, nor FLEU, as a match says it of its last arm: a tuple nested to the left
abbrev pub NoneOf : Type 0 → List Listing → ℕ → Type 0
NoneOf P [] l = P × (l ≡ fleu → ⊥)
NoneOf P (r ∷ rs) l = NoneOf (P × (l ≡ r.code → ⊥)) rs l

none_of : (P : Type 0) (rs : List Listing) (l : ℕ) (other : AnimInfoType) → NoneOf P rs l → (P × (l ≡ fleu → ⊥)) × (kind_in rs other l ≡ other)
none_of P [] l other h = (h, refl)
none_of P (r ∷ rs) l other h =
    let i = none_of (P × (l ≡ r.code → ⊥)) rs l other h in
    ((i.0.0.0, i.0.1), rw (ne_eqb l r.code i.0.0.1) i.1)

pub unlisted : (l : ℕ) → NoneOf Unit listings l → kind_of l ≡ Invalid
unfolding kind_of
unlisted l h =
    let i = none_of Unit listings l (pick (eqb l fleu) ExtendedUserData Invalid) h in
    i.1 ∙ rw (ne_eqb l fleu i.0.1)

abbrev Small : List Listing → Type 0
Small [] = Unit {0}
Small (r ∷ rs) = (r.code < 256 ^ 4) × Small rs

-- a word that the record may have has four bytes
listed_lt : (rs : List Listing) (l : ℕ) → Small rs → listed_in rs l ≡ true → l < 256 ^ 4
listed_lt [] l s h = let z : ◌≡◌ {A = ℕ} 0 1 = cc in absurd (omega arith)
listed_lt (r ∷ rs) l s h = go (eqb l r.code) refl h (λ k. listed_lt rs l s.1 k)
  where
    go : (b : Bool) → eqb l r.code ≡ b → (b || listed_in rs l) ≡ true → (listed_in rs l ≡ true → l < 256 ^ 4) → l < 256 ^ 4
    go true e k f = let q : l ≡ r.code = eqb-true l r.code e in let z = s.0 in omega arith
    go false e k f = f k

rows-small : Small listings
unfolding listings val
rows-small = (omega arith, (omega arith, (omega arith, (omega arith, (omega arith, (omega arith, (omega arith, (omega arith, (omega arith, (omega arith, (omega arith, (omega arith, (omega arith, (omega arith, (omega arith, (omega arith, (omega arith, (omega arith, tt))))))))))))))))))

pub fleu_lt : fleu < 256 ^ 4
unfolding fleu val
fleu_lt = omega arith

pub fit_lt : (l : ℕ) → letters_fit l ≡ true → l < 256 ^ 4
unfolding letters_fit
fit_lt l h = go (listed_in listings l) refl (eqb l fleu) refl h
  where
    go : (a : Bool) → listed_in listings l ≡ a → (b : Bool) → eqb l fleu ≡ b → (a || (b || eqb l 0)) ≡ true → l < 256 ^ 4
    go true e b d k = listed_lt listings l rows-small e
    go false e true d k = let q : l ≡ fleu = eqb-true l fleu d in let z = fleu_lt in omega arith
    go false e false d k = let q : l ≡ 0 = eqb-true l 0 k in omega arith
