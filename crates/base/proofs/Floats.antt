-- Patterns of binary32 come back bit for bit, a NaN's too: through values, and through bytes.
-- Assumes nothing.
use Rattle.std.specs.Prelude.{Result, Ok, Err}
use Rattle.base.specs.declared.error.PastEnd.{PastEnd}
use Prim.Native.Nat.{ℕ, ◌+◌, ◌<◌, ◌≤◌, ◌^◌}
use mathlib.Core.Path.{◌≡◌, refl, sym, ◌∙◌, subst}
use mathlib.Core.Bool.{Bool, true, false, not, true≢false, ◌||◌}
use mathlib.Core.List.{List}
use mathlib.Core.Logic.{inl}
use native.Mathlib.Omega.{arith}
use borrow.Author.Tests.{leb-true, leb-false, le-leb, lt-leb}
use lib.Dec.{T, leb}
use lib.ListN.{length}
use lib.Ieee.{Float, nan, inf, fin, binary32, is_nan, fits, nan_bits, of_bits, to_bits}
use lib.Ieee.Bits.{nan_bits_is, nan_bits_above, to_bits-of_bits, to_bits-lt}
use Rattle.base.specs.Choice.{pick}
use Rattle.base.specs.Number.{get, put, past_end, read_of}
use Rattle.base.specs.Float.{float_of, pattern_of, hermite_of, patterns_of, read_float_of, patterns_at, put_patterns, read_hermite_of}
use Rattle.base.specs.declared.float.Binary32.{Binary32}
use Rattle.base.specs.declared.float.Binary32.TheVariants.{Number, Nan}
use Rattle.base.specs.declared.float.Hermite.TheVariants.{Floats, Patterns}
use Rattle.base.specs.declared.float.Hermite.{Hermite}
use Rattle.base.specs.declared.float.HermiteBits.{HermiteBits}
use Rattle.base.proofs.Numbers.{Bytes, Short, get_lt, get-put, put-get, length-put, get_beside, err_past, ok_pair}

-- ---- tests

-- a test that came out false
pub fails : (t : Bool) → t ≡ false → T (not t)
fails t e = subst (λ (b : Bool). T (not b)) (sym e) tt

-- one NaN is like the other
pub only_nan : (x : Float) → is_nan x ≡ true → x ≡ nan
unfolding is_nan
only_nan nan e = refl
only_nan (inf s) e = absurd (true≢false (sym e))
only_nan (fin s m k) e = absurd (true≢false (sym e))

-- a NaN's pattern is above the infinity's: a law of the logic's, by a name that an attribute can give
pub ruleset nan_above = (nan_bits_above)

-- none of three tests holds
pub none_of : (a b c : Bool) → a || b || c ≡ false → (a ≡ false) × (b ≡ false) × (c ≡ false)
none_of true b c e = (e, absurd (true≢false e), absurd (true≢false e))
none_of false true c e = (refl, e, absurd (true≢false e))
none_of false false c e = (refl, refl, e)

-- ---- values

-- the pattern of a float that is no NaN
back : (n : ℕ) → n < 2 ^ 32 → nan_bits binary32 n ≡ false → to_bits binary32 (of_bits binary32 n) ≡ n
back n h e = to_bits-of_bits binary32 n h (fails _ (sym (nan_bits_is binary32 n) ∙ e))

-- a pattern comes back, whatever it is
pub pattern_back : (n : ℕ) → n < 2 ^ 32 → pattern_of (float_of n) ≡ n
unfolding float_of pattern_of
pattern_back n h = go (nan_bits binary32 n) refl
  where
    go : (t : Bool) → nan_bits binary32 n ≡ t → pattern_of (pick t (Nan n) (Number (of_bits binary32 n))) ≡ n
    go true e = refl
    go false e = back n h e

-- and so do three
pub record Patterns32 (b : HermiteBits) : Type 0 where
  pub frame : b.0 < 2 ^ 32
  pub value : b.1 < 2 ^ 32
  pub slope : b.2 < 2 ^ 32

pub patterns_back : (b : HermiteBits) → Patterns32 b → patterns_of (hermite_of b) ≡ b
unfolding hermite_of patterns_of
patterns_back b h = go (nan_bits binary32 b.0 || nan_bits binary32 b.1 || nan_bits binary32 b.2) refl
  where
    go : (t : Bool) → nan_bits binary32 b.0 || nan_bits binary32 b.1 || nan_bits binary32 b.2 ≡ t
        → patterns_of (pick t (Patterns b.0 b.1 b.2) (Floats (record { frame = of_bits binary32 b.0; value = of_bits binary32 b.1; slope = of_bits binary32 b.2 }))) ≡ b
    go true e = refl
    go false e =
        let n = none_of _ _ _ e in
        rw (back b.0 h.frame n.0, back b.1 h.value n.1, back b.2 h.slope n.2)

-- a float's pattern has 32 bits
pub bits_lt : (x : Float) → T (fits binary32 x) → to_bits binary32 x < 2 ^ 32
bits_lt x h = to_bits-lt binary32 x h

-- ---- bytes: what a read says

-- a read that gave a value
pub record GotFloat (s : List ℕ) (at : ℕ) (x : Binary32) (n : ℕ) : Type 0 where
  pub room : at + 4 ≤ length s
  pub value : x ≡ float_of (get 4 s at)
  pub next : n ≡ at + 4

pub float_there : (s : List ℕ) (at : ℕ) → at + 4 ≤ length s → read_float_of s at ≡ Ok (float_of (get 4 s at), at + 4)
unfolding read_float_of
float_there s at h = rw (le-leb (at + 4) (length s) h)

pub float_short : (s : List ℕ) (at : ℕ) → length s < at + 4 → read_float_of s at ≡ Err (past_end at 4)
unfolding read_float_of
float_short s at h = rw (lt-leb (at + 4) (length s) h)

pub float_value : (s : List ℕ) (at : ℕ) (x : Binary32) (n : ℕ) → read_float_of s at ≡ Ok (x, n) → GotFloat s at x n
unfolding read_float_of
float_value s at x n = go (leb (at + 4) (length s)) refl
  where
    go : (t : Bool) → leb (at + 4) (length s) ≡ t → pick {A = Result (Binary32 × ℕ) PastEnd} t (Ok (float_of (get 4 s at), at + 4)) (Err (past_end at 4)) ≡ Ok (x, n) → GotFloat s at x n
    go true q e = record { room = leb-true (at + 4) (length s) q; value = sym (ok_pair e).0; next = sym (ok_pair e).1 }
    go false q e = let z : ◌≡◌ {A = ℕ} 0 1 = cc in absurd (omega arith)

pub float_past : (s : List ℕ) (at p m : ℕ) → read_float_of s at ≡ Err (past_end p m) → Short 4 s at p m
unfolding read_float_of
float_past s at p m = go (leb (at + 4) (length s)) refl
  where
    go : (t : Bool) → leb (at + 4) (length s) ≡ t → pick {A = Result (Binary32 × ℕ) PastEnd} t (Ok (float_of (get 4 s at), at + 4)) (Err (past_end at 4)) ≡ Err (past_end p m) → Short 4 s at p m
    go true q e = let z : ◌≡◌ {A = ℕ} 0 1 = cc in absurd (omega arith)
    go false q e = record { over = leb-false (at + 4) (length s) q; place = sym (err_past e).0; asked = sym (err_past e).1 }

-- a float's read by the read of its four bytes; and a Hermite key's, by its three reads
abbrev pub float_read : Result (ℕ × ℕ) PastEnd → Result (Binary32 × ℕ) PastEnd
float_read (Ok (n, next)) = Ok (float_of n, next)
float_read (Err e) = Err e

pub float_by_read : {r : Result (ℕ × ℕ) PastEnd} (s : List ℕ) (at : ℕ) → r ≡ read_of 4 s at → float_read r ≡ read_float_of s at
unfolding read_of read_float_of
float_by_read s at e = rw e (go (leb (at + 4) (length s)))
  where
    go : (t : Bool) → float_read (pick {A = Result (ℕ × ℕ) PastEnd} t (Ok (get 4 s at, at + 4)) (Err (past_end at 4))) ≡ pick {A = Result (Binary32 × ℕ) PastEnd} t (Ok (float_of (get 4 s at), at + 4)) (Err (past_end at 4))
    go true = refl
    go false = refl

-- a read that gave a key
pub record GotHermite (s : List ℕ) (at : ℕ) (h : Hermite) (n : ℕ) : Type 0 where
  pub room : at + 12 ≤ length s
  pub key : h ≡ hermite_of (patterns_at s at)
  pub next : n ≡ at + 12

module _ (s : List ℕ) (at : ℕ) where
  pub hermite_there : at + 12 ≤ length s → read_hermite_of s at ≡ Ok (hermite_of (patterns_at s at), at + 12)
  unfolding read_hermite_of
  hermite_there h = rw (le-leb (at + 4) (length s) (omega arith), le-leb (at + 8) (length s) (omega arith), le-leb (at + 12) (length s) h)

  -- the first of the three reads that the slice is too short for is refused
  pub hermite_short : length s < at + 4 → read_hermite_of s at ≡ Err (past_end at 4)
  unfolding read_hermite_of
  hermite_short h = rw (lt-leb (at + 4) (length s) h)

  pub hermite_short_2 : at + 4 ≤ length s → length s < at + 8 → read_hermite_of s at ≡ Err (past_end (at + 4) 4)
  unfolding read_hermite_of
  hermite_short_2 k h = rw (le-leb (at + 4) (length s) k, lt-leb (at + 8) (length s) h)

  pub hermite_short_3 : at + 8 ≤ length s → length s < at + 12 → read_hermite_of s at ≡ Err (past_end (at + 8) 4)
  unfolding read_hermite_of
  hermite_short_3 k h = rw (le-leb (at + 4) (length s) (omega arith), le-leb (at + 8) (length s) k, lt-leb (at + 12) (length s) h)

-- what a read that was refused says: one of the three numbers is not whole
pub record ShortHermite (s : List ℕ) (at p m : ℕ) : Type 0 where
  pub over : length s < p + 4
  pub from : at ≤ p
  pub to : p ≤ at + 8
  pub asked : m ≡ 4

module _ (s : List ℕ) (at : ℕ) where
  -- the key, and the answer by the three tests
  key : Hermite
  key = hermite_of (patterns_at s at)

  answer : Bool → Bool → Bool → Result (Hermite × ℕ) PastEnd
  answer a b c = pick a (pick b (pick c (Ok (key, at + 12)) (Err (past_end (at + 8) 4))) (Err (past_end (at + 4) 4))) (Err (past_end at 4))

  pub hermite_value : (h : Hermite) (n : ℕ) → read_hermite_of s at ≡ Ok (h, n) → GotHermite s at h n
  unfolding read_hermite_of key answer
  hermite_value h n = go (leb (at + 4) (length s)) (leb (at + 8) (length s)) (leb (at + 12) (length s)) refl
    where
      go : (a b c : Bool) → leb (at + 12) (length s) ≡ c → answer a b c ≡ Ok (h, n) → GotHermite s at h n
      go true true true q e = record { room = leb-true (at + 12) (length s) q; key = sym (ok_pair e).0; next = sym (ok_pair e).1 }
      go true true false q e = let z : ◌≡◌ {A = ℕ} 0 1 = cc in absurd (omega arith)
      go true false c q e = let z : ◌≡◌ {A = ℕ} 0 1 = cc in absurd (omega arith)
      go false b c q e = let z : ◌≡◌ {A = ℕ} 0 1 = cc in absurd (omega arith)

  pub hermite_past : (p m : ℕ) → read_hermite_of s at ≡ Err (past_end p m) → ShortHermite s at p m
  unfolding read_hermite_of key answer
  hermite_past p m = go (leb (at + 4) (length s)) (leb (at + 8) (length s)) (leb (at + 12) (length s)) refl refl refl
    where
      short : (o : ℕ) → length s < o + 4 → at ≤ o → o ≤ at + 8 → ◌≡◌ {A = Result (Hermite × ℕ) PastEnd} (Err (past_end o 4)) (Err (past_end p m)) → ShortHermite s at p m
      short o h f t e =
          let ep : o ≡ p = (err_past e).0 in
          let em : 4 ≡ m = (err_past e).1 in
          record { over = omega arith; from = omega arith; to = omega arith; asked = sym em }

      go : (a b c : Bool) → leb (at + 4) (length s) ≡ a → leb (at + 8) (length s) ≡ b → leb (at + 12) (length s) ≡ c → answer a b c ≡ Err (past_end p m) → ShortHermite s at p m
      go true true true qa qb qc e = let z : ◌≡◌ {A = ℕ} 0 1 = cc in absurd (omega arith)
      go true true false qa qb qc e = short (at + 8) (omega (arith, leb-false (at + 12) (length s) qc)) (omega arith) (omega arith) e
      go true false c qa qb qc e = short (at + 4) (omega (arith, leb-false (at + 8) (length s) qb)) (omega arith) (omega arith) e
      go false b c qa qb qc e = short at (omega (arith, leb-false (at + 4) (length s) qa)) (omega arith) (omega arith) e

-- ---- bytes: what was written is read, with its bits

pub float_back : (s : List ℕ) (at n : ℕ) → n < 2 ^ 32 → at + 4 ≤ length s → read_float_of (put 4 s at n) at ≡ Ok (float_of n, at + 4)
float_back s at n h l = rw (float_there (put 4 s at n) at (rw length-put l), get-put 4 s at n h l)

length_patterns : (s : List ℕ) (at : ℕ) (b : HermiteBits) → length (put_patterns s at b) ≡ length s
unfolding put_patterns
length_patterns s at b = simp length-put

pub patterns_read : (s : List ℕ) (at : ℕ) (b : HermiteBits) → Patterns32 b → at + 12 ≤ length s → patterns_at (put_patterns s at b) at ≡ b
unfolding patterns_at put_patterns
patterns_read s at b h l =
    let t : List ℕ = put 4 s at b.0 in
    let u : List ℕ = put 4 t (at + 4) b.1 in
    let lt : length t ≡ length s = length-put 4 s at b.0 in
    let lu : length u ≡ length t = length-put 4 t (at + 4) b.1 in
    let f : get 4 (put 4 u (at + 8) b.2) at ≡ b.0 =
    get_beside 4 4 u (at + 8) b.2 at (inl (omega arith)) ∙ get_beside 4 4 t (at + 4) b.1 at (inl (omega arith)) ∙ get-put 4 s at b.0 h.frame (omega arith) in
    let v : get 4 (put 4 u (at + 8) b.2) (at + 4) ≡ b.1 =
    get_beside 4 4 u (at + 8) b.2 (at + 4) (inl (omega arith)) ∙ get-put 4 t (at + 4) b.1 h.value (omega arith) in
    let w : get 4 (put 4 u (at + 8) b.2) (at + 8) ≡ b.2 = get-put 4 u (at + 8) b.2 h.slope (omega arith) in
    rw (f, v, w)

pub hermite_back : (s : List ℕ) (at : ℕ) (b : HermiteBits) → Patterns32 b → at + 12 ≤ length s → read_hermite_of (put_patterns s at b) at ≡ Ok (hermite_of b, at + 12)
hermite_back s at b h l = rw (hermite_there (put_patterns s at b) at (rw length_patterns l), patterns_read s at b h l)

-- ---- bytes: what was read, written where it was read, leaves every byte as it was

pub patterns_lt : (s : List ℕ) (at : ℕ) → Bytes s → Patterns32 (patterns_at s at)
unfolding patterns_at
patterns_lt s at h = record { frame = get_lt 4 s at h; value = get_lt 4 s (at + 4) h; slope = get_lt 4 s (at + 8) h }

pub float_kept : (s : List ℕ) (at : ℕ) → Bytes s → put 4 s at (pattern_of (float_of (get 4 s at))) ≡ s
float_kept s at h = rw (pattern_back (get 4 s at) (get_lt 4 s at h)) (put-get 4 s at h)

pub hermite_kept : (s : List ℕ) (at : ℕ) → Bytes s → put_patterns s at (patterns_of (hermite_of (patterns_at s at))) ≡ s
unfolding patterns_at put_patterns
hermite_kept s at h = rw (patterns_back (patterns_at s at) (patterns_lt s at h), put-get 4 s at h, put-get 4 s (at + 4) h) (put-get 4 s (at + 8) h)
