-- What the calls answer, in document 01's numbers and values (the refusals' table: 3 with the offset and the bytes requested, 4 with the
-- text's start). Assumes nothing.
use Prim.Native.Nat.{ℕ, zero, suc, min, ◌+◌, ◌-◌, ◌*◌, ◌/◌, ◌≤◌}
use mathlib.Core.Path.{◌≡◌, refl, sym, ap}
use mathlib.Core.Bool.{Bool, true, false}
use mathlib.Core.List.{List, [], ◌∷◌, ◌++◌}
use native.Mathlib.Omega.{arith}
use lib.Dec.{leb, ltb}
use lib.ListN.{length, take, drop, replicate}
use Rattle.base.specs.Choice.{pick}
use Rattle.base.specs.Float.{patterns_at, read_float_of, read_hermite_of}
use Rattle.base.specs.Number.{get, read_of}
use Rattle.base.specs.Outcome.{Outcome, flat, accepted, of_read, of_sought, of_text, of_run, of_float, of_hermite}
use Rattle.base.specs.Run.{numbers_of}
use Rattle.base.specs.Seek.{seek_of}
use Rattle.base.specs.Text.{before_zero, fixed_of, ended_of}
use Rattle.base.proofs.Floats.{pattern_back, patterns_back, patterns_lt}
use Rattle.base.proofs.Numbers.{Bytes, get_lt}

-- ---- an answer as a list of numbers: the first n of five are n of them

first_of : (n m p q : ℕ) (vs : List ℕ) → n ≤ m → n ≤ p → n ≤ q → take n (take m (vs ++ replicate p 0)) ≡ take n (vs ++ replicate q 0)
first_of zero m p q vs hm hp hq = refl
first_of (suc n) zero p q vs hm hp hq = absurd (omega arith)
first_of (suc n) (suc m) p q (v ∷ vs) hm hp hq = ap (λ (l : List ℕ). v ∷ l) (first_of n m p q vs (omega arith) (omega arith) (omega arith))
first_of (suc n) (suc m) zero q [] hm hp hq = absurd (omega arith)
first_of (suc n) (suc m) (suc p) zero [] hm hp hq = absurd (omega arith)
first_of (suc n) (suc m) (suc p) (suc q) [] hm hp hq = ap (λ (l : List ℕ). 0 ∷ l) (first_of n m p q [] (omega arith) (omega arith) (omega arith))

pub flat_first : (n : ℕ) (o : Outcome) {l : List ℕ} → n ≤ 5 → l ≡ flat 5 o → flat n o ≡ take n l
unfolding flat
flat_first n o h e = rw e (sym (first_of n 5 5 n (o.number ∷ o.values) h h (omega arith)))

-- ---- the answers

abbrev refused : ℕ → List ℕ → Outcome
refused n vs = record { number = n; values = vs }

pick_of : {A : Type 0} (f : A → Outcome) (b : Bool) (x y : A) → f (pick b x y) ≡ pick b (f x) (f y)
pick_of f true x y = refl
pick_of f false x y = refl

module _ (s : List ℕ) (at : ℕ) where
  pub read_answers : (k : ℕ) → of_read (read_of k s at) ≡ pick (leb (at + k) (length s)) (accepted (get k s at ∷ (at + k) ∷ [])) (refused 3 (at ∷ k ∷ []))
  unfolding of_read read_of
  read_answers k = pick_of of_read (leb (at + k) (length s)) _ _

  pub seek_answers : of_sought (seek_of s at) ≡ pick (leb at (length s)) (accepted (at ∷ [])) (refused 3 (length s ∷ (at - length s) ∷ []))
  unfolding of_sought seek_of
  seek_answers = pick_of of_sought (leb at (length s)) _ _

  pub fixed_answers : (n : ℕ) → of_text (fixed_of n s at)
      ≡ pick (leb (at + min n 1) (length s)) (accepted (before_zero (take n (drop at s)) ∷ (at + length (take n (drop at s))) ∷ [])) (refused 3 (at ∷ n ∷ []))
  unfolding of_text fixed_of
  fixed_answers n = pick_of of_text (leb (at + min n 1) (length s)) _ _

  pub ended_answers : of_text (ended_of s at)
      ≡ pick (ltb (at + before_zero (drop at s)) (length s)) (accepted (before_zero (drop at s) ∷ (at + before_zero (drop at s) + 1) ∷ [])) (refused 4 (at ∷ []))
  unfolding of_text ended_of
  ended_answers = pick_of of_text (ltb (at + before_zero (drop at s)) (length s)) _ _

  -- a run of numbers is refused at the first that is not whole
  pub numbers-answer : (n : ℕ) → of_run (numbers_of n s at)
      ≡ pick (leb n ((length s - at) / 4)) (accepted ((at + 4 * n) ∷ [])) (refused 3 ((at + 4 * ((length s - at) / 4)) ∷ 4 ∷ []))
  unfolding of_run numbers_of
  numbers-answer n = pick_of of_run (leb n ((length s - at) / 4)) _ _

  -- a float, by its pattern, is answered as a number of four bytes is
  pub float_answers : Bytes s → of_float (read_float_of s at) ≡ of_read (read_of 4 s at)
  unfolding of_float read_float_of of_read read_of
  float_answers h = rw (pick_of of_float (leb (at + 4) (length s)), pick_of of_read (leb (at + 4) (length s)), pattern_back (get 4 s at) (get_lt 4 s at h))

  -- a Hermite key, by its patterns: three such reads, of which the first that the slice is too short for is refused
  pub hermite_answers : Bytes s → of_hermite (read_hermite_of s at)
      ≡ pick (leb (at + 4) (length s))
      (pick (leb (at + 8) (length s))
      (pick (leb (at + 12) (length s)) (accepted (get 4 s at ∷ get 4 s (at + 4) ∷ get 4 s (at + 8) ∷ (at + 12) ∷ []))
      (refused 3 ((at + 8) ∷ 4 ∷ [])))
      (refused 3 ((at + 4) ∷ 4 ∷ [])))
      (refused 3 (at ∷ 4 ∷ []))
  unfolding of_hermite read_hermite_of patterns_at
  hermite_answers h =
      rw (pick_of of_hermite (leb (at + 4) (length s)), pick_of of_hermite (leb (at + 8) (length s)), pick_of of_hermite (leb (at + 12) (length s)), patterns_back (patterns_at s at) (patterns_lt s at h))
