-- The digits that itoa writes are the number's, and a refusal in print.
-- Assumes nothing.
use Prim.Native.Nat.{ℕ, zero, suc, ◌+◌, ◌/◌, ◌%◌, ◌^◌, ◌<◌, ◌≤◌}
use mathlib.Core.Path.{◌≡◌, refl, ap, sym, ◌∙◌}
use mathlib.Core.Bool.{Bool, true, false}
use mathlib.Core.List.{List, [], ◌∷◌, ◌++◌}
use native.Mathlib.Omega.{arith}
use borrow.Author.Tests.{ltb-true, ltb-false, lt-ltb, le-ltb}
use lib.Dec.{ltb}
use lib.ListN.{length, length-append}
use lib.Seq.{sets}
use Rattle.base.specs.Choice.{pick}
use Rattle.base.proofs.Stores.{sets-append}
use Rattle.std.specs.Fmt.{decimal as written}
use Rattle.std.proofs.lemmas.Fmt.{decimal_digit, decimal_step}
use Rattle.round_trip.specs.Trip.{decimal_in, decimal, refusal}

-- ---- the digits

before : (b : Bool) (x y : List ℕ) → (b ≡ false → x ≡ y) → pick b [] x ≡ pick b [] y
before true x y h = refl
before false x y h = h refl

-- more room than a number needs adds nothing
enough : (j k n : ℕ) → n < j → n < k → decimal_in j n ≡ decimal_in k n
unfolding decimal_in
enough zero k n hj hk = absurd (omega arith)
enough (suc j) zero n hj hk = absurd (omega arith)
enough (suc j) (suc k) n hj hk =
    ap (λ (l : List ℕ). l ++ ((48 + n % 10) ∷ []))
    (before (ltb n 10) (decimal_in j (n / 10)) (decimal_in k (n / 10)) (λ e. enough j k (n / 10) (omega (arith, ltb-false n 10 e)) (omega (arith, ltb-false n 10 e))))

pub decimal_one : (n : ℕ) → n < 10 → decimal n ≡ (48 + n) ∷ []
unfolding decimal_in decimal
decimal_one n h = let e : n % 10 ≡ n = omega arith in rw (lt-ltb n 10 h, e)

pub decimal-more : (n : ℕ) → 10 ≤ n → decimal n ≡ decimal (n / 10) ++ ((48 + n % 10) ∷ [])
unfolding decimal_in decimal
decimal-more n h = rw (le-ltb n 10 h, enough n (suc (n / 10)) (n / 10) (omega arith) (omega arith))

spelt : (k n : ℕ) → n < k → n < 2 ^ 64 → decimal n ≡ written n
spelt zero n h fits = absurd (omega arith)
spelt (suc k) n h fits = by_test (ltb n 10) refl (λ l. spelt k (n / 10) (omega (arith, l, h)) (omega (arith, fits)))
  where
    by_test : (b : Bool) → ltb n 10 ≡ b → (10 ≤ n → decimal (n / 10) ≡ written (n / 10)) → decimal n ≡ written n
    by_test true e tenth = let l : n < 10 = ltb-true n 10 e in rw (decimal_one n l) (sym (decimal_digit n l))
    by_test false e tenth = let l : 10 ≤ n = ltb-false n 10 e in rw (decimal-more n l, tenth l) (sym (decimal_step n l fits))

-- the text of a number of 64 bits is its digits
pub decimal_written : (n : ℕ) → n < 2 ^ 64 → written n ≡ decimal n
decimal_written n fits = sym (spelt (suc n) n (omega arith) fits)

-- ---- the line: `refused `, the digits and a newline, each behind the one before

pub line_put : (number : ℕ) (text out a b c : List ℕ) → text ≡ decimal number
    → a ≡ sets out 0 (114 ∷ 101 ∷ 102 ∷ 117 ∷ 115 ∷ 101 ∷ 100 ∷ 32 ∷ []) → b ≡ sets a 8 text → c ≡ sets b (length text + 8) (10 ∷ [])
    → (length text + 9 ≡ length (refusal number)) × (c ≡ sets out 0 (refusal number))
unfolding refusal
line_put number text out a b c e ea eb ec =
    let word : List ℕ = 114 ∷ 101 ∷ 102 ∷ 117 ∷ 115 ∷ 101 ∷ 100 ∷ 32 ∷ [] in
    let n : List ℕ = decimal number in
    let size : length text ≡ length n = ap length e in
    let at : length n + 8 ≡ 8 + length n = omega arith in (
      omega (arith, size, length-append n (10 ∷ [])),
      ec ∙ rw (eb, ea, e, at) (sym (sets-append out 0 word (n ++ (10 ∷ [])) ∙ sets-append (sets out 0 word) 8 n (10 ∷ []))),
    )
