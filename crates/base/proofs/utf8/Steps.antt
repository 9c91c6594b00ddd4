-- One step: what `matched` is at a position of a slice, and what a step is by the class of its first byte.
-- Assumes nothing.
use Prim.Native.Nat.{ℕ, zero, suc, ◌+◌, ◌<◌, ◌≤◌}
use mathlib.Core.Path.{◌≡◌, refl, sym, ◌∙◌}
use mathlib.Core.Logic.{◌⊎◌, inl, inr}
use mathlib.Core.Bool.{Bool, true, false, ◌&&◌}
use mathlib.Core.List.{List, [], ◌∷◌}
use native.Mathlib.Numerals.{add-one, one-add}
use borrow.Author.Tests.{le-leb, lt-leb, leb-true}
use native.Mathlib.Omega.{arith}
use lib.Dec.{eqb, leb, leb-zero, leb-suc-suc}
use lib.ListN.{length, get_or, drop, drop_of_length-le}
use lib.Seq.{drop-cons}
use Rattle.base.specs.Choice.{pick}
use Rattle.base.specs.declared.utf8.step.Step.{Step}
use Rattle.base.specs.declared.utf8.step.Step.TheVariants.{Good, Bad}
use Rattle.base.specs.Utf8.{Range, Row, range, rows, within, row_from, class_of, byte_class, later_of, matched, more, good, step_of}

-- ---- the bytes from a position on, in the ranges

module _ (r : Range) (rs : List Range) (s : List ℕ) (at : ℕ) where
  pub matched_past : length s ≤ at → 0 ≡ matched (r ∷ rs) (drop at s)
  unfolding matched
  matched_past h = rw (drop_of_length-le s h)

  pub matched_hit : at < length s → within r (get_or s at 0) ≡ true → (n : ℕ) → n ≡ matched rs (drop (at + 1) s) → 1 + n ≡ matched (r ∷ rs) (drop at s)
  unfolding matched
  matched_hit h e n q = rw (one-add, q, add-one, drop-cons s at 0 h, e)

  pub matched_miss : at < length s → within r (get_or s at 0) ≡ false → 0 ≡ matched (r ∷ rs) (drop at s)
  unfolding matched
  matched_miss h e = rw (drop-cons s at 0 h, e)

pub matched_none : (xs : List ℕ) → 0 ≡ matched [] xs
unfolding matched
matched_none xs = refl

pub matched-le : (rs : List Range) (xs : List ℕ) → matched rs xs ≤ length rs
unfolding matched
matched-le [] xs = omega arith
matched-le (r ∷ rs) [] = omega arith
matched-le (r ∷ rs) (x ∷ xs) = go (within r x) (matched-le rs xs)
  where
    go : (b : Bool) → matched rs xs ≤ length rs → pick b (suc (matched rs xs)) 0 ≤ suc (length rs)
    go true h = omega arith
    go false h = omega arith

-- ---- classes

row_below : (n : ℕ) (rs : List Row) (x : ℕ) → 1 ≤ n → row_from n rs x < n + length rs
row_below n [] x h = omega arith
row_below n (r ∷ rs) x h = go (within r.first x) (row_below (suc n) rs x (omega arith))
  where
    go : (b : Bool) → row_from (suc n) rs x < suc n + length rs → pick b n (row_from (suc n) rs x) < n + suc (length rs)
    go true e = omega arith
    go false e = omega arith

pub class_below : (x : ℕ) → class_of x < 10
unfolding class_of rows
class_below x = row_below 1 rows x (omega arith)

-- a later byte begins no row
within_true : (lo hi x : ℕ) → within (range lo hi) x ≡ true → (lo ≤ x) × (x ≤ hi)
unfolding within
within_true lo hi x e = go (leb lo x) (leb x hi) refl refl e
  where
    go : (a b : Bool) → leb lo x ≡ a → leb x hi ≡ b → a && b ≡ true → (lo ≤ x) × (x ≤ hi)
    go true true p q r = (leb-true lo x p, leb-true x hi q)
    go true false p q r = let z : ◌≡◌ {A = ℕ} 0 1 = cc in absurd (omega arith)
    go false b p q r = let z : ◌≡◌ {A = ℕ} 0 1 = cc in absurd (omega arith)

tail_none : (x : ℕ) → (0x80 ≤ x) × (x ≤ 0xBF) → class_of x ≡ 0
unfolding class_of rows within
tail_none x h =
    rw (
      le-leb 0 x (omega arith),
      lt-leb x 0x7F (omega arith),
      lt-leb 0xC2 x (omega arith),
      lt-leb 0xE0 x (omega arith),
      lt-leb 0xE1 x (omega arith),
      lt-leb 0xED x (omega arith),
      lt-leb 0xEE x (omega arith),
      lt-leb 0xF0 x (omega arith),
      lt-leb 0xF1 x (omega arith),
      lt-leb 0xF4 x (omega arith),
    )

-- the row that a class of the table stands for
pub class_row : (x c : ℕ) → c ≡ byte_class x → c < 10 → class_of x ≡ c
unfolding byte_class
class_row x c e h = go (within (range 0x80 0x8F) x) (within (range 0x90 0x9F) x) (within (range 0xA0 0xBF) x) e
  where
    go : (a b d : Bool) → c ≡ pick a 10 (pick b 11 (pick d 12 (class_of x))) → class_of x ≡ c
    go true b d q = absurd (omega arith)
    go false true d q = absurd (omega arith)
    go false false true q = absurd (omega arith)
    go false false false q = sym q

pub class_tail : (x c : ℕ) → c ≡ byte_class x → 9 < c → class_of x ≡ 0
unfolding byte_class
class_tail x c e h = go (within (range 0x80 0x8F) x) (within (range 0x90 0x9F) x) (within (range 0xA0 0xBF) x) refl refl refl e
  where
    go : (a b d : Bool) → within (range 0x80 0x8F) x ≡ a → within (range 0x90 0x9F) x ≡ b → within (range 0xA0 0xBF) x ≡ d
        → c ≡ pick a 10 (pick b 11 (pick d 12 (class_of x))) → class_of x ≡ 0
    go true b d p q r k = let w = within_true 0x80 0x8F x p in tail_none x (omega arith, omega arith)
    go false true d p q r k = let w = within_true 0x90 0x9F x q in tail_none x (omega arith, omega arith)
    go false false true p q r k = let w = within_true 0xA0 0xBF x r in tail_none x (omega arith, omega arith)
    go false false false p q r k = let l = class_below x in absurd (omega arith)

pub byte_below : (x : ℕ) → byte_class x < 13
unfolding byte_class
byte_below x = go (within (range 0x80 0x8F) x) (within (range 0x90 0x9F) x) (within (range 0xA0 0xBF) x) (class_below x)
  where
    go : (a b d : Bool) → class_of x < 10 → pick a 10 (pick b 11 (pick d 12 (class_of x))) < 13
    go true b d l = omega arith
    go false true d l = omega arith
    go false false true l = omega arith
    go false false false l = omega arith

-- a byte of none of the classes 1 to 9 begins none
pub class_none : (x c : ℕ) → c ≡ byte_class x → (c ≡ 1 → ⊥) → (c ≡ 2 → ⊥) → (c ≡ 3 → ⊥) → ((c ≡ 4) ⊎ (c ≡ 6) → ⊥) → (c ≡ 5 → ⊥) → (c ≡ 7 → ⊥) → (c ≡ 8 → ⊥) → (c ≡ 9 → ⊥) → class_of x ≡ 0
class_none x zero e q1 q2 q3 q46 q5 q7 q8 q9 = class_row x 0 e (omega arith)
class_none x (suc zero) e q1 q2 q3 q46 q5 q7 q8 q9 = absurd (q1 refl)
class_none x (suc (suc zero)) e q1 q2 q3 q46 q5 q7 q8 q9 = absurd (q2 refl)
class_none x (suc (suc (suc zero))) e q1 q2 q3 q46 q5 q7 q8 q9 = absurd (q3 refl)
class_none x (suc (suc (suc (suc zero)))) e q1 q2 q3 q46 q5 q7 q8 q9 = absurd (q46 (inl refl))
class_none x (suc (suc (suc (suc (suc zero))))) e q1 q2 q3 q46 q5 q7 q8 q9 = absurd (q5 refl)
class_none x (suc (suc (suc (suc (suc (suc zero)))))) e q1 q2 q3 q46 q5 q7 q8 q9 = absurd (q46 (inr refl))
class_none x (suc (suc (suc (suc (suc (suc (suc zero))))))) e q1 q2 q3 q46 q5 q7 q8 q9 = absurd (q7 refl)
class_none x (suc (suc (suc (suc (suc (suc (suc (suc zero)))))))) e q1 q2 q3 q46 q5 q7 q8 q9 = absurd (q8 refl)
class_none x (suc (suc (suc (suc (suc (suc (suc (suc (suc zero))))))))) e q1 q2 q3 q46 q5 q7 q8 q9 = absurd (q9 refl)
class_none x (suc (suc (suc (suc (suc (suc (suc (suc (suc (suc c)))))))))) e q1 q2 q3 q46 q5 q7 q8 q9 = class_tail x _ e (omega arith)

pub ascii_class : (x : ℕ) → x < 128 → class_of x ≡ 1
unfolding class_of rows within
ascii_class x h = rw (le-leb 0 x (omega arith), le-leb x 127 (omega arith))

-- ---- a step, by the row that its first byte begins, by what the match gave (n) and by the answer (r)

pub step_none : (x : ℕ) (xs : List ℕ) → class_of x ≡ 0 → Bad 1 ≡ step_of x xs
unfolding step_of good more later_of matched
step_none x xs e = rw e

step_class : (x : ℕ) (xs : List ℕ) (c : ℕ) → class_of x ≡ suc c
    → step_of x xs ≡ pick (eqb (matched (later_of (suc c)) xs) (length (later_of (suc c)))) (Good (suc (matched (later_of (suc c)) xs))) (Bad (suc (matched (later_of (suc c)) xs)))
unfolding step_of good more
step_class x xs c e = rw (e, leb-suc-suc, leb-zero)

step_row : (x : ℕ) (xs : List ℕ) (c : ℕ) (rs : List Range) (n : ℕ) (r : Step) → rs ≡ later_of (suc c) → class_of x ≡ suc c → n ≡ matched rs xs
    → r ≡ pick (eqb n (length rs)) (Good (suc n)) (Bad (suc n)) → r ≡ step_of x xs
step_row x xs c rs n r el ec en er = rw (step_class x xs c ec, ← el, ← en, er)

-- the same, by the class that the table gave (cls)
pub step_by : (x : ℕ) (xs : List ℕ) (c : ℕ) (rs : List Range) (cls n : ℕ) (r : Step) → rs ≡ later_of (suc c) → cls ≡ byte_class x → cls ≡ suc c → c < 9 → n ≡ matched rs xs
    → r ≡ pick (eqb n (length rs)) (Good (suc n)) (Bad (suc n)) → r ≡ step_of x xs
step_by x xs c rs cls n r el ec ek h en er = step_row x xs c rs n r el (class_row x cls ec (omega arith) ∙ ek) en er

pub step_one : (x : ℕ) (xs : List ℕ) → class_of x ≡ 1 → Good 1 ≡ step_of x xs
unfolding later_of rows
step_one x xs e = step_row x xs 0 [] 0 (Good 1) refl e (matched_none xs) refl
