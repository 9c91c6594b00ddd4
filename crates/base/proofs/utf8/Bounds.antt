-- The bytes of a well-formed text are below 256: Table 3-7 has no larger one.
-- Assumes nothing.
use Prim.Native.Nat.{ℕ, zero, suc, ◌<◌, ◌≤◌}
use mathlib.Core.Path.{◌≡◌, refl, sym, subst, ◌∙◌}
use mathlib.Core.Bool.{Bool, true, false, ◌&&◌}
use mathlib.Core.List.{List, [], ◌∷◌}
use native.Mathlib.Omega.{arith}
use lib.Dec.{T, leb, eqb, leb→le}
use lib.ListN.{length, take, drop, take-append-drop}
use Rattle.base.specs.Choice.{pick}
use Rattle.base.specs.Utf8.{Range, Row, rows, within, row_from, later_at, class_of, later_of, matched, more, good, well_formed}
use Rattle.base.proofs.Numbers.{Bytes, bytes-append}
use Rattle.base.proofs.Table.{both_left, both_right}
use Rattle.base.proofs.utf8.Laws.{by_kind}
use Rattle.base.proofs.utf8.Pieces.{well_good, well_bad}

-- ---- the table

abbrev small_ranges : List Range → Bool
small_ranges [] = true
small_ranges (r ∷ rs) = leb r.hi 255 && small_ranges rs

abbrev small_rows : List Row → Bool
small_rows [] = true
small_rows (r ∷ rs) = (leb r.first.hi 255 && small_ranges r.later) && small_rows rs

rows-small : T (small_rows rows)
unfolding rows
rows-small = tt

within-small : (r : Range) (x : ℕ) → T (leb r.hi 255) → T (within r x) → x < 256
unfolding within
within-small r x h k =
    let a : r.hi ≤ 255 = leb→le r.hi 255 h in
    let b : x ≤ r.hi = leb→le x r.hi (both_right (leb r.lo x) (leb x r.hi) k) in
    omega arith

-- what begins a row
first_small : (n : ℕ) (rs : List Row) (x : ℕ) → T (small_rows rs) → T (leb 1 (row_from n rs x)) → x < 256
first_small n [] x h k = absurd k
first_small n (r ∷ rs) x h k = go (within r.first x) refl k (first_small (suc n) rs x (both_right (leb r.first.hi 255 && small_ranges r.later) (small_rows rs) h))
  where
    go : (b : Bool) → within r.first x ≡ b → T (leb 1 (pick b n (row_from (suc n) rs x))) → (T (leb 1 (row_from (suc n) rs x)) → x < 256) → x < 256
    go true e t i = within-small r.first x (both_left (leb r.first.hi 255) (small_ranges r.later) (both_left (leb r.first.hi 255 && small_ranges r.later) (small_rows rs) h)) (subst T (sym e) tt)
    go false e t i = i t

-- what may come later in it
later-small : (rs : List Row) (c : ℕ) → T (small_rows rs) → T (small_ranges (later_at rs c))
later-small [] c h = tt
later-small (r ∷ rs) zero h = both_right (leb r.first.hi 255) (small_ranges r.later) (both_left (leb r.first.hi 255 && small_ranges r.later) (small_rows rs) h)
later-small (r ∷ rs) (suc c) h = later-small rs c (both_right (leb r.first.hi 255 && small_ranges r.later) (small_rows rs) h)

class_small : (c : ℕ) → T (small_ranges (later_of c))
unfolding later_of
class_small zero = tt
class_small (suc c) = later-small rows c rows-small

matched_small : (rs : List Range) (xs : List ℕ) → T (small_ranges rs) → Bytes (take (matched rs xs) xs)
unfolding matched
matched_small [] xs h = λ i. omega arith
matched_small (r ∷ rs) [] h = λ i. omega arith
matched_small (r ∷ rs) (x ∷ xs) h = go (within r x) refl (matched_small rs xs (both_right (leb r.hi 255) (small_ranges rs) h))
  where
    go : (b : Bool) → within r x ≡ b → Bytes (take (matched rs xs) xs) → Bytes (take (pick b (suc (matched rs xs)) 0) (x ∷ xs))
    go true e k zero = within-small r x (both_left (leb r.hi 255) (small_ranges rs) h) (subst T (sym e) tt)
    go true e k (suc i) = k i
    go false e k i = omega arith

-- ---- a text

character-small : (x : ℕ) (xs : List ℕ) → good x xs ≡ true → (x < 256) × Bytes (take (more x xs) xs)
unfolding good more class_of
character-small x xs e = (
  first_small 1 rows x rows-small (both_left (leb 1 (row_from 1 rows x)) (eqb (matched (later_of (row_from 1 rows x)) xs) (length (later_of (row_from 1 rows x)))) (subst T (sym e) tt)),
  matched_small (later_of (row_from 1 rows x)) xs (class_small (row_from 1 rows x)),
)

bytes_cons : (x : ℕ) (xs : List ℕ) → x < 256 → Bytes xs → Bytes (x ∷ xs)
bytes_cons x xs h k zero = h
bytes_cons x xs h k (suc i) = k i

pub well_bytes : (t : List ℕ) → well_formed t ≡ true → Bytes t
well_bytes =
    by_kind (λ t. well_formed t ≡ true → Bytes t) (λ e i. omega arith)
    (λ x xs g h e.
    let c = character-small x xs g in
    bytes_cons x xs c.0 (subst Bytes (take-append-drop (more x xs) xs) (bytes-append (take (more x xs) xs) (drop (more x xs) xs) c.1 (h (sym (well_good x xs g) ∙ e)))))
    (λ x xs g h e. absurd (no x xs g e))
  where
    no : (x : ℕ) (xs : List ℕ) → good x xs ≡ false → well_formed (x ∷ xs) ≡ true → ⊥
    no x xs g e =
        let q : ◌≡◌ {A = Bool} true false = sym e ∙ well_bad x xs g in
        let z : ◌≡◌ {A = ℕ} 0 1 = cc in
        omega arith
