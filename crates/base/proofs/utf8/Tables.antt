-- What the tables of the code hold: each rule is a test at every entry, which is computed where the code names the table.
-- Assumes nothing.
use mathlib.Core.Bool.{Bool, ◌&&◌}
use mathlib.Core.List.{List, [], ◌∷◌}
use mathlib.Core.Path.{◌≡◌, refl}
use Prim.Native.Nat.{ℕ, ◌*◌, ◌/◌, ◌%◌, ◌^◌, ◌<◌}
use native.Mathlib.Omega.{arith}
use lib.Dec.{T, eqb, ltb, eqb→eq, ltb→lt}
use lib.ListN.{length, get_or}
use Rattle.base.specs.Utf8.{rows, within, class_of, byte_class, Classes}
use Rattle.base.specs.inner.Flow.{state_after, Rows}
use Rattle.base.specs.declared.utf8.class.TheConstants.{CLASSES}
use Rattle.base.specs.declared.utf8.flow.TheConstants.{ROWS}
use Rattle.base.proofs.utf8.Steps.{byte_below}
use Rattle.base.proofs.Table.{everywhere, at_entry, at_number, below, both_left, both_right}

unfoldable pub class_test : List ℕ → Bool
class_test t = everywhere (λ k x. eqb x (byte_class k)) t

pub classes_by : (t : List ℕ) → length t ≡ 256 → T (class_test t) → Classes t
unfolding class_test
classes_by t e f = record { entry = λ x h. eqb→eq (get_or t x 0) (byte_class x) (at_entry (λ k y. eqb y (byte_class k)) t f x (omega arith)) }

-- a byte of each class
abbrev samples : List ℕ
samples = 0xC0 ∷ 0x00 ∷ 0xC2 ∷ 0xE0 ∷ 0xE1 ∷ 0xED ∷ 0xEE ∷ 0xF0 ∷ 0xF1 ∷ 0xF4 ∷ 0x80 ∷ 0x90 ∷ 0xA0 ∷ []

unfoldable pub sample : ℕ → ℕ
sample c = get_or samples c 0

-- all bytes of a class lead to the same state
same_as : ℕ → ℕ → Bool
same_as x q = eqb (state_after q x) (state_after q (sample (byte_class x))) && ltb (state_after q x) 9

same_states : (x q : ℕ) → x < 256 → q < 9 → T (same_as x q)
unfolding same_as sample state_after byte_class class_of rows within
same_states x q h k = at_number (same_as x) 9 (at_number (λ y. below (same_as y) 9) 256 tt x h) q k

by_class : (x q : ℕ) → x < 256 → q < 9 → (state_after q x ≡ state_after q (sample (byte_class x))) × (state_after q x < 9)
unfolding same_as
by_class x q h k =
    let t = same_states x q h k in
    let a = eqb (state_after q x) (state_after q (sample (byte_class x))) in
    let b = ltb (state_after q x) 9 in
    (eqb→eq _ _ (both_left a b t), ltb→lt _ _ (both_right a b t))

-- so a row is tested at one byte of its class
unfoldable pub row_test : List ℕ → Bool
row_test r = below (λ c. below (λ q. eqb (get_or r c 0 / 2 ^ (6 * q) % 64) (6 * state_after q (sample c))) 9) 13

pub rows_by : (r : List ℕ) → T (row_test r) → Rows r
unfolding row_test
rows_by r f = record { entry = λ x q h k. let b = by_class x q h k in (rw b.0 (held (byte_class x) q (byte_below x) k), b.1) }
  where
    test : ℕ → ℕ → Bool
    test c q = eqb (get_or r c 0 / 2 ^ (6 * q) % 64) (6 * state_after q (sample c))

    held : (c q : ℕ) → c < 13 → q < 9 → get_or r c 0 / 2 ^ (6 * q) % 64 ≡ 6 * state_after q (sample c)
    held c q h k = eqb→eq _ _ (at_number (test c) 9 (at_number (λ d. below (test d) 9) 13 f c h) q k)

-- ---- the tables of the code

pub classes_hold : Classes CLASSES
unfolding class_test byte_class class_of rows within
classes_hold = classes_by CLASSES refl tt

pub rows_hold : Rows ROWS
unfolding row_test sample byte_class class_of rows within state_after
rows_hold = rows_by ROWS tt
