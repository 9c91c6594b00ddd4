-- A row: numbers of given widths, read one after another, and what is read behind them. A head of fixed fields is one, so what a head gives that
-- is there, and where one is cut, is said once for all heads.
-- Assumes nothing.
use Rattle.std.specs.Prelude.{Ok, Err}
use Prim.Native.Nat.{ℕ, zero, suc, ◌+◌, ◌<◌, ◌≤◌}
use mathlib.Core.Path.{◌≡◌, refl, ap₂, sym, ◌∙◌}
use mathlib.Core.Bool.{Bool, true, false}
use mathlib.Core.List.{List, [], ◌∷◌, map}
use native.Mathlib.Numerals.{add-one}
use native.Mathlib.Omega.{arith}
use borrow.Author.Tests.{leb-true, leb-false, le-leb, lt-leb}
use lib.Dec.{leb}
use lib.ListN.{length, get_or, drop, drop_of_length-le}
use lib.Seq.{drop-cons}
use Rattle.base.specs.declared.error.PastEnd.{PastEnd as Past}
use Rattle.base.specs.Number.{get, read_of}
use Rattle.base.proofs.Numbers.{read_value_lem, read_past}
use Rattle.base.proofs.Seeks.{seek_there, seek_over}
use Rattle.bflan.specs.declared.fault.Fault.{Fault}
use Rattle.bflan.specs.declared.fault.Fault.TheVariants.{PastEnd}
use Rattle.bflan.specs.Reader.{past_fault, Res, ok, stop, P, and_then, num, seek_to}
use Rattle.bflan.specs.pai1.FieldValues.{numbers_in}
use Rattle.bflan.specs.pai1.Places.{total}
use Rattle.bflan.specs.inner.Row.{width_of, cut_in, sought_cut}
use Rattle.bflan.proofs.reader.Emits.{sought_there, sought_over}
use Rattle.bflan.proofs.reader.KeyRuns.{num_there, num-short}

unfoldable pub row_then : {A : Type 0} → List ℕ → (List ℕ → P A) → P A
row_then [] c = c []
row_then (k ∷ ks) c = λ s i. and_then (num k s i) (λ v. row_then ks (λ vs. c (v ∷ vs))) s

-- what is read behind a row that gives a value of its own
pub row_bind : {A B : Type 0} (ks : List ℕ) (c : List ℕ → P A) (d : A → P B) (s : List ℕ) (i : ℕ) → and_then (row_then ks c s i) d s ≡ row_then ks (λ vs s j. and_then (c vs s j) d s) s i
unfolding row_then
row_bind [] c d s i = refl
row_bind {A} {B} (k ∷ ks) c d s i = go (num k s i) (λ v j. row_bind ks (λ vs. c (v ∷ vs)) d s j)
  where
    go : (r : Res ℕ)
        → ((v j : ℕ) → and_then (row_then ks (λ vs. c (v ∷ vs)) s j) d s ≡ row_then ks (λ vs s j. and_then (c (v ∷ vs) s j) d s) s j)
        → and_then (and_then r (λ v. row_then ks (λ vs. c (v ∷ vs))) s) d s ≡ and_then r (λ v. row_then ks (λ vs s j. and_then (c (v ∷ vs) s j) d s)) s
    go (stop f) h = refl
    go (ok v j) h = h v j

-- ---- the numbers of a head at b, each by how far behind b it stands

abbrev pub offset_by : ℕ → ℕ → ℕ
offset_by b zero = b
offset_by b (suc o) = b + suc o

pub offset_is : (b o : ℕ) → offset_by b o ≡ b + o
offset_is b zero = omega arith
offset_is b (suc o) = refl

unfoldable pub fields_at : List ℕ → List ℕ → ℕ → ℕ → List ℕ
fields_at [] s b o = []
fields_at (k ∷ ks) s b o = get k s (offset_by b o) ∷ fields_at ks s b (o + k)

fields_are : (ks s : List ℕ) (b o : ℕ) → numbers_in ks s (b + o) ≡ fields_at ks s b o
unfolding numbers_in fields_at
fields_are [] s b o = refl
fields_are (k ∷ ks) s b o =
    let e : b + o + k ≡ b + (o + k) = omega arith in
    rw (e, offset_is b o, fields_are ks s b (o + k))

-- ---- the read that is refused, by the first width

cut_on : (s : List ℕ) (k : ℕ) (ks : List ℕ) (i : ℕ) → i + k ≤ length s → cut_in (k ∷ ks) s i ≡ cut_in ks s (i + k)
unfolding cut_in
cut_on s k ks i h = rw (le-leb (i + k) (length s) h)

cut_no : (s : List ℕ) (k : ℕ) (ks : List ℕ) (i : ℕ) → length s < i + k → cut_in (k ∷ ks) s i ≡ PastEnd i k
unfolding cut_in
cut_no s k ks i h = rw (lt-leb (i + k) (length s) h)

module _ {A : Type 0} (s : List ℕ) where
  -- ---- it is there

  row-whole : (ks : List ℕ) (c : List ℕ → P A) (i : ℕ) → i + total ks ≤ length s → row_then ks c s i ≡ c (numbers_in ks s i) s (i + total ks)
  unfolding row_then numbers_in total
  row-whole [] c i h = let e : i + 0 ≡ i = omega arith in rw e
  row-whole (k ∷ ks) c i h =
      let e : i + (k + total ks) ≡ i + k + total ks = omega arith in
      rw (num_there k s i (omega arith), e) (row-whole ks (λ vs. c (get k s i ∷ vs)) (i + k) (omega arith))

  -- its first number stands o behind b
  pub row_there : (ks : List ℕ) (c : List ℕ → P A) (b o : ℕ) → b + (o + total ks) ≤ length s → row_then ks c s (offset_by b o) ≡ c (fields_at ks s b o) s (b + (o + total ks))
  row_there ks c b o h =
      let e : b + o + total ks ≡ b + (o + total ks) = omega arith in
      rw (offset_is b o) (row-whole ks c (b + o) (omega arith) ∙ ap₂ (λ (vs : List ℕ) (j : ℕ). c vs s j) (fields_are ks s b o) e)

  -- ---- it is cut

  abbrev Short : List ℕ → (List ℕ → P A) → ℕ → Type 0
  Short ks c i = length s < i + total ks → row_then ks c s i ≡ stop (cut_in ks s i)

  short-more : (k : ℕ) (ks : List ℕ) (c : List ℕ → P A) (i : ℕ) → ((v : ℕ) → i + k ≤ length s → Short ks (λ vs. c (v ∷ vs)) (i + k)) → Short (k ∷ ks) c i
  unfolding row_then total
  short-more k ks c i f h = go (leb (i + k) (length s)) refl
    where
      go : (b : Bool) → leb (i + k) (length s) ≡ b → and_then (num k s i) (λ v. row_then ks (λ vs. c (v ∷ vs))) s ≡ stop (cut_in (k ∷ ks) s i)
      go true e = let l = leb-true (i + k) (length s) e in rw (num_there k s i l, cut_on s k ks i l) (f (get k s i) l (omega arith))
      go false e = let l = leb-false (i + k) (length s) e in rw (num-short k s i l, cut_no s k ks i l)

  short_from : (ks : List ℕ) (c : List ℕ → P A) (i : ℕ) → i ≤ length s → Short ks c i
  unfolding total
  short_from [] c i l h = absurd (omega arith)
  short_from (k ∷ ks) c i l h = short-more k ks c i (λ v l. short_from ks (λ vs. c (v ∷ vs)) (i + k) l) h

  pub row_cut : (ks : List ℕ) (c : List ℕ → P A) (i : ℕ) → 0 < total ks → Short ks c i
  unfolding total
  row_cut [] c i z h = absurd (omega arith)
  row_cut (k ∷ ks) c i z h = short-more k ks c i (λ v l. short_from ks (λ vs. c (v ∷ vs)) (i + k) l) h

  -- so one that was read is there
  pub row_fits : (ks : List ℕ) (c : List ℕ → P A) (i : ℕ) → 0 < total ks → {a : A} {j : ℕ} → row_then ks c s i ≡ ok a j → i + total ks ≤ length s
  row_fits ks c i z {a} {j} e = go (leb (i + total ks) (length s)) refl
    where
      go : (b : Bool) → leb (i + total ks) (length s) ≡ b → i + total ks ≤ length s
      go true d = leb-true (i + total ks) (length s) d
      go false d =
          let f = sym (row_cut ks c i z (leb-false (i + total ks) (length s) d)) ∙ e in
          let z : ◌≡◌ {A = ℕ} 0 1 = cc in
          absurd (omega arith)

  -- ---- its place is sought before

  module _ (ks : List ℕ) (c : List ℕ → P A) (base i : ℕ) where
    pub sought_row : base + (0 + total ks) ≤ length s → and_then (seek_to base s i) (λ at. row_then ks c) s ≡ c (fields_at ks s base 0) s (base + (0 + total ks))
    sought_row h = rw (sought_there s base i (omega arith)) (row_there ks c base 0 h)

    pub sought_short : length s < base + total ks → and_then (seek_to base s i) (λ at. row_then ks c) s ≡ stop (sought_cut ks s base)
    unfolding sought_cut
    sought_short h = go (leb base (length s)) refl
      where
        go : (b : Bool) → leb base (length s) ≡ b → and_then (seek_to base s i) (λ at. row_then ks c) s ≡ stop (sought_cut ks s base)
        go true e = let l = leb-true base (length s) e in rw (sought_there s base i l, seek_there s base l) (short_from ks c base l h)
        go false e = let l = leb-false base (length s) e in rw (sought_over s base i l, seek_over s base l)

-- ---- the loop that looks for the read that is refused: i widths are passed

module _ (s ws : List ℕ) (i p : ℕ) {f : Fault} (e : cut_in (map width_of (drop i ws)) s p ≡ f) where
  left : i < length ws → cut_in (width_of (get_or ws i 0) ∷ map width_of (drop (i + 1) ws)) s p ≡ f
  left h = let d : drop i ws ≡ get_or ws i 0 ∷ drop (i + 1) ws = rw (add-one, drop-cons ws i 0) in rw d at e

  pub cut_next : i < length ws → {v q : ℕ} → read_of (width_of (get_or ws i 0)) s p ≡ Ok (v, q) → cut_in (map width_of (drop (i + 1) ws)) s q ≡ f
  cut_next h r = let g = read_value_lem _ _ _ _ _ r in rw g.next (sym (cut_on s _ _ p g.fits) ∙ left h)

  pub cut_here : i < length ws → {past : Past} → read_of (width_of (get_or ws i 0)) s p ≡ Err past → past_fault past ≡ f
  cut_here h r = let g = read_past _ _ _ _ _ r in rw (g.place, g.asked) (sym (cut_no s _ _ p g.over) ∙ left h)

  pub cut_none : length ws ≤ i → PastEnd p 0 ≡ f
  unfolding cut_in
  cut_none h = rw (drop_of_length-le ws h) at e
