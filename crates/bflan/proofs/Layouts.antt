-- Layouts: their sizes, and what it means that one stands somewhere among bytes.
-- Assumes nothing.
use Prim.Native.Nat.{ℕ, suc, ◌+◌, ◌*◌, ◌^◌, ◌≤◌, ◌<◌}
use mathlib.Core.Path.{◌≡◌, refl, ap, ap₂, sym, subst, ◌∙◌}
use mathlib.Core.Bool.{Bool, true, false}
use mathlib.Core.List.{List, [], ◌∷◌, ◌++◌}
use native.Mathlib.Nat.{add-zero}
use native.Mathlib.Omega.{arith}
use borrow.Author.Tests.{ne_eqb}
use lib.Dec.{eqb}
use lib.ListN.{length, take, drop, length-append, length-replicate}
use lib.Seq.{take-take, take-append_seam, drop-drop, take-add, take-length, drop_at}
use Rattle.base.specs.Choice.{pick}
use Rattle.base.specs.Fill.{padding_of}
use Rattle.base.specs.Number.{get, le}
use Rattle.base.proofs.Numbers.{length-le, val-le}
use Rattle.bflan.specs.Layout.{Layout, nothing, number, bytes, ◌⨾◌, size, written, zeros, row, parts, table, ended}
use Rattle.bflan.specs.pai1.Layout.{key_skip, key_lay, table_from, user_lay, content_lay, names_end, content_table, section_size, section_lay}
use Rattle.bflan.specs.pai1.Places.{total, stride}
use Rattle.bflan.specs.Limits.{Fits}
use Rattle.bflan.specs.Reader.{ok, P, num, numbers}
use Rattle.bflan.specs.pai1.Record.{PaneAnimInfo, key_widths}
use Rattle.bflan.proofs.reader.KeyRuns.{num_there}
use Rattle.bflan.proofs.reader.Rows.{row_then, offset_by, offset_is, fields_at, row_there}

pub size-written : (l : Layout) → length (written l) ≡ size l
unfolding size written
size-written nothing = refl
size-written (number k n) = length-le k n
size-written (bytes bs) = refl
size-written (a ⨾ b) = rw (length-append, size-written a, size-written b)

pub size-row : (ks vs : List ℕ) → size (row ks vs) ≡ total ks
unfolding size row total
size-row [] vs = refl
size-row (k ∷ ks) [] = ap (λ (n : ℕ). k + n) (size-row ks [])
size-row (k ∷ ks) (v ∷ vs) = ap (λ (n : ℕ). k + n) (size-row ks vs)

pub size-key : (curve : ℕ) (k : List ℕ) → size (key_lay curve k) ≡ stride curve
unfolding key_lay size stride
size-key curve k = ap₂ (λ (m n : ℕ). m + n) (size-row (key_widths curve) k) (length-replicate (key_skip curve) 0)

pub stride_three : (c : ℕ) → stride (suc (suc c)) ≡ 12
unfolding stride total key_widths key_skip
stride_three c = let e : eqb (suc (suc c)) 1 ≡ false = ne_eqb (suc (suc c)) 1 (λ z. omega arith) in rw e

-- the layout's bytes stand in s from i on
pub record Stands (s : List ℕ) (i : ℕ) (l : Layout) : Type 0 where
  pub fits : i + size l ≤ length s
  pub same : take (size l) (drop i s) ≡ written l

module _ {s : List ℕ} {i : ℕ} {a b : Layout} where
  pub stands_left : Stands s i (a ⨾ b) → Stands s i a
  unfolding size written
  stands_left h =
      record {
        fits = omega (arith, h.fits);
        same = sym (take-take (size a) (size a + size b) (drop i s) (omega arith)) ∙ ap (take (size a)) h.same
            ∙ rw (← size-written a) (take-append_seam (written a) (written b));
      }

  pub stands_right : Stands s i (a ⨾ b) → Stands s (i + size a) b
  unfolding size written
  stands_right h =
      let d : List ℕ = drop i s in
      let x : List ℕ = take (size b) (drop (size a) d) in
      let e : written a ++ x ≡ written a ++ written b = ap (λ (l : List ℕ). l ++ x) (sym (stands_left h).same) ∙ sym (take-add (size a) (size b) d) ∙ h.same in
      record {
        fits = omega (arith, h.fits);
        same = rw (← drop-drop (size a) i s)
            (sym (drop_at (written a) x (size a) (size-written a)) ∙ ap (drop (size a)) e ∙ drop_at (written a) (written b) (size a) (size-written a));
      }

pub stands_to : {s : List ℕ} {i j : ℕ} {l : Layout} → Stands s i l → i ≡ j → Stands s j l
stands_to {s} {i} {j} {l} h e = subst (λ (k : ℕ). Stands s k l) e h

pub stands_all : (l : Layout) → Stands (written l) 0 l
stands_all l =
    let e = size-written l in
    record { fits = omega (arith, e); same = rw (← e) (take-length (written l)) }

-- ---- numbers

module _ {s : List ℕ} {i k n : ℕ} (h : Stands s i (number k n)) (l : n < 256 ^ k) where
  pub stands_get : get k s i ≡ n
  unfolding get size written
  stands_get = rw (h.same, val-le k n l)

  pub stands_num : num k s i ≡ ok n (i + k)
  unfolding size
  stands_num = num_there k s i h.fits ∙ ap (λ (v : ℕ). ok v (i + k)) stands_get

-- letters are bytes, and read as the number that they are
pub stands_code : {s : List ℕ} {i k n : ℕ} → Stands s i (bytes (le k n)) → Stands s i (number k n)
unfolding size written
stands_code {k = k} {n = n} h = record { fits = rw (length-le k n) at h.fits; same = rw (length-le k n) at h.same }

-- ---- a row of numbers, and what is behind it

abbrev pub row_before : List ℕ → List ℕ → Layout → Layout
row_before [] vs l = l
row_before (k ∷ ks) [] l = number k 0 ⨾ row_before ks [] l
row_before (k ∷ ks) (v ∷ vs) l = number k v ⨾ row_before ks vs l

row_before_lem : (ks vs : List ℕ) → row ks vs ≡ row_before ks vs nothing
unfolding row
row_before_lem [] vs = refl
row_before_lem (k ∷ ks) [] = ap (λ (l : Layout). number k 0 ⨾ l) (row_before_lem ks [])
row_before_lem (k ∷ ks) (v ∷ vs) = ap (λ (l : Layout). number k v ⨾ l) (row_before_lem ks vs)

module _ {s : List ℕ} where
  -- its first number stands o behind b
  pub fields_stand : (ks vs : List ℕ) (l : Layout) (b o : ℕ) → Fits ks vs → Stands s (offset_by b o) (row_before ks vs l)
      → (fields_at ks s b o ≡ vs) × Stands s (b + (o + total ks)) l
  unfolding fields_at total size
  fields_stand [] [] l b o q h = (refl, stands_to h (omega (arith, offset_is b o)))
  fields_stand [] (v ∷ vs) l b o q h = absurd q
  fields_stand (k ∷ ks) [] l b o q h = absurd q
  fields_stand (k ∷ ks) (v ∷ vs) l b o q h =
      let g = fields_stand ks vs l b (o + k) q.1 (stands_to (stands_right h) (omega (arith, offset_is b o, offset_is b (o + k)))) in
      (ap₂ (λ (u : ℕ) (us : List ℕ). u ∷ us) (stands_get (stands_left h) q.0) g.0, stands_to g.1 (omega arith))

  pub row_stands : {A : Type 0} (ks vs : List ℕ) (c : List ℕ → P A) (i : ℕ) → Fits ks vs → Stands s i (row ks vs) → row_then ks c s i ≡ c vs s (i + (0 + total ks))
  row_stands ks vs c i q h =
      row_there s ks c i 0 (omega (arith, h.fits, size-row ks vs))
      ∙ ap (λ (us : List ℕ). c us s (i + (0 + total ks))) (fields_stand ks vs nothing i 0 q (rw (row_before_lem ks vs) at h)).0

-- ---- parts and their table

module _ {X : Type 0} (lay : X → Layout) where
  pub size-table : (from : ℕ) (xs : List X) → size (table lay from xs) ≡ 4 * length xs
  unfolding table size
  size-table from [] = refl
  size-table from (x ∷ xs) = rw (size-table (from + size (lay x)) xs) (omega arith)

  -- the offsets in the table
  abbrev pub offsets : ℕ → List X → List ℕ
  offsets from [] = []
  offsets from (x ∷ xs) = from ∷ offsets (from + size (lay x)) xs

  pub table-reads : (s : List ℕ) (i from : ℕ) (xs : List X) → from + size (parts lay xs) < 256 ^ 4 → Stands s i (table lay from xs)
      → numbers (length xs) s i ≡ ok (offsets from xs) (i + 4 * length xs)
  unfolding table parts size numbers
  table-reads s i from [] b h = rw add-zero
  table-reads s i from (x ∷ xs) b h =
      let n : from < 256 ^ 4 = omega arith in
      let r : from + size (lay x) + size (parts lay xs) < 256 ^ 4 = omega arith in
      rw (stands_num (stands_left h) n, table-reads s (i + 4) (from + size (lay x)) xs r (stands_right h))
      (ap (ok (from ∷ offsets (from + size (lay x)) xs)) (omega arith))

-- the two numbers of a User content are before its info table
pub user-size : (type total : ℕ) → 32 + size (user_lay type total) ≡ table_from type
unfolding user_lay table_from size
user-size type total = go (eqb type 2)
  where
    go : (b : Bool) → 32 + size (pick b (number 4 40 ⨾ number 4 total) nothing) ≡ pick b 40 32
    go true = refl
    go false = refl

-- the parts of a section whose sizes its layout does not show
pub record SectionSizes (r : PaneAnimInfo) : Type 0 where
  pub offsets : size (table ended (4 * length r.textures) r.textures) ≡ 4 * length r.textures
  pub fill : size (zeros (padding_of (names_end r))) ≡ padding_of (names_end r)
  pub content_offsets : size (table content_lay (content_table r + 4 * length r.contents) r.contents) ≡ 4 * length r.contents

pub section_sizes : (r : PaneAnimInfo) → SectionSizes r
unfolding size
section_sizes r = record { offsets = size-table ended _ _; fill = length-replicate _ 0; content_offsets = size-table content_lay _ _ }

-- its size is the number that stands in it
pub section_size_lem : (r : PaneAnimInfo) → size (section_lay r) ≡ section_size r
unfolding section_lay section_size content_table names_end size
section_size_lem r = let z = section_sizes r in omega (arith, z.offsets, z.fill, z.content_offsets)
