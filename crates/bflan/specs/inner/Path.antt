-- The path to a field, a step at a time, and what a section that reads has on it.
use Rattle.std.specs.Prelude.{ℕ, ◌+◌, ◌*◌, ◌<◌, ◌≤◌, ◌≡◌, Option, Some, None, List, eqb, ltb, length}
use Rattle.base.specs.Choice.{pick}
use Rattle.base.specs.Number.{get}
use Rattle.bflan.specs.declared.place.FieldSpot.{FieldSpot}
use Rattle.bflan.specs.pai1.Letters.{fleu}
use Rattle.bflan.specs.pai1.Places.{Spot, nowhere, spot, total, stride, info_table_in}
use Rattle.bflan.specs.Reader.{Res, ok, stop, Item, many}
use Rattle.bflan.specs.pai1.Reading.{curve_of, count_of, datum}
use Rattle.bflan.specs.pai1.Record.{key_widths}

-- ---- the path: where the part starts that a step leads to, and the field at its end

unfoldable pub spot_of : Spot → Option FieldSpot
spot_of nowhere = None
spot_of (spot at f) = Some (record { at = at; field = f })

unfoldable pub content_base : List ℕ → ℕ → Option ℕ
content_base s c = pick (ltb c (get 2 s 14)) (Some (get 4 s (get 4 s 16 + 4 * c))) None

-- under the content that starts at b
unfoldable pub info_base : List ℕ → ℕ → ℕ → Option ℕ
info_base s b i = pick (ltb i (get 1 s (b + 28))) (Some (b + get 4 s (info_table_in s b + 4 * i))) None

-- under the info that starts at b
unfoldable pub target_base : List ℕ → ℕ → ℕ → Option ℕ
target_base s b t = pick (eqb (get 4 s b) fleu) None (pick (ltb t (get 1 s (b + 4))) (Some (b + get 4 s (b + 8 + 4 * t))) None)

unfoldable pub after_base : Res (List Item) → Option ℕ
after_base (ok is q) = Some q
after_base (stop f) = None

unfoldable pub datum_base : List ℕ → ℕ → ℕ → Option ℕ
datum_base s b d = pick (eqb (get 4 s b) fleu) (pick (ltb d (get 1 s (b + 4))) (after_base (many d datum s (b + 8))) None) None

-- ---- what stands in a section that reads

-- the target that starts at b, and its keys
pub record TargetAt (s : List ℕ) (b : ℕ) : Type 0 where
  pub head : b + 12 ≤ length s
  pub keys : (k : ℕ) → k < count_of (get 1 s (b + 2)) (get 2 s (b + 4))
      → b + get 4 s (b + 8) + k * stride (curve_of (get 1 s (b + 2))) + total (key_widths (curve_of (get 1 s (b + 2)))) ≤ length s

-- the datum that starts at b, and its three lists
pub record DatumAt (s : List ℕ) (b : ℕ) : Type 0 where
  pub lists : b + 16 + 12 * get 4 s (b + 8) ≤ length s

-- the info that starts at b, with its targets or its data
pub record InfoAt (s : List ℕ) (b : ℕ) : Type 0 where
  pub head : b + 8 ≤ length s
  pub table : (get 4 s b ≡ fleu → ⊥) → b + 8 + 4 * get 1 s (b + 4) ≤ length s
  pub targets : (get 4 s b ≡ fleu → ⊥) → (t : ℕ) → t < get 1 s (b + 4) → TargetAt s (b + get 4 s (b + 8 + 4 * t))
  pub extended : get 4 s b ≡ fleu → (d : ℕ) → d < get 1 s (b + 4) → (is : List Item) (q : ℕ) → many d datum s (b + 8) ≡ ok is q → DatumAt s q

-- the content that starts at b, with its infos
pub record ContentAt (s : List ℕ) (b : ℕ) : Type 0 where
  pub head : b + 32 ≤ length s
  pub user : get 1 s (b + 29) ≡ 2 → b + 36 ≤ length s
  pub table : info_table_in s b + 4 * get 1 s (b + 28) ≤ length s
  pub infos : (i : ℕ) → i < get 1 s (b + 28) → InfoAt s (b + get 4 s (info_table_in s b + 4 * i))

-- the section with its contents
pub record SectionAt (s : List ℕ) : Type 0 where
  pub head : 20 ≤ length s
  pub table : get 4 s 16 + 4 * get 2 s 14 ≤ length s
  pub contents : (c : ℕ) → c < get 2 s 14 → ContentAt s (get 4 s (get 4 s 16 + 4 * c))
