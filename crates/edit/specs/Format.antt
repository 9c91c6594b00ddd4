-- What edits need of a format: its reading, where a place's field is found in a section that reads, and the same places in a record. The pai1
-- section is one format.
use Rattle.std.specs.Prelude.{ℕ, ◌≤◌, ◌≡◌, List, [], ◌∷◌, length}
use Rattle.std.proofs.lemmas.List.Edits.{sets}
use Rattle.base.specs.Outcome.{accepted}
use Rattle.bflan.specs.Answer.{reading_by}
use Rattle.bflan.specs.Cells.{Cell, words_in, bytes_in}
use Rattle.bflan.specs.Judge.{J}
use Rattle.bflan.specs.Layout.{Layout, written}
use Rattle.bflan.specs.Reader.{Res, P, Item}
use Rattle.bflan.specs.Writing.{writing_by}
use Rattle.bflan.specs.pai1.Judge.{section as judge}
use Rattle.bflan.specs.pai1.Layout.{section_lay}
use Rattle.bflan.specs.pai1.Places.{Spot, Found, locate, field_of, replaced}
use Rattle.bflan.specs.pai1.Reading.{section}
use Rattle.bflan.specs.pai1.Record.{PaneAnimInfo, cells}
use Rattle.bflan.specs.declared.place.Place.{Place}

pub record Format : Type 1 where
  pub Place : Type 0
  pub Rec : Type 0
  pub Items : Type 0
  -- a section's bytes, read whole
  pub read : List ℕ → Res Items
  pub locate : List ℕ → Place → Spot
  pub field_of : Rec → Place → Found
  pub replaced : Rec → Place → List ℕ → Rec
  -- a record's bytes
  pub bytes : Rec → List ℕ

abbrev pub pai1 : Format
pai1 =
    record {
      Place = Place;
      Rec = PaneAnimInfo;
      Items = List Item;
      read = λ s. section s 0;
      locate = locate;
      field_of = field_of;
      replaced = replaced;
      bytes = λ r. written (section_lay r);
    }

-- of any format, by its cells and its reader, or its layout and its judge
module _ {A : Type 0} (cells_of : A → List Cell) where
  -- reading these bytes with long enough tables is accepted, and fills them with the record; no character was replaced
  abbrev pub ReadsBy : P (List Item) → List ℕ → A → Type 0
  ReadsBy p s r =
      (w x : List ℕ) → length (words_in (cells_of r)) ≤ length w → length (bytes_in (cells_of r)) ≤ length x
      → reading_by p s w x
      ≡ (accepted (length (words_in (cells_of r)) ∷ length (bytes_in (cells_of r)) ∷ 0 ∷ []), sets w 0 (words_in (cells_of r)), sets x 0 (bytes_in (cells_of r)))

  -- writing the record into a long enough output is accepted, and gives these bytes
  abbrev pub WritesBy : (A → Layout) → J A → List ℕ → A → Type 0
  WritesBy lay p s r =
      (out : List ℕ) → length s ≤ length out → writing_by lay p (words_in (cells_of r)) (bytes_in (cells_of r)) out ≡ (accepted (length s ∷ []), sets out 0 s)

abbrev pub Reads : List ℕ → PaneAnimInfo → Type 0
Reads s r = ReadsBy cells section s r

abbrev pub Writes : List ℕ → PaneAnimInfo → Type 0
Writes s r = WritesBy cells section_lay judge s r
