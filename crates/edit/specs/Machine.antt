-- The plain machine (document 01, 'Edits and undo'): a record, a stack of records, a capacity. And what is compared with it: lists of calls on
-- a section and a journal, each call handed what the one before left.
use Rattle.std.specs.Prelude.{ℕ, ◌+◌, ◌≡◌, List, [], ◌∷◌, ltb, eqb, length, take, drop, get_or}
use Rattle.base.specs.Choice.{pick}
use Rattle.base.specs.Outcome.{Outcome, accepted}
use Rattle.bflan.specs.Answer.{no_place}
use Rattle.bflan.specs.pai1.Places.{Spot, nowhere, spot, Found, missing, found, fit, widths, total}
use Rattle.edit.specs.Editing.{unfit, journal_full, nothing_to_undo, editing, undoing}
use Rattle.edit.specs.Format.{Format}

module _ (F : Format) where
  pub data Call : Type 0 where
    edit : F.Place → List ℕ → Call
    undo : Call

  -- ---- the machine

  pub record Machine : Type 0 where
    pub rec : F.Rec
    pub stack : List F.Rec

  unfoldable pub started : F.Rec → Machine
  started r = record { rec = r; stack = [] }

  unfoldable pub edit_field : ℕ → Machine → F.Place → List ℕ → Found → Outcome × Machine
  edit_field most m p vs missing = (no_place, m)
  edit_field most m p vs (found f) =
      pick (fit f vs)
      (pick (ltb (length m.stack) most)
      (accepted ((length m.stack + 1) ∷ []), record { rec = F.replaced m.rec p vs; stack = m.rec ∷ m.stack })
      (journal_full most, m))
      (unfit, m)

  unfoldable pub pop : F.Rec → List F.Rec → Outcome × Machine
  pop r [] = (nothing_to_undo, record { rec = r; stack = [] })
  pop r (q ∷ qs) = (accepted (length qs ∷ []), record { rec = q; stack = qs })

  unfoldable pub turn : ℕ → Call → Machine → Outcome × Machine
  turn most (edit p vs) m = edit_field most m p vs (F.field_of m.rec p)
  turn most undo m = pop m.rec m.stack

  -- ---- the calls

  pub record State : Type 0 where
    pub section : List ℕ
    pub journal : List ℕ
    pub count : ℕ

  -- an accepted call hands on the count that it returns, a refused one the count that it was given
  unfoldable pub handed_on : ℕ → Outcome → ℕ
  handed_on count a = pick (eqb a.number 0) (get_or a.values 0 0) count

  unfoldable pub called : Call → State → Outcome × State
  called (edit p vs) z =
      let r = editing F z.section z.journal z.count p vs in (r.0, record { section = r.1; journal = r.2; count = handed_on z.count r.0 })
  called undo z =
      let r = undoing z.section z.journal z.count in (r.0, record { section = r.1; journal = z.journal; count = handed_on z.count r.0 })

  -- ---- the bytes that a call may change: an edit's are its field's, an undo's those of the edit that it takes back, and a refused call has none

  pub record Part : Type 0 where
    pub at : ℕ
    pub size : ℕ

  abbrev pub none : Part
  none = record { at = 0; size = 0 }

  unfoldable pub part_of : Spot → Part
  part_of nowhere = none
  part_of (spot at f) = record { at = at; size = total (widths f) }

  -- the parts of the edits that are not taken back, the last first
  abbrev pub first_of : List Part → Part
  first_of [] = none
  first_of (x ∷ xs) = x

  abbrev pub rest_of : List Part → List Part
  rest_of [] = []
  rest_of (x ∷ xs) = xs

  unfoldable pub own_part : Call → State → List Part → Part
  own_part (edit p vs) z parts = part_of (F.locate z.section p)
  own_part undo z parts = first_of parts

  unfoldable pub changes : Call → State → List Part → Outcome → Part
  changes c z parts a = pick (eqb a.number 0) (own_part c z parts) none

  unfoldable pub parts_after : Call → State → List Part → Outcome → List Part
  parts_after (edit p vs) z parts a = pick (eqb a.number 0) (part_of (F.locate z.section p) ∷ parts) parts
  parts_after undo z parts a = pick (eqb a.number 0) (rest_of parts) parts

  -- two lists of bytes that are as long, and the same before and behind a part
  pub record SameBut (x : Part) (s s' : List ℕ) : Type 0 where
    pub long : length s' ≡ length s
    pub before : take x.at s' ≡ take x.at s
    pub behind : drop (x.at + x.size) s' ≡ drop (x.at + x.size) s

  -- ---- a list of calls agrees with the machine; `Reads s r` says that reading s gives the record r, `Writes s r` that writing r gives s

  module _ (Reads Writes : List ℕ → F.Rec → Type 0) (most : ℕ) where
    pub record AgreesOnce (c : Call) (z : State) (m : Machine) (parts : List Part) : Type 0 where
      pub answer : (called c z).0 ≡ (turn most c m).0
      pub count : (called c z).1.count ≡ length (turn most c m).1.stack
      pub section : (called c z).1.section ≡ F.bytes (turn most c m).1.rec
      pub writes : Writes (called c z).1.section (turn most c m).1.rec
      pub reads : Reads (called c z).1.section (turn most c m).1.rec
      pub kept : SameBut (changes c z parts (called c z).0) z.section (called c z).1.section

    abbrev pub Agrees : List Call → State → Machine → List Part → Type 0
    Agrees [] z m parts = (z.section ≡ F.bytes m.rec) × Writes z.section m.rec × Reads z.section m.rec
    Agrees (c ∷ cs) z m parts = AgreesOnce c z m parts × Agrees cs (called c z).1 (turn most c m).1 (parts_after c z parts (called c z).0)
