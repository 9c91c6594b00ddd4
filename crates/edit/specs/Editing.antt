-- The two public calls: for any arguments what they answer, and what the section and the journal hold afterwards (document 01, 'Edits and
-- undo' and the refusals' table). The order of the refusals is the order of the cases.
use Rattle.std.specs.Prelude.{ℕ, ◌+◌, ◌-◌, ◌*◌, ◌&&◌, List, [], ◌∷◌, Result, eqb, leb, ltb, length, take, drop}
use Rattle.std.proofs.lemmas.List.Edits.{sets}
use Rattle.base.specs.Choice.{pick}
use Rattle.base.specs.Float.{pattern_of, patterns_of}
use Rattle.base.specs.Outcome.{Outcome, outcome_of, of_count, accepted, refused}
use Rattle.bflan.specs.Answer.{too_long, no_place, of_fault}
use Rattle.bflan.specs.Layout.{written, row}
use Rattle.bflan.specs.Limits.{limit}
use Rattle.bflan.specs.pai1.Places.{Spot, nowhere, spot, fit, widths, total}
use Rattle.bflan.specs.Reader.{Res, ok, stop}
use Rattle.bflan.specs.declared.place.LocateError.{LocateError}
use Rattle.bflan.specs.declared.place.LocateError.TheVariants.{TooLong as LocateTooLong, Fault as LocateFault, NoSuchPlace as LocateNoPlace}
use Rattle.bflan.specs.declared.place.Place.{Place}
use Rattle.bflan.specs.declared.place.Place.TheVariants.{FrameCount, Looping, Layer, Target, Key, Value}
use Rattle.edit.specs.declared.key.NewKey.{NewKey}
use Rattle.edit.specs.declared.key.NewKey.TheVariants.{Constant, Step, Hermite}
use Rattle.edit.specs.declared.edit.Change.{Change}
use Rattle.edit.specs.declared.edit.Change.TheVariants.{FrameCount as setFrameCount, Looping as setLooping, Layer as setLayer, Target as setTarget, Key as setKey, Value as setValue}
use Rattle.edit.specs.declared.edit.EditError.{EditError}
use Rattle.edit.specs.declared.edit.EditError.TheVariants.{TooLong, Fault as Unread, NoSuchPlace, Unfit, JournalFull}
use Rattle.edit.specs.declared.undo.UndoError.{UndoError}
use Rattle.edit.specs.declared.undo.UndoError.TheVariants.{TooLong as UndoTooLong, NothingToUndo, BadJournal}
use Rattle.edit.specs.Format.{Format}
use Rattle.edit.specs.Journal.{entry_words, capacity, entry_at, entry_of, offset_in, count_in, bytes_in, restorable}

-- ---- numbers and values

abbrev pub unfit : Outcome
unfit = refused 11 (0 ∷ [])

abbrev pub journal_full : ℕ → Outcome
journal_full most = refused 12 (most ∷ [])

abbrev pub nothing_to_undo : Outcome
nothing_to_undo = refused 13 (0 ∷ [])

abbrev pub bad_journal : ℕ → Outcome
bad_journal count = refused 14 (count ∷ [])

-- what locating refuses, an edit refuses
unfoldable pub edit_error : LocateError → EditError
edit_error (LocateTooLong size) = TooLong size
edit_error (LocateFault f) = Unread f
edit_error LocateNoPlace = NoSuchPlace

abbrev pub of_edit_error : EditError → Outcome
of_edit_error (TooLong size) = too_long size
of_edit_error (Unread f) = of_fault f
of_edit_error NoSuchPlace = no_place
of_edit_error Unfit = unfit
of_edit_error (JournalFull most) = journal_full most

abbrev pub of_undo_error : UndoError → Outcome
of_undo_error (UndoTooLong size) = too_long size
of_undo_error NothingToUndo = nothing_to_undo
of_undo_error (BadJournal count) = bad_journal count

-- what both accept is the new count of journal entries
abbrev pub of_editing : Result ℕ EditError → Outcome
of_editing = outcome_of of_count of_edit_error

abbrev pub of_undoing : Result ℕ UndoError → Outcome
of_undoing = outcome_of of_count of_undo_error

-- ---- a change as a place and the words of its new value

unfoldable pub key_words : NewKey → List ℕ
key_words (Constant value) = pattern_of value ∷ []
key_words (Step frame value) = pattern_of frame ∷ value ∷ []
key_words (Hermite h) = (patterns_of h).0 ∷ (patterns_of h).1 ∷ (patterns_of h).2 ∷ []

unfoldable pub place_of : Change → Place
place_of (setFrameCount v) = FrameCount
place_of (setLooping v) = Looping
place_of (setLayer c i t v) = Layer c i t
place_of (setTarget c i t v) = Target c i t
place_of (setKey c i t k new) = Key c i t k
place_of (setValue c i d l n v) = Value c i d l n

unfoldable pub values_of : Change → List ℕ
values_of (setFrameCount v) = v ∷ []
values_of (setLooping v) = v ∷ []
values_of (setLayer c i t v) = v ∷ []
values_of (setTarget c i t v) = v ∷ []
values_of (setKey c i t k new) = key_words new
values_of (setValue c i d l n v) = v ∷ []

-- ---- editing: the answer, the section and the journal

-- the bytes of the field that stand there
abbrev pub old_at : List ℕ → ℕ → ℕ → List ℕ
old_at s at n = take n (drop at s)

unfoldable pub at_spot : List ℕ → List ℕ → ℕ → List ℕ → Spot → Outcome × List ℕ × List ℕ
at_spot s j count vs nowhere = (no_place, s, j)
at_spot s j count vs (spot at f) =
    pick (fit f vs)
    (pick (ltb count (capacity j))
    (accepted ((count + 1) ∷ []), sets s at (written (row (widths f) vs)), sets j (entry_words * count) (entry_of at (old_at s at (total (widths f)))))
    (journal_full (capacity j), s, j))
    (unfit, s, j)

module _ (F : Format) where
  unfoldable pub on_reading : List ℕ → List ℕ → ℕ → F.Place → List ℕ → Res F.Items → Outcome × List ℕ × List ℕ
  on_reading s j count p vs (stop f) = (of_fault f, s, j)
  on_reading s j count p vs (ok is end) = at_spot s j count vs (F.locate s p)

  unfoldable pub editing : List ℕ → List ℕ → ℕ → F.Place → List ℕ → Outcome × List ℕ × List ℕ
  editing s j count p vs = pick (leb (length s) limit) (on_reading s j count p vs (F.read s)) (too_long (length s), s, j)

-- ---- undoing: the answer and the section; the journal stays

unfoldable pub restored : List ℕ → List ℕ → List ℕ
restored s e = sets s (offset_in e) (take (count_in e) (bytes_in e))

unfoldable pub undoing : List ℕ → List ℕ → ℕ → Outcome × List ℕ
undoing s j count =
    pick (leb (length s) limit)
    (pick (eqb count 0) (nothing_to_undo, s)
    (pick (leb count (capacity j) && restorable (length s) (entry_at j (count - 1))) (accepted ((count - 1) ∷ []), restored s (entry_at j (count - 1)))
    (bad_journal count, s)))
    (too_long (length s), s)
