-- What stands at a place of a section now (document 01, 'Edits and undo': the fields that can be edited, and which places are there). The
-- values are the record's (document 01, 'The section'): looping is yes where the byte is nonzero, and a target's number is as its letters
-- have it.
use Rattle.std.specs.Prelude.{ℕ, zero, suc, List, [], ◌∷◌, Result, Ok, Err, get_or}
use Rattle.base.specs.Float.{float_of, hermite_of}
use Rattle.base.specs.Outcome.{Outcome, outcome_of, accepted, counted}
use Rattle.bflan.specs.pai1.FieldValues.{numbers_in, as_read, values_at}
use Rattle.bflan.specs.pai1.Locating.{of_locate_error, locating}
use Rattle.bflan.specs.pai1.Places.{widths, first, Found, missing, found, field_of}
use Rattle.bflan.specs.pai1.Record.{PaneAnimInfo}
use Rattle.bflan.specs.declared.place.Field.{Field}
use Rattle.bflan.specs.declared.place.Field.TheVariants.{FrameCount as frames, Looping as looping, Layer as layer, Target as number, Key as key, Value as value}
use Rattle.bflan.specs.declared.place.FieldSpot.{FieldSpot}
use Rattle.bflan.specs.declared.place.LocateError.{LocateError}
use Rattle.bflan.specs.declared.place.LocateError.TheVariants.{NoSuchPlace}
use Rattle.bflan.specs.declared.place.Place.{Place}
use Rattle.edit.specs.declared.field.FieldValue.{FieldValue}
use Rattle.edit.specs.declared.field.FieldValue.TheVariants.{FrameCount, Looping, Layer, Target, Key, Value}
use Rattle.edit.specs.declared.key.NewKey.{NewKey}
use Rattle.edit.specs.declared.key.NewKey.TheVariants.{Constant, Step, Hermite}
use Rattle.edit.specs.Editing.{key_words}

-- ---- a field's values as its case

-- a key of this curve: a Constant value, a Step frame and value, or a Hermite frame, value and slope
unfoldable pub key_of : ℕ → List ℕ → NewKey
key_of zero vs = Constant (float_of (first vs))
key_of (suc zero) vs = Step (float_of (first vs)) (get_or vs 1 0)
key_of (suc (suc c)) vs = Hermite (hermite_of (first vs, get_or vs 1 0, get_or vs 2 0))

unfoldable pub field_value : Field → List ℕ → FieldValue
field_value frames vs = FrameCount (first vs)
field_value looping vs = Looping (first vs)
field_value layer vs = Layer (first vs)
field_value (number letters) vs = Target (first vs)
field_value (key curve) vs = Key (key_of curve vs)
field_value value vs = Value (first vs)

-- ---- in a section: the answer, by where the place's field stands

-- the field that stands at `at`
unfoldable pub read_at : List ℕ → ℕ → Field → FieldValue
read_at s at f = field_value f (as_read f (numbers_in (widths f) s at))

unfoldable pub at_located : List ℕ → Result FieldSpot LocateError → Result FieldValue LocateError
at_located s (Err error) = Err error
at_located s (Ok x) = Ok (read_at s x.at x.field)

unfoldable pub field_at : List ℕ → Place → Result FieldValue LocateError
field_at s p = at_located s (locating s p)

-- ---- in a record: the field that it has at a place, with its values there

unfoldable pub at_found : PaneAnimInfo → Place → Found → Result FieldValue LocateError
at_found r p missing = Err NoSuchPlace
at_found r p (found f) = Ok (field_value f (values_at r p))

unfoldable pub field_in : PaneAnimInfo → Place → Result FieldValue LocateError
field_in r p = at_found r p (field_of r p)

-- ---- the answer's number and values

unfoldable pub of_value : FieldValue → List ℕ
of_value (FrameCount v) = v ∷ []
of_value (Looping v) = v ∷ []
of_value (Layer v) = v ∷ []
of_value (Target v) = v ∷ []
of_value (Key k) = key_words k
of_value (Value v) = v ∷ []

abbrev pub of_field_value : FieldValue → Outcome
of_field_value v = accepted (of_value v)

abbrev pub of_field : Result FieldValue LocateError → Outcome
of_field = outcome_of of_field_value of_locate_error

-- as the code hands it on: how many values there are, and the values
abbrev pub of_counted_value : FieldValue → Outcome
of_counted_value v = counted (of_field_value v)
