-- The field at a place, found in a section and in the record that the section reads as: which field it is, its values in the record, and
-- what reading makes of the numbers that stand there in the section (document 01, 'The section' and 'Edits and undo').
use Rattle.std.specs.Prelude.{ℕ, ◌+◌, ◌*◌, List, [], ◌∷◌, map}
use Rattle.base.specs.Number.{get}
use Rattle.bflan.specs.declared.place.Place.{Place}
use Rattle.bflan.specs.declared.place.Place.TheVariants.{FrameCount, Looping, Layer, Target, Key, Value}
use Rattle.bflan.specs.declared.place.Field.{Field}
use Rattle.bflan.specs.declared.place.Field.TheVariants.{FrameCount as frames, Looping as looping, Layer as layer, Target as number, Key as key, Value as value}
use Rattle.bflan.specs.pai1.Letters.{target_of}
use Rattle.bflan.specs.pai1.Places.{Spot, nowhere, spot, of_element, Found, missing, found, at_target, at_datum, at_info}
use Rattle.bflan.specs.pai1.Reading.{flag_of}
use Rattle.bflan.specs.pai1.Record.{PaneAnimInfo}

-- ---- in a section

-- which field stands at a spot
unfoldable pub found_of : Spot → Found
found_of nowhere = missing
found_of (spot at f) = found f

-- the numbers of these widths in bytes, one after another from at on
unfoldable pub numbers_in : List ℕ → List ℕ → ℕ → List ℕ
numbers_in [] s at = []
numbers_in (k ∷ ks) s at = get k s at ∷ numbers_in ks s (at + k)

-- what they read as: looping is 1 where nonzero; a target's number is as its letters say; all others are what they are
unfoldable pub as_read : Field → List ℕ → List ℕ
as_read frames vs = vs
as_read looping vs = map flag_of vs
as_read layer vs = vs
as_read (number letters) vs = map (target_of letters) vs
as_read (key curve) vs = vs
as_read value vs = vs

-- ---- in a record: the values of a place that is there, as many as its field has widths

unfoldable pub values_at : PaneAnimInfo → Place → List ℕ
values_at r FrameCount = r.frames ∷ []
values_at r Looping = r.looping ∷ []
values_at r (Layer c i t) = at_info [] r c i (λ x. at_target [] x t (λ letters y. y.layer ∷ []))
values_at r (Target c i t) = at_info [] r c i (λ x. at_target [] x t (λ letters y. y.target ∷ []))
values_at r (Key c i t k) = at_info [] r c i (λ x. at_target [] x t (λ letters y. of_element y.keys k [] (λ vs. vs)))
values_at r (Value c i d l v) = at_info [] r c i (λ x. at_datum [] x d (λ y. of_element y.values (l * y.base_count + v) [] (λ n. n ∷ [])))
