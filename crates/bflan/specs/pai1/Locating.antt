-- The call `locate`: where the field of a place stands in a section.
use Rattle.std.specs.Prelude.{ℕ, List, [], ◌∷◌, Result, Ok, Err, leb, length}
use Rattle.base.specs.Choice.{pick}
use Rattle.base.specs.Outcome.{Outcome, accepted}
use Rattle.bflan.specs.declared.place.FieldSpot.{FieldSpot}
use Rattle.bflan.specs.declared.place.LocateError.{LocateError}
use Rattle.bflan.specs.declared.place.LocateError.TheVariants.{TooLong, Fault as Unread, NoSuchPlace}
use Rattle.bflan.specs.declared.place.Place.{Place}
use Rattle.bflan.specs.Answer.{too_long, no_place, of_fault}
use Rattle.bflan.specs.Limits.{limit}
use Rattle.bflan.specs.pai1.Places.{Spot, nowhere, spot, locate}
use Rattle.bflan.specs.Reader.{Res, ok, stop, Item}
use Rattle.bflan.specs.pai1.Reading.{section}

unfoldable pub of_spot : Spot → Result FieldSpot LocateError
of_spot nowhere = Err NoSuchPlace
of_spot (spot at f) = Ok (record { at = at; field = f })

unfoldable pub locating_in : List ℕ → Place → Res (List Item) → Result FieldSpot LocateError
locating_in s p (stop f) = Err (Unread f)
locating_in s p (ok is end) = of_spot (locate s p)

unfoldable pub locating : List ℕ → Place → Result FieldSpot LocateError
locating s p = pick (leb (length s) limit) (locating_in s p (section s 0)) (Err (TooLong (length s)))

-- its number and values
abbrev pub of_locate_error : LocateError → Outcome
of_locate_error (TooLong size) = too_long size
of_locate_error (Unread f) = of_fault f
of_locate_error NoSuchPlace = no_place

unfoldable pub of_located : Result FieldSpot LocateError → Outcome
of_located (Err e) = of_locate_error e
of_located (Ok x) = accepted (x.at ∷ [])
