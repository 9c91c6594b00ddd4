-- The old bytes of a field in three words, an entry of the journal, the words of a new value, and where a field stands: each as the code holds it.
use Rattle.std.specs.Prelude.{ℕ, Bool, false, List, [], ◌∷◌, ◌++◌, Result, Ok, Err, leb}
use Rattle.base.specs.Number.{le, get}
use Rattle.bflan.specs.declared.place.Field.{Field}
use Rattle.bflan.specs.declared.place.Field.TheVariants.{FrameCount as IsFrameCount, Looping as IsLooping, Layer as IsLayer, Target as IsTarget, Key as IsKey, Value as IsValue}
use Rattle.bflan.specs.declared.place.FieldSpot.{FieldSpot}
use Rattle.bflan.specs.declared.place.LocateError.{LocateError}
use Rattle.bflan.specs.declared.place.Place.{Place}
use Rattle.bflan.specs.declared.place.Place.TheVariants.{FrameCount as AtFrameCount, Looping as AtLooping, Layer as AtLayer, Target as AtTarget, Key as AtKey, Value as AtValue}
use Rattle.edit.specs.declared.journal.Entry.{Entry}
use Rattle.edit.specs.declared.journal.Packed.{Packed}
use Rattle.edit.specs.declared.spot.Kind.{Kind}
use Rattle.edit.specs.declared.spot.Kind.TheVariants.{FrameCount, Looping, Layer, Target, Key, Value}
use Rattle.edit.specs.declared.spot.SpotAt.{SpotAt}
use Rattle.edit.specs.declared.values.Values.{Values}
use Rattle.edit.specs.declared.values.Values.TheVariants.{One, Two, Three}
use Rattle.edit.specs.Journal.{padded}

-- the twelve bytes
unfoldable pub unpacked : Packed → List ℕ
unpacked p = le 4 p.a ++ (le 4 p.b ++ le 4 p.c)

-- the three words of at most twelve bytes
unfoldable pub packed : List ℕ → Packed
packed old = record { a = get 4 (padded old) 0; b = get 4 (padded old) 4; c = get 4 (padded old) 8 }

-- the five words
unfoldable pub entry_list : Entry → List ℕ
entry_list e = e.at ∷ e.count ∷ e.old.a ∷ e.old.b ∷ e.old.c ∷ []

-- the words of a new value
unfoldable pub values_in : Values → List ℕ
values_in (One a) = a ∷ []
values_in (Two a b) = a ∷ b ∷ []
values_in (Three a b c) = a ∷ b ∷ c ∷ []

-- a new value's words as three: zeros stand for those that it does not have
unfoldable pub words_of : Values → Packed
words_of (One a) = record { a = a; b = 0; c = 0 }
words_of (Two a b) = record { a = a; b = b; c = 0 }
words_of (Three a b c) = record { a = a; b = b; c = c }

-- a place, a field and what locating answers, by their numbers
unfoldable pub place_as : Kind → ℕ → ℕ → ℕ → ℕ → ℕ → Place
place_as FrameCount c i t k v = AtFrameCount
place_as Looping c i t k v = AtLooping
place_as Layer c i t k v = AtLayer c i t
place_as Target c i t k v = AtTarget c i t
place_as Key c i t k v = AtKey c i t k
place_as Value c i t k v = AtValue c i t k v

unfoldable pub field_as : Kind → ℕ → Field
field_as FrameCount n = IsFrameCount
field_as Looping n = IsLooping
field_as Layer n = IsLayer
field_as Target n = IsTarget n
field_as Key n = IsKey n
field_as Value n = IsValue

unfoldable pub spot_as : SpotAt → FieldSpot
spot_as x = record { at = x.at; field = field_as x.kind x.number }

unfoldable pub located_as : Result SpotAt LocateError → Result FieldSpot LocateError
located_as (Ok x) = Ok (spot_as x)
located_as (Err error) = Err error

-- one value of at most m
unfoldable pub one_most : List ℕ → ℕ → Bool
one_most [] m = false
one_most (a ∷ []) m = leb a m
one_most (a ∷ b ∷ vs) m = false
