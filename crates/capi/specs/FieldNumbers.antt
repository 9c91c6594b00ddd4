-- What stands at a place, as five numbers: 0, how many values it has and the values, or a refusal and its values; zeros behind them.
use Rattle.std.specs.Prelude.{ℕ, List}
use Rattle.base.specs.Outcome.{flat, counted}
use Rattle.bflan.specs.declared.place.Place.{Place}
use Rattle.edit.specs.FieldAt.{of_field, field_at}

unfoldable pub field_numbers : List ℕ → Place → List ℕ
field_numbers s p = flat 5 (counted (of_field (field_at s p)))
