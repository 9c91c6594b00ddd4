-- The new values of a place, as the exported functions hand them on: how many there are at a key, and three numbers.
use Rattle.std.specs.Prelude.{ℕ, zero, suc, List, [], ◌∷◌}
use Rattle.bflan.specs.declared.place.Place.{Place}
use Rattle.bflan.specs.declared.place.Place.TheVariants.{FrameCount, Looping, Layer, Target, Key, Value}

-- those of a key: one of a Constant one, two of a Step key, and three of a Hermite key
abbrev pub new_key_values : ℕ → ℕ → ℕ → ℕ → List ℕ
new_key_values zero x y z = x ∷ y ∷ z ∷ []
new_key_values (suc zero) x y z = x ∷ []
new_key_values (suc (suc zero)) x y z = x ∷ y ∷ []
new_key_values (suc (suc (suc n))) x y z = x ∷ y ∷ z ∷ []

-- one at every other place
abbrev pub new_values : Place → ℕ → ℕ → ℕ → ℕ → List ℕ
new_values FrameCount n x y z = x ∷ []
new_values Looping n x y z = x ∷ []
new_values (Layer c i t) n x y z = x ∷ []
new_values (Target c i t) n x y z = x ∷ []
new_values (Key c i t k) n x y z = new_key_values n x y z
new_values (Value c i d l v) n x y z = x ∷ []
