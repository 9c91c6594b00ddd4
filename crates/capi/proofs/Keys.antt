-- The values of a key that is given by its bits are these bits.
-- Assumes nothing.
use Prim.Native.Nat.{ℕ, zero, suc, ◌<◌, ◌^◌}
use mathlib.Core.Path.{◌≡◌, refl}
use mathlib.Core.List.{[], ◌∷◌}
use Rattle.base.specs.Float.{float_of, hermite_of}
use Rattle.base.specs.declared.float.Binary32.{Binary32}
use Rattle.base.specs.declared.float.Hermite.{Hermite as HermiteForm}
use Rattle.base.proofs.Floats.{pattern_back, patterns_back}
use Rattle.edit.specs.Editing.{key_words}
use Rattle.capi.specs.inner.NewValues.{new_key_values}
use Rattle.edit.specs.declared.key.NewKey.TheVariants.{Constant, Step, Hermite}

pub constant_said : (v : ℕ) (x : Binary32) → v < 2 ^ 32 → x ≡ float_of v → key_words (Constant x) ≡ v ∷ []
unfolding key_words
constant_said v x h e = rw (e, pattern_back v h)

pub step_said : (f v : ℕ) (x : Binary32) → f < 2 ^ 32 → x ≡ float_of f → key_words (Step x v) ≡ f ∷ v ∷ []
unfolding key_words
step_said f v x h e = rw (e, pattern_back f h)

pub hermite_said : (f v s : ℕ) (k : HermiteForm) → f < 2 ^ 32 → v < 2 ^ 32 → s < 2 ^ 32 → k ≡ hermite_of (f, v, s) → key_words (Hermite k) ≡ f ∷ v ∷ s ∷ []
unfolding key_words
hermite_said f v s k hf hv hs e = rw (e, patterns_back (f, v, s) (record { frame = hf; value = hv; slope = hs }))

pub three_said : (n x y z : ℕ) → (n ≡ 1 → ⊥) → (n ≡ 2 → ⊥) → x ∷ y ∷ z ∷ [] ≡ new_key_values n x y z
three_said zero x y z a b = refl
three_said (suc zero) x y z a b = absurd (a refl)
three_said (suc (suc zero)) x y z a b = absurd (b refl)
three_said (suc (suc (suc n))) x y z a b = refl
