-- The worked texts of document 01 ('Exercises with their solutions'), and two more for document 02, Point 1: a U+FFFD that was there, and a
-- subpart that is as long as its replacement. They are solved with all the others, as one theorem, in the crate `edit`.
use Prim.Native.Nat.{ℕ}
use mathlib.Core.List.{List, [], ◌∷◌, ◌++◌}
use Rattle.base.specs.Utf8.{replacement}

-- a text, what it is shown as, and how many U+FFFD that puts in
pub record TextExercise : Type 0 where
  pub text : List ℕ
  pub shown_as : List ℕ
  pub replaced : ℕ

abbrev pub text_exercises : List TextExercise
text_exercises =
    record { text = 0xE2 ∷ 0x82 ∷ []; shown_as = replacement; replaced = 1 }
    ∷ record { text = 0xC0 ∷ 0x80 ∷ []; shown_as = replacement ++ replacement; replaced = 2 }
    ∷ record { text = 0xED ∷ 0xA0 ∷ 0x80 ∷ []; shown_as = replacement ++ (replacement ++ replacement); replaced = 3 }
    ∷ record { text = replacement; shown_as = replacement; replaced = 0 }
    ∷ record { text = 0xF0 ∷ 0x90 ∷ 0x80 ∷ []; shown_as = replacement; replaced = 1 }
    ∷ []
