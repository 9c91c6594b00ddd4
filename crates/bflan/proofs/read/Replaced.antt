-- What the numbers of replaced characters are: of a reading the sum over its texts, of a text that is found its own, in the section too.
-- Assumes nothing.
use Prim.Native.Nat.{ℕ, ◌+◌}
use mathlib.Core.Path.{◌≡◌, refl, ap}
use mathlib.Core.Bool.{Bool, true, false}
use mathlib.Core.List.{List, [], ◌∷◌, ◌++◌, map}
use native.Mathlib.Omega.{arith}
use lib.Dec.{leb}
use lib.ListN.{length, get_or, replicate}
use lib.Seq.{slice, sets}
use Rattle.base.specs.Choice.{pick}
use Rattle.base.specs.Outcome.{Outcome, accepted}
use Rattle.base.specs.Number.{val, get, read_of}
use Rattle.base.specs.Seek.{seek_of}
use Rattle.base.specs.Text.{before_zero, ended_of}
use Rattle.base.specs.Utf8.{rows, within, class_of, later_of, matched, more, good, piece_of, pieces_after, pieces, shown as shownPiece, decoded, decode, ill_count, replacement, replacements, clean, well_formed}
use Rattle.base.proofs.utf8.Laws.{well_none}
use Rattle.bflan.specs.Reader.{Item, word, text, num, seek_to, ended_text, one_ended, numbers, visit}
use Rattle.bflan.specs.Items.{words_of, texts_of, texts_in, replacements_of}
use Rattle.bflan.specs.Answer.{shown, too_short, filled, found, reading_by, finding_by}
use Rattle.bflan.specs.pai1.Calls.{reading, finding}
use Rattle.bflan.specs.pai1.Reading.{texture, contents, flag_of, body, section, own_letters}
use Rattle.bflan.specs.pai1.Places.{total}

-- of the text at a place
abbrev pub count_at : List ℕ → ℕ × ℕ → ℕ
count_at s p = replacements (slice p.0 (p.0 + p.1) s)

-- a text that two offsets lead to is twice among the texts, and counts twice
pub sum_of_texts : (s : List ℕ) (is : List Item) → replacements_of s is ≡ total (map (count_at s) (texts_in is))
unfolding replacements_of texts_in total
sum_of_texts s [] = refl
sum_of_texts s (word v ∷ is) = sum_of_texts s is
sum_of_texts s (text a n ∷ is) = ap (λ (k : ℕ). replacements (slice a (a + n) s) + k) (sum_of_texts s is)

-- the fourth number of a text that is found is its count, wherever it is shown
module _ (a : ℕ) (bytes x : List ℕ) where
  abbrev answer : Bool → Bool → Outcome × List ℕ
  answer w r =
      pick w (accepted (0 ∷ a ∷ length bytes ∷ 0 ∷ []), x)
      (pick r (accepted (1 ∷ 0 ∷ length (decode bytes) ∷ replacements bytes ∷ []), sets x 0 (decode bytes)) (too_short 0 (length (decode bytes)), x))

  count_by : (w : Bool) → well_formed bytes ≡ w → (r : Bool) → (answer w r).0.number ≡ 0 → get_or (answer w r).0.values 3 0 ≡ replacements bytes
  count_by true e r z = well_none bytes e
  count_by false e true z = refl
  count_by false e false z = absurd (omega arith)

  pub found-count : (shown a bytes x).0.number ≡ 0 → get_or (shown a bytes x).0.values 3 0 ≡ replacements bytes
  unfolding shown
  found-count e = count_by (well_formed bytes) refl (leb (length (decode bytes)) (length x)) e

-- two textures whose offsets lead to one byte, which is ill-formed: it counts twice; and each of them is found with a count of one
abbrev pub twice : List ℕ
twice =
    0x70 ∷ 0x61 ∷ 0x69 ∷ 0x31 ∷ 0x20 ∷ 0x00 ∷ 0x00 ∷ 0x00 ∷ 0x00 ∷ 0x00 ∷ 0x00 ∷ 0x00 ∷ 0x02 ∷ 0x00 ∷ 0x00 ∷ 0x00 ∷ 0x20 ∷ 0x00 ∷ 0x00 ∷ 0x00
    ∷ 0x08 ∷ 0x00 ∷ 0x00 ∷ 0x00 ∷ 0x08 ∷ 0x00 ∷ 0x00 ∷ 0x00 ∷ 0x80 ∷ 0x00 ∷ 0x00 ∷ 0x00 ∷ []

pub counted_twice : (reading twice (replicate 6 9) (replicate 6 9) ≡ (accepted (6 ∷ 6 ∷ 2 ∷ []), 0 ∷ 0 ∷ 2 ∷ 0 ∷ 3 ∷ 3 ∷ [], replacement ++ replacement))
    × (finding twice 1 (replicate 4 9) ≡ (accepted (1 ∷ 0 ∷ 3 ∷ 1 ∷ []), replacement ++ (9 ∷ [])))
    × (finding (sets twice 28 replacement) 1 [] ≡ (accepted (0 ∷ 28 ∷ 3 ∷ 0 ∷ []), []))
unfolding reading_by finding_by filled found shown words_of texts_of texts_in replacements_of section body contents texture visit numbers num seek_to ended_text one_ended flag_of own_letters read_of get val seek_of ended_of before_zero rows within class_of later_of matched more good piece_of pieces_after pieces shownPiece decoded decode ill_count replacements clean well_formed
counted_twice = (refl, refl, refl)
