-- The starred exercises of document 01 ('Exercises with their solutions') and examples for document 02, Point 1, as one theorem over a list of
-- them.
-- Assumes nothing.
use Prim.Native.Nat.{ℕ}
use mathlib.Core.Path.{◌≡◌, refl, ap}
use mathlib.Core.List.{List, [], ◌∷◌, ◌++◌}
use native.Mathlib.Omega.{arith}
use lib.ListN.{length, replicate}
use lib.Seq.{sets}
use Rattle.base.specs.Fill.{padding_of}
use Rattle.base.specs.Float.{float_of}
use Rattle.base.specs.Number.{le, val, get, read_of}
use Rattle.base.specs.Outcome.{accepted}
use Rattle.base.specs.Seek.{seek_of}
use Rattle.base.specs.Text.{before_zero, first_fault, fixed_of, ended_of}
use Rattle.base.specs.Utf8.{rows as utf8Rows, within, class_of, later_of, matched, more, good, piece_of, pieces_after, pieces, shown, decoded, decode, ill_count, replacements, leading, valid_up_to}
use Rattle.base.proofs.Exercises.{TextExercise, text_exercises}
use Rattle.base.proofs.Floats.{pattern_back}
use Rattle.bflan.specs.Answer.{of_fault, filled, reading_by}
use Rattle.bflan.specs.Judge.{next_word, next_chars, next_text, times, row, ends, whole}
use Rattle.bflan.specs.pai1.Calls.{reading, writing}
use Rattle.bflan.specs.pai1.Judge.{target, datum, info, content, pane, section as judgeSection}
use Rattle.bflan.specs.Layout.{size, written, parts, table, ended, row as rowLay}
use Rattle.bflan.specs.pai1.Layout.{key_skip, key_lay, target_lay, datum_lay, info_head, info_lay, data_out, infos_out, table_from, infos_from, user_lay, content_body, content_lay, names_end, content_table, section_size, section_lay}
use Rattle.bflan.specs.pai1.Letters.{listings, fleu, kind_of, letters_of, target_of, letters_fit, target_fits}
use Rattle.bflan.specs.pai1.Places.{widths, total, fit_widths, allowed, fit, stride, key_in, target_in, info_table_in, info_in, content_in, locate}
use Rattle.bflan.specs.Reader.{num, seek_to, skip, fixed_text, ended_text, one_ended, numbers, many, visit}
use Rattle.bflan.specs.pai1.Reading.{curve_of, count_of, keys, target as readTarget, datum as readDatum, info as readInfo, type_of, info_table, content as readContent, texture, contents, flag_of, body, section as readSection, own_letters}
use Rattle.bflan.specs.pai1.Record.{key_widths}
use Rattle.bflan.specs.Items.{words_of, texts_of, replacements_of}
use Rattle.bflan.specs.Writing.{into_output, judged, writing_by}
use Rattle.bflan.specs.declared.place.Place.TheVariants.{Key}
use Rattle.bflan.proofs.Exercises.{stepped, SectionExercise, both, reads, refused, section_exercises}
use Rattle.edit.specs.declared.edit.Change.{Change}
use Rattle.edit.specs.declared.edit.Change.TheVariants.{Key as setKey}
use Rattle.edit.specs.declared.key.NewKey.TheVariants.{Step}
use Rattle.edit.specs.Editing.{key_words, place_of, values_of, at_spot, on_reading, editing}
use Rattle.edit.specs.Format.{pai1}
use Rattle.edit.specs.Journal.{capacity, padded, entry_of}

-- a text, what it is shown as, and how many characters were replaced; a section's; a section, a change with an empty journal of one entry, and the section and the entry then
pub data Exercise : Type 0 where
  shows : List ℕ → List ℕ → ℕ → Exercise
  section : SectionExercise → Exercise
  edits : List ℕ → Change → List ℕ → List ℕ → Exercise

-- the Step key (0.0, 1) gets the value 0
abbrev pub value_zero : Change
value_zero = setKey 0 0 0 0 (Step (float_of 0) 0)

-- a frame keeps its bits
value_zero_lem : values_of value_zero ≡ 0 ∷ 0 ∷ []
unfolding values_of key_words
value_zero_lem = ap (λ (n : ℕ). n ∷ 0 ∷ []) (pattern_back 0 (omega arith))

-- into tables and an output that are just long enough
abbrev pub Gives : List ℕ → List ℕ → List ℕ → ℕ → Type 0
Gives s w x n = reading s (replicate (length w) 255) (replicate (length x) 255) ≡ (accepted (length w ∷ length x ∷ n ∷ []), w, x)

abbrev pub Writes : List ℕ → List ℕ → List ℕ → Type 0
Writes s w x = writing w x (replicate (length s) 255) ≡ (accepted (length s ∷ []), s)

abbrev pub Solved : Exercise → Type 0
Solved (shows t d n) = (decode t ≡ d) × (replacements t ≡ n)
Solved (section (both s w x)) = Gives s w x 0 × Writes s w x
Solved (section (reads s w x n)) = Gives s w x n
Solved (section (refused s a)) = reading s [] [] ≡ (a, [], [])
Solved (edits s change s' e) = editing pai1 s (0 ∷ 0 ∷ 0 ∷ 0 ∷ 0 ∷ []) 0 (place_of change) (values_of change) ≡ (accepted (1 ∷ []), s', e)

-- those of the layers below
abbrev pub texts : List TextExercise → List Exercise
texts [] = []
texts (e ∷ es) = shows e.text e.shown_as e.replaced ∷ texts es

abbrev pub sections : List SectionExercise → List Exercise
sections [] = []
sections (e ∷ es) = section e ∷ sections es

abbrev pub exercises : List Exercise
exercises = texts text_exercises ++ sections section_exercises ++ edits stepped value_zero (sets stepped 88 (0 ∷ [])) (84 ∷ 6 ∷ 0 ∷ 1 ∷ 0 ∷ []) ∷ []

abbrev pub AllSolved : List Exercise → Type 0
AllSolved [] = Unit {0}
AllSolved (e ∷ es) = Solved e × AllSolved es

pub all_solved : AllSolved exercises
unfolding le val get read_of seek_of before_zero first_fault fixed_of ended_of padding_of utf8Rows within class_of later_of matched more good piece_of pieces_after pieces shown decoded decode ill_count replacements leading valid_up_to next_word next_chars next_text times row target datum info content pane ends whole judgeSection of_fault filled reading_by words_of texts_of replacements_of size written parts table key_skip key_lay target_lay ended datum_lay info_head info_lay data_out infos_out table_from infos_from user_lay content_body content_lay names_end content_table section_size section_lay rowLay listings fleu kind_of letters_of target_of letters_fit target_fits widths total fit_widths allowed fit stride key_in target_in info_table_in info_in content_in locate num seek_to skip fixed_text ended_text one_ended numbers many visit curve_of count_of keys readTarget readDatum readInfo type_of info_table readContent texture contents flag_of own_letters body readSection key_widths into_output judged writing_by place_of at_spot on_reading editing capacity padded entry_of
all_solved = ((refl, refl), ((refl, refl), ((refl, refl), ((refl, refl), ((refl, refl), ((refl, refl), ((refl, refl), ((refl, refl), ((refl, refl), (refl, (refl, (refl, (refl, (refl, (refl, (ap (λ (vs : List ℕ). editing pai1 stepped (0 ∷ 0 ∷ 0 ∷ 0 ∷ 0 ∷ []) 0 (Key 0 0 0 0) vs) value_zero_lem, tt))))))))))))))))
