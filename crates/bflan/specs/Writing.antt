-- A call of writing, of any format: for any arguments what it answers, and what the output holds afterwards (document 01, 'Writing' and
-- the refusals' table, 6 to 9).
use Rattle.std.specs.Prelude.{ℕ, List, [], ◌∷◌, Result, leb, length}
use Rattle.std.proofs.lemmas.List.Edits.{sets}
use Rattle.base.specs.Choice.{pick}
use Rattle.base.specs.Outcome.{Outcome, outcome_of, of_count, accepted, refused}
use Rattle.bflan.specs.declared.judge.Misfit.{Misfit}
use Rattle.bflan.specs.declared.judge.Misfit.TheVariants.{Word, Text}
use Rattle.bflan.specs.declared.write.WriteError.{WriteError}
use Rattle.bflan.specs.declared.write.WriteError.TheVariants.{BadWord, BadText, OverLimit, OutputTooShort}
use Rattle.bflan.specs.Judge.{Judged, fine, bad_word, bad_text, J}
use Rattle.bflan.specs.Layout.{Layout, size, written}
use Rattle.bflan.specs.Limits.{limit}

-- ---- numbers and values

abbrev pub bad_word_at : ℕ → Outcome
bad_word_at index = refused 6 (index ∷ [])

abbrev pub bad_text_at : ℕ → Outcome
bad_text_at index = refused 7 (index ∷ [])

abbrev pub over_limit : Outcome
over_limit = refused 8 (limit ∷ [])

abbrev pub output_short : ℕ → Outcome
output_short len = refused 9 (len ∷ [])

abbrev pub of_write_error : WriteError → Outcome
of_write_error (BadWord index) = bad_word_at index
of_write_error (BadText index) = bad_text_at index
of_write_error OverLimit = over_limit
of_write_error (OutputTooShort len) = output_short len

-- the section's length is a count
abbrev pub of_writing : Result ℕ WriteError → Outcome
of_writing = outcome_of of_count of_write_error

-- what a judge's refusal is as the call's
unfoldable pub write_error : Misfit → WriteError
write_error (Word index) = BadWord index
write_error (Text index) = BadText index

-- ---- the answer, and the output

unfoldable pub into_output : List ℕ → ℕ → List ℕ → Outcome × List ℕ
into_output out len bytes =
    pick (leb len limit) (pick (leb len (length out)) (accepted (len ∷ []), sets out 0 bytes) (output_short len, out))
    (over_limit, out)

-- by the format's layout and its judge
module _ {A : Type 0} (lay : A → Layout) where
  unfoldable pub judged : List ℕ → Judged A → Outcome × List ℕ
  judged out (bad_word index) = (bad_word_at index, out)
  judged out (bad_text index) = (bad_text_at index, out)
  judged out (fine a words texts) = into_output out (size (lay a)) (written (lay a))

  unfoldable pub writing_by : J A → List ℕ → List ℕ → List ℕ → Outcome × List ℕ
  writing_by p words texts out = judged out (p words texts 0 0)
