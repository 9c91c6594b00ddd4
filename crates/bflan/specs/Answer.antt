-- Calls of reading, of any format: for any arguments what they answer, and what the lists that they may change hold afterwards (document 01,
-- 'Flat record', 'Texts on screen' and the refusals' table; document 02, Point 1). The order of the refusals is the order of the cases.
use Rattle.std.specs.Prelude.{Result, ℕ, ◌+◌, ◌&&◌, List, [], ◌∷◌, eqb, leb, ltb, length, get_or}
use Rattle.std.specs.Borrow.{Bor}
use Rattle.std.proofs.Math.Seq.{slice}
use Rattle.std.proofs.lemmas.List.Edits.{sets}
use Rattle.base.specs.Choice.{pick}
use Rattle.base.specs.Outcome.{Outcome, outcome_of, accepted, refused, refused_past, refused_no_zero}
use Rattle.base.specs.Part.{inside, part_of, part_ptr}
use Rattle.base.specs.Utf8.{decode, replacements, well_formed}
use Rattle.bflan.specs.declared.fault.Fault.{Fault}
use Rattle.bflan.specs.declared.fault.Fault.TheVariants.{PastEnd, NoZero, OtherLetters}
use Rattle.bflan.specs.declared.read.Filled.{Filled}
use Rattle.bflan.specs.declared.read.ReadError.{ReadError}
use Rattle.bflan.specs.declared.read.ReadError.TheVariants.{Fault as ReadFault, TooLong, TooShort}
use Rattle.bflan.specs.declared.find.Found.{Found}
use Rattle.bflan.specs.declared.find.FindError.{FindError}
use Rattle.bflan.specs.declared.find.FindError.TheVariants.{Fault as FindFault, TooLong as FindTooLong, NoSuchText, ScratchTooShort}
use Rattle.bflan.specs.Limits.{limit}
use Rattle.bflan.specs.Reader.{Res, ok, stop, P, Item}
use Rattle.bflan.specs.Items.{words_of, texts_of, replacements_of, texts_in}

-- ---- numbers and values

abbrev pub other_letters : ℕ → Outcome
other_letters letters = refused 1 (letters ∷ [])

abbrev pub too_long : ℕ → Outcome
too_long size = refused 2 (size ∷ [])

abbrev pub too_short : ℕ → ℕ → Outcome
too_short words bytes = refused 5 (words ∷ bytes ∷ [])

abbrev pub no_place : Outcome
no_place = refused 10 (0 ∷ [])

unfoldable pub of_fault : Fault → Outcome
of_fault (PastEnd offset requested) = refused_past offset requested
of_fault (NoZero start) = refused_no_zero start
of_fault (OtherLetters letters) = other_letters letters

abbrev pub of_filled : Filled → Outcome
of_filled filled = accepted (filled.words ∷ filled.bytes ∷ filled.replaced ∷ [])

abbrev pub of_read_error : ReadError → Outcome
of_read_error (ReadFault f) = of_fault f
of_read_error (TooLong size) = too_long size
of_read_error (TooShort words bytes) = too_short words bytes

abbrev pub of_reading : Result Filled ReadError → Outcome
of_reading = outcome_of of_filled of_read_error

abbrev pub of_found : Found → Outcome
of_found text = accepted (text.source ∷ text.start ∷ text.len ∷ text.replaced ∷ [])

abbrev pub of_find_error : FindError → Outcome
of_find_error (FindFault f) = of_fault f
of_find_error (FindTooLong size) = too_long size
of_find_error NoSuchText = no_place
of_find_error (ScratchTooShort bytes) = too_short 0 bytes

abbrev pub of_finding : Result Found FindError → Outcome
of_finding = outcome_of of_found of_find_error

-- ---- reading: the answer, the words and the text bytes

unfoldable pub filled : List ℕ → List ℕ → List ℕ → Res (List Item) → Outcome × List ℕ × List ℕ
filled s w x (stop f) = (of_fault f, w, x)
filled s w x (ok is end) =
    pick (leb (length (words_of s is)) (length w) && leb (length (texts_of s is)) (length x))
    (accepted (length (words_of s is) ∷ length (texts_of s is) ∷ replacements_of s is ∷ []), sets w 0 (words_of s is), sets x 0 (texts_of s is))
    (too_short (length (words_of s is)) (length (texts_of s is)), w, x)

-- by the format's reader
unfoldable pub reading_by : P (List Item) → List ℕ → List ℕ → List ℕ → Outcome × List ℕ × List ℕ
reading_by p s w x = pick (leb (length s) limit) (filled s w x (p s 0)) (too_long (length s), w, x)

-- ---- finding a text: the answer, and the scratch

-- a text of these bytes that starts at a: where it is well-formed it is shown where it stands
unfoldable pub shown : ℕ → List ℕ → List ℕ → Outcome × List ℕ
shown a bytes x =
    pick (well_formed bytes) (accepted (0 ∷ a ∷ length bytes ∷ 0 ∷ []), x)
    (pick (leb (length (decode bytes)) (length x)) (accepted (1 ∷ 0 ∷ length (decode bytes) ∷ replacements bytes ∷ []), sets x 0 (decode bytes))
    (too_short 0 (length (decode bytes)), x))

abbrev pub shown_in : List ℕ → List ℕ → ℕ × ℕ → Outcome × List ℕ
shown_in s x place = shown place.0 (slice place.0 (place.0 + place.1) s) x

unfoldable pub found : List ℕ → ℕ → List ℕ → Res (List Item) → Outcome × List ℕ
found s t x (stop f) = (of_fault f, x)
found s t x (ok is end) = pick (ltb t (length (texts_in is))) (shown_in s x (get_or (texts_in is) t (0, 0))) (no_place, x)

unfoldable pub finding_by : P (List Item) → List ℕ → ℕ → List ℕ → Outcome × List ℕ
finding_by p s t x = pick (leb (length s) limit) (found s t x (p s 0)) (too_long (length s), x)

-- ---- the part that a text's source, start and length say, of the section or of the scratch, and where it lies

unfoldable pub text_part : List ℕ → List ℕ → ℕ → ℕ → ℕ → List ℕ
text_part s x source start len = pick (eqb source 0) (part_of s start len) (pick (eqb source 1) (part_of x start len) [])

unfoldable pub text_ptr : Bor (List ℕ) → Bor (List ℕ) → ℕ → ℕ → ℕ → ℕ × ℕ
text_ptr s x source start len =
    pick (eqb source 0) (part_ptr s start len)
    (pick (eqb source 1 && inside x.now start len) (part_ptr x start len) s.ref_ptr)
