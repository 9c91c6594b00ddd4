-- What stands at a place: the values that are read there as the field's case, and the answer by where the field is.
-- Assumes nothing.
use Prim.Native.Nat.{ℕ, zero, suc, ◌+◌, ◌≤◌}
use mathlib.Core.Path.{◌≡◌, refl, ap, sym, ◌∙◌}
use mathlib.Core.List.{List}
use borrow.Author.Tests.{le-leb}
use lib.ListN.{length}
use Rattle.base.specs.Number.{get}
use Rattle.base.specs.Outcome.{Outcome, outcome_of, accepted, counted}
use Rattle.base.proofs.Floats.{pattern_back, patterns_back}
use Rattle.base.proofs.Numbers.{Bytes, get_lt}
use Rattle.bflan.specs.declared.fault.Fault.{Fault}
use Rattle.bflan.specs.declared.fault.Fault.TheVariants.{PastEnd, NoZero, OtherLetters}
use Rattle.bflan.specs.Answer.{no_place, of_fault}
use Rattle.bflan.specs.pai1.FieldValues.{found_of, numbers_in, as_read, values_at}
use Rattle.bflan.specs.Limits.{limit}
use Rattle.bflan.specs.pai1.Limits.{Readable}
use Rattle.bflan.specs.pai1.Locating.{of_spot, of_locate_error, locating_in, locating}
use Rattle.bflan.specs.pai1.Places.{Spot, nowhere, spot, Found, missing, found, field_of, widths, locate}
use Rattle.bflan.specs.Reader.{ok, Item}
use Rattle.bflan.specs.pai1.Reading.{section}
use Rattle.bflan.specs.pai1.Record.{PaneAnimInfo, key_widths, words, texts}
use Rattle.bflan.specs.Items.{words_of, texts_of}
use Rattle.bflan.proofs.place.LocatedFields.{located_field, located_values}
use Rattle.bflan.specs.declared.place.Field.{Field}
use Rattle.bflan.specs.declared.place.Field.TheVariants.{FrameCount as frames, Looping as looping, Layer as layer, Target as number, Key as key, Value as value}
use Rattle.std.specs.Prelude.{Result, Ok, Err}
use Rattle.bflan.specs.declared.place.FieldSpot.{FieldSpot}
use Rattle.bflan.specs.declared.place.LocateError.{LocateError}
use Rattle.bflan.specs.declared.place.LocateError.TheVariants.{TooLong, Fault as Unread, NoSuchPlace}
use Rattle.edit.specs.declared.field.FieldValue.{FieldValue}
use Rattle.bflan.specs.declared.place.Place.{Place}
use Rattle.edit.specs.Editing.{key_words}
use Rattle.edit.specs.FieldAt.{key_of, field_value, read_at, at_located, field_at, at_found, field_in, of_value, of_field, of_counted_value}

-- ---- the answer, by where the field is

pub field_by : (s : List ℕ) (p : Place) {x : Result FieldSpot LocateError} → x ≡ locating s p → at_located s x ≡ field_at s p
unfolding field_at
field_by s p e = ap (at_located s) e

-- ---- the law: of every section that reads, and the record that it reads as, the answer is the record's own field with its values there

module _ (s : List ℕ) (short : length s ≤ limit) (is : List Item) (end : ℕ) (reads : section s 0 ≡ ok is end)
    (r : PaneAnimInfo) (readable : Readable r) (ew : words r ≡ words_of s is) (ex : texts r ≡ texts_of s is) (p : Place) where
  by_spot : field_at s p ≡ at_located s (of_spot (locate s p))
  unfolding field_at locating locating_in
  by_spot = rw (le-leb (length s) limit short, reads)

  pub field_record : field_at s p ≡ field_in r p
  unfolding of_spot found_of at_located read_at at_found field_in
  field_record = by_spot ∙ go (locate s p) refl ∙ ap (at_found r p) (located_field s is end reads r readable ew ex p)
    where
      go : (x : Spot) → locate s p ≡ x → at_located s (of_spot x) ≡ at_found r p (found_of x)
      go nowhere e = refl
      go (spot at f) e = ap (λ (vs : List ℕ). Ok (field_value f vs)) (sym (located_values s is end reads r readable ew ex p at f e))

-- ---- and its numbers: the record's values there, bit for bit

module _ (s : List ℕ) (bytes : Bytes s) (at : ℕ) where
  key_bits : (c : ℕ) → key_words (key_of c (numbers_in (key_widths c) s at)) ≡ numbers_in (key_widths c) s at
  unfolding key_words key_of numbers_in key_widths
  key_bits zero = rw (pattern_back (get 4 s at) (get_lt 4 s at bytes))
  key_bits (suc zero) = rw (pattern_back (get 4 s at) (get_lt 4 s at bytes))
  key_bits (suc (suc c)) =
      rw (patterns_back (get 4 s at, get 4 s (at + 4), get 4 s (at + 4 + 4))
      (record { frame = get_lt 4 s at bytes; value = get_lt 4 s (at + 4) bytes; slope = get_lt 4 s (at + 4 + 4) bytes }))

  value_bits : (f : Field) → of_value (read_at s at f) ≡ as_read f (numbers_in (widths f) s at)
  unfolding read_at field_value of_value as_read numbers_in widths
  value_bits frames = refl
  value_bits looping = refl
  value_bits layer = refl
  value_bits (number letters) = refl
  value_bits (key c) = key_bits c
  value_bits value = refl

abbrev pub numbers_for : PaneAnimInfo → Place → Found → Outcome
numbers_for r p missing = no_place
numbers_for r p (found f) = accepted (values_at r p)

module _ (s : List ℕ) (bytes : Bytes s) (short : length s ≤ limit) (is : List Item) (end : ℕ) (reads : section s 0 ≡ ok is end)
    (r : PaneAnimInfo) (readable : Readable r) (ew : words r ≡ words_of s is) (ex : texts r ≡ texts_of s is) (p : Place) where
  pub field_numbers_lem : of_field (field_at s p) ≡ numbers_for r p (field_of r p)
  unfolding of_spot found_of at_located
  field_numbers_lem =
      ap of_field (by_spot s short is end reads r readable ew ex p)
      ∙ go (locate s p) refl
      ∙ ap (numbers_for r p) (located_field s is end reads r readable ew ex p)
    where
      go : (x : Spot) → locate s p ≡ x → of_field (at_located s (of_spot x)) ≡ numbers_for r p (found_of x)
      go nowhere e = refl
      go (spot at f) e = ap accepted (value_bits s bytes at f ∙ sym (located_values s is end reads r readable ew ex p at f e))

-- ---- in numbers: a fault is not counted

pub counted_fault : (f : Fault) → counted (of_fault f) ≡ of_fault f
unfolding counted of_fault
counted_fault (PastEnd offset requested) = refl
counted_fault (NoZero start) = refl
counted_fault (OtherLetters letters) = refl

pub counted_field : (a : Result FieldValue LocateError) → outcome_of of_counted_value of_locate_error a ≡ counted (of_field a)
unfolding counted
counted_field (Ok v) = refl
counted_field (Err (TooLong size)) = refl
counted_field (Err (Unread f)) = sym (counted_fault f)
counted_field (Err NoSuchPlace) = refl
