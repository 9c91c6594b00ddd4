-- What the program answers, by what its reading and its writing answered.
-- Assumes nothing.
use Prim.Native.Nat.{ℕ, ◌-◌, ◌<◌, ◌≤◌}
use mathlib.Core.Path.{◌≡◌, refl, ap, sym, ◌∙◌}
use mathlib.Core.List.{List}
use native.Mathlib.Nat.{sub-zero}
use native.Mathlib.Omega.{arith}
use borrow.Author.Tests.{le-leb, lt-leb}
use lib.ListN.{length, take, drop, get_or}
use lib.Seq.{length-sets}
use Rattle.base.specs.Outcome.{Outcome, flat, in_order}
use Rattle.base.specs.declared.outcome.Numbers.{Numbers}
use Rattle.bflan.specs.declared.fault.Fault.{Fault}
use Rattle.bflan.specs.declared.fault.Fault.TheVariants.{PastEnd, NoZero, OtherLetters}
use Rattle.bflan.specs.declared.read.Filled.{Filled}
use Rattle.bflan.specs.declared.read.ReadError.{ReadError}
use Rattle.bflan.specs.declared.read.ReadError.TheVariants.{Fault as ReadFault, TooLong, TooShort}
use Rattle.bflan.specs.declared.write.WriteError.{WriteError}
use Rattle.bflan.specs.declared.write.WriteError.TheVariants.{BadWord, BadText, OverLimit, OutputTooShort}
use Rattle.bflan.specs.Answer.{of_fault, of_reading}
use Rattle.bflan.specs.pai1.Calls.{reading, writing}
use Rattle.bflan.specs.pai1.Reading.{section}
use Rattle.bflan.specs.Items.{words_of, texts_of}
use Rattle.bflan.specs.Writing.{of_writing}
use Rattle.bflan.proofs.read.Answers.{accepted-filled}
use Rattle.std.specs.Prelude.{Result, Ok, Err}
use Rattle.round_trip.specs.Trip.{number_of, of_trip, said, most, written_again, after_reading, trip}
use Rattle.round_trip.specs.declared.Refused.{Refused}
use Rattle.round_trip.specs.declared.Refused.TheVariants.{TooLong as OverMost, Reading, Writing}

-- an answer's number is the first of its numbers
pub first_number : (n : Numbers) (o : Outcome) → in_order n ≡ flat 5 o → n.0 ≡ o.number
unfolding flat
first_number n o e = ap (λ (l : List ℕ). get_or l 0 0) e

-- ---- writing

module _ (w x out after : List ℕ) where
  wrote : (a : Result ℕ WriteError) (t : Result ℕ Refused) → (of_writing a, after) ≡ writing w x out → of_trip t ≡ said (of_writing a) → (of_trip t, after) ≡ written_again w x out
  unfolding written_again
  wrote a t e h = ap (λ (z : Outcome). (z, after)) h ∙ ap (λ (z : Outcome × List ℕ). (said z.0, z.1)) e

  pub wrote_section : (len : ℕ) → (of_writing (Ok len), after) ≡ writing w x out → (of_trip (Ok len), after) ≡ written_again w x out
  unfolding of_trip said
  wrote_section len e = wrote (Ok len) (Ok len) e refl

unwritten : (e : WriteError) → of_trip (Err (Writing e)) ≡ said (of_writing (Err e))
unfolding number_of of_trip said
unwritten (BadWord i) = refl
unwritten (BadText i) = refl
unwritten OverLimit = refl
unwritten (OutputTooShort len) = refl

pub wrote_none : (w x out after : List ℕ) (e : WriteError) → (of_writing (Err e), after) ≡ writing w x out → (of_trip (Err (Writing e)), after) ≡ written_again w x out
wrote_none w x out after e h = wrote w x out after (Err e) (Err (Writing e)) h (unwritten e)

-- ---- reading

fault_said : (f : Fault) (w x out : List ℕ) → (of_trip (Err (Reading (ReadFault f))), out) ≡ after_reading (of_fault f, w, x) out
unfolding number_of of_trip said of_fault after_reading
fault_said (PastEnd offset requested) w x out = refl
fault_said (NoZero start) w x out = refl
fault_said (OtherLetters letters) w x out = refl

unread : (e : ReadError) (w x out : List ℕ) → (of_trip (Err (Reading e)), out) ≡ after_reading (of_reading (Err e), w, x) out
unfolding number_of of_trip said after_reading
unread (ReadFault f) w x out = fault_said f w x out
unread (TooLong size) w x out = refl
unread (TooShort n m) w x out = refl

module _ (s w x out : List ℕ) where
  pub trip-long : most < length s → (of_trip (Err OverMost), out) ≡ trip s w x out
  unfolding number_of of_trip trip
  trip-long h = rw (lt-leb _ _ h)

  module _ (short : length s ≤ most) (w' x' : List ℕ) where
    by_reading : (a : Result Filled ReadError) → (of_reading a, w', x') ≡ reading s w x → after_reading (of_reading a, w', x') out ≡ trip s w x out
    unfolding trip
    by_reading a e = rw (le-leb _ _ short, e)

    pub trip_unread : (e : ReadError) → (of_reading (Err e), w', x') ≡ reading s w x → (of_trip (Err (Reading e)), out) ≡ trip s w x out
    trip_unread e h = unread e w' x' out ∙ by_reading (Err e) h

    pub trip-read : (f : Filled) (o : Outcome × List ℕ) → (of_reading (Ok f), w', x') ≡ reading s w x → o ≡ written_again (take (f.words - 0) (drop 0 w')) (take (f.bytes - 0) (drop 0 x')) out
        → o ≡ trip s w x out
    unfolding after_reading
    trip-read f o e h = h ∙ rw (sub-zero f.words, sub-zero f.bytes) (by_reading (Ok f) e)

-- ---- a reading that is accepted: the tables hold what it filled

pub held : (s w x w' x' : List ℕ) (filled : Filled) → (of_reading (Ok filled), w', x') ≡ reading s w x → (filled.words ≤ length w') × (filled.bytes ≤ length x')
held s w x w' x' filled e =
    let f = accepted-filled section s w x (sym (ap (λ (r : Outcome × List ℕ × List ℕ). r.0.number) e)) in
    let g = e ∙ f.answer in
    let en : filled.words ≡ length (words_of s f.items) = ap (λ (r : Outcome × List ℕ × List ℕ). get_or r.0.values 0 0) g in
    let em : filled.bytes ≡ length (texts_of s f.items) = ap (λ (r : Outcome × List ℕ × List ℕ). get_or r.0.values 1 0) g in
    let lw : length w' ≡ length w = ap (λ (r : Outcome × List ℕ × List ℕ). length r.1) g ∙ length-sets w 0 (words_of s f.items) in
    let lx : length x' ≡ length x = ap (λ (r : Outcome × List ℕ × List ℕ). length r.2) g ∙ length-sets x 0 (texts_of s f.items) in
    (omega (arith, en, lw, f.room_words), omega (arith, em, lx, f.room_texts))
