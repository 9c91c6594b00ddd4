-- What the program prints: a section that our writer wrote goes through unchanged (`trip_back`); a refusal is its number in one line
-- (`trip-refusal`), today one of 1 to 9 (`trip_low`, `trip-refused`); anything else is the section of the record that was read
-- (`trip-accepted`).
-- Assumes nothing.
use Prim.Native.Nat.{ℕ, ◌+◌, ◌≤◌}
use mathlib.Core.Path.{◌≡◌, refl, ap, sym, ◌∙◌}
use mathlib.Core.Bool.{Bool, true, false, ◌&&◌}
use mathlib.Core.List.{List, [], ◌∷◌}
use native.Mathlib.Omega.{arith}
use borrow.Author.Tests.{eqb-true, le-leb}
use lib.Dec.{eqb, leb}
use lib.ListN.{length, take, get_or}
use lib.Seq.{sets, length-sets}
use Rattle.base.specs.Choice.{pick}
use Rattle.base.specs.Outcome.{Outcome, accepted, refused}
use Rattle.base.specs.Part.{part_of}
use Rattle.base.proofs.Numbers.{sets-read}
use Rattle.bflan.specs.declared.fault.Fault.{Fault}
use Rattle.bflan.specs.declared.fault.Fault.TheVariants.{PastEnd, NoZero, OtherLetters}
use Rattle.bflan.specs.Answer.{too_long, too_short, of_fault, filled, reading_by}
use Rattle.bflan.specs.Judge.{Judged, fine, bad_word, bad_text}
use Rattle.bflan.specs.pai1.Calls.{reading, writing}
use Rattle.bflan.specs.pai1.Judge.{section as judge}
use Rattle.bflan.specs.Layout.{size, written}
use Rattle.bflan.specs.pai1.Layout.{section_lay}
use Rattle.bflan.specs.Limits.{limit}
use Rattle.bflan.specs.pai1.Limits.{Within}
use Rattle.bflan.specs.Reader.{Res, ok, stop, Item}
use Rattle.bflan.specs.pai1.Reading.{section}
use Rattle.bflan.specs.pai1.Record.{PaneAnimInfo, words, texts}
use Rattle.bflan.specs.Items.{words_of, texts_of, replacements_of}
use Rattle.bflan.specs.Writing.{into_output, judged, writing_by}
use Rattle.bflan.proofs.Layouts.{size-written}
use Rattle.bflan.proofs.read.Answers.{Filled, accepted-filled}
use Rattle.bflan.proofs.round_trip.RoundTrip.{read-written}
use Rattle.bflan.proofs.round_trip.Pai1.{judges, texts-size}
use Rattle.bflan.proofs.round_trip.Verdicts.{written_there, accepted-within}
use Rattle.round_trip.specs.Trip.{said, most, written_again, after_reading, trip, refusal, replied_with, replied, printed}
use Rattle.round_trip.proofs.Decimals.{decimal_one}

-- ---- a section that was written from a record within the limits

-- with tables that hold the record, and an output that holds the section
module _ (r : PaneAnimInfo) (v : Within r) (w x out : List ℕ) (short : size (section_lay r) ≤ most) (hw : length (words r) ≤ length w) (hx : length (texts r) ≤ length x) (ho : size (section_lay r) ≤ length out) where
  pub goes_through : trip (written (section_lay r)) w x out ≡ (accepted (size (section_lay r) ∷ []), sets out 0 (written (section_lay r)))
  unfolding said written_again after_reading trip
  goes_through =
      let s : length (written (section_lay r)) ≤ most = omega (arith, size-written (section_lay r), short) in
      rw (le-leb _ _ s, read-written r v w x hw hx, sets-read w 0 (words r) (omega (arith, hw)), sets-read x 0 (texts r) (omega (arith, hx)), written_there judges section_lay r out v ho)

-- what stands at the output's start is printed
printed-start : (out v : List ℕ) → length v ≤ length out → part_of (sets out 0 v) 0 (length v) ≡ v
unfolding part_of
printed-start out v h =
    let e : 0 + length v ≤ length (sets out 0 v) = omega (arith, length-sets out 0 v, h) in
    rw (le-leb _ _ e) (sets-read out 0 v (omega (arith, h)))

-- with the tables and the output of the program
pub record Unchanged (s w x out : List ℕ) : Type 0 where
  pub answer : trip s w x out ≡ (accepted (length s ∷ []), sets out 0 s)
  pub begins : take (length s) (trip s w x out).1 ≡ s
  pub prints : printed s w x out ≡ s

pub trip_back : (r : PaneAnimInfo) → Within r → (w x out : List ℕ) → length w ≡ 16384 → length x ≡ 65536 → length out ≡ 65536
    → length (written (section_lay r)) ≤ 65536 → length (words r) ≤ 16384 → Unchanged (written (section_lay r)) w x out
unfolding replied_with replied printed
trip_back r v w x out lw lx lo short hw =
    let s : List ℕ = written (section_lay r) in
    let n : length s ≡ size (section_lay r) = size-written (section_lay r) in
    let e : trip s w x out ≡ (accepted (length s ∷ []), sets out 0 s) =
    rw n (goes_through r v w x out (omega (arith, n, short)) (omega (arith, lw, hw)) (omega (arith, n, lx, short, texts-size r)) (omega (arith, n, lo, short))) in
    let fits : length s ≤ length out = omega (arith, lo, short) in
    record {
      answer = e;
      begins = ap (λ (z : Outcome × List ℕ). take (length s) z.1) e ∙ sets-read out 0 s (omega (arith, fits));
      prints = ap (λ (z : Outcome × List ℕ). part_of (replied z).1 0 (replied z).0) e ∙ printed-start out s fits;
    }

-- ---- the numbers

both : {A : Type 0} (Q : A → Type 0) (b : Bool) (p q : A) → Q p → Q q → Q (pick b p q)
both Q true p q h k = h
both Q false p q h k = k

low_fault : (f : Fault) → (of_fault f).number ≤ 9
unfolding of_fault
low_fault (PastEnd offset requested) = omega arith
low_fault (NoZero start) = omega arith
low_fault (OtherLetters letters) = omega arith

abbrev LowRead : Outcome × List ℕ × List ℕ → Type 0
LowRead r = r.0.number ≤ 9

low_filled : (s w x : List ℕ) (v : Res (List Item)) → LowRead (filled s w x v)
unfolding filled
low_filled s w x (stop f) = low_fault f
low_filled s w x (ok is end) =
    let n : ℕ = length (words_of s is) in
    let m : ℕ = length (texts_of s is) in
    both LowRead (leb n (length w) && leb m (length x)) (accepted (n ∷ m ∷ replacements_of s is ∷ []), sets w 0 (words_of s is), sets x 0 (texts_of s is)) (too_short n m, w, x) (omega arith) (omega arith)

low_reading : (s w x : List ℕ) → LowRead (reading s w x)
unfolding reading_by
low_reading s w x = both LowRead (leb (length s) limit) (filled s w x (section s 0)) (too_long (length s), w, x) (low_filled s w x (section s 0)) (omega arith)

-- the number is one of 0 to 9, and a refusal leaves the output as it was
abbrev LowWritten : List ℕ → Outcome × List ℕ → Type 0
LowWritten out r = (r.0.number ≤ 9) × ((r.0.number ≡ 0 → ⊥) → r.1 ≡ out)

low_judged : (out : List ℕ) (v : Judged PaneAnimInfo) → LowWritten out (judged section_lay out v)
unfolding judged into_output
low_judged out (bad_word i) = (omega arith, λ z. refl)
low_judged out (bad_text i) = (omega arith, λ z. refl)
low_judged out (fine r i j) =
    let len : ℕ = size (section_lay r) in
    let p : Outcome × List ℕ = (accepted (len ∷ []), sets out 0 (written (section_lay r))) in
    let q : Outcome × List ℕ = (refused 9 (len ∷ []), out) in
    both (LowWritten out) (leb len limit) (pick (leb len (length out)) p q) (refused 8 (limit ∷ []), out)
    (both (LowWritten out) (leb len (length out)) p q (omega arith, λ z. absurd (z refl)) (omega arith, λ z. refl))
    (omega arith, λ z. refl)

low_writing : (w x out : List ℕ) → LowWritten out (writing w x out)
unfolding writing_by
low_writing w x out = low_judged out (judge w x 0 0)

-- the same of the program, which says no value of a refusal
pub record Low (out : List ℕ) (r : Outcome × List ℕ) : Type 0 where
  pub number : r.0.number ≤ 9
  pub values : (r.0.number ≡ 0 → ⊥) → r.0.values ≡ []
  pub same : (r.0.number ≡ 0 → ⊥) → r.1 ≡ out

low_said : (out after : List ℕ) (a : Outcome) → LowWritten out (a, after) → Low out (said a, after)
unfolding said
low_said out after a h = go (eqb a.number 0) refl
  where
    go : (b : Bool) → eqb a.number 0 ≡ b → Low out (pick b a (refused a.number []), after)
    go true e = record { number = h.0; values = λ z. absurd (z (eqb-true _ _ e)); same = h.1 }
    go false e = record { number = h.0; values = λ z. refl; same = h.1 }

low_again : (w x out : List ℕ) → Low out (written_again w x out)
unfolding written_again
low_again w x out = low_said out (writing w x out).1 (writing w x out).0 (low_writing w x out)

low_after : (r : Outcome × List ℕ × List ℕ) (out : List ℕ) → LowRead r → Low out (after_reading r out)
unfolding after_reading
low_after r out h =
    let w : List ℕ = take (get_or r.0.values 0 0) r.1 in
    let x : List ℕ = take (get_or r.0.values 1 0) r.2 in
    both (Low out) (eqb r.0.number 0) (written_again w x out) (said r.0, out) (low_again w x out) (low_said out out r.0 (h, λ z. refl))

pub trip_low : (s w x out : List ℕ) → Low out (trip s w x out)
unfolding trip
trip_low s w x out =
    both (Low out) (leb (length s) most) (after_reading (reading s w x) out) (refused 2 [], out) (low_after (reading s w x) out (low_reading s w x))
    (record { number = omega arith; values = λ z. refl; same = λ z. refl })

-- ---- a refusal in print

refused_print : (n : ℕ) (vs out after : List ℕ) → length (refusal n) ≤ length out → vs ≡ [] → after ≡ out
    → part_of (replied_with n vs after).1 0 (replied_with n vs after).0 ≡ refusal n
unfolding replied_with
refused_print n vs out after l ev eo = rw (ev, eo) (printed-start out (refusal n) l)

-- where the number is not 0, `refused N` with it and a newline is all that is printed
pub trip-refusal : (s w x out : List ℕ) → length (refusal (trip s w x out).0.number) ≤ length out → ((trip s w x out).0.number ≡ 0 → ⊥)
    → printed s w x out ≡ refusal (trip s w x out).0.number
unfolding replied printed
trip-refusal s w x out l z =
    let h = trip_low s w x out in
    refused_print (trip s w x out).0.number (trip s w x out).0.values out (trip s w x out).1 l (h.values z) (h.same z)

one_digit : (n : ℕ) → n ≤ 9 → refusal n ≡ 114 ∷ 101 ∷ 102 ∷ 117 ∷ 115 ∷ 101 ∷ 100 ∷ 32 ∷ (48 + n) ∷ 10 ∷ []
unfolding refusal
one_digit n h = rw (decimal_one n (omega arith))

-- today's numbers have one digit
pub trip-refused : (s w x out : List ℕ) → 10 ≤ length out → ((trip s w x out).0.number ≡ 0 → ⊥)
    → printed s w x out ≡ 114 ∷ 101 ∷ 102 ∷ 117 ∷ 115 ∷ 101 ∷ 100 ∷ 32 ∷ (48 + (trip s w x out).0.number) ∷ 10 ∷ []
trip-refused s w x out l z =
    let e = one_digit (trip s w x out).0.number (trip_low s w x out).number in
    trip-refusal s w x out (rw e l) z ∙ e

-- ---- what is printed but a refusal: the section of a record within the limits, which is the one that was read

pub record Again (s w x out : List ℕ) : Type 0 where
  pub tree : PaneAnimInfo
  pub within : Within tree
  pub replaced : ℕ
  pub reads : reading s w x ≡ (accepted (length (words tree) ∷ length (texts tree) ∷ replaced ∷ []), sets w 0 (words tree), sets x 0 (texts tree))
  pub prints : printed s w x out ≡ written (section_lay tree)

said-number : (a : Outcome) → (said a).number ≡ a.number
unfolding said
said-number a = go (eqb a.number 0)
  where
    go : (b : Bool) → (pick b a (refused a.number [])).number ≡ a.number
    go true = refl
    go false = refl

again_number : (w x out : List ℕ) → (written_again w x out).0.number ≡ (writing w x out).0.number
unfolding written_again
again_number w x out = said-number (writing w x out).0

-- a reading that is not accepted is the end of it
read_first : (r : Outcome × List ℕ × List ℕ) (out : List ℕ) → (after_reading r out).0.number ≡ 0 → r.0.number ≡ 0
unfolding after_reading
read_first r out z = go (eqb r.0.number 0) refl z
  where
    again : Outcome × List ℕ
    again = written_again (take (get_or r.0.values 0 0) r.1) (take (get_or r.0.values 1 0) r.2) out

    go : (b : Bool) → eqb r.0.number 0 ≡ b → (pick {A = Outcome × List ℕ} b again (said r.0, out)).0.number ≡ 0 → r.0.number ≡ 0
    go true e z = eqb-true _ _ e
    go false e z = sym (said-number r.0) ∙ z

short_first : (s w x out : List ℕ) (b : Bool) → (pick {A = Outcome × List ℕ} b (after_reading (reading s w x) out) (refused 2 [], out)).0.number ≡ 0 → b ≡ true
short_first s w x out true z = refl
short_first s w x out false z = absurd (omega arith)

-- what was filled is what is written
after_filled : (s w x out : List ℕ) (f : Filled section s w x) → after_reading (reading s w x) out ≡ written_again (words_of s f.items) (texts_of s f.items) out
unfolding after_reading
after_filled s w x out f =
    rw (f.answer, sets-read w 0 (words_of s f.items) (omega (arith, f.room_words)), sets-read x 0 (texts_of s f.items) (omega (arith, f.room_texts)))

pub trip-accepted : (s w x out : List ℕ) → (trip s w x out).0.number ≡ 0 → Again s w x out
unfolding said written_again trip replied_with replied printed
trip-accepted s w x out z =
    let b : leb (length s) most ≡ true = short_first s w x out (leb (length s) most) z in
    let e : trip s w x out ≡ after_reading (reading s w x) out = rw b in
    let f = accepted-filled section s w x (read_first (reading s w x) out (sym (ap (λ (r : Outcome × List ℕ). r.0.number) e) ∙ z)) in
    let ws = words_of s f.items in
    let xs = texts_of s f.items in
    let g : trip s w x out ≡ written_again ws xs out = e ∙ after_filled s w x out f in
    let y : (writing ws xs out).0.number ≡ 0 = sym (again_number ws xs out) ∙ sym (ap (λ (r : Outcome × List ℕ). r.0.number) g) ∙ z in
    let a = accepted-within judges section_lay ws xs out y in
    let n : length (written (section_lay a.tree)) ≡ size (section_lay a.tree) = size-written (section_lay a.tree) in
    let fits : length (written (section_lay a.tree)) ≤ length out = omega (arith, n, a.room) in
    let h : trip s w x out ≡ (accepted (size (section_lay a.tree) ∷ []), sets out 0 (written (section_lay a.tree))) =
    g ∙ ap (λ (r : Outcome × List ℕ). (said r.0, r.1)) a.answer in
    record {
      tree = a.tree;
      within = a.within;
      replaced = replacements_of s f.items;
      reads = rw (a.words, a.texts) f.answer;
      prints = ap (λ (r : Outcome × List ℕ). part_of (replied r).1 0 (replied r).0) h ∙ rw (← n) (printed-start out (written (section_lay a.tree)) fits);
    }
