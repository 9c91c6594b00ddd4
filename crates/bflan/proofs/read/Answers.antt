-- What calls of reading and of finding a text answer, of any format, by what the walks under them say.
-- Assumes nothing.
use Prim.Native.Nat.{ℕ, ◌+◌, ◌-◌, ◌<◌, ◌≤◌}
use mathlib.Core.Path.{◌≡◌, refl, ap, sym, ◌∙◌}
use mathlib.Core.Bool.{Bool, true, false, ◌&&◌}
use mathlib.Core.List.{List, [], ◌∷◌}
use native.Mathlib.Nat.{add-sub_cancel_left, zero-add}
use native.Mathlib.Omega.{arith}
use borrow.Author.Tests.{leb-true, le-leb, lt-leb, lt-ltb, le-ltb, eq-eqb, ne_eqb, eqb-true}
use denote.Ref.{Bor}
use lib.Dec.{eqb, leb}
use lib.ListN.{length, get_or, take, drop}
use lib.Seq.{slice, sets}
use Rattle.base.specs.Choice.{pick}
use Rattle.base.specs.Outcome.{Outcome, accepted}
use Rattle.base.specs.Part.{part_of, part_ptr}
use Rattle.base.specs.Utf8.{decode, replacements, well_formed}
use Rattle.bflan.specs.declared.fault.Fault.{Fault}
use Rattle.bflan.specs.declared.fault.Fault.TheVariants.{PastEnd, NoZero, OtherLetters}
use Rattle.bflan.specs.declared.reader.tally.Tally.{Tally}
use Rattle.std.specs.Prelude.{Result, Ok, Err, Option, Some}
use Rattle.bflan.specs.declared.read.ReadError.TheVariants.{Fault as ReadFault, TooLong, TooShort}
use Rattle.bflan.specs.declared.find.FindError.TheVariants.{Fault as FindFault, TooLong as FindTooLong, NoSuchText, ScratchTooShort}
use Rattle.bflan.specs.Reader.{Res, ok, stop, P, Item}
use Rattle.bflan.specs.Items.{words_of, texts_of, replacements_of}
use Rattle.bflan.specs.inner.Walk.{empty_tally, tallied, after, walk_of, walked, read_into, told}
use Rattle.bflan.specs.declared.reader.tally.Tables.{Tables}
use Rattle.bflan.proofs.reader.Walks.{first, second, on_no, on_tables, no_case}
use Rattle.bflan.specs.Limits.{limit}
use Rattle.bflan.specs.Answer.{too_long, too_short, of_fault, of_reading, of_finding, shown, shown_in, filled, found, text_part, text_ptr, finding_by, reading_by}
use Rattle.bflan.specs.Items.{texts_in}
use Rattle.bflan.proofs.reader.Bounds.{Gives, given_ok, Countable}
use Rattle.bflan.proofs.reader.Counts.{Fresh, whole_words, whole-bytes, whole-replaced, whole_met, whole-none, whole-start, whole_len, whole-inside}

-- ---- a walk into two lists, by the walk into the tables that they are

pub walk_on : (s : List ℕ) (k : ℕ) {w x : List ℕ} (t u : Tables) (q : ℕ) (res : Res (List Item)) (w' x' : List ℕ) → t.tally ≡ empty_tally k → t.words.now ≡ w → t.texts.now ≡ x
    → walked (Ok q) u ≡ walk_of s t res → ((is : List Item) → u ≡ after s t is → (w' ≡ u.words.now) × (x' ≡ u.texts.now)) → told (Ok u.tally) w' x' ≡ read_into s k w x res
unfolding walked told read_into
walk_on s k {w} {x} t u q (ok is p) w' x' et ew ex e f = same (on_tables _ _ (unfold walk_of in second e))
  where
    same : u ≡ after s t is → ◌≡◌ {A = Result Tally Fault × Option (List ℕ × List ℕ)} (Ok u.tally, Some (w', x')) (Ok (tallied s (empty_tally k) is), Some (sets w 0 (words_of s is), sets x 0 (texts_of s is)))
    same d = let b = f is d in rw (b.0, b.1, d, ← ew, ← ex, et)
walk_on s k t u q (stop f) w' x' et ew ex e g = absurd (on_no q f (unfold walk_of in first e))

pub walk_no : (s : List ℕ) (k : ℕ) (w x : List ℕ) (t u : Tables) (f : Fault) (res : Res (List Item)) (w' x' : List ℕ) → walked (Err f) u ≡ walk_of s t res → told (Err f) w' x' ≡ read_into s k w x res
walk_no s k w x t u f res w' x' e = let d = no_case s t res f u e in rw d (unfold told read_into in refl)

-- ---- a walk's answer, without the lists

told_answer : (r : Result Tally Fault) (w x : List ℕ) → (told r w x).0 ≡ r
unfolding told
told_answer (Ok t) w x = refl
told_answer (Err f) w x = refl

pub measured : (r : Result Tally Fault) (s : List ℕ) (k : ℕ) (w x : List ℕ) (res : Res (List Item)) → told r w x ≡ read_into s k [] [] res → r ≡ (read_into s k [] [] res).0
measured r s k w x res e = sym (told_answer r w x) ∙ ap (λ (z : Result Tally Fault × Option (List ℕ × List ℕ)). z.0) e

not_both : (t : Tally) (f : Fault) → ◌≡◌ {A = Result Tally Fault} (Ok t) (Err f) → ⊥
not_both t f e = let z : ◌≡◌ {A = ℕ} 0 1 = cc in omega arith

same_tally : (t u : Tally) → ◌≡◌ {A = Result Tally Fault} (Ok t) (Ok u) → t ≡ u
same_tally t u e = cc

same_fault : (f g : Fault) → ◌≡◌ {A = Result Tally Fault} (Err f) (Err g) → f ≡ g
same_fault f g e = cc

same_lists : (w x v y : List ℕ) → ◌≡◌ {A = Option (List ℕ × List ℕ)} (Some (w, x)) (Some (v, y)) → (w ≡ v) × (x ≡ y)
same_lists w x v y e = let d : ◌≡◌ {A = List ℕ × List ℕ} (w, x) (v, y) = cc in (ap (λ (z : List ℕ × List ℕ). z.0) d, ap (λ (z : List ℕ × List ℕ). z.1) d)

-- and of one that went through, the lists
pub lists : (r : Result Tally Fault) (s : List ℕ) (k : ℕ) (w x w' x' : List ℕ) (is : List Item) (p : ℕ) → told r w' x' ≡ read_into s k w x (ok is p)
    → (w' ≡ sets w 0 (words_of s is)) × (x' ≡ sets x 0 (texts_of s is))
unfolding told read_into
lists (Ok t) s k w x w' x' is p e = same_lists _ _ _ _ (ap (λ (z : Result Tally Fault × Option (List ℕ × List ℕ)). z.1) e)
lists (Err f) s k w x w' x' is p e = absurd (not_both _ _ (sym (ap (λ (z : Result Tally Fault × Option (List ℕ × List ℕ)). z.0) e)))

-- ---- a section that was measured

pub stopped : (s : List ℕ) (k : ℕ) (res : Res (List Item)) (f : Fault) → (read_into s k [] [] res).0 ≡ Err f → res ≡ stop f
unfolding read_into
stopped s k (ok is p) f e = absurd (not_both _ _ e)
stopped s k (stop g) f e = ap (λ (z : Fault). stop z) (same_fault g f e)

went : (s : List ℕ) (k : ℕ) (t : Tally) (is : List Item) (p : ℕ) → (read_into s k [] [] (ok is p)).0 ≡ Ok t → t ≡ tallied s (empty_tally k) is
unfolding read_into
went s k t is p e = sym (same_tally _ _ e)

went_not : (s : List ℕ) (k : ℕ) (t : Tally) (f : Fault) → (read_into s k [] [] (stop f)).0 ≡ Ok t → ⊥
unfolding read_into
went_not s k t f e = not_both _ _ (sym e)

new : (k : ℕ) → Fresh k (empty_tally k)
new k = (refl, refl, refl, refl)

-- of any reader
module _ (p : P (List Item)) where
  -- what the tally of a section says, of which text k was wanted
  pub record Whole (s : List ℕ) (k : ℕ) (t : Tally) : Type 0 where
    pub items : List Item
    pub last : ℕ
    pub reads : p s 0 ≡ ok items last
    pub counts : t ≡ tallied s (empty_tally k) items

  pub whole : (s : List ℕ) (k : ℕ) (t : Tally) → (read_into s k [] [] (p s 0)).0 ≡ Ok t → Whole s k t
  whole s k t e = go (p s 0) refl e
    where
      go : (res : Res (List Item)) → p s 0 ≡ res → (read_into s k [] [] res).0 ≡ Ok t → Whole s k t
      go (ok is l) er em = record { items = is; last = l; reads = er; counts = went s k t is l em }
      go (stop f) er em = absurd (went_not s k t f em)

  module _ (s : List ℕ) (h : length s ≤ 16777216) (g : Gives s (Countable s) p) (k : ℕ) (t : Tally) (m : Whole s k t) where
    held : Countable s m.items
    held = given_ok g m.reads

    whole_w : t.words ≡ length (words_of s m.items)
    whole_w = ap (λ (z : Tally). z.words) m.counts ∙ whole_words s h m.items held (empty_tally k) k (new k)

    whole_b : t.bytes ≡ length (texts_of s m.items)
    whole_b = ap (λ (z : Tally). z.bytes) m.counts ∙ whole-bytes s h m.items held (empty_tally k) k (new k)

    whole_r : t.replaced ≡ replacements_of s m.items
    whole_r = ap (λ (z : Tally). z.replaced) m.counts ∙ whole-replaced s h m.items held (empty_tally k) k (new k)

    met : k < t.left → k < length (texts_in m.items)
    met l = whole_met s h m.items held (empty_tally k) k (new k) (rw m.counts at l)

    none : t.left ≤ k → length (texts_in m.items) ≤ k
    none l = whole-none s h m.items held (empty_tally k) k (new k) (rw m.counts at l)

    module _ (l : k < length (texts_in m.items)) where
      whole_s : t.start ≡ (get_or (texts_in m.items) k (0, 0)).0
      whole_s = ap (λ (z : Tally). z.start) m.counts ∙ whole-start s h m.items held (empty_tally k) k (new k) l

      whole_l : t.len ≡ (get_or (texts_in m.items) k (0, 0)).1
      whole_l = ap (λ (z : Tally). z.len) m.counts ∙ whole_len s h m.items held (empty_tally k) k (new k) l

      whole_i : t.start + t.len ≤ length s
      whole_i = rw m.counts (whole-inside s h m.items held (empty_tally k) k (new k) l)

-- ---- reading

filled_both : (s w x : List ℕ) (is : List Item) (p a b c : ℕ) → a ≡ length (words_of s is) → b ≡ length (texts_of s is) → c ≡ replacements_of s is → a ≤ length w → b ≤ length x
    → (of_reading (Ok (record { words = a; bytes = b; replaced = c })), sets w 0 (words_of s is), sets x 0 (texts_of s is)) ≡ filled s w x (ok is p)
unfolding filled
filled_both s w x is p a b c ea eb ec ha hb = rw (sym ea, sym eb, sym ec, le-leb _ _ ha, le-leb _ _ hb)

filled-words : (s w x : List ℕ) (is : List Item) (p a b : ℕ) → a ≡ length (words_of s is) → b ≡ length (texts_of s is) → length w < a → (of_reading (Err (TooShort a b)), w, x) ≡ filled s w x (ok is p)
unfolding filled
filled-words s w x is p a b ea eb ha = rw (sym ea, sym eb, lt-leb _ _ ha)

filled-texts : (s w x : List ℕ) (is : List Item) (p a b : ℕ) → a ≡ length (words_of s is) → b ≡ length (texts_of s is) → a ≤ length w → length x < b
    → (of_reading (Err (TooShort a b)), w, x) ≡ filled s w x (ok is p)
unfolding filled
filled-texts s w x is p a b ea eb ha hb = rw (sym ea, sym eb, le-leb _ _ ha, lt-leb _ _ hb)

module _ (p : P (List Item)) (s w x : List ℕ) where
  pub reading-long : 16777216 < length s → (of_reading (Err (TooLong (length s))), w, x) ≡ reading_by p s w x
  unfolding reading_by
  reading-long h = rw (lt-leb _ _ h)

  module _ (h : length s ≤ 16777216) where
    by_result : reading_by p s w x ≡ filled s w x (p s 0)
    unfolding reading_by
    by_result = rw (le-leb _ _ h)

    pub reading-stop : (k : ℕ) (f : Fault) → (read_into s k [] [] (p s 0)).0 ≡ Err f → (of_reading (Err (ReadFault f)), w, x) ≡ reading_by p s w x
    unfolding filled
    reading-stop k f e = rw (by_result, stopped s k (p s 0) f e)

    module _ (g : Gives s (Countable s) p) (k : ℕ) (t : Tally) (e : (read_into s k [] [] (p s 0)).0 ≡ Ok t) where
      m : Whole p s k t
      m = whole p s k t e

      by_items : reading_by p s w x ≡ filled s w x (ok m.items m.last)
      by_items = by_result ∙ ap (filled s w x) m.reads

      pub reading_on : (r : Result Tally Fault) (w' x' : List ℕ) → t.words ≤ length w → t.bytes ≤ length x → told r w' x' ≡ read_into s k w x (p s 0)
          → (of_reading (Ok (record { words = t.words; bytes = t.bytes; replaced = t.replaced })), w', x') ≡ reading_by p s w x
      reading_on r w' x' ha hb er =
          let z = lists r s k w x w' x' m.items m.last (er ∙ ap (read_into s k w x) m.reads) in
          rw (by_items, z.0, z.1) (filled_both s w x m.items m.last _ _ _ (whole_w p s h g k t m) (whole_b p s h g k t m) (whole_r p s h g k t m) ha hb)

      pub reading-words : length w < t.words → (of_reading (Err (TooShort t.words t.bytes)), w, x) ≡ reading_by p s w x
      reading-words ha = filled-words s w x m.items m.last _ _ (whole_w p s h g k t m) (whole_b p s h g k t m) ha ∙ sym by_items

      pub reading-texts : t.words ≤ length w → length x < t.bytes → (of_reading (Err (TooShort t.words t.bytes)), w, x) ≡ reading_by p s w x
      reading-texts ha hb = filled-texts s w x m.items m.last _ _ (whole_w p s h g k t m) (whole_b p s h g k t m) ha hb ∙ sym by_items

-- ---- a call of reading that is accepted

-- a fault is never accepted
fault_number : (f : Fault) → (of_fault f).number ≡ 0 → ⊥
unfolding of_fault
fault_number (PastEnd offset requested) e = omega arith
fault_number (NoZero start) e = omega arith
fault_number (OtherLetters letters) e = omega arith

module _ (p : P (List Item)) (s w x : List ℕ) where
  -- the items that it read; there is room for their words and texts, and it fills them in
  pub record Filled : Type 0 where
    pub short : length s ≤ limit
    pub items : List Item
    pub end : ℕ
    pub reads : p s 0 ≡ ok items end
    pub room_words : length (words_of s items) ≤ length w
    pub room_texts : length (texts_of s items) ≤ length x
    pub answer : reading_by p s w x ≡ (accepted (length (words_of s items) ∷ length (texts_of s items) ∷ replacements_of s items ∷ []), sets w 0 (words_of s items), sets x 0 (texts_of s items))

  pub accepted-filled : (reading_by p s w x).0.number ≡ 0 → Filled
  unfolding reading_by filled
  accepted-filled e = go (leb (length s) limit) refl (p s 0) refl e
    where
      on : length s ≤ limit → leb (length s) limit ≡ true → (is : List Item) (end : ℕ) → p s 0 ≡ ok is end → (a b : Bool) → leb (length (words_of s is)) (length w) ≡ a → leb (length (texts_of s is)) (length x) ≡ b
          → (pick {A = Outcome × List ℕ × List ℕ} (a && b) (accepted (length (words_of s is) ∷ length (texts_of s is) ∷ replacements_of s is ∷ []), sets w 0 (words_of s is), sets x 0 (texts_of s is))
          (too_short (length (words_of s is)) (length (texts_of s is)), w, x)).0.number ≡ 0
          → Filled
      on h l is end r true true a b e =
          record {
            short = h;
            items = is;
            end = end;
            reads = r;
            room_words = leb-true (length (words_of s is)) (length w) a;
            room_texts = leb-true (length (texts_of s is)) (length x) b;
            answer = rw (l, r, a, b);
          }
      on h l is end r true false a b e = absurd (omega arith)
      on h l is end r false b a c e = absurd (omega arith)

      go : (t : Bool) → leb (length s) limit ≡ t → (r : Res (List Item)) → p s 0 ≡ r
          → (pick {A = Outcome × List ℕ × List ℕ} t (filled s w x r) (too_long (length s), w, x)).0.number ≡ 0
          → Filled
      go true l (ok is end) r e = on (leb-true (length s) limit l) l is end r (leb (length (words_of s is)) (length w)) (leb (length (texts_of s is)) (length x)) refl refl e
      go true l (stop f) r e = absurd (fault_number f e)
      go false l r q e = absurd (omega arith)

  -- with long enough tables it is
  pub reading_gives : (is : List Item) (end : ℕ) (ws xs : List ℕ) (c : ℕ) → length s ≤ limit → p s 0 ≡ ok is end → words_of s is ≡ ws → texts_of s is ≡ xs → replacements_of s is ≡ c → length ws ≤ length w → length xs ≤ length x
      → reading_by p s w x ≡ (accepted (length ws ∷ length xs ∷ c ∷ []), sets w 0 ws, sets x 0 xs)
  unfolding reading_by filled
  reading_gives is end ws xs c h e ew ex ec hw hx = rw (le-leb (length s) limit h, e, ew, ex, ec, le-leb (length ws) (length w) hw, le-leb (length xs) (length x) hx)

-- ---- finding a text

found_none : (s : List ℕ) (k : ℕ) (x : List ℕ) (is : List Item) (p : ℕ) → length (texts_in is) ≤ k → (of_finding (Err NoSuchText), x) ≡ found s k x (ok is p)
unfolding found
found_none s k x is p h = rw (le-ltb _ _ h)

found_there : (s : List ℕ) (k : ℕ) (x : List ℕ) (is : List Item) (p : ℕ) → k < length (texts_in is) → found s k x (ok is p) ≡ shown_in s x (get_or (texts_in is) k (0, 0))
unfolding found
found_there s k x is p h = rw (lt-ltb _ _ h)

shown_place : (s x : List ℕ) (p : ℕ × ℕ) (a len : ℕ) → a ≡ p.0 → len ≡ p.1 → shown_in s x p ≡ shown a (slice a (a + len) s) x
shown_place s x p a len ea el = rw (sym ea, sym el)

-- it lies in the section
pub finding-inside : (p : P (List Item)) (s : List ℕ) (k : ℕ) (h : length s ≤ 16777216) (g : Gives s (Countable s) p) (t : Tally)
    → (read_into s k [] [] (p s 0)).0 ≡ Ok t → k < t.left → t.start + t.len ≤ length s
finding-inside p s k h g t e l = let m = whole p s k t e in whole_i p s h g k t m (met p s h g k t m l)

module _ (p : P (List Item)) (s : List ℕ) (k : ℕ) (x : List ℕ) where
  pub finding-long : 16777216 < length s → (of_finding (Err (FindTooLong (length s))), x) ≡ finding_by p s k x
  unfolding finding_by
  finding-long h = rw (lt-leb _ _ h)

  module _ (h : length s ≤ 16777216) where
    in_result : finding_by p s k x ≡ found s k x (p s 0)
    unfolding finding_by
    in_result = rw (le-leb _ _ h)

    pub finding-stop : (f : Fault) → (read_into s k [] [] (p s 0)).0 ≡ Err f → (of_finding (Err (FindFault f)), x) ≡ finding_by p s k x
    unfolding found
    finding-stop f e = rw (in_result, stopped s k (p s 0) f e)

    module _ (g : Gives s (Countable s) p) (t : Tally) (e : (read_into s k [] [] (p s 0)).0 ≡ Ok t) where
      n : Whole p s k t
      n = whole p s k t e

      in_items : finding_by p s k x ≡ found s k x (ok n.items n.last)
      in_items = in_result ∙ ap (found s k x) n.reads

      pub finding-none : t.left ≤ k → (of_finding (Err NoSuchText), x) ≡ finding_by p s k x
      finding-none l = found_none s k x n.items n.last (none p s h g k t n l) ∙ sym in_items

      pub finding_there : k < t.left → finding_by p s k x ≡ shown t.start (slice t.start (t.start + t.len) s) x
      finding_there l =
          let c = met p s h g k t n l in
          in_items ∙ found_there s k x n.items n.last c ∙ shown_place s x _ _ _ (whole_s p s h g k t n c) (whole_l p s h g k t n c)

-- a text of these bytes that starts at a
module _ (a : ℕ) (bytes x : List ℕ) where
  pub shown_well : (len : ℕ) → well_formed bytes ≡ true → len ≡ length bytes → (of_finding (Ok (record { source = 0; start = a; len = len; replaced = 0 })), x) ≡ shown a bytes x
  unfolding shown
  shown_well len e l = rw (e, sym l)

  pub shown-short : (size : ℕ) → well_formed bytes ≡ false → size ≡ length (decode bytes) → length x < size → (of_finding (Err (ScratchTooShort size)), x) ≡ shown a bytes x
  unfolding shown
  shown-short size e l h = rw (e, sym l, lt-leb _ _ h)

  pub shown-decoded : (size count : ℕ) (x' : List ℕ) → well_formed bytes ≡ false → size ≡ length (decode bytes) → count ≡ replacements bytes → size ≤ length x → x' ≡ sets x 0 (decode bytes) → (of_finding (Ok (record { source = 1; start = 0; len = size; replaced = count })), x') ≡ shown a bytes x
  unfolding shown
  shown-decoded size count x' e l n h d = ap (λ (y : List ℕ). (of_finding (Ok (record { source = 1; start = 0; len = size; replaced = count })), y)) d ∙ rw (e, sym l, sym n, le-leb _ _ h)

-- ---- the part that three numbers say

module _ (s x : Bor (List ℕ)) (source start len : ℕ) where
  abbrev Lies : List ℕ → ℕ × ℕ → Type 0
  Lies l p = (l ≡ text_part s.now x.now source start len) × (p ≡ text_ptr s x source start len)

  pub part_section : source ≡ 0 → Lies (part_of s.now start len) (part_ptr s start len)
  unfolding text_part text_ptr
  part_section e = rw (eq-eqb _ _ e) (refl, refl)

  pub part_scratch : source ≡ 1 → start + len ≤ length x.now → Lies (take (start + len - start) (drop start x.now)) (x.ref_ptr.0, start + x.ref_ptr.1)
  unfolding text_part text_ptr part_of part_ptr
  part_scratch e h =
      let e₀ : eqb source 0 ≡ false = ne_eqb source 0 (λ z. omega arith) in
      rw (e₀, eq-eqb _ _ e, le-leb _ _ h, add-sub_cancel_left) (refl, refl)

  nowhere : (b : Bool) → eqb source 1 ≡ b → (source ≡ 0 → ⊥) → (source ≡ 1 → length x.now < start + len) → Lies [] (s.ref_ptr.0, 0 + s.ref_ptr.1)
  unfolding text_part text_ptr part_of
  nowhere true e n h = rw (ne_eqb _ _ n, e, lt-leb _ _ (h (eqb-true _ _ e)), zero-add) (refl, refl)
  nowhere false e n h = rw (ne_eqb _ _ n, e, zero-add) (refl, refl)

  pub part_nowhere : (source ≡ 0 → ⊥) → (source ≡ 1 → length x.now < start + len) → Lies [] (s.ref_ptr.0, 0 + s.ref_ptr.1)
  part_nowhere n h = nowhere (eqb source 1) refl n h
