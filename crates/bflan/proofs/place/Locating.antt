-- What a section that reads has on the path to a field, and where the path leads. Assumes nothing.
use Prim.Native.Nat.{ℕ, zero, suc, ◌+◌, ◌*◌, ◌<◌, ◌≤◌}
use mathlib.Core.Path.{◌≡◌, refl, ap, sym, subst, ◌∙◌}
use mathlib.Core.Bool.{Bool, true, false, ◌&&◌}
use mathlib.Core.List.{List, [], ◌∷◌, map}
use Rattle.std.specs.Prelude.{Option, Some, None, Ok, Err}
use Rattle.std.specs.Option.{ok_or}
use Rattle.std.specs.Result.{result_ok}
use native.Mathlib.Nat.{zero-add, suc-mul, mul-le-mul_right}
use native.Mathlib.Omega.{arith}
use borrow.Author.Tests.{leb-true, le-leb, lt-leb, ltb-true, eqb-true, eqb-false}
use lib.Dec.{eqb, leb, ltb}
use lib.ListN.{length}
use Rattle.base.specs.Number.{get}
use Rattle.base.specs.Run.{numbers_at}
use Rattle.bflan.specs.declared.fault.Fault.{Fault}
use Rattle.bflan.specs.declared.fault.Fault.TheVariants.{OtherLetters}
use Rattle.bflan.specs.declared.curve.Curve.{Curve}
use Rattle.bflan.specs.declared.curve.Curve.TheVariants.{Constant, Step, Hermite}
use Rattle.bflan.specs.declared.place.Field.{Field}
use Rattle.bflan.specs.declared.place.Field.TheVariants.{FrameCount as frames, Looping as looping, Layer as layer, Target as number', Key as key, Value as value}
use Rattle.bflan.specs.declared.place.Place.{Place}
use Rattle.bflan.specs.declared.place.Place.TheVariants.{FrameCount, Looping, Layer, Target, Key, Value}
use Rattle.bflan.specs.declared.place.FieldSpot.{FieldSpot}
use Rattle.bflan.specs.declared.place.LocateError.TheVariants.{TooLong, Fault as Unread, NoSuchPlace}
use Rattle.bflan.specs.pai1.Curves.{curve_number}
use Rattle.bflan.specs.pai1.FieldValues.{numbers_in}
use Rattle.bflan.specs.pai1.Layout.{key_skip}
use Rattle.base.specs.Choice.{pick}
use Rattle.bflan.specs.pai1.Letters.{fleu, letters_of}
use Rattle.bflan.specs.Limits.{limit}
use Rattle.bflan.specs.pai1.Locating.{of_spot, locating_in, locating}
use Rattle.bflan.specs.inner.Path.{spot_of, content_base, info_base, target_base, after_base, datum_base, TargetAt, DatumAt, InfoAt, ContentAt, SectionAt}
use Rattle.bflan.specs.pai1.Places.{Spot, nowhere, spot, after as behind, widths, total, stride, curve_by, key_in, value_in, target_in, datum_in, info_table_in, info_in, content_in, locate}
use Rattle.bflan.specs.Reader.{Res, ok, stop, ◌>>=◌, ret, given, fail, Item, word, text, skip, numbers, many, visit}
use Rattle.bflan.specs.pai1.Reading.{key_of, curve_of, count_of, keys, target, datum, info, type_of, info_table, content, texture, own_letters, contents, body, section}
use Rattle.bflan.specs.pai1.Record.{key_widths}
use Rattle.bflan.specs.inner.Walk.{Walk, read_into, walk_of, walked}
use Rattle.bflan.specs.declared.reader.tally.Tally.{Tally}
use Rattle.bflan.specs.declared.reader.tally.Tables.{Tables}
use Rattle.std.specs.Prelude.{Ok, Err}
use Rattle.bflan.proofs.Layouts.{stride_three}
use Rattle.bflan.proofs.read.Answers.{stopped, whole}
use Rattle.bflan.specs.pai1.RecordAt.{name_size}
use Rattle.bflan.specs.inner.SectionParts.{after_head}
use Rattle.bflan.proofs.reader.ContentParts.{name, content_after, content_widths, table_if}
use Rattle.bflan.proofs.reader.DatumParts.{fields_in, datum_after, datum_widths}
use Rattle.bflan.proofs.place.Fields.{and_left, and_right}
use Rattle.bflan.proofs.reader.InfoParts.{info_after, info_widths}
use Rattle.bflan.proofs.reader.KeyRuns.{many_on}
use Rattle.bflan.proofs.reader.Rows.{row_then, fields_at}
use Rattle.bflan.proofs.reader.SectionParts.{head_of, head_widths}
use Rattle.bflan.proofs.reader.TargetParts.{target_after, target_widths}
use Rattle.bflan.proofs.reader.Unstopped.{If, if_ok, yes, no, weaker, sure, next, after, number, head, sought, table, listed, visited}
use Rattle.bflan.proofs.reader.Walks.{before, first, on_no, on_place}

-- ---- keys

module _ (s : List ℕ) where
  -- what a key gives, where it ends, and that its numbers are in the section
  abbrev KeyAt : ℕ → ℕ → List Item → ℕ → Type 0
  KeyAt c p is j = (is ≡ map word (numbers_in (key_widths c) s p)) × (j ≡ p + stride c) × (p + total (key_widths c) ≤ length s)

  pub key_at : (c p : ℕ) → If (KeyAt c p) (key_of c s p)
  unfolding stride total key_widths key_skip skip row_then fields_at numbers_in
  key_at zero p = head s (key_widths 0) (λ vs. ret (map word vs)) p 0 (omega arith) (λ h. yes (refl, refl, h))
  key_at (suc zero) p = head s (key_widths 1) (λ vs. ◌>>=◌ (skip 2) (λ n. ret (map word vs))) p 0 (omega arith) (λ h. yes (refl, omega arith, h))
  key_at (suc (suc c)) p =
      head s (key_widths 2) (λ vs. ret (map word vs)) p 0 (omega arith) (λ h.
      yes (let e : p + 4 + 4 ≡ p + 8 = omega arith in rw e, ap (λ (n : ℕ). p + n) (sym (stride_three c)), h))

  keys_at_lem : (c n p : ℕ) → If (λ is j. (k : ℕ) → k < n → p + k * stride c + total (key_widths c) ≤ length s) (many n (key_of c) s p)
  unfolding many
  keys_at_lem c zero p = yes (λ k l. absurd (omega arith))
  keys_at_lem c (suc n) p =
      after s (key_of c s p) _ (key_at c p) (λ x j h. after s (many n (key_of c) s j) _ (keys_at_lem c n j) (λ xs j' hs. yes (found j h.1 h.2 hs)))
    where
      found : (j : ℕ) → j ≡ p + stride c → p + total (key_widths c) ≤ length s → ((k : ℕ) → k < n → j + k * stride c + total (key_widths c) ≤ length s)
          → (k : ℕ) → k < suc n → p + k * stride c + total (key_widths c) ≤ length s
      found j e h hs zero l = omega (arith, h)
      found j e h hs (suc k) l = omega (arith, e, hs k (omega arith), suc-mul k (stride c))

  target_at_lem : (letters b i : ℕ) → If (λ is j. TargetAt s b) (target letters b s i)
  unfolding target keys row_then total fields_at
  target_at_lem letters b i =
      sought s b i _ (λ l. head s target_widths (target_after letters b) b 0 (omega arith) (λ l12.
      sought s (b + get 4 s (b + 8)) (b + 12) _ (λ m.
      after s (many (count_of (get 1 s (b + 2)) (get 2 s (b + 4))) (key_of (curve_of (get 1 s (b + 2)))) s (b + get 4 s (b + 8))) _ (keys_at_lem (curve_of (get 1 s (b + 2))) (count_of (get 1 s (b + 2)) (get 2 s (b + 4))) (b + get 4 s (b + 8)))
      (λ ks j h. yes (record { head = l12; keys = h })))))

-- ---- data

ok_at : {A : Type 0} {v w : A} {i j : ℕ} → ◌≡◌ {A = Res A} (ok v i) (ok w j) → i ≡ j
ok_at e = cc

joined_at : (x is : List Item) (r : Res (List Item)) (q : ℕ) {X : Type 0} → before x r ≡ ok is q → ((xs : List Item) → r ≡ ok xs q → X) → X
joined_at x is (ok xs j) q e f = f xs (ap (λ (k : ℕ). ok xs k) (ok_at e))
joined_at x is (stop g) q e f = absurd (let z : ◌≡◌ {A = ℕ} 0 1 = cc in omega arith)

module _ (s : List ℕ) where
  datum_at_lem : (p : ℕ) → If (λ is j. DatumAt s p) (datum s p)
  unfolding datum row_then total fields_at
  datum_at_lem p =
      head s datum_widths (λ vs. datum_after (fields_in vs)) p 0 (omega arith) (λ l16.
      table s (3 * get 4 s (p + 8)) (p + 16) _ l16 (λ l. sure _ (record { lists = omega (arith, l) })))

  -- where the reader stands after d of them, the next one starts
  abbrev DataAt : ℕ → ℕ → Type 0
  DataAt n p = (d : ℕ) → d < n → (is : List Item) (q : ℕ) → many d datum s p ≡ ok is q → DatumAt s q

  data_at_lem : (n p : ℕ) → If (λ is j. DataAt n p) (many n datum s p)
  unfolding many
  data_at_lem zero p = yes (λ d l. absurd (omega arith))
  data_at_lem (suc n) p =
      next s (datum s p) _ (λ x j e. after s (many n datum s j) _ (data_at_lem n j) (λ xs j' hs. yes (found x j e hs)))
    where
      found : (x : List Item) (j : ℕ) → datum s p ≡ ok x j → DataAt n j → DataAt (suc n) p
      found x j e hs zero l is q d = subst (DatumAt s) (ok_at d) (if_ok (λ is k. DatumAt s p) (datum s p) (datum_at_lem p) e)
      found x j e hs (suc k) l is q d = joined_at x is (many k datum s j) q (sym (many_on k datum s p e) ∙ d) (λ xs m. hs k (omega arith) xs q m)

  -- ---- infos

  info_at_lem : (b i : ℕ) → If (λ is j. InfoAt s b) (info b s i)
  unfolding info row_then total fields_at
  info_at_lem b i = sought s b i _ (λ l. head s info_widths (info_after b) b 0 (omega arith) (λ l8. kind l8 (eqb (get 4 s b) fleu) refl))
    where
      kind : b + 8 ≤ length s → (t : Bool) → eqb (get 4 s b) fleu ≡ t
          → If (λ is j. InfoAt s b) (given t (◌>>=◌ (many (get 1 s (b + 4)) datum) (λ ds. ret (word fleu ∷ word (get 1 s (b + 4)) ∷ ds)))
          (◌>>=◌ (numbers (get 1 s (b + 4))) (λ offsets. ◌>>=◌ (visit b (target (get 4 s b)) offsets) (λ ts. ret (word (letters_of (get 4 s b)) ∷ word (get 1 s (b + 4)) ∷ ts)))) s (b + 8))
      kind h true e =
          after s (many (get 1 s (b + 4)) datum s (b + 8)) _ (data_at_lem (get 1 s (b + 4)) (b + 8)) (λ ds j hs.
          yes (record { head = h; table = λ x. absurd (x (eqb-true (get 4 s b) fleu e)); targets = λ x. absurd (x (eqb-true (get 4 s b) fleu e)); extended = λ x. hs }))
      kind h false e =
          listed s b (target (get 4 s b)) (get 1 s (b + 4)) (b + 8) _ h (visited s b (target (get 4 s b)) (TargetAt s) (target_at_lem s (get 4 s b)) (get 1 s (b + 4)) (b + 8)) (λ l ts j hs.
          yes (record { head = h; table = λ x. l; targets = λ x. hs; extended = λ x. absurd (eqb-false (get 4 s b) fleu e x) }))

  -- ---- contents

  pub table_at : (b : ℕ) → b + 32 ≤ length s
      → If (λ v j. (j ≡ info_table_in s b) × (info_table_in s b ≤ length s) × (get 1 s (b + 29) ≡ 2 → b + 32 + 4 ≤ length s)) (info_table b (get 1 s (b + 29)) s (b + 32))
  unfolding info_table_in
  table_at b h = table_if b (get 1 s (b + 29)) s (b + 32) h

  content_at_lem : (b i : ℕ) → If (λ is j. ContentAt s b) (content b s i)
  unfolding content row_then total fields_at
  content_at_lem b i =
      sought s b i _ (λ l. name s content_widths (content_after b) b (omega arith) (λ l32.
      after s (info_table b (get 1 s (b + 29)) s (b + 32)) _ (table_at b l32) (λ at j h. infos l32 j h)))
    where
      infos : b + 32 ≤ length s → (j : ℕ) → (j ≡ info_table_in s b) × (info_table_in s b ≤ length s) × (get 1 s (b + 29) ≡ 2 → b + 32 + 4 ≤ length s)
          → If (λ is j. ContentAt s b)
          (◌>>=◌ (numbers (get 1 s (b + 28))) (λ offsets. ◌>>=◌ (visit b info offsets) (λ is. ret (text b (name_size s b) ∷ word (type_of (get 1 s (b + 29))) ∷ word (get 1 s (b + 28)) ∷ is))) s j)
      infos l32 j h =
          rw h.0
          (listed s b info (get 1 s (b + 28)) (info_table_in s b) _ h.1 (visited s b info (InfoAt s) info_at_lem (get 1 s (b + 28)) (info_table_in s b)) (λ l is k hs.
          yes (record { head = l32; user = λ x. omega (arith, h.2 x); table = l; infos = hs })))

  -- ---- the section

  contents_at : (to n i : ℕ) → If (λ is j. (to + 4 * n ≤ length s) × ((c : ℕ) → c < n → ContentAt s (get 4 s (to + 4 * c)))) (contents to n s i)
  unfolding contents
  contents_at to n i =
      sought s to i _ (λ l. table s n to _ l (λ m.
      weaker (visit 0 content (numbers_at n s to) s (to + 4 * n)) (visited s 0 content (ContentAt s) content_at_lem n to (to + 4 * n)) (λ is j hs. (m, λ c k. subst (ContentAt s) (zero-add (get 4 s (to + 4 * c))) (hs c k)))))

  body_at : (size : ℕ) → If (λ is j. SectionAt s) (body size s 8)
  unfolding body after_head row_then total fields_at
  body_at size =
      head s head_widths (λ vs. after_head size (head_of vs)) 8 0 (omega arith) (λ l20.
      next s (numbers (get 2 s 12) s 20) _ (λ os j e. next s (visit 20 texture os s j) _ (λ ts k d.
      after s (contents (get 4 s 16) (get 2 s 14) s k) _ (contents_at (get 4 s 16) (get 2 s 14) k) (λ cs m h.
      sure _ (record { head = l20; table = h.0; contents = h.1 })))))

  -- what holds of each body holds of the section
  pub section_by : {Q : List Item → ℕ → Type 0} → ((size : ℕ) → If Q (body size s 8)) → If Q (section s 0)
  unfolding section
  section_by {Q} h = number s 4 0 _ (λ l4. number s 4 4 _ (λ l8. kind (eqb (get 4 s 0) own_letters)))
    where
      kind : (t : Bool) → If Q (given t (body (get 4 s 4)) (fail (OtherLetters (get 4 s 0))) s 8)
      kind true = h (get 4 s 4)
      kind false = no _

  pub section_at : (is : List Item) (e : ℕ) → section s 0 ≡ ok is e → SectionAt s
  section_at is e h = if_ok (λ is j. SectionAt s) (section s 0) (section_by body_at) h

-- ---- a path by its steps

unfoldable pub under : Option ℕ → (ℕ → Spot) → Spot
under (Some b) f = f b
under None f = nowhere

pub under_some : {x : Option ℕ} {b : ℕ} (f : ℕ → Spot) → x ≡ Some b → under x f ≡ f b
unfolding under
under_some f e = rw e

pub under_none : {x : Option ℕ} (f : ℕ → Spot) → x ≡ None → under x f ≡ nowhere
unfolding under
under_none f e = rw e

pick_under : (t : Bool) (b : ℕ) (f : ℕ → Spot) → pick t (f b) nowhere ≡ under (pick t (Some b) None) f
unfolding under
pick_under true b f = refl
pick_under false b f = refl

module _ (s : List ℕ) where
  pub content_under : (c : ℕ) (f : ℕ → Spot) → content_in s c f ≡ under (content_base s c) f
  unfolding content_in content_base
  content_under c f = pick_under (ltb c (get 2 s 14)) (get 4 s (get 4 s 16 + 4 * c)) f

  pub info_under_lem : (b i : ℕ) (f : ℕ → Spot) → info_in s b i f ≡ under (info_base s b i) f
  unfolding info_in info_base
  info_under_lem b i f = pick_under (ltb i (get 1 s (b + 28))) (b + get 4 s (info_table_in s b + 4 * i)) f

  pub target_under_lem : (b t : ℕ) (f : ℕ → Spot) → target_in s b t f ≡ under (target_base s b t) f
  unfolding under target_in target_base
  target_under_lem b t f = go (eqb (get 4 s b) fleu) (ltb t (get 1 s (b + 4)))
    where
      go : (x y : Bool) → pick x nowhere (pick y (f (b + get 4 s (b + 8 + 4 * t))) nowhere) ≡ under (pick x None (pick y (Some (b + get 4 s (b + 8 + 4 * t))) None)) f
      go true y = refl
      go false y = pick_under y (b + get 4 s (b + 8 + 4 * t)) f

  pub datum_under : (b d : ℕ) (f : ℕ → Spot) → datum_in s b d f ≡ under (datum_base s b d) f
  unfolding under datum_in datum_base after_base
  datum_under b d f = go (eqb (get 4 s b) fleu) (ltb d (get 1 s (b + 4))) (many d datum s (b + 8))
    where
      go : (x y : Bool) (r : Res (List Item)) → pick x (pick y (behind r f) nowhere) nowhere ≡ under (pick x (pick y (after_base r) None) None) f
      go true true (ok is q) = refl
      go true true (stop g) = refl
      go true false r = refl
      go false y r = refl

-- where a path leads, by its steps
pub ruleset path_steps = (content_under, info_under_lem, target_under_lem, datum_under, under_some, under_none)

-- ---- what stands where it leads

from_missing : (b : ℕ) → None ≡ Some b → ⊥
from_missing b e = let z : ◌≡◌ {A = ℕ} 0 1 = cc in omega arith

from_from : (a b : ℕ) → Some a ≡ Some b → a ≡ b
from_from a b e = cc

picked : (Good : ℕ → Type 0) (n k : ℕ) (a b : ℕ) → pick (ltb k n) (Some a) None ≡ Some b → (k < n → Good a) → Good b
picked Good n k a b e f = go (ltb k n) refl e
  where
    go : (t : Bool) → ltb k n ≡ t → pick t (Some a) None ≡ Some b → Good b
    go true u d = subst Good (from_from a b d) (f (ltb-true k n u))
    go false u d = absurd (from_missing b d)

module _ (s : List ℕ) where
  content_from : (c b : ℕ) → SectionAt s → content_base s c ≡ Some b → ContentAt s b
  unfolding content_base
  content_from c b h e = picked (ContentAt s) (get 2 s 14) c (get 4 s (get 4 s 16 + 4 * c)) b e (h.contents c)

  info_from : (a i b : ℕ) → ContentAt s a → info_base s a i ≡ Some b → InfoAt s b
  unfolding info_base
  info_from a i b h e = picked (InfoAt s) (get 1 s (a + 28)) i (a + get 4 s (info_table_in s a + 4 * i)) b e (h.infos i)

  target_from : (a t b : ℕ) → InfoAt s a → target_base s a t ≡ Some b → TargetAt s b
  unfolding target_base
  target_from a t b h = go (eqb (get 4 s a) fleu) refl
    where
      go : (x : Bool) → eqb (get 4 s a) fleu ≡ x → pick x None (pick (ltb t (get 1 s (a + 4))) (Some (a + get 4 s (a + 8 + 4 * t))) None) ≡ Some b → TargetAt s b
      go true d e = absurd (from_missing b e)
      go false d e = picked (TargetAt s) (get 1 s (a + 4)) t (a + get 4 s (a + 8 + 4 * t)) b e (h.targets (eqb-false (get 4 s a) fleu d) t)

  -- the datum behind d others
  pub datum_there : (a d b : ℕ) → InfoAt s a → get 4 s a ≡ fleu → d < get 1 s (a + 4) → after_base (many d datum s (a + 8)) ≡ Some b → DatumAt s b
  unfolding after_base
  datum_there a d b h u v = go (many d datum s (a + 8)) refl
    where
      go : (r : Res (List Item)) → many d datum s (a + 8) ≡ r → after_base r ≡ Some b → DatumAt s b
      go (ok is q) w e = subst (DatumAt s) (from_from q b e) (h.extended u d v is q w)
      go (stop g) w e = absurd (from_missing b e)

  datum_from : (a d b : ℕ) → InfoAt s a → datum_base s a d ≡ Some b → DatumAt s b
  unfolding datum_base
  datum_from a d b h = go (eqb (get 4 s a) fleu) refl (ltb d (get 1 s (a + 4))) refl
    where
      go : (x : Bool) → eqb (get 4 s a) fleu ≡ x → (y : Bool) → ltb d (get 1 s (a + 4)) ≡ y
          → pick x (pick y (after_base (many d datum s (a + 8))) None) None ≡ Some b → DatumAt s b
      go true u true v e = datum_there a d b h (eqb-true (get 4 s a) fleu u) (ltb-true d (get 1 s (a + 4)) v) e
      go true u false v e = absurd (from_missing b e)
      go false u y v e = absurd (from_missing b e)

-- ---- the field that a path leads to lies in the section

-- a value of one of a datum's three lists
module _ (s : List ℕ) (b l v : ℕ) (x : DatumAt s b) (hl : l < 3) where
  lists-most : l * get 4 s (b + 8) ≤ 2 * get 4 s (b + 8)
  lists-most = mul-le-mul_right (get 4 s (b + 8)) (omega arith)

  value-fits : v < get 4 s (b + 8) → b + 16 + 4 * (l * get 4 s (b + 8) + v) + 4 ≤ length s
  value-fits hv = omega (arith, x.lists, lists-most, hv)

under_at : (x : Option ℕ) (f : ℕ → Spot) {at : ℕ} {g : Field} {X : Type 0} → under x f ≡ spot at g → ((b : ℕ) → x ≡ Some b → f b ≡ spot at g → X) → X
unfolding under
under_at (Some b) f e k = k b refl e
under_at None f e k = absurd (let z : ◌≡◌ {A = ℕ} 0 1 = cc in omega arith)

spot_place : {a b : ℕ} {f g : Field} → spot a f ≡ spot b g → a ≡ b
spot_place e = cc

spot_field : {a b : ℕ} {f g : Field} → spot a f ≡ spot b g → f ≡ g
spot_field e = cc

module _ (s : List ℕ) (h : SectionAt s) (at : ℕ) (f : Field) where
  abbrev Inside : Type 0
  Inside = at + total (widths f) ≤ length s

  -- at a known place, with a known field
  known : (a : ℕ) (g : Field) → spot a g ≡ spot at f → a + total (widths g) ≤ length s → Inside
  known a g e l = subst (λ (k : ℕ). k + total (widths f) ≤ length s) (spot_place e) (subst (λ (x : Field). a + total (widths x) ≤ length s) (spot_field e) l)

  along : (c i : ℕ) (g : ℕ → Spot) → content_in s c (λ b. info_in s b i g) ≡ spot at f → ((b : ℕ) → InfoAt s b → g b ≡ spot at f → Inside) → Inside
  along c i g e k =
      under_at (content_base s c) _ (sym (content_under s c _) ∙ e) (λ a d x.
      under_at (info_base s a i) g (sym (info_under_lem s a i g) ∙ x) (λ b z y. k b (info_from s a i b (content_from s c a h d) z) y))

  to_target : (a t : ℕ) (g : ℕ → Spot) → InfoAt s a → target_in s a t g ≡ spot at f → ((b : ℕ) → TargetAt s b → g b ≡ spot at f → Inside) → Inside
  to_target a t g x e k = under_at (target_base s a t) g (sym (target_under_lem s a t g) ∙ e) (λ b d y. k b (target_from s a t b x d) y)

  to_datum : (a d : ℕ) (g : ℕ → Spot) → InfoAt s a → datum_in s a d g ≡ spot at f → ((b : ℕ) → DatumAt s b → g b ≡ spot at f → Inside) → Inside
  to_datum a d g x e k = under_at (datum_base s a d) g (sym (datum_under s a d g) ∙ e) (λ b z y. k b (datum_from s a d b x z) y)

  by_test : (t : Bool) (a : ℕ) (g : Field) → pick t (spot a g) nowhere ≡ spot at f → (t ≡ true → a + total (widths g) ≤ length s) → Inside
  by_test true a g e l = known a g e (l refl)
  by_test false a g e l = absurd (let z : ◌≡◌ {A = ℕ} 0 1 = cc in omega arith)

  key-inside : (b k : ℕ) → TargetAt s b → key_in s b k ≡ spot at f → Inside
  unfolding key_in
  key-inside b k x e =
      let c = curve_of (get 1 s (b + 2)) in
      let n = count_of (get 1 s (b + 2)) (get 2 s (b + 4)) in
      by_test (ltb k n) (b + get 4 s (b + 8) + k * stride c) (key c) e (λ u. unfold widths in x.keys k (ltb-true k n u))

  value-inside : (b l v : ℕ) → DatumAt s b → value_in s b l v ≡ spot at f → Inside
  unfolding value_in
  value-inside b l v x e =
      let n = get 4 s (b + 8) in
      by_test (ltb l 3 && ltb v n) (b + 16 + 4 * (l * n + v)) value e (λ u. let w = value-fits s b l v x (ltb-true l 3 (and_left (ltb l 3) (ltb v n) u)) (ltb-true v n (and_right (ltb l 3) (ltb v n) u)) in unfold widths total in omega (arith, w))

  pub located_inside : (p : Place) → locate s p ≡ spot at f → at + total (widths f) ≤ length s
  unfolding locate
  located_inside FrameCount e = known 8 frames e (let l = h.head in unfold widths total in omega (arith, l))
  located_inside Looping e = known 10 looping e (let l = h.head in unfold widths total in omega (arith, l))
  located_inside (Layer c i t) e =
      along c i _ e (λ a x d. to_target a t _ x d (λ b y z. known b layer z (let l = y.head in unfold widths total in omega (arith, l))))
  located_inside (Target c i t) e =
      along c i _ e (λ a x d. to_target a t _ x d (λ b y z. known (b + 1) (number' (letters_of (get 4 s a))) z (let l = y.head in unfold widths total in omega (arith, l))))
  located_inside (Key c i t k) e = along c i _ e (λ a x d. to_target a t _ x d (λ b y z. key-inside b k y z))
  located_inside (Value c i d l v) e = along c i _ e (λ a x z. to_datum a d _ x z (λ b y w. value-inside b l v y w))

-- ---- the curve that reading has for a number

pub number_by : (n : ℕ) → curve_number (curve_by n) ≡ curve_of n
unfolding curve_of
number_by zero = refl
number_by (suc zero) = refl
number_by (suc (suc zero)) = refl
number_by (suc (suc (suc n))) = rw (lt-leb (suc (suc (suc n))) 2 (omega arith))

-- a curve by its number
pub curve_is : (curve : Curve) (n : ℕ) → curve_number curve ≡ curve_of n → curve ≡ curve_by n
unfolding curve_of
curve_is curve n e = sym (back curve) ∙ ap curve_by e ∙ same n
  where
    back : (curve : Curve) → curve_by (curve_number curve) ≡ curve
    back Constant = refl
    back Step = refl
    back Hermite = refl

    same : (n : ℕ) → curve_by (curve_of n) ≡ curve_by n
    same zero = refl
    same (suc zero) = refl
    same (suc (suc zero)) = refl
    same (suc (suc (suc n))) = rw (lt-leb (suc (suc (suc n))) 2 (omega arith))

-- ---- the steps and the call as the code has them

module _ (s : List ℕ) where
  -- where a walk over data stands
  pub data_behind : (t u : Tables) (r : Walk) (res : Res (List Item)) → walked r u ≡ walk_of s t res → result_ok r ≡ after_base res
  unfolding walked walk_of after_base
  data_behind t u (Ok p) (ok is q) e = ap Some (on_place p q (first e))
  data_behind t u (Ok p) (stop g) e = absurd (on_no p g (first e))
  data_behind t u (Err f) (ok is q) e = absurd (on_no q f (sym (first e)))
  data_behind t u (Err f) (stop g) e = refl

  -- the call
  pub whole_section : (t : Tally) → (read_into s 0 [] [] (section s 0)).0 ≡ Ok t → SectionAt s
  whole_section t e = let w = whole section s 0 t e in section_at s w.items w.last w.reads

  -- a field that has to be there
  required : (x : Spot) → ok_or (spot_of x) NoSuchPlace ≡ of_spot x
  unfolding spot_of of_spot
  required nowhere = refl
  required (spot at f) = refl

  module _ (p : Place) where
    pub locating_long : 16777216 < length s → locating s p ≡ Err (TooLong (length s))
    unfolding locating
    locating_long h = rw (lt-leb (length s) limit h)

    pub locating_stop : length s ≤ 16777216 → (f : Fault) → (read_into s 0 [] [] (section s 0)).0 ≡ Err f → locating s p ≡ Err (Unread f)
    unfolding locating locating_in
    locating_stop h f e = rw (le-leb (length s) limit h, stopped s 0 (section s 0) f e)

    module _ (t : Tally) (e : (read_into s 0 [] [] (section s 0)).0 ≡ Ok t) where
      pub locating_on : length s ≤ 16777216 → {x : Option FieldSpot} → x ≡ spot_of (locate s p) → locating s p ≡ ok_or x NoSuchPlace
      unfolding locating locating_in
      locating_on h d = rw (le-leb (length s) limit h, (whole section s 0 t e).reads, d) (sym (required (locate s p)))

    -- what an answer says
    pub record Spotted (at : ℕ) (f : Field) : Type 0 where
      pub short : length s ≤ 16777216
      pub items : List Item
      pub end : ℕ
      pub reads : section s 0 ≡ ok items end
      pub found : locate s p ≡ spot at f
      pub inside : at + total (widths f) ≤ length s

    pub spotted : (x : FieldSpot) → locating s p ≡ Ok x → Spotted x.at x.field
    unfolding locating locating_in of_spot
    spotted y = go (leb (length s) limit) refl (section s 0) refl
      where
        found : (x : Spot) → of_spot x ≡ Ok y → x ≡ spot y.at y.field
        found nowhere e = absurd (let z : ◌≡◌ {A = ℕ} 0 1 = cc in omega arith)
        found (spot a g) e = let d : y ≡ record { at = a; field = g } = cc in rw d

        go : (b : Bool) → leb (length s) limit ≡ b → (r : Res (List Item)) → section s 0 ≡ r → pick b (locating_in s p r) (Err (TooLong (length s))) ≡ Ok y → Spotted y.at y.field
        go true d (ok is q) u e =
            let z = found (locate s p) e in
            record {
              short = leb-true (length s) limit d;
              items = is;
              end = q;
              reads = u;
              found = z;
              inside = located_inside s (section_at s is q u) y.at y.field p z;
            }
        go true d (stop g) u e = absurd (let z : ◌≡◌ {A = ℕ} 0 1 = cc in omega arith)
        go false d r u e = absurd (let z : ◌≡◌ {A = ℕ} 0 1 = cc in omega arith)
