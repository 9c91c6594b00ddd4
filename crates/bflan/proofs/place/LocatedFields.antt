-- On every section that reads, the field that is found at a place is the field that the record which was read has there, and the record's
-- values are what reading makes of the numbers that stand there.
-- Assumes nothing.
use Prim.Native.Nat.{ℕ, zero, suc, ◌+◌, ◌*◌, ◌≤◌}
use mathlib.Core.Path.{◌≡◌, refl, ap, sym, ◌∙◌}
use mathlib.Core.Bool.{Bool, true, false, ◌&&◌}
use mathlib.Core.List.{List, [], ◌∷◌, ◌++◌}
use native.Mathlib.Nat.{zero-add, suc-mul, mul-le-mul_right}
use native.Mathlib.Omega.{arith}
use borrow.Author.Tests.{ltb-true, lt-ltb, le-ltb}
use lib.Dec.{eqb, ltb, leb-suc-suc}
use lib.ListN.{length, set}
use Rattle.base.specs.Choice.{pick}
use Rattle.base.specs.Number.{val, get, read_of}
use Rattle.base.specs.Run.{numbers_at}
use Rattle.base.specs.Seek.{seek_of}
use Rattle.base.specs.Text.{before_zero, fixed_of}
use Rattle.base.proofs.Runs.{length-numbers}
use Rattle.bflan.specs.declared.place.Field.{Field}
use Rattle.bflan.specs.declared.place.Field.TheVariants.{FrameCount as framesField, Looping as loopingField, Layer as layerField, Target as numberField, Key as keyField, Value as valueField}
use Rattle.bflan.specs.declared.place.Place.{Place}
use Rattle.bflan.specs.declared.place.Place.TheVariants.{FrameCount, Looping, Layer, Target, Key, Value}
use Rattle.bflan.specs.pai1.FieldValues.{found_of, numbers_in, as_read, values_at}
use Rattle.bflan.specs.pai1.Layout.{key_skip}
use Rattle.bflan.specs.pai1.Letters.{listings, fleu, kind_of, letters_of, target_of as number_of}
use Rattle.bflan.specs.pai1.Limits.{Readable}
use Rattle.bflan.specs.pai1.Places.{Spot, nowhere, spot, widths, total, stride, after, key_in, value_in, target_in, datum_in, info_table_in, info_in, content_in, locate, of_element, Found, missing, found, at_target, at_datum, at_info, field_of}
use Rattle.bflan.specs.Reader.{Res, ok, stop, and_then, ret, Item, word, text, num, seek_to, fixed_text, numbers, many, visit}
use Rattle.bflan.specs.pai1.Reading.{curve_of, count_of, keys, target, datum, info, type_of, info_table, content, flag_of, contents, body, section, own_letters}
use Rattle.bflan.specs.pai1.Record.{AnimTarget, ExtendedUserDataAnim, AnimInfo, Standard, ExtendedUserData, AnimContent, PaneAnimInfo, key_widths, words, texts}
use Rattle.bflan.specs.Cells.{words_in, bytes_in}
use Rattle.bflan.specs.Items.{words_of, texts_of}
use Rattle.bflan.proofs.letters.Codes.{kind_kept}
use Rattle.bflan.proofs.Exercises.{stepped}
use Rattle.bflan.proofs.place.Fields.{and_left, and_right}
use Rattle.bflan.proofs.round_trip.FlatOnce.{KeyShape, TargetShape, DatumShape, InfoShape, ContentShape, Shape, shape_once, fine_shape}
use Rattle.bflan.proofs.reader.KeyRuns.{many-stop}
use Rattle.bflan.proofs.round_trip.ReadBack.{words-shown, texts-shown}
use Rattle.bflan.specs.pai1.RecordAt.{reached, parts_at, keys_at, target_at, datum_at, data_at, info_at, content_at, record_at}
use Rattle.bflan.proofs.round_trip.ReadParts.{length-keys, parts_all, keys_all, data_all, info_by, section-shown}
use Rattle.bflan.proofs.round_trip.ReadTree.{standard-kept}

-- ---- tests by their next number

first_below : (n : ℕ) → ltb 0 (suc n) ≡ true
first_below n = lt-ltb 0 (suc n) (omega arith)

none_below : (k : ℕ) → ltb k 0 ≡ false
none_below k = le-ltb k 0 (omega arith)

next_below : (k n : ℕ) → ltb (suc k) (suc n) ≡ ltb k n
next_below k n = leb-suc-suc (suc k) n

-- ---- the elements of a list of parts

module _ (s : List ℕ) {A : Type 0} (none : A) where
  parts_element : {X : Type 0} (part : ℕ → X) (base n at k : ℕ) (f : X → A)
      → of_element (parts_at s part base n at) k none f ≡ pick (ltb k n) (f (part (base + get 4 s (at + 4 * k)))) none
  unfolding parts_at of_element
  parts_element part base zero at k f = rw (none_below k)
  parts_element part base (suc n) at zero f = let e : at + 4 * 0 ≡ at = omega arith in rw (first_below n, e)
  parts_element part base (suc n) at (suc k) f =
      let e : at + 4 * suc k ≡ at + 4 + 4 * k = omega arith in
      rw (next_below k n, e) (parts_element part base n (at + 4) k f)

  numbers_element : (n at k : ℕ) (f : ℕ → A) → of_element (numbers_at n s at) k none f ≡ pick (ltb k n) (f (get 4 s (at + 4 * k))) none
  unfolding numbers_at of_element
  numbers_element zero at k f = rw (none_below k)
  numbers_element (suc n) at zero f = let e : at + 4 * 0 ≡ at = omega arith in rw (first_below n, e)
  numbers_element (suc n) at (suc k) f =
      let e : at + 4 * suc k ≡ at + 4 + 4 * k = omega arith in
      rw (next_below k n, e) (numbers_element n (at + 4) k f)

  keys_element : (c n p k : ℕ) (f : List ℕ → A) → of_element (keys_at s c n p) k none f ≡ pick (ltb k n) (f (numbers_in (key_widths c) s (p + k * stride c))) none
  unfolding keys_at of_element
  keys_element c zero p k f = rw (none_below k)
  keys_element c (suc n) p zero f = let e : p + 0 * stride c ≡ p = omega arith in rw (first_below n, e)
  keys_element c (suc n) p (suc k) f =
      let e : p + suc k * stride c ≡ p + stride c + k * stride c = omega (arith, suc-mul k (stride c)) in
      rw (next_below k n, e) (keys_element c n (p + stride c) k f)

  -- after the first datum the others are read from where it ends
  reached_next : (d p : ℕ) (f : ℕ → A) {x : List Item} {q : ℕ} → datum s p ≡ ok x q → reached (many (suc d) datum s p) none f ≡ reached (many d datum s q) none f
  unfolding many
  reached_next d p f {x} {q} e = rw e (go (many d datum s q))
    where
      go : (r : Res (List Item)) → reached (and_then r (λ xs. ret (x ++ xs)) s) none f ≡ reached r none f
      go (ok xs k) = refl
      go (stop g) = refl

  data_element : (n d p : ℕ) (f : ExtendedUserDataAnim → A)
      → of_element (data_at s n p) d none f ≡ pick (ltb d n) (reached (many d datum s p) none (λ q. f (datum_at s q))) none
  unfolding data_at of_element
  data_element zero d p f = rw (none_below d)
  data_element (suc n) zero p f = rw (first_below n) (unfold many in refl)
  data_element (suc n) (suc d) p f = rw (next_below d n) (go (λ q. data_element n d q f) (datum s p) refl)
    where
      go : ((q : ℕ) → of_element (data_at s n q) d none f ≡ pick (ltb d n) (reached (many d datum s q) none (λ q. f (datum_at s q))) none)
          → (r : Res (List Item)) → datum s p ≡ r
          → of_element (reached r [] (λ q. data_at s n q)) d none f ≡ pick (ltb d n) (reached (many (suc d) datum s p) none (λ q. f (datum_at s q))) none
      go h (ok x q) e = rw (reached_next d p (λ q. f (datum_at s q)) e) (h q)
      go h (stop g) e = rw (many-stop d datum s p e) (last (ltb d n))
        where
          last : (t : Bool) → none ≡ pick t none none
          last true = refl
          last false = refl

-- ---- what the section and the record say of a place

-- a number under the letters that are kept reads as under the letters themselves
number-kept : (letters raw : ℕ) → number_of (letters_of letters) raw ≡ number_of letters raw
unfolding number_of
number-kept letters raw = rw (kind_kept letters)

spot_to : (Good : ℕ → Field → Type 0) {a b : ℕ} {f g : Field} → spot a f ≡ spot b g → Good a f → Good b g
spot_to Good {a} {b} {f} {g} e h =
    let ea : a ≡ b = cc in
    let ef : f ≡ g = cc in
    rw (← ea, ← ef) h

no_spot : {at : ℕ} {f : Field} → nowhere ≡ spot at f → ⊥
no_spot e = let z : ◌≡◌ {A = ℕ} 0 1 = cc in omega arith

module _ (s : List ℕ) where
  -- the section leads to a spot, the record to a field and its values: the field is the same, and the values are what the numbers there read as
  record Matches (x : Spot) (y : Found) (vs : List ℕ) : Type 0 where
    field : found_of x ≡ y
    values : (at : ℕ) (f : Field) → x ≡ spot at f → vs ≡ as_read f (numbers_in (widths f) s at)

  matches_to : {x x' : Spot} {y y' : Found} {vs vs' : List ℕ} → x ≡ x' → y ≡ y' → vs ≡ vs' → Matches x y vs → Matches x' y' vs'
  matches_to ex ey ev h = record { field = rw (← ex, ← ey) h.field; values = rw (← ex, ← ev) h.values }

  matches_none : (vs : List ℕ) → Matches nowhere missing vs
  unfolding found_of
  matches_none vs = record { field = refl; values = λ at f e. absurd (no_spot e) }

  matches_spot : (at : ℕ) (f : Field) (vs : List ℕ) → vs ≡ as_read f (numbers_in (widths f) s at) → Matches (spot at f) (found f) vs
  unfolding found_of
  matches_spot at f vs h = record { field = refl; values = λ b g e. spot_to (λ b g. vs ≡ as_read g (numbers_in (widths g) s b)) e h }

  -- by the same test
  matches_pick : (t : Bool) {x : Spot} {y : Found} {vs : List ℕ} → (t ≡ true → Matches x y vs) → Matches (pick t x nowhere) (pick t y missing) (pick t vs [])
  matches_pick true h = h refl
  matches_pick false h = matches_none []

  -- a part at an offset of a table
  matches_part : {X : Type 0} (part : ℕ → X) (base n at k : ℕ) (g : ℕ → Spot) (f : X → Found) (h : X → List ℕ)
      → ((b : ℕ) → Matches (g b) (f (part b)) (h (part b)))
      → Matches (pick (ltb k n) (g (base + get 4 s (at + 4 * k))) nowhere) (of_element (parts_at s part base n at) k missing f) (of_element (parts_at s part base n at) k [] h)
  matches_part part base n at k g f h law =
      matches_to refl (sym (parts_element s missing part base n at k f)) (sym (parts_element s [] part base n at k h))
      (matches_pick (ltb k n) (λ e. law (base + get 4 s (at + 4 * k))))

  -- a datum
  matches_reached : (r : Res (List Item)) (g : ℕ → Spot) (f : ℕ → Found) (h : ℕ → List ℕ) → ((q : ℕ) → Matches (g q) (f q) (h q)) → Matches (after r g) (reached r missing f) (reached r [] h)
  matches_reached (ok is q) g f h law = law q
  matches_reached (stop w) g f h law = matches_none []

  matches_datum : (n d p : ℕ) (g : ℕ → Spot) (f : ExtendedUserDataAnim → Found) (h : ExtendedUserDataAnim → List ℕ)
      → ((b : ℕ) → Matches (g b) (f (datum_at s b)) (h (datum_at s b)))
      → Matches (pick (ltb d n) (after (many d datum s p) g) nowhere) (of_element (data_at s n p) d missing f) (of_element (data_at s n p) d [] h)
  matches_datum n d p g f h law =
      matches_to refl (sym (data_element s missing n d p f)) (sym (data_element s [] n d p h))
      (matches_pick (ltb d n) (λ e. matches_reached (many d datum s p) g (λ q. f (datum_at s q)) (λ q. h (datum_at s q)) law))

  -- ---- the steps of a path

  content_step : (c : ℕ) (g : ℕ → Spot) (f : AnimContent → Found) (h : AnimContent → List ℕ)
      → ((b : ℕ) → Matches (g b) (f (content_at s b)) (h (content_at s b)))
      → Matches (content_in s c g) (of_element (record_at s).contents c missing f) (of_element (record_at s).contents c [] h)
  unfolding content_in record_at
  content_step c g f h law =
      matches_to (ap (λ (b : ℕ). pick (ltb c (get 2 s 14)) (g b) nowhere) (zero-add (get 4 s (get 4 s 16 + 4 * c)))) refl refl
      (matches_part (content_at s) 0 (get 2 s 14) (get 4 s 16) c g f h law)

  info_step : (b i : ℕ) (g : ℕ → Spot) (f : AnimInfo → Found) (h : AnimInfo → List ℕ)
      → ((a : ℕ) → Matches (g a) (f (info_at s a)) (h (info_at s a)))
      → Matches (info_in s b i g) (of_element (content_at s b).infos i missing f) (of_element (content_at s b).infos i [] h)
  unfolding info_in content_at
  info_step b i g f h law = matches_part (info_at s) b (get 1 s (b + 28)) (info_table_in s b) i g f h law

  path_step : (c i : ℕ) (g : ℕ → Spot) (f : AnimInfo → Found) (h : AnimInfo → List ℕ)
      → ((a : ℕ) → Matches (g a) (f (info_at s a)) (h (info_at s a)))
      → Matches (content_in s c (λ b. info_in s b i g)) (at_info missing (record_at s) c i f) (at_info [] (record_at s) c i h)
  unfolding at_info
  path_step c i g f h law = content_step c (λ b. info_in s b i g) (λ x. of_element x.infos i missing f) (λ x. of_element x.infos i [] h) (λ b. info_step b i g f h law)

  target_step : (b t : ℕ) (g : ℕ → Spot) (f : ℕ → AnimTarget → Found) (h : ℕ → AnimTarget → List ℕ)
      → ((q : ℕ) → Matches (g q) (f (letters_of (get 4 s b)) (target_at s (get 4 s b) q)) (h (letters_of (get 4 s b)) (target_at s (get 4 s b) q)))
      → Matches (target_in s b t g) (at_target missing (info_at s b) t f) (at_target [] (info_at s b) t h)
  unfolding target_in info_at at_target
  target_step b t g f h law = go (eqb (get 4 s b) fleu)
    where
      go : (x : Bool) → Matches (pick x nowhere (pick (ltb t (get 1 s (b + 4))) (g (b + get 4 s (b + 8 + 4 * t))) nowhere))
          (at_target missing (pick x (ExtendedUserData (data_at s (get 1 s (b + 4)) (b + 8))) (Standard (letters_of (get 4 s b)) (parts_at s (target_at s (get 4 s b)) b (get 1 s (b + 4)) (b + 8)))) t f)
          (at_target [] (pick x (ExtendedUserData (data_at s (get 1 s (b + 4)) (b + 8))) (Standard (letters_of (get 4 s b)) (parts_at s (target_at s (get 4 s b)) b (get 1 s (b + 4)) (b + 8)))) t h)
      go true = matches_none []
      go false = matches_part (target_at s (get 4 s b)) b (get 1 s (b + 4)) (b + 8) t g (f (letters_of (get 4 s b))) (h (letters_of (get 4 s b))) law

  datum_step : (b d : ℕ) (g : ℕ → Spot) (f : ExtendedUserDataAnim → Found) (h : ExtendedUserDataAnim → List ℕ)
      → ((q : ℕ) → Matches (g q) (f (datum_at s q)) (h (datum_at s q)))
      → Matches (datum_in s b d g) (at_datum missing (info_at s b) d f) (at_datum [] (info_at s b) d h)
  unfolding datum_in info_at at_datum
  datum_step b d g f h law = go (eqb (get 4 s b) fleu)
    where
      go : (x : Bool) → Matches (pick x (pick (ltb d (get 1 s (b + 4))) (after (many d datum s (b + 8)) g) nowhere) nowhere)
          (at_datum missing (pick x (ExtendedUserData (data_at s (get 1 s (b + 4)) (b + 8))) (Standard (letters_of (get 4 s b)) (parts_at s (target_at s (get 4 s b)) b (get 1 s (b + 4)) (b + 8)))) d f)
          (at_datum [] (pick x (ExtendedUserData (data_at s (get 1 s (b + 4)) (b + 8))) (Standard (letters_of (get 4 s b)) (parts_at s (target_at s (get 4 s b)) b (get 1 s (b + 4)) (b + 8)))) d h)
      go true = matches_datum (get 1 s (b + 4)) d (b + 8) g f h law
      go false = matches_none []

  -- ---- the fields

  layer_matches : (letters q : ℕ) → Matches (spot q layerField) (found layerField) ((target_at s letters q).layer ∷ [])
  unfolding target_at widths numbers_in as_read
  layer_matches letters q = matches_spot q layerField _ refl

  number_matches : (letters q : ℕ) → Matches (spot (q + 1) (numberField (letters_of letters))) (found (numberField (letters_of letters))) ((target_at s letters q).target ∷ [])
  unfolding target_at widths numbers_in as_read
  number_matches letters q = matches_spot (q + 1) (numberField (letters_of letters)) _ (ap (λ (n : ℕ). n ∷ []) (sym (number-kept letters (get 1 s (q + 1)))))

  key_matches : (letters q k : ℕ)
      → Matches (key_in s q k) (pick (ltb k (length (target_at s letters q).keys)) (found (keyField (target_at s letters q).curve)) missing)
      (of_element (target_at s letters q).keys k [] (λ vs. vs))
  unfolding key_in target_at
  key_matches letters q k =
      let c = curve_of (get 1 s (q + 2)) in
      let n = count_of (get 1 s (q + 2)) (get 2 s (q + 4)) in
      let p = q + get 4 s (q + 8) in
      matches_to refl (ap (λ (m : ℕ). pick (ltb k m) (found (keyField c)) missing) (sym (length-keys s c n p))) (sym (keys_element s [] c n p k (λ vs. vs)))
      (matches_pick (ltb k n) (λ e. matches_spot (p + k * stride c) (keyField c) (numbers_in (key_widths c) s (p + k * stride c)) (unfold widths as_read in refl)))

  value_matches : (q l v : ℕ)
      → Matches (value_in s q l v) (pick (ltb l 3 && ltb v (datum_at s q).base_count) (found valueField) missing)
      (of_element (datum_at s q).values (l * (datum_at s q).base_count + v) [] (λ n. n ∷ []))
  unfolding value_in datum_at
  value_matches q l v = go (ltb l 3 && ltb v n) refl
    where
      n : ℕ
      n = get 4 s (q + 8)

      m : ℕ
      m = l * n + v

      inside : (ltb l 3 && ltb v n) ≡ true → ltb m (3 * n) ≡ true
      inside e =
          let a = ltb-true l 3 (and_left (ltb l 3) (ltb v n) e) in
          let b = ltb-true v n (and_right (ltb l 3) (ltb v n) e) in
          let z : l * n ≤ 2 * n = mul-le-mul_right n (omega arith) in
          lt-ltb m (3 * n) (omega arith)

      go : (t : Bool) → (ltb l 3 && ltb v n) ≡ t
          → Matches (pick t (spot (q + 16 + 4 * m) valueField) nowhere) (pick t (found valueField) missing) (of_element (numbers_at (3 * n) s (q + 16)) m [] (λ n. n ∷ []))
      go true e =
          matches_to refl refl (sym (numbers_element s [] (3 * n) (q + 16) m (λ n. n ∷ [])))
          (rw (inside e) (matches_spot (q + 16 + 4 * m) valueField (get 4 s (q + 16 + 4 * m) ∷ []) (unfold widths numbers_in as_read in refl)))
      go false e = matches_none _

  -- the section by its bytes, and the record that these are
  place_matches : (p : Place) → Matches (locate s p) (field_of (record_at s) p) (values_at (record_at s) p)
  unfolding locate field_of values_at
  place_matches FrameCount = matches_spot 8 framesField _ (unfold record_at widths numbers_in as_read in refl)
  place_matches Looping = matches_spot 10 loopingField _ (unfold record_at widths numbers_in as_read in refl)
  place_matches (Layer c i t) = path_step c i _ _ _ (λ a. target_step a t _ _ _ (λ q. layer_matches (get 4 s a) q))
  place_matches (Target c i t) = path_step c i _ _ _ (λ a. target_step a t _ _ _ (λ q. number_matches (get 4 s a) q))
  place_matches (Key c i t k) = path_step c i _ _ _ (λ a. target_step a t _ _ _ (λ q. key_matches (get 4 s a) q k))
  place_matches (Value c i d l v) = path_step c i _ _ _ (λ a. datum_step a d _ _ _ (λ q. value_matches q l v))

-- ---- the record that the bytes are has the shape that its two lists need to determine it

module _ (s : List ℕ) where
  length-numbers_in : (ks : List ℕ) (at : ℕ) → length (numbers_in ks s at) ≡ length ks
  unfolding numbers_in
  length-numbers_in [] at = refl
  length-numbers_in (k ∷ ks) at = ap suc (length-numbers_in ks (at + k))

  target_shape : (letters b : ℕ) → TargetShape (target_at s letters b)
  unfolding target_at
  target_shape letters b = keys_all s (KeyShape (curve_of (get 1 s (b + 2)))) _ _ _ (length-numbers_in (key_widths (curve_of (get 1 s (b + 2)))))

  datum_shape : (p : ℕ) → DatumShape (datum_at s p)
  unfolding datum_at
  datum_shape p = length-numbers (3 * get 4 s (p + 8)) s (p + 16)

  info_shape : (b : ℕ) → InfoShape (info_at s b)
  info_shape b =
      info_by s InfoShape b (data_all s DatumShape _ _ datum_shape)
      (λ d. (standard-kept (get 4 s b) d, parts_all s TargetShape (target_at s (get 4 s b)) _ _ _ (target_shape (get 4 s b))))

  content_shape : (b : ℕ) → ContentShape (content_at s b)
  unfolding content_at
  content_shape b = parts_all s InfoShape (info_at s) _ _ _ info_shape

  record_shape : Shape (record_at s)
  unfolding record_at
  record_shape = parts_all s ContentShape (content_at s) _ _ _ content_shape

-- ---- the law: of every section that reads, and the record that it reads as (there is one: `ReadTree.read_tree`)

module _ (s : List ℕ) (is : List Item) (end : ℕ) (reads : section s 0 ≡ ok is end) (r : PaneAnimInfo) (readable : Readable r) (ew : words r ≡ words_of s is) (ex : texts r ≡ texts_of s is) where
  -- it is the record that the bytes are
  read_record : r ≡ record_at s
  read_record =
      shape_once r (record_at s) (fine_shape 84 r readable) (record_shape s) (ew ∙ words-shown s is ∙ ap words_in (section-shown s is end reads))
      (ex ∙ texts-shown s is ∙ ap bytes_in (section-shown s is end reads))

  -- the same field is found in the section as in the record, or in both none
  pub located_field : (p : Place) → found_of (locate s p) ≡ field_of r p
  located_field p = (place_matches s p).field ∙ ap (λ (x : PaneAnimInfo). field_of x p) (sym read_record)

  -- the record's values there are what the numbers in the section read as
  pub located_values : (p : Place) (at : ℕ) (f : Field) → locate s p ≡ spot at f → values_at r p ≡ as_read f (numbers_in (widths f) s at)
  located_values p at f e = ap (λ (x : PaneAnimInfo). values_at x p) read_record ∙ (place_matches s p).values at f e

-- ---- an example

-- document 01's section with a Step key, its curve made 3: it reads as a Constant with no keys. The layer is found, and the target's number; a
-- key is not
abbrev pub curve_three : List ℕ
curve_three = set stepped 74 3

pub curve-three :
    (section curve_three 0 ≡ ok (word 0 ∷ word 0 ∷ word 0 ∷ word 1 ∷ text 24 1 ∷ word 0 ∷ word 1 ∷ word 0x49564C46 ∷ word 1 ∷ word 0 ∷ word 0 ∷ word 0 ∷ word 0 ∷ []) 92)
    × (locate curve_three (Layer 0 0 0) ≡ spot 72 layerField)
    × (locate curve_three (Target 0 0 0) ≡ spot 73 (numberField 0x49564C46))
    × (locate curve_three (Key 0 0 0 0) ≡ nowhere)
    × (locate stepped (Key 0 0 0 0) ≡ spot 84 (keyField 1))
    × (numbers_in (widths (keyField 1)) stepped 84 ≡ 0 ∷ 1 ∷ [])
unfolding val get read_of seek_of before_zero fixed_of num seek_to fixed_text numbers visit section body contents content type_of info_table info target curve_of count_of keys many flag_of own_letters kind_of listings fleu letters_of number_of locate content_in info_in info_table_in target_in key_in stride total key_widths key_skip numbers_in widths
curve-three = (refl, refl, refl, refl, refl, refl)
