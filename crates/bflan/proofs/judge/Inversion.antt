-- What the judging walk's answer says of the parts: the words that a part's fields are, and the answer of each part within it.
-- Assumes nothing.
use Prim.Native.Nat.{ℕ, zero, suc, ◌+◌, ◌*◌, ◌≤◌, ◌<◌}
use mathlib.Core.Path.{◌≡◌, refl, ap, ◌∙◌}
use mathlib.Core.Bool.{Bool}
use mathlib.Core.List.{List, [], ◌∷◌}
use native.Mathlib.Nat.{add_assoc}
use native.Mathlib.Numerals.{add-one}
use native.Mathlib.Omega.{arith}
use borrow.Author.Tests.{ltb-true, eq-eqb, ne_eqb}
use lib.Dec.{eqb, ltb, leb}
use lib.ListN.{length, get_or, take, drop}
use lib.Seq.{drop-cons}
use Rattle.bflan.specs.Judge.{fine, J, ◌>>=◌, ret, given, next_word, next_text, times, wide, row, whole}
use Rattle.bflan.specs.pai1.Judge.{target, datum, info, content, pane, section}
use Rattle.bflan.specs.pai1.Letters.{fleu, letters_fit, target_fits}
use Rattle.bflan.specs.pai1.Record.{AnimTarget, ExtendedUserDataAnim, AnimInfo, Standard, ExtendedUserData, AnimContent, PaneAnimInfo, key_widths}
use Rattle.bflan.specs.inner.JudgeParts.{after_head}
use Rattle.bflan.proofs.judge.Laws.{fine_to, opened, opened_word, ends_then}
use Rattle.bflan.proofs.judge.Measures.{fits_there, fits_holds, tests_then, Fitting, words_on, words_end}

-- ---- a walk of words with a test each

pub opened_words : {Y C : Type 0} (w x : List ℕ) (i j : ℕ) {y : Y} {k l : ℕ} (ts : List (ℕ → Bool)) (c : List ℕ → J Y) → tests_then ts c w x i j ≡ fine y k l
    → (Fitting ts w i → c (words_on ts w i) w x (words_end ts i) j ≡ fine y k l → C)
    → C
unfolding tests_then
opened_words w x i j [] c e f = f tt e
opened_words w x i j (t ∷ ts) c e f = opened_word w x i j t _ e λ h e. opened_words w x (i + 1) j ts _ e λ g e. f (h, g) e

-- ---- runs

module _ {X : Type 0} (p : J X) (w x : List ℕ) where
  pub times_none : (i j : ℕ) {ys : List X} {k l : ℕ} → times 0 p w x i j ≡ fine ys k l → (ys ≡ []) × (k ≡ i) × (l ≡ j)
  unfolding times
  times_none i j e = fine_to (λ (ys : List X) (k l : ℕ). (ys ≡ []) × (k ≡ i) × (l ≡ j)) e (refl, refl, refl)

  pub times_more : {C : Type 0} (n i j : ℕ) {ys : List X} {k l : ℕ} → times (suc n) p w x i j ≡ fine ys k l
      → ((y : X) (zs : List X) (m o : ℕ) → p w x i j ≡ fine y m o → times n p w x m o ≡ fine zs k l → ys ≡ y ∷ zs → C)
      → C
  unfolding times
  times_more {C} n i j e f =
      opened w x i j p _ e λ y m o a e.
      opened w x m o (times n p) _ e λ zs g h b e.
      fine_to (λ (ys : List X) (k l : ℕ). ((zs : List X) → times n p w x m o ≡ fine zs k l → ys ≡ y ∷ zs → C) → C) e
      (λ r. r zs b refl) (λ zs b q. f y zs m o a b q)

  pub times-length : (n i j : ℕ) {ys : List X} {k l : ℕ} → times n p w x i j ≡ fine ys k l → length ys ≡ n
  times-length zero i j e = ap length (times_none i j e).0
  times-length (suc n) i j e = times_more n i j e λ y zs m o a b q. ap length q ∙ ap suc (times-length n m o b)

-- n words as they are
pub record WordsAt (n : ℕ) (w : List ℕ) (i j : ℕ) (vs : List ℕ) (k l : ℕ) : Type 0 where
  pub same : vs ≡ take n (drop i w)
  pub count : length vs ≡ n
  pub word : k ≡ i + n
  pub byte : l ≡ j
  pub there : (most : ℕ) → i ≤ most → length w ≤ most → k ≤ most

no_words : {w : List ℕ} {i j : ℕ} → WordsAt 0 w i j [] i j
no_words = record { same = refl; count = refl; word = omega arith; byte = refl; there = λ most a b. a }

more-words : {n : ℕ} {w : List ℕ} {i j : ℕ} {vs : List ℕ} {k l : ℕ} → i < length w → WordsAt n w (i + 1) j vs k l → WordsAt (suc n) w i j (get_or w i 0 ∷ vs) k l
more-words {n} {w} {i} h r =
    let d : drop (i + 1) w ≡ drop (suc i) w = ap (λ (q : ℕ). drop q w) (add-one i) in
    record {
      same = rw (drop-cons w i 0 h, ← d) (ap (λ (z : List ℕ). get_or w i 0 ∷ z) r.same);
      count = ap suc r.count;
      word = omega (arith, r.word);
      byte = r.byte;
      there = λ most a b. r.there most (omega (arith, h, b)) b;
    }

pub row_at : (ks : List ℕ) (w x : List ℕ) (i j : ℕ) {vs : List ℕ} {k l : ℕ} → row ks w x i j ≡ fine vs k l → WordsAt (length ks) w i j vs k l
unfolding row
row_at [] w x i j e = fine_to (λ (vs : List ℕ) (k l : ℕ). WordsAt 0 w i j vs k l) e no_words
row_at (c ∷ ks) w x i j e =
    opened_word w x i j (wide c) _ e λ h e.
    opened w x (i + 1) j (row ks) _ e λ us m o a e.
    fine_to (λ (vs : List ℕ) (k l : ℕ). WordsAt (suc (length ks)) w i j vs k l) e (more-words (fits_there (wide c) w i h) (row_at ks w x (i + 1) j a))

pub values_at_lem : (n : ℕ) (w x : List ℕ) (i j : ℕ) {vs : List ℕ} {k l : ℕ} → times n (next_word (wide 4)) w x i j ≡ fine vs k l → WordsAt n w i j vs k l
unfolding times
values_at_lem zero w x i j e = fine_to (λ (vs : List ℕ) (k l : ℕ). WordsAt 0 w i j vs k l) e no_words
values_at_lem (suc n) w x i j e =
    opened_word w x i j (wide 4) _ e λ h e.
    opened w x (i + 1) j (times n (next_word (wide 4))) _ e λ us m o a e.
    fine_to (λ (vs : List ℕ) (k l : ℕ). WordsAt (suc n) w i j vs k l) e (more-words (fits_there (wide 4) w i h) (values_at_lem n w x (i + 1) j a))

-- ---- the parts: each head as a row of tests, and what is judged behind it

abbrev pub target_tests : ℕ → List (ℕ → Bool)
target_tests letters = wide 1 ∷ target_fits letters ∷ (λ c. ltb c 3) ∷ wide 2 ∷ []

abbrev pub target_then : List ℕ → J AnimTarget
target_then vs = ◌>>=◌ (times (get_or vs 3 0) (row (key_widths (get_or vs 2 0)))) (λ ks. ret (record { layer = get_or vs 0 0; target = get_or vs 1 0; curve = get_or vs 2 0; keys = ks }))

pub record TargetAt (w x : List ℕ) (i j : ℕ) (t : AnimTarget) (k l : ℕ) : Type 0 where
  pub there : i + 4 ≤ length w
  pub layer : t.layer ≡ get_or w i 0
  pub number : t.target ≡ get_or w (i + 1) 0
  pub curve : t.curve ≡ get_or w (i + 2) 0
  pub low : get_or w (i + 2) 0 < 3
  pub keys : times (get_or w (i + 3) 0) (row (key_widths (get_or w (i + 2) 0))) w x (i + 4) j ≡ fine t.keys k l

pub target_at_lem : (letters : ℕ) (w x : List ℕ) (i j : ℕ) {t : AnimTarget} {k l : ℕ} → target letters w x i j ≡ fine t k l → TargetAt w x i j t k l
unfolding target tests_then
target_at_lem letters w x i j e =
    opened_words w x i j (target_tests letters) target_then e λ f e.
    opened w x (i + 4) j (times (get_or w (i + 3) 0) (row (key_widths (get_or w (i + 2) 0)))) _ (simp add_assoc at e) λ ks m n a e.
    fine_to (λ (t : AnimTarget) (k l : ℕ). TargetAt w x i j t k l) e
    (record {
      there = omega (arith, fits_there (wide 2) w (i + 1 + 1 + 1) f.1.1.1.0);
      layer = refl;
      number = refl;
      curve = refl;
      low = ltb-true (get_or w (i + 2) 0) 3 (fits_holds (λ c. ltb c 3) w (i + 2) (simp add_assoc at f.1.1.0));
      keys = a;
    })

abbrev pub datum_tests : List (ℕ → Bool)
datum_tests = wide 4 ∷ wide 2 ∷ wide 2 ∷ wide 4 ∷ wide 4 ∷ []

abbrev pub datum_then : List ℕ → J ExtendedUserDataAnim
datum_then vs =
    ◌>>=◌ (times (3 * get_or vs 3 0) (next_word (wide 4)))
    (λ ns. ◌>>=◌ (next_text (wide 4)) (λ key. ret (record { header_size = get_or vs 0 0; unk1 = get_or vs 1 0; unk2 = get_or vs 2 0; base_count = get_or vs 3 0; unk3 = get_or vs 4 0; values = ns; key = key })))

pub record DatumAt (w x : List ℕ) (i j : ℕ) (d : ExtendedUserDataAnim) (k l : ℕ) : Type 0 where
  pub header_size : d.header_size ≡ get_or w i 0
  pub unk1 : d.unk1 ≡ get_or w (i + 1) 0
  pub unk2 : d.unk2 ≡ get_or w (i + 2) 0
  pub base_count : d.base_count ≡ get_or w (i + 3) 0
  pub unk3 : d.unk3 ≡ get_or w (i + 4) 0
  pub values : d.values ≡ take (3 * get_or w (i + 3) 0) (drop (i + 5) w)
  pub count : length d.values ≡ 3 * get_or w (i + 3) 0
  pub key : next_text (wide 4) w x (i + 5 + 3 * get_or w (i + 3) 0) j ≡ fine d.key k l

pub datum_at_lem : (w x : List ℕ) (i j : ℕ) {d : ExtendedUserDataAnim} {k l : ℕ} → datum w x i j ≡ fine d k l → DatumAt w x i j d k l
unfolding datum tests_then
datum_at_lem w x i j e =
    opened_words w x i j datum_tests datum_then e λ f e.
    opened w x (i + 5) j (times (3 * get_or w (i + 3) 0) (next_word (wide 4))) _ (simp add_assoc at e) λ vs m n a e.
    let v = values_at_lem (3 * get_or w (i + 3) 0) w x (i + 5) j a in
    opened w x (i + 5 + 3 * get_or w (i + 3) 0) j (next_text (wide 4)) _ (rw (v.word, v.byte) at e) λ key m n b e.
    fine_to (λ (d : ExtendedUserDataAnim) (k l : ℕ). DatumAt w x i j d k l) e
    (record { header_size = refl; unk1 = refl; unk2 = refl; base_count = refl; unk3 = refl; values = v.same; count = v.count; key = b })

abbrev pub info_tests : List (ℕ → Bool)
info_tests = letters_fit ∷ wide 1 ∷ []

abbrev pub info_then : List ℕ → J AnimInfo
info_then vs =
    given (eqb (get_or vs 0 0) fleu) (◌>>=◌ (times (get_or vs 1 0) datum) (λ ds. ret (ExtendedUserData ds)))
    (◌>>=◌ (times (get_or vs 1 0) (target (get_or vs 0 0))) (λ ts. ret (Standard (get_or vs 0 0) ts)))

-- an info of either kind
pub record InfoAt (w x : List ℕ) (i j : ℕ) (a : AnimInfo) (k l : ℕ) : Type 0 where
  pub there : i + 2 ≤ length w
  pub body : info_then (get_or w i 0 ∷ get_or w (i + 1) 0 ∷ []) w x (i + 2) j ≡ fine a k l

pub info_at_lem : (w x : List ℕ) (i j : ℕ) {a : AnimInfo} {k l : ℕ} → info w x i j ≡ fine a k l → InfoAt w x i j a k l
unfolding info tests_then
info_at_lem w x i j e =
    opened_words w x i j info_tests info_then e λ f e.
    record { there = omega (arith, fits_there (wide 1) w (i + 1) f.1.0); body = simp add_assoc at e }

module _ {C : Type 0} (w x : List ℕ) (i j : ℕ) {a : AnimInfo} {k l : ℕ} (e : info w x i j ≡ fine a k l) where
  pub info-extended : get_or w i 0 ≡ fleu
      → ((ds : List ExtendedUserDataAnim) → a ≡ ExtendedUserData ds → times (get_or w (i + 1) 0) datum w x (i + 2) j ≡ fine ds k l → C) → C
  info-extended h f =
      opened w x (i + 2) j (times (get_or w (i + 1) 0) datum) _ (rw (eq-eqb (get_or w i 0) fleu h) at (info_at_lem w x i j e).body) λ ds m n b e.
      fine_to (λ (a : AnimInfo) (k l : ℕ). ((ds : List ExtendedUserDataAnim) → a ≡ ExtendedUserData ds → times (get_or w (i + 1) 0) datum w x (i + 2) j ≡ fine ds k l → C) → C)
      e (λ g. g ds refl b) f

  pub info-standard : (get_or w i 0 ≡ fleu → ⊥)
      → ((ts : List AnimTarget) → a ≡ Standard (get_or w i 0) ts → times (get_or w (i + 1) 0) (target (get_or w i 0)) w x (i + 2) j ≡ fine ts k l → C) → C
  info-standard h f =
      opened w x (i + 2) j (times (get_or w (i + 1) 0) (target (get_or w i 0))) _ (rw (ne_eqb (get_or w i 0) fleu h) at (info_at_lem w x i j e).body) λ ts m n b e.
      fine_to (λ (a : AnimInfo) (k l : ℕ). ((ts : List AnimTarget) → a ≡ Standard (get_or w i 0) ts → times (get_or w (i + 1) 0) (target (get_or w i 0)) w x (i + 2) j ≡ fine ts k l → C) → C)
      e (λ g. g ts refl b) f

abbrev pub named_tests : List (ℕ → Bool)
named_tests = (λ t. leb t 4) ∷ wide 1 ∷ []

-- behind its name
abbrev pub named_then : List ℕ → List ℕ → J AnimContent
named_then name vs = ◌>>=◌ (times (get_or vs 1 0) info) (λ is. ret (record { name = name; type = get_or vs 0 0; infos = is }))

pub record ContentAt (w x : List ℕ) (i j : ℕ) (c : AnimContent) (k l : ℕ) : Type 0 where
  pub word : ℕ
  pub byte : ℕ
  pub name : next_text (λ n. leb n 28) w x i j ≡ fine c.name word byte
  pub there : word + 2 ≤ length w
  pub type : c.type ≡ get_or w word 0
  pub infos : times (get_or w (word + 1) 0) info w x (word + 2) byte ≡ fine c.infos k l

pub content_at_lem : (w x : List ℕ) (i j : ℕ) {c : AnimContent} {k l : ℕ} → content w x i j ≡ fine c k l → ContentAt w x i j c k l
unfolding content tests_then
content_at_lem w x i j e =
    opened w x i j (next_text (λ n. leb n 28)) _ e λ name m n a e.
    opened_words w x m n named_tests (named_then name) e λ f e.
    opened w x (m + 2) n (times (get_or w (m + 1) 0) info) _ (simp add_assoc at e) λ is o r b e.
    fine_to (λ (c : AnimContent) (k l : ℕ). ContentAt w x i j c k l) e
    (record { word = m; byte = n; name = a; there = omega (arith, fits_there (wide 1) w (m + 1) f.1.0); type = refl; infos = b })

abbrev pub pane_tests : List (ℕ → Bool)
pane_tests = wide 2 ∷ (λ b. leb b 1) ∷ wide 2 ∷ wide 2 ∷ []

abbrev pub pane_then : List ℕ → J PaneAnimInfo
pane_then vs = after_head (get_or vs 0 0) (get_or vs 1 0) (get_or vs 2 0) (get_or vs 3 0)

pub record SectionAt (w x : List ℕ) (r : PaneAnimInfo) (k l : ℕ) : Type 0 where
  pub word : ℕ
  pub byte : ℕ
  pub there : 4 ≤ length w
  pub frames : r.frames ≡ get_or w 0 0
  pub looping : r.looping ≡ get_or w 1 0
  pub textures : times (get_or w 2 0) (next_text (wide 4)) w x 4 0 ≡ fine r.textures word byte
  pub contents : times (get_or w 3 0) content w x word byte ≡ fine r.contents k l

-- a value that is all there is was judged fine
pub whole_at : {A : Type 0} (p : J A) (w x : List ℕ) (i j : ℕ) {a : A} {k l : ℕ} → whole p w x i j ≡ fine a k l → p w x i j ≡ fine a k l
unfolding whole
whole_at {A} p w x i j e =
    opened w x i j p _ e λ v m n b e.
    fine_to (λ (a : A) (k l : ℕ). p w x i j ≡ fine a k l) (ends_then (λ u. ret v) w x m n _ _ _ e).2 b

pane_at : (w x : List ℕ) {r : PaneAnimInfo} {k l : ℕ} → pane w x 0 0 ≡ fine r k l → SectionAt w x r k l
unfolding pane after_head tests_then
pane_at w x e =
    opened_words w x 0 0 pane_tests pane_then e λ f e.
    opened w x 4 0 (times (get_or w 2 0) (next_text (wide 4))) _ e λ ts m n a e.
    opened w x m n (times (get_or w 3 0) content) _ e λ cs o p b e.
    fine_to (λ (r : PaneAnimInfo) (k l : ℕ). SectionAt w x r k l) e
    (record { word = m; byte = n; there = omega (arith, fits_there (wide 2) w 3 f.1.1.1.0); frames = refl; looping = refl; textures = a; contents = b })

pub section_at : (w x : List ℕ) {r : PaneAnimInfo} {k l : ℕ} → section w x 0 0 ≡ fine r k l → SectionAt w x r k l
unfolding section
section_at w x e = pane_at w x (whole_at pane w x 0 0 e)
