-- The walk that judges a pai1 record's words and texts: over the two lists of a record within the limits it gives the record, where names
-- alone are too long it stops at the first of them, and what it accepts is the two lists of a record within the limits.
-- Assumes nothing.
use Prim.Native.Nat.{ℕ, suc, ◌+◌, ◌*◌, ◌^◌, ◌<◌}
use mathlib.Core.Path.{◌≡◌, refl, sym, ap, ◌∙◌}
use mathlib.Core.Bool.{Bool, true, false, ◌&&◌, true≢false}
use mathlib.Core.List.{List, [], ◌∷◌, ◌++◌, map}
use native.Mathlib.Nat.{add-zero}
use native.Mathlib.Omega.{arith}
use borrow.Author.Tests.{ltb-true, lt-ltb, leb-true, le-leb, eqb-true, eqb-false, eq-eqb, ne_eqb}
use lib.Dec.{eqb, leb}
use lib.ListN.{length}
use Rattle.base.specs.Choice.{pick}
use Rattle.base.specs.Number.{val}
use Rattle.base.proofs.utf8.Laws.{both_true}
use Rattle.bflan.specs.Judge.{fine, bad_word, and_then, ◌>>=◌, ret, given, times, wide, whole}
use Rattle.bflan.specs.pai1.Judge.{target, datum, info, content, pane, section}
use Rattle.bflan.specs.pai1.Letters.{listings, fleu, letters_fit}
use Rattle.bflan.specs.Limits.{All, FineText}
use Rattle.bflan.specs.pai1.Limits.{FineTarget, FineDatum, FineInfo, FineNamed, FineContent, FineBut, Fine}
use Rattle.bflan.specs.pai1.Record.{AnimTarget, ExtendedUserDataAnim, AnimInfo, Standard, ExtendedUserData, AnimContent, PaneAnimInfo, key_widths, target_cells, datum_cells, info_cells, content_cells, cells, words, texts}
use Rattle.bflan.specs.Cells.{Cell, word as wordCell, words_in, text_cells, each}
use Rattle.bflan.specs.inner.JudgeParts.{after_head}
use Rattle.bflan.specs.pai1.Rewriting.{names_fit, until_long, long_at}
use Rattle.bflan.proofs.judge.Inversion.{target_tests, target_then, datum_tests, datum_then, info_tests, info_then, named_tests, named_then, pane_tests, pane_then}
use Rattle.bflan.proofs.judge.Measures.{tests_then}
use Rattle.bflan.proofs.judge.Laws.{word_count, byte_count, word_counts, Place, place_left, place_right, place_join, Inside, text_next, Walks, tests_law, text_law, times_law, row_law, values_law, one_text_law, all_map, place_all, text-long, Got, Sound, fine_to, opens, opens_row, text_sound, times_sound, row_sound, values_sound, wide_four, Judges, whole_judges}

-- ---- the walk over the cells of a part gives the part

target_law : (letters : ℕ) → Walks (target letters) target_cells (FineTarget letters)
unfolding target target_cells tests_then
target_law letters w x i j k l t q h =
    let g = tests_law (target_tests letters) target_then (t.layer ∷ t.target ∷ t.curve ∷ length t.keys ∷ []) (each (map wordCell) t.keys)
    (lt-ltb t.layer 256 q.layer, (q.target, (lt-ltb t.curve 3 q.curve, (lt-ltb (length t.keys) 65536 q.count, tt)))) h in
    g.0 ∙ rw (times_law (row_law (key_widths t.curve)) t.keys q.keys g.1)

datum_law : Walks datum datum_cells FineDatum
unfolding datum datum_cells text_cells tests_then
datum_law w x i j k l d q h =
    let vs = map wordCell d.values in
    let key = text_cells d.key in
    let g = tests_law datum_tests datum_then (d.header_size ∷ d.unk1 ∷ d.unk2 ∷ d.base_count ∷ d.unk3 ∷ []) (vs ++ key)
    (lt-ltb d.header_size (256 ^ 4) q.header_size, (lt-ltb d.unk1 65536 q.unk1, (lt-ltb d.unk2 65536 q.unk2, (lt-ltb d.base_count (256 ^ 4) q.base_count, (lt-ltb d.unk3 (256 ^ 4) q.unk3, tt))))) h in
    g.0
    ∙ rw (
      ← q.count,
      values_law d.values q.values (place_left vs key g.1),
      one_text_law w x _ _ k l d.key q.key (place_right vs key g.1),
    )

fleu-fits : letters_fit fleu ≡ true
unfolding letters_fit listings fleu val
fleu-fits = refl

info_law : Walks info info_cells FineInfo
unfolding info info_cells tests_then
info_law w x i j k l (Standard letters ts) q h =
    let g = tests_law info_tests info_then (letters ∷ length ts ∷ []) (each target_cells ts) (q.letters, (lt-ltb (length ts) 256 q.count, tt)) h in
    g.0 ∙ rw (ne_eqb letters fleu q.standard, times_law (target_law letters) ts q.targets g.1)
info_law w x i j k l (ExtendedUserData ds) q h =
    let g = tests_law info_tests info_then (fleu ∷ length ds ∷ []) (each datum_cells ds) (fleu-fits, (lt-ltb (length ds) 256 q.0, tt)) h in
    g.0 ∙ rw (eq-eqb fleu fleu refl, times_law datum_law ds q.1 g.1)

content_law : Walks content content_cells FineContent
unfolding content content_cells tests_then
content_law w x i j k l c q h =
    let g = tests_law named_tests (named_then c.name) (c.type ∷ length c.infos ∷ []) (each info_cells c.infos)
    (le-leb c.type 4 (omega (arith, q.type)), (lt-ltb (length c.infos) 256 q.count, tt)) (text_next h) in
    rw (text_law (λ n. leb n 28) (le-leb (length c.name) 28 q.short) q.name h)
    (g.0 ∙ rw (times_law info_law c.infos q.infos g.1))

content-long : {w x : List ℕ} {i j k l : ℕ} (c : AnimContent) → leb (length c.name) 28 ≡ false → Place w x i j k l (content_cells c) → content w x i j ≡ bad_word i
unfolding content content_cells
content-long c q h = rw (text-long (λ n. leb n 28) q h)

module _ (most : ℕ) where
  -- a content whose name is not too long is within the limits
  short-fine : (c : AnimContent) → FineNamed most c → leb (length c.name) 28 ≡ true → FineContent c
  short-fine c q e = record { short = leb-true (length c.name) 28 e; name = q.name; type = q.type; count = q.count; infos = q.infos }

  -- and so are contents and records of which no name is
  names_fine : (cs : List AnimContent) → All (FineNamed most) cs → names_fit cs ≡ true → All FineContent cs
  unfolding names_fit
  names_fine [] q e = tt
  names_fine (c ∷ cs) q e =
      let h = both_true (leb (length c.name) 28) (names_fit cs) e in
      (short-fine c q.0 h.0, names_fine cs q.1 h.1)

  pub names_within : (r : PaneAnimInfo) → FineBut most r → names_fit r.contents ≡ true → Fine r
  names_within r q e =
      record {
        frames = q.frames;
        looping = q.looping;
        texture_count = q.texture_count;
        content_count = q.content_count;
        textures = q.textures;
        contents = names_fine r.contents q.contents e;
      }

  -- else the walk over the contents stops at the length of the first that is
  names_long : {w x : List ℕ} {i j k l : ℕ} (cs : List AnimContent) → All (FineNamed most) cs → names_fit cs ≡ false → Place w x i j k l (each content_cells cs)
      → times (length cs) content w x i j ≡ bad_word (i + until_long cs)
  unfolding times each names_fit until_long
  names_long [] q e h = absurd (true≢false e)
  names_long {w} {x} {i} {j} (c ∷ cs) q e h = go (leb (length c.name) 28) refl e (λ k. names_long {i = i + word_count (content_cells c)} {j = j + byte_count (content_cells c)} cs q.1 k (place_right (content_cells c) (each content_cells cs) h))
    where
      first : Place w x i j (i + word_count (content_cells c)) (j + byte_count (content_cells c)) (content_cells c)
      first = place_left (content_cells c) (each content_cells cs) h

      go : (t : Bool) → leb (length c.name) 28 ≡ t → t && names_fit cs ≡ false
          → (names_fit cs ≡ false → times (length cs) content w x (i + word_count (content_cells c)) (j + byte_count (content_cells c)) ≡ bad_word (i + word_count (content_cells c) + until_long cs))
          → ◌>>=◌ content (λ y. ◌>>=◌ (times (length cs) content) (λ ys. ret (y ∷ ys))) w x i j ≡ bad_word (i + pick t (word_count (content_cells c) + until_long cs) 0)
      go true d k law = rw (content_law w x i j _ _ c (short-fine c q.0 d) first, law k) (ap bad_word (omega arith))
      go false d k law = rw (content-long c d first) (ap bad_word (sym (add-zero i)))

-- the walk over the cells of a record, up to its contents
module _ (most : ℕ) {w x : List ℕ} {i j k l : ℕ} (r : PaneAnimInfo) (q : FineBut most r) (h : Place w x i j k l (cells r)) where
  abbrev names : List Cell
  names = each text_cells r.textures

  -- its head, and the place behind it
  head_law : (pane w x i j ≡ after_head r.frames r.looping (length r.textures) (length r.contents) w x (i + 1 + 1 + 1 + 1) j)
      × Place w x (i + 1 + 1 + 1 + 1) j k l (names ++ each content_cells r.contents)
  unfolding pane cells after_head tests_then
  head_law =
      tests_law pane_tests pane_then (r.frames ∷ r.looping ∷ length r.textures ∷ length r.contents ∷ []) (names ++ each content_cells r.contents)
      (lt-ltb r.frames 65536 q.frames, (le-leb r.looping 1 (omega (arith, q.looping)), (lt-ltb (length r.textures) 65536 q.texture_count, (lt-ltb (length r.contents) 65536 q.content_count, tt)))) h

  contents_there : Place w x (i + 1 + 1 + 1 + 1 + word_count names) (j + byte_count names) k l (each content_cells r.contents)
  contents_there = place_right names (each content_cells r.contents) head_law.1

  pane-head : pane w x i j
      ≡ and_then (times (length r.contents) content w x (i + 1 + 1 + 1 + 1 + word_count names) (j + byte_count names))
      (λ cs. ret (record { frames = r.frames; looping = r.looping; textures = r.textures; contents = cs })) w x
  unfolding after_head
  pane-head =
      head_law.0
      ∙ rw (times_law one_text_law r.textures q.textures (place_left names (each content_cells r.contents) head_law.1))

pane_law : Walks pane cells Fine
pane_law w x i j k l r q h = pane-head 28 r q h ∙ rw (times_law content_law r.contents q.contents (contents_there 28 r q h))

-- a texture is one word
texture-words : (ts : List (List ℕ)) → word_count (each text_cells ts) ≡ length ts
unfolding each text_cells words_in
texture-words [] = refl
texture-words (t ∷ ts) = ap suc (texture-words ts)

-- a record within the limits but for the length of names is refused at the length of the first that is too long
pub judge_long : (most : ℕ) (r : PaneAnimInfo) → FineBut most r → names_fit r.contents ≡ false → section (words r) (texts r) 0 0 ≡ bad_word (long_at r)
unfolding section whole long_at
judge_long most r q e =
    let n = texture-words r.textures in
    let h = place_all (cells r) in
    rw (
      pane-head most r q h,
      names_long most r.contents q.contents e (contents_there most r q h),
      n,
    )

-- which is one of its words
content-words : (c : AnimContent) → 0 < word_count (content_cells c)
unfolding content_cells words_in
content-words c = omega arith

until_inside : (cs : List AnimContent) → names_fit cs ≡ false → until_long cs < word_count (each content_cells cs)
unfolding names_fit until_long each
until_inside [] e = absurd (true≢false e)
until_inside (c ∷ cs) e = go (leb (length c.name) 28) e (until_inside cs)
  where
    go : (t : Bool) → t && names_fit cs ≡ false → (names_fit cs ≡ false → until_long cs < word_count (each content_cells cs))
        → pick t (word_count (content_cells c) + until_long cs) 0 < word_count (content_cells c ++ each content_cells cs)
    go true d law = omega (arith, word_counts (content_cells c) (each content_cells cs), law d)
    go false d law = omega (arith, word_counts (content_cells c) (each content_cells cs), content-words c)

pub long-inside : (r : PaneAnimInfo) → names_fit r.contents ≡ false → long_at r < length (words r)
unfolding long_at cells words_in
long-inside r e =
    omega (
      arith,
      texture-words r.textures,
      until_inside r.contents e,
      word_counts (each text_cells r.textures) (each content_cells r.contents),
    )

-- ---- what the walk accepts stands there

target_sound : (letters : ℕ) → Sound (target letters) target_cells (FineTarget letters)
unfolding target target_cells tests_then
target_sound letters w x i j k l t s e =
    opens_row s (target_tests letters) target_then e λ layer q1 number q2 curve q3 n q4 head s e.
    opens s (times_sound (row_sound (key_widths curve)) n) _ e λ ks m o pk qk s e.
    fine_to (λ (t : AnimTarget) (k l : ℕ). Got target_cells (FineTarget letters) w x i j t k l) e
    (record {
      place = rw qk.1 (place_join head pk);
      good = record {
        layer = ltb-true layer 256 q1;
        target = q2;
        curve = ltb-true curve 3 q3;
        count = rw qk.1 (ltb-true n 65536 q4);
        keys = qk.0;
      };
    })

datum_sound : Sound datum datum_cells FineDatum
unfolding datum datum_cells text_cells tests_then
datum_sound w x i j k l d s e =
    opens_row s datum_tests datum_then e λ size q1 one q2 two q3 base q4 three q5 head s e.
    opens s (values_sound (3 * base)) _ e λ vs m o pv qv s e.
    opens s (text_sound (wide 4) wide_four) _ e λ key m o pk qk s e.
    fine_to (λ (d : ExtendedUserDataAnim) (k l : ℕ). Got datum_cells FineDatum w x i j d k l) e
    (record {
      place = place_join head (place_join pv pk);
      good = record {
        header_size = wide_four size q1;
        unk1 = ltb-true one 65536 q2;
        unk2 = ltb-true two 65536 q3;
        base_count = wide_four base q4;
        unk3 = wide_four three q5;
        count = qv.1;
        values = qv.0;
        key = qk.0;
      };
    })

info_sound : Sound info info_cells FineInfo
unfolding info info_cells tests_then
info_sound w x i j k l y s e = opens_row s info_tests info_then e λ letters f n q head s e. go letters f n q head s (eqb letters fleu) refl e
  where
    go : (letters : ℕ) → letters_fit letters ≡ true → (n : ℕ) → wide 1 n ≡ true → Place w x i j (i + 1 + 1) j (wordCell letters ∷ wordCell n ∷ []) → Inside w x (i + 1 + 1) j
        → (t : Bool) → eqb letters fleu ≡ t
        → given t (◌>>=◌ (times n datum) (λ ds. ret (ExtendedUserData ds))) (◌>>=◌ (times n (target letters)) (λ ts. ret (Standard letters ts))) w x (i + 1 + 1) j ≡ fine y k l
        → Got info_cells FineInfo w x i j y k l
    go letters f n q head s true t e =
        opens s (times_sound datum_sound n) _ e λ ds m o pd qd s e.
        fine_to (λ (y : AnimInfo) (k l : ℕ). Got info_cells FineInfo w x i j y k l) e
        (record { place = rw (qd.1, ← eqb-true letters fleu t) (place_join head pd); good = (rw qd.1 (ltb-true n 256 q), qd.0) })
    go letters f n q head s false t e =
        opens s (times_sound (target_sound letters) n) _ e λ ts m o pt qt s e.
        fine_to (λ (y : AnimInfo) (k l : ℕ). Got info_cells FineInfo w x i j y k l) e
        (record {
          place = rw qt.1 (place_join head pt);
          good = record { letters = f; standard = eqb-false letters fleu t; count = rw qt.1 (ltb-true n 256 q); targets = qt.0 };
        })

content_sound : Sound content content_cells FineContent
unfolding content content_cells text_cells tests_then
content_sound w x i j k l c s e =
    opens s (text_sound (λ n. leb n 28) (λ n t. let h = leb-true n 28 t in omega arith)) _ e λ name m o pn qn s e.
    opens_row s named_tests (named_then name) e λ type q1 n q2 head s e.
    opens s (times_sound info_sound n) _ e λ is m o pi qi s e.
    fine_to (λ (c : AnimContent) (k l : ℕ). Got content_cells FineContent w x i j c k l) e
    (record {
      place = rw qi.1 (place_join pn (place_join head pi));
      good = record {
        short = leb-true (length name) 28 qn.1;
        name = qn.0;
        type = let h = leb-true type 4 q1 in omega arith;
        count = rw qi.1 (ltb-true n 256 q2);
        infos = qi.0;
      };
    })

pane_sound : Sound pane cells Fine
unfolding pane cells after_head tests_then
pane_sound w x i j k l r s e =
    opens_row s pane_tests pane_then e λ frames q1 looping q2 nt q3 nc q4 head s e.
    opens s (times_sound (text_sound (wide 4) wide_four) nt) _ e λ ts m o pt qt s e.
    opens s (times_sound content_sound nc) _ e λ cs m o pc qc s e.
    fine_to (λ (r : PaneAnimInfo) (k l : ℕ). Got cells Fine w x i j r k l) e
    (record {
      place = rw (qt.1, qc.1) (place_join head (place_join pt pc));
      good = record {
        frames = ltb-true frames 65536 q1;
        looping = let h = leb-true looping 1 q2 in omega arith;
        texture_count = rw qt.1 (ltb-true nt 65536 q3);
        content_count = rw qc.1 (ltb-true nc 65536 q4);
        textures = all_map (λ t. FineText t × (wide 4 (length t) ≡ true)) FineText (λ t h. h.0) ts qt.0;
        contents = qc.0;
      };
    })

-- ---- the whole

pub section_judges : Judges section cells Fine
unfolding section
section_judges = whole_judges pane_law pane_sound

pub judge_flat : (r : PaneAnimInfo) → Fine r → section (words r) (texts r) 0 0 ≡ fine r (length (words r)) (length (texts r))
judge_flat = section_judges.flat

pub judge_sound : (w x : List ℕ) (r : PaneAnimInfo) (i j : ℕ) → section w x 0 0 ≡ fine r i j → Fine r × (words r ≡ w) × (texts r ≡ x)
judge_sound w x r i j e = let h = section_judges.accepts w x r i j e in (h.fine, h.words, h.texts)
