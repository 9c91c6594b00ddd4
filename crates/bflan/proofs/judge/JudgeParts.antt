-- A record's parts by their words and texts: what the walk that measures them meets, in the arms of its code.
-- Assumes nothing.
use Prim.Native.Nat.{ℕ, max, ◌+◌, ◌-◌, ◌*◌, ◌<◌, ◌≤◌}
use mathlib.Core.Path.{◌≡◌, refl, ap, sym, ◌∙◌}
use mathlib.Core.Bool.{Bool, true, false}
use mathlib.Core.List.{List, [], ◌∷◌}
use native.Mathlib.Omega.{arith}
use borrow.Author.Tests.{leb-true, le-leb, lt-leb, lt-ltb, le-ltb, eq-eqb, ne_eqb}
use lib.Dec.{leb, eqb}
use lib.ListN.{length, get_or, take, drop, replicate, length-take, length-drop, length-replicate}
use Rattle.std.specs.Prelude.{Ok, Err}
use Rattle.base.specs.Choice.{pick}
use Rattle.base.specs.Fill.{padding_of}
use Rattle.base.specs.Text.{first_fault}
use Rattle.base.specs.Number.{le}
use Rattle.bflan.specs.declared.judge.Mark.{Mark}
use Rattle.bflan.specs.declared.judge.Misfit.TheVariants.{Word, Text}
use Rattle.bflan.specs.declared.judge.Rest.{Rest}
use Rattle.bflan.specs.Judge.{Judged, fine, bad_word, bad_text, J, and_then, ret, next_word, next_chars, next_text, times, wide, row, ends, whole}
use Rattle.bflan.specs.pai1.Judge.{target, datum, info, content, pane}
use Rattle.bflan.specs.pai1.Letters.{fleu}
use Rattle.bflan.specs.Layout.{zeros, number, size, parts, ended}
use Rattle.bflan.specs.pai1.Layout.{target_lay, datum_lay, info_head, info_lay, infos_out, table_from, infos_from, content_body, content_lay, names_end, content_table, section_size, section_lay, key_skip, key_lay}
use Rattle.bflan.specs.inner.Measure.{verdict_of, next, measured, fits, past, behind, grown, filled_up, padded}
use Rattle.bflan.specs.inner.JudgeParts.{ValuesAndKey, values_and_key, after_name, after_head}
use Rattle.bflan.specs.pai1.Places.{total, stride}
use Rattle.bflan.specs.pai1.Record.{AnimTarget, Standard, AnimInfo, AnimContent, PaneAnimInfo, key_widths}
use Rattle.bflan.specs.inner.Walk.{sat}
use Rattle.bflan.proofs.Layouts.{size-key, size-table, user-size, section_size_lem}
use Rattle.bflan.proofs.judge.Laws.{text_at}
use Rattle.bflan.proofs.judge.Inversion.{times-length, target_tests, target_then, datum_tests, datum_then, info_tests, info_then, named_tests, named_then, pane_tests, pane_then}
use Rattle.bflan.proofs.judge.Measures.{Verdict, tests_then, Tested, Fitting, tests_fine, bad_at, marked, measured_padded, sat-filled, grown-sat, was_then, measured_by, measured_grown, measured_made, then_grown, word-fine, word_bad, times_none, times-turn, steps_as, steps_word, steps_row, steps_times, ran, steps_measured, size-parts, size-numbers}

-- ---- texts

module _ (n : ℕ) (r : Rest) where
  pub chars_missing : length r.texts.now < r.at.byte + n → Err (Text (length r.texts.now)) ≡ verdict_of length (next (next_chars n) r)
  unfolding next_chars verdict_of
  chars_missing h = rw (lt-leb (r.at.byte + n) (length r.texts.now) h)

  module _ (f : ℕ) (h : r.at.byte + n ≤ length r.texts.now) (e : f ≡ first_fault (take (r.at.byte + n - r.at.byte) (drop r.at.byte r.texts.now))) where
    fault_is : first_fault (take n (drop r.at.byte r.texts.now)) ≡ f
    fault_is = let m : r.at.byte + n - r.at.byte ≡ n = omega arith in sym (rw m at e)

    pub chars_fault : f < n → Err (Text (r.at.byte + f)) ≡ verdict_of length (next (next_chars n) r)
    unfolding next_chars verdict_of
    chars_fault l = rw (le-leb (r.at.byte + n) (length r.texts.now) h, fault_is, lt-ltb f n l)

    pub chars_fine : n ≤ f → length r.texts.now ≤ 18446744073709551615 → marked r.at.word (r.at.byte + n) n ≡ verdict_of length (next (next_chars n) r)
    unfolding next_chars verdict_of
    chars_fine l b =
        let q : sat (length (take n (drop r.at.byte r.texts.now))) ≡ n = rw (length-take n (drop r.at.byte r.texts.now), length-drop r.at.byte r.texts.now) (omega arith) in
        rw (le-leb (r.at.byte + n) (length r.texts.now) h, fault_is, le-ltb f n l) (ap (marked r.at.word (r.at.byte + n)) (sym q))

module _ (test : ℕ → Bool) (r : Rest) where
  pub text_bad : (s : List ℕ → ℕ) → fits test r.words.now r.at.word ≡ false → Err (Word r.at.word) ≡ verdict_of s (next (next_text test) r)
  unfolding next_text verdict_of
  text_bad s e = rw (word_bad test r.words.now r.texts.now r.at.word r.at.byte e)

  pub text_on : fits test r.words.now r.at.word ≡ true → next (next_text test) r ≡ next (next_chars (get_or r.words.now r.at.word 0)) (past 1 r)
  unfolding next_text
  text_on e = rw (word-fine test r.words.now r.texts.now r.at.word r.at.byte e)

  -- its bytes, by the answer for them
  pub text_then : (n : ℕ) (v : Verdict) → fits test r.words.now r.at.word ≡ true → n ≡ get_or r.words.now r.at.word 0 → v ≡ verdict_of length (next (next_chars n) (past 1 r)) → v ≡ verdict_of length (next (next_text test) r)
  text_then n v f e d = rw (text_on f, ← e) d

  pub ended_then : (n : ℕ) (v : Verdict) → fits test r.words.now r.at.word ≡ true → n ≡ get_or r.words.now r.at.word 0 → v ≡ verdict_of length (next (next_chars n) (past 1 r)) → grown 1 v ≡ measured ended (next_text test) r
  ended_then n v f e d =
      ap (grown 1) (text_then n v f e d) ∙ measured_grown 1 length (next (next_text test) r)
      ∙ measured_by (λ t. 1 + length t) (λ t. size (ended t)) (next (next_text test) r) (λ t u v e. unfold ended size in omega arith)

-- ---- runs of words

module _ (w : List ℕ) (small : (k : ℕ) → get_or w k 0 < 4294967296) (x : List ℕ) (n i j : ℕ) where
  run_is : verdict_of (λ vs. size (parts (number 4) vs)) (times n (next_word (wide 4)) w x i j) ≡ ran n (n * 4) (length w) i j
  run_is =
      steps_measured (times n (next_word (wide 4))) w x n (steps_as _ w x (n * 1) n (steps_times (next_word (wide 4)) w x 1 (steps_word w small x) n) (omega arith)) (λ vs. size (parts (number 4) vs)) (n * 4) i j
      (λ vs u v e. size-numbers vs ∙ ap (λ (m : ℕ). m * 4) (times-length (next_word (wide 4)) w x n i j e))

  pub run_there : n ≤ length w - i → n ≤ 17179869184 → marked (i + n) j (4 * n) ≡ verdict_of (λ vs. size (parts (number 4) vs)) (times n (next_word (wide 4)) w x i j)
  run_there h b = rw (run_is, le-leb n (length w - i) h) (ap (marked (i + n) j) (omega arith))

  pub run_short : length w - i < n → (u : ℕ) → u ≡ max i (length w) → Err (Word u) ≡ verdict_of (λ vs. size (parts (number 4) vs)) (times n (next_word (wide 4)) w x i j)
  run_short h u e = rw (run_is, lt-leb n (length w - i) h) (ap (λ (k : ℕ). Err (Word k)) e)

-- ---- keys

-- keys whose words are all of four bytes are a run of words
module _ (w : List ℕ) (small : (k : ℕ) → get_or w k 0 < 4294967296) (x : List ℕ) (i j : ℕ) where
  keys_run : (curve k m n : ℕ) → key_widths curve ≡ replicate k 4 → stride curve ≡ k * 4 → n * k ≡ m → n * (k * 4) ≡ m * 4
      → verdict_of (λ vs. size (parts (number 4) vs)) (times m (next_word (wide 4)) w x i j) ≡ verdict_of (λ ks. size (parts (key_lay curve) ks)) (times n (row (key_widths curve)) w x i j)
  keys_run curve k m n ew es em e4 =
      run_is w small x m i j ∙ sym (rw ew
      (steps_measured (times n (row (replicate k 4))) w x m (steps_as _ w x (n * k) m (steps_times (row (replicate k 4)) w x k (steps_row w small x k) n) em) (λ ks. size (parts (key_lay curve) ks)) (m * 4) i j
      (λ ks u v e. size-parts (key_lay curve) (k * 4) (λ k. size-key curve k ∙ es) ks ∙ ap (λ (l : ℕ). l * (k * 4)) (times-length (row (replicate k 4)) w x n i j e) ∙ e4)))

  pub keys_constant : (n : ℕ)
      → verdict_of (λ vs. size (parts (number 4) vs)) (times n (next_word (wide 4)) w x i j) ≡ verdict_of (λ ks. size (parts (key_lay 0) ks)) (times n (row (key_widths 0)) w x i j)
  keys_constant n = keys_run 0 1 n n (unfold key_widths in refl) (unfold stride total key_widths key_skip in refl) (omega arith) (omega arith)

  pub keys_hermite : (n : ℕ)
      → verdict_of (λ vs. size (parts (number 4) vs)) (times (3 * n) (next_word (wide 4)) w x i j) ≡ verdict_of (λ ks. size (parts (key_lay 2) ks)) (times n (row (key_widths 2)) w x i j)
  keys_hermite n = keys_run 2 3 (3 * n) n (unfold key_widths in refl) (unfold stride total key_widths key_skip in refl) (omega arith) (omega arith)

-- pairs: the second word is of two bytes, and a loop looks at each
module _ (w x : List ℕ) (left at j c : ℕ) (whole : Verdict) (e : verdict_of (λ ks. c) (times left (row (key_widths 1)) w x at j) ≡ whole) where
  pair_turn : 0 < left → whole ≡ verdict_of (λ ks. c) (and_then (row (key_widths 1) w x at j) (λ a w x i j. and_then (times (left - 1) (row (key_widths 1)) w x i j) (λ ps. ret (a ∷ ps)) w x) w x)
  pair_turn l = sym e ∙ ap (verdict_of (λ ks. c)) (times-turn (row (key_widths 1)) w x left at j l)

  pub pair_first : 0 < left → fits (wide 4) w at ≡ false → Err (Word at) ≡ whole
  pair_first l f = rw (pair_turn l) (unfold key_widths row verdict_of in rw (word_bad (wide 4) w x at j f))

  pub pair_second : 0 < left → fits (wide 4) w at ≡ true → fits (wide 2) w (at + 1) ≡ false → Err (Word (at + 1)) ≡ whole
  pair_second l f g = rw (pair_turn l) (unfold key_widths row verdict_of in rw (word-fine (wide 4) w x at j f, word_bad (wide 2) w x (at + 1) j g))

  pub pair_on : 0 < left → fits (wide 4) w at ≡ true → fits (wide 2) w (at + 1) ≡ true → verdict_of (λ ks. c) (times (left - 1) (row (key_widths 1)) w x (at + 1 + 1) j) ≡ whole
  pair_on l f g =
      let d : row (key_widths 1) w x at j ≡ fine (get_or w at 0 ∷ get_or w (at + 1) 0 ∷ []) (at + 1 + 1) j = unfold key_widths row in rw (word-fine (wide 4) w x at j f, word-fine (wide 2) w x (at + 1) j g) in
      measured_made (λ ks. c) (times (left - 1) (row (key_widths 1)) w x (at + 1 + 1) j) w x (λ ps. (get_or w at 0 ∷ get_or w (at + 1) 0 ∷ []) ∷ ps)
      ∙ ap (λ (r : Judged (List ℕ)). verdict_of (λ ks. c) (and_then r (λ a w x i j. and_then (times (left - 1) (row (key_widths 1)) w x i j) (λ ps. ret (a ∷ ps)) w x) w x)) (sym d)
      ∙ sym (pair_turn l)

  pub pair_end : left ≤ 0 → c ≤ 18446744073709551615 → marked at j c ≡ whole
  pair_end l h = rw (sym e, times_none (row (key_widths 1)) w x left at j l) (unfold verdict_of in ap (marked at j) (omega arith))

pub pairs_size : (w x : List ℕ) (n i j : ℕ) → verdict_of (λ ks. 8 * n) (times n (row (key_widths 1)) w x i j) ≡ verdict_of (λ ks. size (parts (key_lay 1) ks)) (times n (row (key_widths 1)) w x i j)
pairs_size w x n i j =
    measured_by (λ ks. 8 * n) (λ ks. size (parts (key_lay 1) ks)) (times n (row (key_widths 1)) w x i j)
    (λ ks u v e.
    let l = times-length (row (key_widths 1)) w x n i j e in
    let s = size-parts (key_lay 1) 8 (λ k. unfold stride total key_widths key_skip in size-key 1 k) ks in
    omega (arith, l, s))

-- ---- a target: refused at its first word, .., at its fourth, or measured with its keys

module _ (letters : ℕ) (r : Rest) where
  pub target_bad : {k : ℕ} → Tested (target_tests letters) target_then r.words.now r.texts.now r.at.word r.at.byte (bad_word k) → Err (Word k) ≡ measured target_lay (target letters) r
  unfolding target tests_then
  target_bad h = bad_at (λ t. size (target_lay t)) h.gives

  pub target-whole : Fitting (target_tests letters) r.words.now r.at.word → (curve n : ℕ) → curve ≡ get_or r.words.now (r.at.word + 1 + 1) 0 → n ≡ get_or r.words.now (r.at.word + 1 + 1 + 1) 0
      → (v : Verdict) → v ≡ measured (parts (key_lay curve)) (times n (row (key_widths curve))) (past 4 r)
      → grown 12 v ≡ measured target_lay (target letters) r
  unfolding target tests_then
  target-whole f curve n ec en v ev =
      let q : r.at.word + 4 ≡ r.at.word + 1 + 1 + 1 + 1 = omega arith in
      let e : next (target letters) r ≡ _ = tests_fine (target_tests letters) target_then r.words.now r.texts.now r.at.word r.at.byte f in
      rw (e, ← ec, ← en)
      (then_grown (λ t. size (target_lay t)) (λ ks. size (parts (key_lay curve) ks)) (times n (row (key_widths curve)) r.words.now r.texts.now (r.at.word + 1 + 1 + 1 + 1) r.at.byte) r.words.now r.texts.now 12 v _ (rw q at ev) (λ ks u u' e. unfold target_lay size in omega arith))

-- ---- a datum: the values and the key, and what is before them

-- two parts one after another, with n bytes more
two_grown : {A B C D : Type 0} (s : C → ℕ) (all : D → ℕ) (n : ℕ) (r : Judged A) (q : J B) (f : A → B → C) (g : A → B → D) (w x : List ℕ) → ((a : A) (b : B) → n + s (f a b) ≡ all (g a b))
    → grown n (verdict_of s (and_then r (λ a w x i j. and_then (q w x i j) (λ b. ret (f a b)) w x) w x)) ≡ verdict_of all (and_then r (λ a w x i j. and_then (q w x i j) (λ b. ret (g a b)) w x) w x)
two_grown s all n (fine a i j) q f g w x h =
    measured_grown n s (and_then (q w x i j) (λ b. ret (f a b)) w x) ∙ sym (measured_made (λ c. n + s c) (q w x i j) w x (f a))
    ∙ measured_by (λ b. n + s (f a b)) (λ b. all (g a b)) (q w x i j) (λ b u v e. h a b) ∙ measured_made all (q w x i j) w x (g a)
two_grown s all n (bad_word i) q f g w x h = unfold grown verdict_of in refl
two_grown s all n (bad_text j) q f g w x h = unfold grown verdict_of in refl

abbrev pub behind_size : ValuesAndKey → ℕ
behind_size b = size (parts (number 4) b.values) + size (ended b.key)

module _ (n : ℕ) (r : Rest) where
  pub behind-fine : (m : Mark) (v : Verdict) → measured (parts (number 4)) (times n (next_word (wide 4))) r ≡ Ok m
      → v ≡ measured ended (next_text (wide 4)) (behind m r) → grown m.size v ≡ verdict_of behind_size (next (values_and_key n) r)
  unfolding values_and_key
  behind-fine m v e ev =
      was_then (λ vs. size (parts (number 4) vs)) (next (times n (next_word (wide 4))) r) m e λ vs is sized.
      ap (λ (k : ℕ). grown k v) sized ∙ grown-sat (size (parts (number 4) vs)) v
      ∙ rw is (then_grown behind_size (λ t. size (ended t)) (next (next_text (wide 4)) (behind m r)) r.words.now r.texts.now (size (parts (number 4) vs)) v _ ev (λ t u u' d. refl))

module _ (r : Rest) where
  pub datum_bad : {k : ℕ} → Tested datum_tests datum_then r.words.now r.texts.now r.at.word r.at.byte (bad_word k) → Err (Word k) ≡ measured datum_lay datum r
  unfolding datum tests_then
  datum_bad h = bad_at (λ d. size (datum_lay d)) h.gives

  pub datum-whole : Fitting datum_tests r.words.now r.at.word → (base : ℕ) → base ≡ get_or r.words.now (r.at.word + 1 + 1 + 1) 0 → (v : Verdict) → v ≡ verdict_of behind_size (next (values_and_key (3 * base)) (past 5 r))
      → grown 20 v ≡ measured datum_lay datum r
  unfolding datum values_and_key tests_then
  datum-whole f base eb v ev =
      let q : r.at.word + 5 ≡ r.at.word + 1 + 1 + 1 + 1 + 1 = omega arith in
      let d = rw q at ev in
      let e : next datum r ≡ _ = tests_fine datum_tests datum_then r.words.now r.texts.now r.at.word r.at.byte f in
      rw (e, d, ← eb)
      (two_grown behind_size (λ d. size (datum_lay d)) 20 (times (3 * base) (next_word (wide 4)) r.words.now r.texts.now (r.at.word + 1 + 1 + 1 + 1 + 1) r.at.byte) (next_text (wide 4)) _ _ r.words.now r.texts.now (λ vs t. unfold datum_lay size in omega arith))

-- ---- an info: its two words, and then data or targets

targets-size : (letters n : ℕ) (ts : List AnimTarget) → length ts ≡ n → 8 + 4 * n + size (parts target_lay ts) ≡ size (info_lay (Standard letters ts))
unfolding info_lay info_head size le
targets-size letters n ts l = let t = size-table target_lay (8 + 4 * length ts) ts in omega (arith, l, t)

module _ (r : Rest) where
  pub info_bad : {k : ℕ} → Tested info_tests info_then r.words.now r.texts.now r.at.word r.at.byte (bad_word k) → Err (Word k) ≡ measured info_lay info r
  unfolding info tests_then
  info_bad h = bad_at (λ a. size (info_lay a)) h.gives

  module _ (f : Fitting info_tests r.words.now r.at.word) (letters n : ℕ) (el : letters ≡ get_or r.words.now r.at.word 0) (en : n ≡ get_or r.words.now (r.at.word + 1) 0) (v : Verdict) where
    info-words : next info r ≡ info_then (get_or r.words.now r.at.word 0 ∷ get_or r.words.now (r.at.word + 1) 0 ∷ []) r.words.now r.texts.now (r.at.word + 1 + 1) r.at.byte
    unfolding info tests_then
    info-words = tests_fine info_tests info_then r.words.now r.texts.now r.at.word r.at.byte f

    pub info_data : letters ≡ fleu → v ≡ measured (parts datum_lay) (times n datum) (past 2 r) → grown 8 v ≡ measured info_lay info r
    info_data e ev =
        let q : r.at.word + 2 ≡ r.at.word + 1 + 1 = omega arith in
        rw (info-words, ← el, ← en, eq-eqb letters fleu e)
        (then_grown (λ a. size (info_lay a)) (λ ds. size (parts datum_lay ds)) (times n datum r.words.now r.texts.now (r.at.word + 1 + 1) r.at.byte) r.words.now r.texts.now 8 v _ (rw q at ev) (λ ds u u' d. unfold info_lay info_head size le in omega arith))

    pub info-targets : (letters ≡ fleu → ⊥) → v ≡ measured (parts target_lay) (times n (target letters)) (past 2 r)
        → grown (8 + 4 * n) v ≡ measured info_lay info r
    info-targets e ev =
        let q : r.at.word + 2 ≡ r.at.word + 1 + 1 = omega arith in
        rw (info-words, ← el, ← en, ne_eqb letters fleu e)
        (then_grown (λ a. size (info_lay a)) (λ ts. size (parts target_lay ts)) (times n (target letters) r.words.now r.texts.now (r.at.word + 1 + 1) r.at.byte) r.words.now r.texts.now (8 + 4 * n) v _ (rw q at ev)
        (λ ts u u' d. targets-size letters n ts (times-length (target letters) r.words.now r.texts.now n (r.at.word + 1 + 1) r.at.byte d)))

-- ---- a content: its name, and what is behind it

zeros-size : (n : ℕ) → size (zeros n) ≡ n
unfolding size
zeros-size n = length-replicate n 0

pub table-le : (type : ℕ) → table_from type ≤ 40
unfolding table_from
table-le type = go (eqb type 2)
  where
    go : (b : Bool) → pick b 40 32 ≤ 40
    go true = omega arith
    go false = omega arith

body-size : (c : AnimContent) → length c.name ≤ 28 → size (content_body c) ≡ table_from c.type + 4 * length c.infos + size (parts info_lay c.infos)
unfolding content_body size
body-size c h =
    let z = zeros-size (28 - length c.name) in
    let u = user-size c.type (infos_from c + size (parts info_lay c.infos) - infos_out c.infos) in
    let t = size-table info_lay (infos_from c) c.infos in
    omega (arith, z, u, t)

content-size : (c : AnimContent) → length c.name ≤ 28 → filled_up (table_from c.type + 4 * length c.infos + size (parts info_lay c.infos)) ≡ size (content_lay c)
unfolding content_lay size filled_up
content-size c h = rw (← body-size c h) (ap (λ (n : ℕ). size (content_body c) + n) (sym (zeros-size (padding_of (size (content_body c))))))

named_made : (name w x : List ℕ) (head n type : ℕ) → head ≡ table_from type + 4 * n → length name ≤ 28 → (r : Judged (List AnimInfo)) → ((ps : List AnimInfo) (u v : ℕ) → r ≡ fine ps u v → length ps ≡ n)
    → padded (grown head (verdict_of (λ ps. size (parts info_lay ps)) r)) ≡ verdict_of (λ c. size (content_lay c)) (and_then r (λ ps. ret (record { name = name; type = type; infos = ps })) w x)
named_made name w x head n type eh h r l =
    ap padded (measured_grown head (λ ps. size (parts info_lay ps)) r) ∙ measured_padded (λ ps. head + size (parts info_lay ps)) r
    ∙ measured_by (λ ps. filled_up (head + size (parts info_lay ps))) (λ ps. size (content_lay (record { name = name; type = type; infos = ps }))) r
    (λ ps u v e. ap (λ (k : ℕ). filled_up (k + size (parts info_lay ps))) (eh ∙ ap (λ (k : ℕ). table_from type + 4 * k) (sym (l ps u v e))) ∙ content-size (record { name = name; type = type; infos = ps }) h)
    ∙ measured_made (λ c. size (content_lay c)) r w x (λ ps. record { name = name; type = type; infos = ps })

module _ (name : List ℕ) (r : Rest) where
  pub named_bad : {k : ℕ} → Tested named_tests (named_then name) r.words.now r.texts.now r.at.word r.at.byte (bad_word k) → Err (Word k) ≡ measured content_lay (after_name name) r
  unfolding after_name tests_then
  named_bad h = bad_at (λ c. size (content_lay c)) h.gives

  pub named_whole : Fitting named_tests r.words.now r.at.word → length name ≤ 28 → (head n type : ℕ) → n ≡ get_or r.words.now (r.at.word + 1) 0 → type ≡ get_or r.words.now r.at.word 0 → head ≡ table_from type + 4 * n
      → (v : Verdict) → v ≡ measured (parts info_lay) (times n info) (past 2 r) → padded (grown head v) ≡ measured content_lay (after_name name) r
  unfolding after_name tests_then
  named_whole f h head n type en et eh v ev =
      let q : r.at.word + 2 ≡ r.at.word + 1 + 1 = omega arith in
      let d = rw q at ev in
      let e : next (after_name name) r ≡ _ = tests_fine named_tests (named_then name) r.words.now r.texts.now r.at.word r.at.byte f in
      rw (e, ← en, ← et, d)
      (named_made name r.words.now r.texts.now head n type eh h (times n info r.words.now r.texts.now (r.at.word + 1 + 1) r.at.byte) (λ ps u v e. times-length info r.words.now r.texts.now n (r.at.word + 1 + 1) r.at.byte e))

module _ (r : Rest) where
  pub content-fine : (m : Mark) (v : Verdict) → verdict_of length (next (next_text (λ n. leb n 28)) r) ≡ Ok m
      → ((name : List ℕ) → length name ≤ 28 → v ≡ measured content_lay (after_name name) (behind m r)) → v ≡ measured content_lay content r
  unfolding content after_name
  content-fine m v e f =
      was_then length (next (next_text (λ n. leb n 28)) r) m e λ name is sized.
      let t = text_at (λ n. leb n 28) r.words.now r.texts.now r.at.word r.at.byte is in
      rw is (f name (leb-true (length name) 28 (rw t.size t.good)))

-- ---- the end

module _ (r : Rest) where
  pub ends-word : r.at.word < length r.words.now → Err (Word r.at.word) ≡ verdict_of (λ z. 0) (next ends r)
  unfolding ends verdict_of
  ends-word h = rw (lt-ltb r.at.word (length r.words.now) h)

  pub ends-text : length r.words.now ≤ r.at.word → r.at.byte < length r.texts.now → Err (Text r.at.byte) ≡ verdict_of (λ z. 0) (next ends r)
  unfolding ends verdict_of
  ends-text h k = rw (le-ltb r.at.word (length r.words.now) h, lt-ltb r.at.byte (length r.texts.now) k)

  pub ends-fine : length r.words.now ≤ r.at.word → length r.texts.now ≤ r.at.byte → marked r.at.word r.at.byte 0 ≡ verdict_of (λ z. 0) (next ends r)
  unfolding ends verdict_of
  ends-fine h k = rw (le-ltb r.at.word (length r.words.now) h, le-ltb r.at.byte (length r.texts.now) k)

-- a value that is all there is has the value's size
module _ {A : Type 0} (s : A → ℕ) (p : J A) (r : Rest) where
  pub whole-fine : (m : Mark) (v : Verdict) → verdict_of s (next p r) ≡ Ok m → v ≡ verdict_of (λ z. 0) (next ends (behind m r))
      → grown m.size v ≡ verdict_of s (next (whole p) r)
  unfolding whole
  whole-fine m v e ev =
      was_then s (next p r) m e λ a is sized.
      ap (λ (k : ℕ). grown k v) sized ∙ grown-sat (s a) v
      ∙ rw is (then_grown s (λ z. 0) (next ends (behind m r)) r.words.now r.texts.now (s a) v (λ z. a) ev (λ z u u' d. omega arith))

-- ---- a section

abbrev made : ℕ → ℕ → List (List ℕ) → List AnimContent → PaneAnimInfo
made frames looping ts cs = record { frames = frames; looping = looping; textures = ts; contents = cs }

filled-size : (r : PaneAnimInfo)
    → filled_up (20 + (4 * length r.textures + size (parts ended r.textures))) + 4 * length r.contents + size (parts content_lay r.contents) ≡ size (section_lay r)
unfolding section_size content_table names_end filled_up
filled-size r = omega (arith, section_size_lem r)

module _ (frames looping nt nc : ℕ) (r : Rest) where
  pub headed_fine : (m : Mark) (t k : ℕ) (v : Verdict) → measured (parts ended) (times nt (next_text (wide 4))) r ≡ Ok m → t ≡ sat (filled_up (20 + (4 * nt + m.size)))
      → k ≡ sat (t + 4 * nc) → v ≡ measured (parts content_lay) (times nc content) (behind m r)
      → grown k v ≡ measured section_lay (after_head frames looping nt nc) r
  unfolding after_head
  headed_fine m t k v e et ek ev =
      was_then (λ ts. size (parts ended ts)) (next (times nt (next_text (wide 4))) r) m e λ ts is sized.
      let l = times-length (next_text (wide 4)) r.words.now r.texts.now nt r.at.word r.at.byte is in
      let n : ℕ = 20 + (4 * length ts + size (parts ended ts)) in
      let o : ℕ = 20 + (4 * nt + m.size) in
      let s : sat o ≡ sat n = omega (arith, sized, l) in
      let q : t ≡ sat (filled_up n) = et ∙ sym (sat-filled o) ∙ ap (λ (z : ℕ). sat (filled_up z)) s ∙ sat-filled n in
      let f : ℕ = filled_up n in
      let d : k ≡ sat (f + 4 * nc) = omega (arith, ek, q) in
      ap (λ (k : ℕ). grown k v) d ∙ grown-sat (f + 4 * nc) v
      ∙ rw is
      (then_grown (λ (a : PaneAnimInfo). size (section_lay a)) (λ cs. size (parts content_lay cs)) (next (times nc content) (behind m r)) r.words.now r.texts.now (f + 4 * nc) v (made frames looping ts) ev
      (λ cs u u' d. ap (λ (k : ℕ). f + 4 * k + size (parts content_lay cs)) (sym (times-length content r.words.now r.texts.now nc m.at.word m.at.byte d)) ∙ filled-size (made frames looping ts cs)))

module _ (r : Rest) where
  pub pane_bad : {k : ℕ} → Tested pane_tests pane_then r.words.now r.texts.now r.at.word r.at.byte (bad_word k) → Err (Word k) ≡ measured section_lay pane r
  unfolding pane after_head tests_then
  pane_bad h = bad_at (λ (a : PaneAnimInfo). size (section_lay a)) h.gives

  pub pane_on : (nt nc : ℕ) → nt ≡ get_or r.words.now (r.at.word + 1 + 1) 0 → nc ≡ get_or r.words.now (r.at.word + 1 + 1 + 1) 0 → Fitting pane_tests r.words.now r.at.word
      → next (after_head (get_or r.words.now r.at.word 0) (get_or r.words.now (r.at.word + 1) 0) nt nc) (past 4 r) ≡ next pane r
  unfolding pane after_head tests_then
  pane_on nt nc et ec f = let q : r.at.word + 4 ≡ r.at.word + 1 + 1 + 1 + 1 = omega arith in rw (q, et, ec) (sym (tests_fine pane_tests pane_then r.words.now r.texts.now r.at.word r.at.byte f))
