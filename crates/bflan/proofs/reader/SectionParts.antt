-- A section by its header, its head and what is behind them.
-- Assumes nothing.
use Prim.Native.Nat.{ℕ, ◌<◌, ◌≤◌}
use mathlib.Core.Path.{◌≡◌, refl, ap, sym, ◌∙◌}
use mathlib.Core.List.{List, [], ◌∷◌, ◌++◌, append-nil, map}
use native.Mathlib.Omega.{arith}
use borrow.Author.Tests.{eq-eqb, ne_eqb}
use lib.Dec.{eqb}
use lib.ListN.{length, get_or}
use Rattle.base.specs.declared.error.PastEnd.{PastEnd as Past}
use Rattle.base.specs.Number.{get, read_of}
use Rattle.base.specs.Run.{numbers_at, numbers_of}
use Rattle.base.specs.Seek.{seek_of}
use Rattle.base.proofs.Numbers.{read_value_lem}
use Rattle.bflan.specs.declared.fault.Fault.{Fault}
use Rattle.bflan.specs.declared.fault.Fault.TheVariants.{OtherLetters}
use Rattle.bflan.specs.declared.reader.section.SectionHead.{SectionHead}
use Rattle.bflan.specs.declared.reader.section.SectionHeader.{SectionHeader}
use Rattle.bflan.specs.declared.reader.tally.Tables.{Tables}
use Rattle.std.specs.Prelude.{Ok, Err}
use Rattle.bflan.specs.Reader.{past_fault, Res, ok, stop, and_then, ret, given, fail, Item, word, seek_to, numbers, visit}
use Rattle.bflan.specs.pai1.Reading.{content, texture, contents, own_letters, flag_of, body, section}
use Rattle.bflan.specs.inner.SectionParts.{header, head, head_words, after_head, contents_and_size, textures_and_contents}
use Rattle.bflan.specs.inner.Walk.{Walk, walk_of, walked}
use Rattle.bflan.specs.pai1.Places.{total}
use Rattle.bflan.specs.inner.Row.{cut_in}
use Rattle.bflan.proofs.reader.Emits.{sought_on, sought_past, num_on}
use Rattle.bflan.proofs.reader.KeyRuns.{num_there, numbers_run}
use Rattle.bflan.proofs.reader.Rows.{row_then, row_bind, fields_at, row_there, row_cut, row_fits}
use Rattle.bflan.proofs.reader.Walks.{before, joined, put-before, Small, turn_on, told_stop, told_ok}

-- ---- the last seek, as a reading of nothing

abbrev pub end_at : Res ℕ → Res (List Item)
end_at (ok q p) = ok [] p
end_at (stop f) = stop f

-- ---- the readings behind the head, one after another

chain : (ws : List Item) (s : List ℕ) (size table n : ℕ) (r : Res (List Item))
    → and_then r (λ (ts : List Item) (s₁ : List ℕ) (j : ℕ). and_then (contents table n s₁ j) (λ (cs : List Item) (s₂ : List ℕ) (k : ℕ). and_then (seek_to size s₂ k) (λ (e : ℕ) (s₃ : List ℕ) (l : ℕ). ok (ws ++ (ts ++ cs)) l) s₂) s₁) s
    ≡ before ws (joined r (λ j. joined (contents table n s j) (λ k. end_at (seek_to size s k))))
chain ws s size table n (stop f) = refl
chain ws s size table n (ok ts j) = inner (contents table n s j)
  where
    inner : (c : Res (List Item)) → and_then c (λ (cs : List Item) (s₂ : List ℕ) (k : ℕ). and_then (seek_to size s₂ k) (λ (e : ℕ) (s₃ : List ℕ) (l : ℕ). ok (ws ++ (ts ++ cs)) l) s₂) s
        ≡ before ws (before ts (joined c (λ k. end_at (seek_to size s k))))
    inner (stop f) = refl
    inner (ok cs k) = last (seek_to size s k)
      where
        last : (q : Res ℕ) → and_then q (λ (e : ℕ) (s₃ : List ℕ) (l : ℕ). ok (ws ++ (ts ++ cs)) l) s ≡ before ws (before ts (before cs (end_at q)))
        last (stop f) = refl
        last (ok e l) = ap (λ (xs : List Item). ok (ws ++ (ts ++ xs)) l) (sym (append-nil cs))

module _ (s : List ℕ) where
  -- ---- the first eight bytes

  pub section-body : 8 ≤ length s → get 4 s 0 ≡ own_letters → section s 0 ≡ body (get 4 s 4) s 8
  unfolding section
  section-body h e = rw (num_there 4 s 0 (omega arith), num_there 4 s 4 h, eq-eqb (get 4 s 0) own_letters e)

-- ---- the contents

module _ (s : List ℕ) (table n i : ℕ) where
  pub contents_past : (past : Past) → seek_of s table ≡ Err past → contents table n s i ≡ stop (past_fault past)
  unfolding contents
  contents_past past e = rw (sought_past s table i past e)

  pub contents_cut : (q : ℕ) (past : Past) → seek_of s table ≡ Ok q → numbers_of n s q ≡ Err past → contents table n s i ≡ stop (past_fault past)
  unfolding contents
  contents_cut q past e t =
      let r : numbers n s q ≡ stop (past_fault past) = numbers_run n s q ∙ rw t in
      rw (sought_on s table i q e, r)

  pub contents_on : (q p : ℕ) → seek_of s table ≡ Ok q → numbers_of n s q ≡ Ok p → contents table n s i ≡ visit 0 content (numbers_at n s q) s p
  unfolding contents
  contents_on q p e t =
      let r : numbers n s q ≡ ok (numbers_at n s q) p = numbers_run n s q ∙ rw t in
      rw (sought_on s table i q e, r)

-- ---- the contents with the last seek, and the textures in front of them

module _ (s : List ℕ) (size table n : ℕ) where
  pub ending_is : (i : ℕ) → contents_and_size size table n s i ≡ joined (contents table n s i) (λ k. end_at (seek_to size s k))
  unfolding contents_and_size
  ending_is i = go (contents table n s i)
    where
      go : (c : Res (List Item)) → and_then c (λ (cs : List Item) (s₁ : List ℕ) (k : ℕ). and_then (seek_to size s₁ k) (λ (e : ℕ) (s₂ : List ℕ) (l : ℕ). ok cs l) s₁) s ≡ joined c (λ k. end_at (seek_to size s k))
      go (stop f) = refl
      go (ok cs k) = last (seek_to size s k)
        where
          last : (q : Res ℕ) → and_then q (λ (e : ℕ) (s₂ : List ℕ) (l : ℕ). ok cs l) s ≡ before cs (end_at q)
          last (stop f) = refl
          last (ok e l) = ap (λ (xs : List Item). ok xs l) (sym (append-nil cs))

  pub parts_is : (os : List ℕ) (i : ℕ) → textures_and_contents size os table n s i ≡ joined (visit 20 texture os s i) (λ j. contents_and_size size table n s j)
  unfolding textures_and_contents
  parts_is os i = go (visit 20 texture os s i)
    where
      go : (r : Res (List Item)) → and_then r (λ (ts : List Item) (s₁ : List ℕ) (j : ℕ). and_then (contents_and_size size table n s₁ j) (λ (cs : List Item) (s₂ : List ℕ) (k : ℕ). ok (ts ++ cs) k) s₁) s ≡ joined r (λ j. contents_and_size size table n s j)
      go (stop f) = refl
      go (ok ts j) = put-before ts (contents_and_size size table n s j) s

  chained : (r : Res (List Item)) → joined r (λ j. joined (contents table n s j) (λ k. end_at (seek_to size s k))) ≡ joined r (λ j. contents_and_size size table n s j)
  chained (stop f) = refl
  chained (ok ts j) = ap (before ts) (sym (ending_is j))

-- ---- the head, and what is behind it

abbrev pub head_of : List ℕ → SectionHead
head_of vs = record { frames = get_or vs 0 0; looping = get_or vs 1 0; textures = get_or vs 3 0; contents = get_or vs 4 0; table = get_or vs 5 0 }

abbrev pub head_widths : List ℕ
head_widths = 2 ∷ 1 ∷ 1 ∷ 2 ∷ 2 ∷ 4 ∷ []

module _ (s : List ℕ) where
  -- its reads are a row
  head-row : head s 8 ≡ row_then head_widths (λ vs. ret (head_of vs)) s 8
  unfolding head row_then
  head-row = refl

  pub head_short : {f : Fault} → length s < 20 → f ≡ cut_in head_widths s 8 → stop f ≡ head s 8
  unfolding total
  head_short h e = rw e (sym (head-row ∙ row_cut s head_widths (λ vs. ret (head_of vs)) 8 (omega arith) h))

  pub head_there : {a b c d e : ℕ} → 20 ≤ length s → a ≡ get 2 s 8 → b ≡ get 1 s 10 → c ≡ get 2 s 12 → d ≡ get 2 s 14 → e ≡ get 4 s 16
      → ok (record { frames = a; looping = b; textures = c; contents = d; table = e }) 20 ≡ head s 8
  unfolding total fields_at
  head_there h ea eb ec ed ee = rw (ea, eb, ec, ed, ee) (sym (head-row ∙ row_there s head_widths (λ vs. ret (head_of vs)) 8 0 h))

  pub head_fits : (h : SectionHead) → ok h 20 ≡ head s 8 → 20 ≤ length s
  unfolding total
  head_fits h e = row_fits s head_widths (λ vs. ret (head_of vs)) 8 (omega arith) (sym head-row ∙ sym e)

  module _ (size : ℕ) where
    body-row : body size s 8 ≡ row_then head_widths (λ vs. after_head size (head_of vs)) s 8
    unfolding body after_head row_then
    body-row = refl

    body-head : body size s 8 ≡ and_then (head s 8) (after_head size) s
    body-head = body-row ∙ sym (row_bind head_widths (λ vs. ret (head_of vs)) (after_head size) s 8) ∙ ap (λ (r : Res SectionHead). and_then r (after_head size) s) (sym head-row)

    pub body_stop : (f : Fault) → stop f ≡ head s 8 → body size s 8 ≡ stop f
    body_stop f e = body-head ∙ ap (λ (r : Res SectionHead). and_then r (after_head size) s) (sym e)

    pub body_on : (h : SectionHead) → ok h 20 ≡ head s 8 → body size s 8 ≡ after_head size h s 20
    body_on h e = body-head ∙ ap (λ (r : Res SectionHead). and_then r (after_head size) s) (sym e)

    module _ (h : SectionHead) where
      pub behind_cut : (past : Past) → numbers_of h.textures s 20 ≡ Err past → after_head size h s 20 ≡ stop (past_fault past)
      unfolding after_head
      behind_cut past t =
          let r : numbers h.textures s 20 ≡ stop (past_fault past) = numbers_run h.textures s 20 ∙ rw t in
          rw r

      behind_chain : (q : ℕ) → numbers_of h.textures s 20 ≡ Ok q
          → after_head size h s 20
          ≡ before (map word (head_words h)) (joined (visit 20 texture (numbers_at h.textures s 20) s q) (λ j. joined (contents h.table h.contents s j) (λ k. end_at (seek_to size s k))))
      unfolding after_head
      behind_chain q t =
          let os = numbers_at h.textures s 20 in
          let r : numbers h.textures s 20 ≡ ok os q = numbers_run h.textures s 20 ∙ rw t in
          rw r (chain (map word (head_words h)) s size h.table h.contents (visit 20 texture os s q))

      pub behind_parts : (q : ℕ) → numbers_of h.textures s 20 ≡ Ok q
          → after_head size h s 20 ≡ before (map word (head_words h)) (textures_and_contents size (numbers_at h.textures s 20) h.table h.contents s q)
      behind_parts q t =
          let os = numbers_at h.textures s 20 in
          behind_chain q t
          ∙ ap (before (map word (head_words h))) (chained s size h.table h.contents (visit 20 texture os s q) ∙ sym (parts_is s size h.table h.contents os q))

    -- the four words of the head that the bytes are
    abbrev pub head_items : List Item
    head_items = word (get 2 s 8) ∷ word (flag_of (get 1 s 10)) ∷ word (get 2 s 12) ∷ word (get 2 s 14) ∷ []

    pub body_there : 20 ≤ length s → (q : ℕ) → numbers_of (get 2 s 12) s 20 ≡ Ok q
        → body size s 8 ≡ before head_items (joined (visit 20 texture (numbers_at (get 2 s 12) s 20) s q) (λ j. joined (contents (get 4 s 16) (get 2 s 14) s j) (λ k. end_at (seek_to size s k))))
    unfolding total fields_at
    body_there h q t = body-row ∙ row_there s head_widths (λ vs. after_head size (head_of vs)) 8 0 h ∙ behind_chain (head_of (fields_at head_widths s 8 0)) q t

-- ---- the header, and what is behind it

abbrev pub header_of : List ℕ → SectionHeader
header_of vs = record { magic = get_or vs 0 0; size = get_or vs 1 0 }

module _ (s : List ℕ) where
  header_row : header s 0 ≡ row_then (4 ∷ 4 ∷ []) (λ vs. ret (header_of vs)) s 0
  unfolding header row_then
  header_row = refl

  module _ {v p : ℕ} (e : read_of 4 s 0 ≡ Ok (v, p)) where
    pub header_whole : {n q : ℕ} → read_of 4 s p ≡ Ok (n, q) → ok (record { magic = v; size = n }) 8 ≡ header s 0
    unfolding header
    header_whole {n} {q} d =
        let z : q ≡ 8 = omega (arith, (read_value_lem 4 s 0 v p e).next, (read_value_lem 4 s p n q d).next) in
        rw (num_on 4 s 0 v p e, num_on 4 s p n q d, z)

  -- a section by its header
  behind_header : SectionHeader → List ℕ → ℕ → Res (List Item)
  behind_header h = given (eqb h.magic own_letters) (body h.size) (fail (OtherLetters h.magic))

  section-row : section s 0 ≡ row_then (4 ∷ 4 ∷ []) (λ vs. behind_header (header_of vs)) s 0
  unfolding section behind_header row_then
  section-row = refl

  section-header : section s 0 ≡ and_then (header s 0) behind_header s
  section-header = section-row ∙ sym (row_bind (4 ∷ 4 ∷ []) (λ vs. ret (header_of vs)) behind_header s 0) ∙ ap (λ (r : Res SectionHeader). and_then r behind_header s) (sym header_row)

  pub section_short : (f : Fault) → stop f ≡ header s 0 → section s 0 ≡ stop f
  section_short f e = section-header ∙ ap (λ (r : Res SectionHeader). and_then r behind_header s) (sym e)

  module _ (h : SectionHeader) (e : ok h 8 ≡ header s 0) where
    pub section_other : (h.magic ≡ own_letters → ⊥) → section s 0 ≡ stop (OtherLetters h.magic)
    unfolding behind_header
    section_other n = section-header ∙ ap (λ (r : Res SectionHeader). and_then r behind_header s) (sym e) ∙ rw (ne_eqb h.magic own_letters n)

    pub section_pai1 : h.magic ≡ own_letters → section s 0 ≡ body h.size s 8
    unfolding behind_header
    section_pai1 n = section-header ∙ ap (λ (r : Res SectionHeader). and_then r behind_header s) (sym e) ∙ rw (eq-eqb h.magic own_letters n)

-- ---- walks

module _ (s : List ℕ) (t : Tables) (size table n i : ℕ) (h : Small t) (r : Walk) (u : Tables) where
  module _ (e : walked r u ≡ walk_of s t (contents table n s i)) where
    sought : (q : ℕ) → r ≡ Ok q → walk_of s u (end_at (seek_to size s q)) ≡ walk_of s t (contents_and_size size table n s i)
    sought q d = rw (ending_is s size table n i) (turn_on s t (contents table n s i) u (λ k. end_at (seek_to size s k)) h e d)

    pub ending_past : (q : ℕ) (past : Past) (v : Tables) → r ≡ Ok q → seek_of s size ≡ Err past → walked (Err (past_fault past)) v ≡ walk_of s t (contents_and_size size table n s i)
    ending_past q past v d z = told_stop s u v (past_fault past) ∙ ap (λ (a : Res ℕ). walk_of s u (end_at a)) (sym (sought_past s size q past z)) ∙ sought q d

    pub ending_on : (q p : ℕ) → r ≡ Ok q → seek_of s size ≡ Ok p → walked (Ok p) u ≡ walk_of s t (contents_and_size size table n s i)
    ending_on q p d z = told_ok s u p ∙ ap (λ (a : Res ℕ). walk_of s u (end_at a)) (sym (sought_on s size q p z)) ∙ sought q d
