-- A content by its thirty-two bytes: the reads of its head, and what follows it.
-- Assumes nothing.
use Rattle.base.specs.declared.error.PastEnd.{PastEnd as Past}
use Rattle.base.specs.declared.error.TextError.{TextError}
use Rattle.std.specs.Prelude.{Ok, Err}
use Prim.Native.Nat.{ℕ, min, ◌+◌, ◌-◌, ◌<◌, ◌≤◌}
use mathlib.Core.Path.{◌≡◌, refl, ap, sym, ◌∙◌}
use mathlib.Core.Bool.{Bool, true, false}
use mathlib.Core.List.{List, [], ◌∷◌}
use native.Mathlib.Omega.{arith}
use borrow.Author.Tests.{leb-true, leb-false, ltb-true, ltb-false, eqb-false, le-leb, lt-leb, eq-eqb, ne_eqb}
use lib.Dec.{leb, ltb, eqb}
use lib.ListN.{length, get_or, take, drop, length-take, length-drop}
use Rattle.base.specs.Choice.{pick}
use Rattle.base.specs.Number.{get}
use Rattle.base.specs.Seek.{seek_of}
use Rattle.base.specs.Text.{fixed_of}
use Rattle.base.specs.Run.{numbers_at, numbers_of}
use Rattle.base.proofs.Zeros.{before-le}
use Rattle.bflan.specs.declared.fault.Fault.{Fault}
use Rattle.bflan.specs.declared.fault.Fault.TheVariants.{PastEnd}
use Rattle.bflan.specs.declared.reader.tally.Tables.{Tables}
use Rattle.bflan.specs.Reader.{past_fault, text_fault, Res, ok, stop, P, and_then, ◌>>=◌, ret, given, here, Item, word, text, num, seek_to, fixed_text, numbers, visit}
use Rattle.bflan.specs.pai1.Reading.{info, type_of, info_table, content}
use Rattle.bflan.specs.pai1.RecordAt.{name_size}
use Rattle.bflan.specs.pai1.Places.{total}
use Rattle.bflan.specs.inner.Row.{cut_in}
use Rattle.bflan.specs.inner.Walk.{after, walk_of}
use Rattle.bflan.proofs.reader.Emits.{sought_on, sought_past, sought_there}
use Rattle.bflan.proofs.reader.KeyRuns.{num_there, num-short, numbers_run}
use Rattle.bflan.proofs.reader.Rows.{row_then, fields_at, row_there, row_cut}
use Rattle.bflan.proofs.reader.Unstopped.{If, if_ok, yes, no, weaker, number, head, landed}
use Rattle.bflan.proofs.reader.Walks.{before, put-before, Small, after_both, walk_behind}

-- ---- the name

field_size_lem : (s : List ℕ) (base : ℕ) → base ≤ length s → length (take 28 (drop base s)) ≡ min 28 (length s - base)
field_size_lem s base h = rw (length-take, length-drop)

pub name_there : (s : List ℕ) (base : ℕ) → base < length s → fixed_text 28 s base ≡ ok (text base (name_size s base)) (base + min 28 (length s - base))
unfolding fixed_text fixed_of
name_there s base h = rw (le-leb (base + 1) (length s) (omega arith)) (ap (λ (n : ℕ). ok (text base (name_size s base)) (base + n)) (field_size_lem s base (omega arith)))

pub name-none : (s : List ℕ) (base : ℕ) → length s ≤ base → fixed_text 28 s base ≡ stop (PastEnd base 28)
unfolding fixed_text fixed_of
name-none s base h = rw (lt-leb (base + 1) (length s) (omega arith))

pub name-within : (s : List ℕ) (base : ℕ) → base + 28 ≤ length s → base + name_size s base ≤ length s
name-within s base h =
    let b = before-le (take 28 (drop base s)) in
    let l = field_size_lem s base (omega arith) in
    omega (arith, b, l, h)

module _ (s : List ℕ) {B : Type 0} {Q : B → ℕ → Type 0} where
  -- a name and a head behind it: where the section's end cuts the name, the head is refused
  pub name : (ks : List ℕ) (c : Item → List ℕ → P B) (b : ℕ) → 0 < total ks
      → (b + (28 + total ks) ≤ length s → If Q (c (text b (name_size s b)) (fields_at ks s b 28) s (b + (28 + total ks))))
      → If Q (and_then (fixed_text 28 s b) (λ t. row_then ks (c t)) s)
  name ks c b z f = go (leb (b + 28) (length s)) refl (ltb b (length s)) refl
    where
      go : (x : Bool) → leb (b + 28) (length s) ≡ x → (y : Bool) → ltb b (length s) ≡ y → If Q (and_then (fixed_text 28 s b) (λ t. row_then ks (c t)) s)
      go x t false u = rw (name-none s b (ltb-false b (length s) u)) (no _)
      go true t true u =
          let h = leb-true (b + 28) (length s) t in
          let e : b + min 28 (length s - b) ≡ b + 28 = omega arith in
          rw (name_there s b (ltb-true b (length s) u), e) (head s ks (c (text b (name_size s b))) b 28 z f)
      go false t true u =
          let h = leb-false (b + 28) (length s) t in
          let e : b + min 28 (length s - b) ≡ length s = omega (arith, h, ltb-true b (length s) u) in
          rw (name_there s b (ltb-true b (length s) u), e) (head s ks (c (text b (name_size s b))) (length s) 0 z (λ l. absurd (omega arith)))

-- what is read behind the numbers of a content's head
abbrev pub content_after : ℕ → Item → List ℕ → List ℕ → ℕ → Res (List Item)
content_after base name vs =
    ◌>>=◌ (info_table base (get_or vs 1 0))
    (λ at. ◌>>=◌ (numbers (get_or vs 0 0)) (λ offsets. ◌>>=◌ (visit base info offsets) (λ is. ret (name ∷ word (type_of (get_or vs 1 0)) ∷ word (get_or vs 0 0) ∷ is))))

abbrev pub content_widths : List ℕ
content_widths = 1 ∷ 1 ∷ 2 ∷ []

module _ (base : ℕ) (s : List ℕ) (i : ℕ) where
  whole-name : base + 28 ≤ length s → fixed_text 28 s base ≡ ok (text base (name_size s base)) (base + 28)
  whole-name h = let e : base + min 28 (length s - base) ≡ base + 28 = omega arith in name_there s base (omega arith) ∙ ap (λ (n : ℕ). ok (text base (name_size s base)) n) e

  -- ---- the reads of its head, by core's answers

  pub content_past : (past : Past) → seek_of s base ≡ Err past → content base s i ≡ stop (past_fault past)
  unfolding content
  content_past past e = rw (sought_past s base i past e)

  module _ {p : ℕ} (e : seek_of s base ≡ Ok p) where
    pub content_none : (f : TextError) → fixed_of 28 s p ≡ Err f → content base s i ≡ stop (text_fault f)
    unfolding content fixed_text
    content_none f d = rw (sought_on s base i p e, d)

    pub content_short : {len q : ℕ} {a : Fault} → fixed_of 28 s p ≡ Ok (len, q) → length s < q + 4 → a ≡ cut_in content_widths s q → content base s i ≡ stop a
    unfolding content fixed_text row_then total
    content_short {len} {q} f h d = rw (d, sought_on s base i p e, f) (row_cut s content_widths (content_after base (text p len)) q (omega arith) h)

  -- ---- behind them

  -- the info table at q, and what it leads to
  abbrev pub content_table : ℕ → ℕ → ℕ → Res (List Item)
  content_table n type q =
      ◌>>=◌ (numbers n) (λ offsets. ◌>>=◌ (visit base info offsets) (λ is. ret (text base (name_size s base) ∷ word (type_of type) ∷ word n ∷ is))) s q

  abbrev pub content_rest : ℕ → ℕ → Res (List Item)
  content_rest n type = content_after base (text base (name_size s base)) (n ∷ type ∷ []) s (base + 32)

  pub content_there : base + 32 ≤ length s → content base s i ≡ content_rest (get 1 s (base + 28)) (get 1 s (base + 29))
  unfolding content row_then total fields_at
  content_there h = rw (sought_there s base i (omega arith), whole-name (omega arith)) (row_there s content_widths (content_after base (text base (name_size s base))) base 28 h)

  pub rest_at : (n type q : ℕ) → info_table base type s (base + 32) ≡ ok q q → content_rest n type ≡ content_table n type q
  rest_at n type q e = rw e

  pub rest_stop : (n type : ℕ) (f : Fault) → info_table base type s (base + 32) ≡ stop f → content_rest n type ≡ stop f
  rest_stop n type f e = rw e

  pub table_on : (n type q p : ℕ) → numbers_of n s q ≡ Ok p
      → content_table n type q ≡ before (text base (name_size s base) ∷ word (type_of type) ∷ word n ∷ []) (visit base info (numbers_at n s q) s p)
  table_on n type q p t =
      let r : numbers n s q ≡ ok (numbers_at n s q) p = numbers_run n s q ∙ rw t in
      rw r (put-before (text base (name_size s base) ∷ word (type_of type) ∷ word n ∷ []) (visit base info (numbers_at n s q) s p) s)

  pub table_cut : (n type q : ℕ) (past : Past) → numbers_of n s q ≡ Err past → content_table n type q ≡ stop (past_fault past)
  table_cut n type q past t = let r : numbers n s q ≡ stop (past_fault past) = numbers_run n s q ∙ rw t in rw r

-- ---- where the info table stands

module _ (base type : ℕ) (s : List ℕ) (p : ℕ) where
  pub table_plain : (type ≡ 2 → ⊥) → info_table base type s p ≡ ok p p
  unfolding info_table
  table_plain e = rw (ne_eqb type 2 e)

  pub table_user : type ≡ 2 → p + 4 ≤ length s → (q : ℕ) → seek_of s (base + get 4 s p) ≡ Ok q → info_table base type s p ≡ ok q q
  unfolding info_table
  table_user e h q k = rw (eq-eqb type 2 e, num_there 4 s p h, sought_on s (base + get 4 s p) (p + 4) q k)

  pub table_past : type ≡ 2 → p + 4 ≤ length s → (past : Past) → seek_of s (base + get 4 s p) ≡ Err past → info_table base type s p ≡ stop (past_fault past)
  unfolding info_table
  table_past e h past d = rw (eq-eqb type 2 e, num_there 4 s p h, sought_past s (base + get 4 s p) (p + 4) past d)

  pub table_short : type ≡ 2 → length s < p + 4 → info_table base type s p ≡ stop (PastEnd p 4)
  unfolding info_table
  table_short e h = rw (eq-eqb type 2 e, num-short 4 s p h)

  -- where it was found, in the section
  pub table_if : p ≤ length s
      → If (λ v j. (j ≡ pick (eqb type 2) (base + get 4 s p) p) × (pick (eqb type 2) (base + get 4 s p) p ≤ length s) × (type ≡ 2 → p + 4 ≤ length s)) (info_table base type s p)
  unfolding info_table
  table_if h = kind (eqb type 2) refl
    where
      kind : (t : Bool) → eqb type 2 ≡ t
          → If (λ v j. (j ≡ pick t (base + get 4 s p) p) × (pick t (base + get 4 s p) p ≤ length s) × (type ≡ 2 → p + 4 ≤ length s)) (given t (◌>>=◌ (num 4) (λ offset. seek_to (base + offset))) here s p)
      kind true e = number s 4 p _ (λ l. weaker _ (landed s (base + get 4 s p) (p + 4)) (λ v j k. (k.1, k.2, λ x. l)))
      kind false e = yes (refl, h, λ x. absurd (eqb-false type 2 e x))

  pub table_within : (q : ℕ) → p ≤ length s → info_table base type s p ≡ ok q q → q ≤ length s
  table_within q h e = let f = if_ok _ (info_table base type s p) (table_if h) e in rw f.0 f.1

-- ---- a content as the code has it: by the count, the type and the place of the table

module _ (base : ℕ) (s : List ℕ) (i : ℕ) (h : base + 32 ≤ length s) {n type : ℕ} (en : n ≡ get 1 s (base + 28)) (et : type ≡ get 1 s (base + 29)) where
  pub content_no : (f : Fault) → info_table base type s (base + 32) ≡ stop f → content base s i ≡ stop f
  content_no f e =
      let d : info_table base (get 1 s (base + 29)) s (base + 32) ≡ stop f = rw et at e in
      content_there base s i h ∙ rest_stop base s i (get 1 s (base + 28)) (get 1 s (base + 29)) f d

  content_on : (q : ℕ) → info_table base type s (base + 32) ≡ ok q q → content base s i ≡ content_table base s i n type q
  content_on q e =
      let d : info_table base (get 1 s (base + 29)) s (base + 32) ≡ ok q q = rw et at e in
      rw (en, et) (content_there base s i h ∙ rest_at base s i (get 1 s (base + 28)) (get 1 s (base + 29)) q d)

  pub content_cut : (q : ℕ) (past : Past) → info_table base type s (base + 32) ≡ ok q q → numbers_of n s q ≡ Err past → content base s i ≡ stop (past_fault past)
  content_cut q past e d = content_on q e ∙ table_cut base s i n type q past d

  pub content_rest_lem : (q p : ℕ) → info_table base type s (base + 32) ≡ ok q q → numbers_of n s q ≡ Ok p
      → content base s i ≡ and_then (visit base info (numbers_at n s q) s p) (λ is. ret (text base (name_size s base) ∷ word (type_of type) ∷ word n ∷ is)) s
  content_rest_lem q p e d =
      content_on q e ∙ table_on base s i n type q p d ∙ sym (put-before (text base (name_size s base) ∷ word (type_of type) ∷ word n ∷ []) (visit base info (numbers_at n s q) s p) s)

-- the name and the two words of a content, stored, and what follows them
pub run_content : (s : List ℕ) (t : Tables) (base kind n : ℕ) (r : Res (List Item)) {len type : ℕ} {u v : Tables} → Small t
    → len ≡ name_size s base → type ≡ type_of kind → u ≡ after s t (text base len ∷ []) → v ≡ after s u (word type ∷ word n ∷ [])
    → walk_of s v r ≡ walk_of s t (and_then r (λ is. ret (text base (name_size s base) ∷ word (type_of kind) ∷ word n ∷ is)) s)
run_content s t base kind n r {len} {type} h el et eu ev =
    walk_behind s t (text base (name_size s base) ∷ word (type_of kind) ∷ word n ∷ []) r h (rw (← el, ← et) (after_both s t (text base len ∷ []) (word type ∷ word n ∷ []) h eu ev)) (sym (put-before (text base (name_size s base) ∷ word (type_of kind) ∷ word n ∷ []) r s))
