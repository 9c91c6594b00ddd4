-- Reading what was written gives the record back.
-- Assumes nothing.
use Rattle.base.specs.declared.error.PastEnd.{PastEnd as Past}
use Rattle.std.specs.Prelude.{Result, Ok, Err}
use Prim.Native.Nat.{ℕ, zero, suc, ◌+◌, ◌-◌, ◌*◌, ◌^◌, ◌≤◌, ◌<◌}
use mathlib.Core.Path.{◌≡◌, refl, ap, ap₂, sym, ◌∙◌}
use mathlib.Core.Bool.{Bool, true, false}
use mathlib.Core.List.{List, [], ◌∷◌, ◌++◌, map, append_assoc, append-nil}
use native.Mathlib.Nat.{add-zero}
use native.Mathlib.Omega.{arith}
use borrow.Author.Tests.{le-leb}
use lib.Dec.{eqb}
use lib.ListN.{length, get_or, take, drop, replicate, length-replicate, take-append-drop}
use lib.Seq.{slice, take-add, drop-drop}
use Rattle.base.specs.Choice.{pick}
use Rattle.base.specs.Number.{le, get, val}
use Rattle.base.specs.Run.{numbers_at, numbers_of}
use Rattle.base.specs.Text.{before_zero}
use Rattle.base.specs.Utf8.{replacements}
use Rattle.base.proofs.Seeks.{seek_there}
use Rattle.base.proofs.Zeros.{none_free, ended_there, before_free}
use Rattle.base.proofs.utf8.Laws.{decode_well, well_none}
use lib.Seq.{sets}
use Rattle.base.specs.Outcome.{accepted}
use Rattle.bflan.specs.pai1.Calls.{reading}
use Rattle.bflan.specs.pai1.Letters.{fleu}
use Rattle.bflan.specs.Layout.{nothing, number, bytes, ◌⨾◌, size, written, zeros, parts, table, ended}
use Rattle.bflan.specs.pai1.Layout.{key_lay, target_lay, datum_lay, info_head, info_lay, infos_out, table_from, infos_from, user_lay, content_body, content_lay, names_end, content_table, section_size, section_lay}
use Rattle.bflan.specs.pai1.Places.{total}
use Rattle.bflan.specs.Limits.{All, Fits, FineText}
use Rattle.bflan.specs.pai1.Limits.{FineTarget, FineDatum, FineInfo, FineContent, Fine, Within}
use Rattle.bflan.specs.Reader.{ok, ◌>>=◌, given, here, Item, word, text, many, visit, num, numbers, seek_to, one_ended}
use Rattle.bflan.specs.pai1.Reading.{key_of, keys, target, datum, info, type_of, info_table, content, texture, contents, own_bytes, flag_of, section, own_letters}
use Rattle.bflan.specs.pai1.Record.{AnimTarget, ExtendedUserDataAnim, Standard, ExtendedUserData, AnimContent, PaneAnimInfo, key_widths, target_cells, datum_cells, info_cells, content_cells, cells, words, texts}
use Rattle.bflan.specs.Cells.{Cell, word as wordCell, chars, each, words_in, bytes_in, text_cells}
use Rattle.bflan.specs.Items.{shown_at, words_of, texts_of, replacements_of}
use Rattle.bflan.proofs.read.Answers.{reading_gives}
use Rattle.bflan.proofs.letters.Codes.{fleu_lt, fits_lt, fits_own, fit_lt, letters_own}
use Rattle.bflan.specs.pai1.RecordAt.{name_size}
use Rattle.bflan.proofs.reader.ContentParts.{content_widths, content_rest, content_there, rest_at}
use Rattle.bflan.proofs.reader.DatumParts.{fields_in, datum_after, datum_widths, datum_there}
use Rattle.bflan.proofs.reader.Emits.{sought_there, ended_on, shown_part}
use Rattle.bflan.proofs.reader.InfoParts.{info_extended, info_standard}
use Rattle.bflan.proofs.reader.KeyRuns.{as_numbers, numbers_run}
use Rattle.bflan.proofs.reader.Rows.{fields_at}
use Rattle.bflan.proofs.reader.SectionParts.{end_at, head_items, section-body, body_there, contents_on}
use Rattle.bflan.proofs.Layouts.{Stands, stands_left, stands_right, stands_to, stands_all, stands_num, stands_get, size-table, size-written, offsets, table-reads, user-size, section_sizes, section_size_lem, stands_code, fields_stand}
use Rattle.bflan.proofs.round_trip.ReadBack.{shown_in, Reads, reads_as, reads_none, reads_before, reads_joined, ReadsPart, ReadsAt, many-reads, visit-reads, key_reads, shown-words, count-words, words-shown, texts-shown}
use Rattle.bflan.proofs.reader.TargetParts.{target_after, target_widths, target_there, curve_low, count_low}
use Rattle.bflan.proofs.reader.Walks.{before, joined, put-before}

-- ---- texts

-- a text that stands
text_there : (s : List ℕ) (i : ℕ) (t : List ℕ) → Stands s i (bytes t) → slice i (i + length t) s ≡ t
unfolding size written
text_there s i t h = let n : i + length t - i ≡ length t = omega arith in sym (shown_part s i (length t)) ∙ rw n h.same

-- is shown as it is
pub shown_there : (s : List ℕ) (i : ℕ) (t : List ℕ) → FineText t → Stands s i (bytes t) → shown_at s i (length t) ≡ t
shown_there s i t f h = rw (text_there s i t h) (decode_well t f.well_formed)

-- with nothing put in
none_there : (s : List ℕ) (i : ℕ) (t : List ℕ) → FineText t → Stands s i (bytes t) → (is : List Item) → replacements_of s is ≡ 0 → replacements_of s (text i (length t) ∷ is) ≡ 0
unfolding replacements_of
none_there s i t f h is z = let e = ap replacements (text_there s i t h) in let n = well_none t f.well_formed in omega (arith, e, n, z)

pub ended-reads : (s : List ℕ) (i : ℕ) (t : List ℕ) → FineText t → Stands s i (ended t) → one_ended s i ≡ ok (text i (length t) ∷ []) (i + length t + 1)
unfolding ended size written le
ended-reads s i t f h =
    let d : drop i s ≡ t ++ (0 ∷ drop (length t + 1) (drop i s)) =
    sym (take-append-drop (length t + 1) (drop i s)) ∙ ap (λ (l : List ℕ). l ++ drop (length t + 1) (drop i s)) h.same ∙ append_assoc t (0 ∷ []) (drop (length t + 1) (drop i s)) in
    ended_on s i (length t) (i + length t + 1) (ended_there s i t (drop (length t + 1) (drop i s)) d (none_free t f.zero_free))

pub texture-reads : (s : List ℕ) → ReadsAt ended text_cells FineText s texture
unfolding texture text_cells shown_in replacements_of
texture-reads s b i t f h =
    let l : b ≤ length s = omega (arith, h.fits) in
    record {
      next = b + length t + 1;
      here = record { items = text b (length t) ∷ []; reads = rw (sought_there s b i l) (ended-reads s b t f h); shows = ap (λ (z : List ℕ). chars z ∷ []) (shown_there s b t f (unfold ended in stands_left h)); none = none_there s b t f (unfold ended in stands_left h) [] refl };
    }

-- ---- targets

pub target_head_lem : {s : List ℕ} {letters b : ℕ} (t : AnimTarget) → FineTarget letters t → Stands s b (target_lay t)
    → (fields_at target_widths s b 0 ≡ t.layer ∷ t.target ∷ t.curve ∷ 0 ∷ length t.keys ∷ 0 ∷ 12 ∷ []) × Stands s (b + 12) (parts (key_lay t.curve) t.keys)
unfolding target_lay total
target_head_lem {letters = letters} {b = b} t f h =
    fields_stand target_widths (t.layer ∷ t.target ∷ t.curve ∷ 0 ∷ length t.keys ∷ 0 ∷ 12 ∷ []) (parts (key_lay t.curve) t.keys) b 0
    (f.layer, (fits_lt letters t.target f.target, (omega (arith, f.curve), (omega arith, (f.count, (omega arith, (omega arith, tt))))))) h

pub target-reads : (letters : ℕ) (s : List ℕ) → ReadsAt target_lay target_cells (FineTarget letters) s (target letters)
unfolding target_cells keys shown_in replacements_of
target-reads letters s b i t f h =
    let g = target_head_lem t f h in
    let l : b + 12 ≤ length s = omega (arith, g.1.fits) in
    let low : t.curve ≤ 2 = omega (arith, f.curve) in
    let ws : List Item = word t.layer ∷ word t.target ∷ word t.curve ∷ word (length t.keys) ∷ [] in
    let k = many-reads (key_lay t.curve) (map wordCell) (Fits (key_widths t.curve)) s (key_of t.curve) (key_reads t.curve f.curve s) (b + 12) t.keys f.keys g.1 in
    let e : target letters b s i ≡ before ws (many (length t.keys) (key_of t.curve) s (b + 12)) =
    target_there letters b s i l ∙ ap (λ (vs : List ℕ). target_after letters b vs s (b + 12)) g.0
    ∙ rw (sought_there s (b + 12) (b + 12) l, curve_low t.curve (length t.keys) low, count_low t.curve (length t.keys) low, fits_own letters t.target f.target)
    (put-before ws (many (length t.keys) (key_of t.curve) s (b + 12)) s) in
    record { next = b + 12 + size (parts (key_lay t.curve) t.keys); here = reads_as (sym e) refl refl (reads_before ws refl k) }

-- ---- extended data

values-read : (s : List ℕ) (i : ℕ) (vs : List ℕ) → All (λ v. v < 256 ^ 4) vs → Stands s i (parts (number 4) vs) → numbers (length vs) s i ≡ ok vs (i + size (parts (number 4) vs))
unfolding parts size numbers
values-read s i [] q h = rw add-zero
values-read s i (v ∷ vs) q h = rw (stands_num (stands_left h) q.0, values-read s (i + 4) vs q.1 (stands_right h)) (ap (ok (v ∷ vs)) (omega arith))

text-reads : (s : List ℕ) (k : ℕ) (t : List ℕ) → FineText t → Stands s k (ended t) → Reads s (ok (text k (length t) ∷ []) (k + length t + 1)) (chars t ∷ []) (k + length t + 1)
unfolding shown_in replacements_of ended
text-reads s k t f h = record { items = text k (length t) ∷ []; reads = refl; shows = ap (λ (z : List ℕ). chars z ∷ []) (shown_there s k t f (stands_left h)); none = none_there s k t f (stands_left h) [] refl }

size-ended : (t : List ℕ) → size (ended t) ≡ length t + 1
unfolding ended size
size-ended t = refl

pub datum_head_lem : {s : List ℕ} {i : ℕ} (d : ExtendedUserDataAnim) → FineDatum d → Stands s i (datum_lay d)
    → (fields_at datum_widths s i 0 ≡ d.header_size ∷ d.unk1 ∷ d.unk2 ∷ d.base_count ∷ d.unk3 ∷ []) × Stands s (i + 16) (parts (number 4) d.values ⨾ number 4 4 ⨾ ended d.key)
unfolding datum_lay total
datum_head_lem {i = i} d f h =
    fields_stand datum_widths (d.header_size ∷ d.unk1 ∷ d.unk2 ∷ d.base_count ∷ d.unk3 ∷ []) (parts (number 4) d.values ⨾ number 4 4 ⨾ ended d.key) i 0
    (f.header_size, (f.unk1, (f.unk2, (f.base_count, (f.unk3, tt))))) h

pub datum-reads : (s : List ℕ) → ReadsPart datum_lay datum_cells FineDatum s datum
unfolding datum_cells size shown_in replacements_of
datum-reads s i d f h =
    let g = datum_head_lem d f h in
    let h1 = stands_right g.1 in
    let h2 = stands_right h1 in
    let j : ℕ = i + 16 + size (parts (number 4) d.values) in
    let l : j + 4 ≤ length s = omega (arith, h2.fits) in
    let hs : List Item = word d.header_size ∷ word d.unk1 ∷ word d.unk2 ∷ word d.base_count ∷ word d.unk3 ∷ [] in
    let z = reads_before hs refl (reads_before (map word d.values) (count-words s d.values) (text-reads s (j + 4) d.key f.key h2)) in
    let n : j + 4 + length d.key + 1 ≡ i + size (datum_lay d) = unfold datum_lay in omega (arith, size-ended d.key) in
    let e : datum s i ≡ ok (hs ++ (map word d.values ++ (text (j + 4) (length d.key) ∷ []))) (j + 4 + length d.key + 1) =
    datum_there s i (omega (arith, l)) ∙ ap (λ (vs : List ℕ). datum_after (fields_in vs) s (i + 16)) g.0
    ∙ rw (← f.count, values-read s (i + 16) d.values f.values (stands_left g.1), stands_num (stands_left h1) (omega arith), sought_there s (j + 4) (j + 4) l, ended-reads s (j + 4) d.key f.key h2) in
    reads_as (sym e)
    (ap (λ (vs : List Cell). wordCell d.header_size ∷ wordCell d.unk1 ∷ wordCell d.unk2 ∷ wordCell d.base_count ∷ wordCell d.unk3 ∷ (vs ++ (chars d.key ∷ []))) (shown-words s d.values))
    n z

-- a run of numbers that is read is there
pub record There (n : ℕ) (s : List ℕ) (p : ℕ) (vs : List ℕ) (q : ℕ) : Type 0 where
  pub next : numbers_of n s p ≡ Ok q
  pub values : numbers_at n s p ≡ vs

pub run_there : (n : ℕ) (s : List ℕ) (p : ℕ) (vs : List ℕ) (q : ℕ) → numbers n s p ≡ ok vs q → There n s p vs q
run_there n s p vs q e = go (numbers_of n s p) refl (sym (numbers_run n s p) ∙ e)
  where
    go : (r : Result ℕ Past) → numbers_of n s p ≡ r → as_numbers r (numbers_at n s p) ≡ ok vs q → There n s p vs q
    go (Ok q') er k =
        let eq : q' ≡ q = cc in
        let ev : numbers_at n s p ≡ vs = cc in
        record { next = er ∙ ap Ok eq; values = ev }
    go (Err x) er k = let z : ◌≡◌ {A = ℕ} 0 1 = cc in absurd (omega arith)

-- ---- infos

pub info_head_lem : {s : List ℕ} {b letters n : ℕ} → letters < 256 ^ 4 → n < 256 → Stands s b (info_head letters n) → (get 4 s b ≡ letters) × (get 1 s (b + 4) ≡ n)
unfolding info_head size le
info_head_lem {letters = letters} f k h = (stands_get (stands_code {k = 4} {n = letters} (stands_left h)) f, stands_get (stands_left (stands_right h)) k)

module _ (s : List ℕ) (short : length s ≤ 16777216) where
  pub info-reads : ReadsAt info_lay info_cells FineInfo s info
  unfolding info_lay info_head info_cells size le shown_in replacements_of
  info-reads b i (Standard letters ts) f h =
      let g = info_head_lem (fit_lt letters f.letters) f.count (stands_left h) in
      let h1 = stands_right h in
      let n : ℕ = length ts in
      let lt : size (table target_lay (8 + 4 * n) ts) ≡ 4 * n = size-table target_lay (8 + 4 * n) ts in
      let l : b + 8 ≤ length s = omega (arith, h.fits) in
      let lp : 8 + 4 * n + size (parts target_lay ts) < 256 ^ 4 = omega (arith, h.fits, lt) in
      let o = run_there n s (b + 8) _ _ (table-reads target_lay s (b + 8) (8 + 4 * n) ts lp (stands_left h1)) in
      let v = visit-reads target_lay target_cells (FineTarget letters) s (target letters) (target-reads letters s) b (8 + 4 * n) (b + 8 + 4 * n) ts f.targets (stands_to (stands_right h1) (omega (arith, lt))) in
      let e = info_standard b s i letters n (b + 8 + 4 * n) l (sym g.0) f.standard (sym g.1) o.next in
      record { next = v.next; here = reads_as (sym (e ∙ rw (o.values, letters_own letters f.letters))) refl refl (reads_before (word letters ∷ word n ∷ []) refl v.here) }
  info-reads b i (ExtendedUserData ds) f h =
      let g = info_head_lem fleu_lt f.0 (stands_left h) in
      let m = many-reads datum_lay datum_cells FineDatum s datum (datum-reads s) (b + 8) ds f.1 (stands_right h) in
      let e = info_extended b s i (length ds) (omega (arith, h.fits)) g.0 (sym g.1) in
      record { next = b + 8 + size (parts datum_lay ds); here = reads_as (sym e) refl refl (reads_before (word fleu ∷ word (length ds) ∷ []) refl m) }

  -- ---- contents

  user-reads : (type total b : ℕ) → b + 32 + size (user_lay type total) ≤ length s → Stands s (b + 32) (user_lay type total) → info_table b type s (b + 32) ≡ ok (b + table_from type) (b + table_from type)
  unfolding user_lay table_from size info_table
  user-reads type total b l h = go (eqb type 2) l h
    where
      go : (u : Bool) → b + 32 + size (pick u (number 4 40 ⨾ number 4 total) nothing) ≤ length s → Stands s (b + 32) (pick u (number 4 40 ⨾ number 4 total) nothing)
          → given u (◌>>=◌ (num 4) (λ offset. seek_to (b + offset))) here s (b + 32) ≡ ok (b + pick u 40 32) (b + pick u 40 32)
      go true l h = let k : b + 40 ≤ length s = omega arith in rw (stands_num (stands_left h) (omega arith), sought_there s (b + 40) (b + 32 + 4) k)
      go false l h = refl

  zeros-before : (n : ℕ) → before_zero (replicate n 0) ≡ 0
  unfolding before_zero
  zeros-before zero = refl
  zeros-before (suc n) = refl

  name_size_lem : (b : ℕ) (t : List ℕ) → FineText t → length t ≤ 28 → Stands s b (bytes t) → Stands s (b + length t) (zeros (28 - length t)) → name_size s b ≡ length t
  unfolding size written
  name_size_lem b t f l h k =
      let z : length (replicate {A = ℕ} (28 - length t) 0) ≡ 28 - length t = length-replicate (28 - length t) 0 in
      let n : length t + (28 - length t) ≡ 28 = omega arith in
      let tail : take (28 - length t) (drop (b + length t) s) ≡ replicate (28 - length t) 0 = ap (λ (m : ℕ). take m (drop (b + length t) s)) (sym z) ∙ k.same in
      let whole : take 28 (drop b s) ≡ t ++ replicate (28 - length t) 0 =
      ap (λ (m : ℕ). take m (drop b s)) (sym n) ∙ take-add (length t) (28 - length t) (drop b s)
      ∙ ap₂ (λ (u v : List ℕ). u ++ v) h.same (ap (take (28 - length t)) (drop-drop (length t) b s) ∙ tail) in
      rw (whole, before_free t (replicate (28 - length t) 0) (none_free t f.zero_free), zeros-before (28 - length t), add-zero)

  -- a content that stands: each of its fields, at its place
  pub record StandsContent (b : ℕ) (c : AnimContent) : Type 0 where
    pub name : Stands s b (bytes c.name)
    pub fill : Stands s (b + length c.name) (zeros (28 - length c.name))
    pub count : get 1 s (b + 28) ≡ length c.infos
    pub type : get 1 s (b + 29) ≡ c.type
    pub user : Stands s (b + 32) (user_lay c.type (infos_from c + size (parts info_lay c.infos) - infos_out c.infos))
    pub offsets : Stands s (b + table_from c.type) (table info_lay (infos_from c) c.infos)
    pub infos : Stands s (b + infos_from c) (parts info_lay c.infos)

  pub content_stands : (b : ℕ) (c : AnimContent) → FineContent c → Stands s b (content_lay c) → StandsContent b c
  unfolding content_lay content_body infos_from size total fields_at
  content_stands b c f h =
      let from : ℕ = table_from c.type + 4 * length c.infos in
      let all : ℕ = from + size (parts info_lay c.infos) - infos_out c.infos in
      let z : length (replicate {A = ℕ} (28 - length c.name) 0) ≡ 28 - length c.name = length-replicate (28 - length c.name) 0 in
      let u : 32 + size (user_lay c.type all) ≡ table_from c.type = user-size c.type all in
      let lt : size (table info_lay from c.infos) ≡ 4 * length c.infos = size-table info_lay from c.infos in
      let h1 = stands_right (stands_left h) in
      let g = fields_stand content_widths (length c.infos ∷ c.type ∷ 0 ∷ []) (user_lay c.type all ⨾ table info_lay from c.infos ⨾ parts info_lay c.infos) b 28
      (f.count, (omega (arith, f.type), (omega arith, tt))) (stands_to (stands_right h1) (omega (arith, z, f.short))) in
      let h2 = stands_right g.1 in
      record {
        name = stands_left (stands_left h);
        fill = stands_left h1;
        count = ap (λ (vs : List ℕ). get_or vs 0 0) g.0;
        type = ap (λ (vs : List ℕ). get_or vs 1 0) g.0;
        user = stands_left g.1;
        offsets = stands_to (stands_left h2) (omega (arith, u));
        infos = stands_to (stands_right h2) (omega (arith, u, lt));
      }

  pub content-reads : ReadsAt content_lay content_cells FineContent s content
  unfolding content_cells infos_from size shown_in replacements_of
  content-reads b i c f h =
      let g : StandsContent b c = content_stands b c f h in
      let n : ℕ = length c.infos in
      let from : ℕ = table_from c.type + 4 * n in
      let total : ℕ = from + size (parts info_lay c.infos) - infos_out c.infos in
      let big : b + 32 ≤ length s = omega (arith, g.user.fits) in
      let lp : from + size (parts info_lay c.infos) < 256 ^ 4 = omega (arith, g.infos.fits) in
      let o = table-reads info_lay s (b + table_from c.type) from c.infos lp g.offsets in
      let v = visit-reads info_lay info_cells FineInfo s info info-reads b from (b + table_from c.type + 4 * n) c.infos f.infos g.infos in
      let ns : name_size s b ≡ length c.name = name_size_lem b c.name f.name f.short g.name g.fill in
      let ty : type_of c.type ≡ c.type = unfold type_of in rw (le-leb c.type 4 (omega (arith, f.type))) in
      let ws : List Item = text b (length c.name) ∷ word c.type ∷ word n ∷ [] in
      let e : content b s i ≡ before ws (visit b info (offsets info_lay from c.infos) s (b + table_from c.type + 4 * n)) =
      content_there b s i big ∙ ap₂ (λ (m k : ℕ). content_rest b s i m k) g.count g.type
      ∙ rest_at b s i n c.type (b + table_from c.type) (user-reads c.type total b g.user.fits g.user)
      ∙ rw (o, ns, ty) (put-before ws (visit b info (offsets info_lay from c.infos) s (b + table_from c.type + 4 * n)) s) in
      record {
        next = v.next;
        here = reads_as (sym e) (ap (λ (t : List ℕ). chars t ∷ wordCell c.type ∷ wordCell n ∷ each info_cells c.infos) (shown_there s b c.name f.name g.name)) refl (reads_before ws (none_there s b c.name f.name g.name (word c.type ∷ word n ∷ []) refl) v.here);
      }

-- ---- the section

flag_own : (b : ℕ) → b < 2 → flag_of b ≡ b
unfolding flag_of
flag_own zero h = refl
flag_own (suc zero) h = refl
flag_own (suc (suc b)) h = absurd (omega arith)

-- a section that stands: each of its fields, at its place
pub record StandsSection (s : List ℕ) (r : PaneAnimInfo) : Type 0 where
  pub letters : get 4 s 0 ≡ own_letters
  pub whole : get 4 s 4 ≡ section_size r
  pub frames : get 2 s 8 ≡ r.frames
  pub looping : get 1 s 10 ≡ r.looping
  pub texture_count : get 2 s 12 ≡ length r.textures
  pub content_count : get 2 s 14 ≡ length r.contents
  pub start : get 4 s 16 ≡ content_table r
  pub name_offsets : Stands s 20 (table ended (4 * length r.textures) r.textures)
  pub names : Stands s (20 + 4 * length r.textures) (parts ended r.textures)
  pub offsets : Stands s (content_table r) (table content_lay (content_table r + 4 * length r.contents) r.contents)
  pub contents : Stands s (content_table r + 4 * length r.contents) (parts content_lay r.contents)

letters-get : (s : List ℕ) → Stands s 0 (bytes own_bytes) → get 4 s 0 ≡ own_letters
unfolding le own_letters val
letters-get s h = stands_get (stands_code {k = 4} {n = own_letters} h) (omega arith)

pub section_stands : (s : List ℕ) (r : PaneAnimInfo) → Fine r → length s ≤ 16777216 → Stands s 0 (section_lay r) → StandsSection s r
unfolding section_lay content_table section_size names_end size total fields_at
section_stands s r f short h =
    let z = section_sizes r in
    let g = fields_stand (4 ∷ 2 ∷ 1 ∷ 1 ∷ 2 ∷ 2 ∷ 4 ∷ []) (section_size r ∷ r.frames ∷ r.looping ∷ 0 ∷ length r.textures ∷ length r.contents ∷ content_table r ∷ [])
    _ 4 0 (omega (arith, z.offsets, z.fill, z.content_offsets, h.fits), (f.frames, (omega (arith, f.looping), (omega arith, (f.texture_count, (f.content_count, (omega (arith, z.offsets, z.fill, h.fits), tt))))))) (stands_right h) in
    let at : (k : ℕ) → _ = λ k. ap (λ (vs : List ℕ). get_or vs k 0) g.0 in
    let h1 = stands_right g.1 in
    let h2 = stands_right (stands_right h1) in
    record {
      letters = letters-get s (stands_left h);
      whole = at 0;
      frames = at 1;
      looping = at 2;
      texture_count = at 4;
      content_count = at 5;
      start = at 6;
      name_offsets = stands_left g.1;
      names = stands_to (stands_left h1) (omega (arith, z.offsets));
      offsets = stands_to (stands_left h2) (omega (arith, z.offsets, z.fill));
      contents = stands_to (stands_right h2) (omega (arith, z.offsets, z.fill, z.content_offsets));
    }

pub section-reads : (s : List ℕ) (r : PaneAnimInfo) → Within r → Stands s 0 (section_lay r) → length s ≤ 16777216 → Reads s (section s 0) (cells r) (size (section_lay r))
unfolding section_lay cells size content_table section_size names_end shown_in replacements_of
section-reads s r w h short =
    let f : Fine r = w.fine in
    let g = section_stands s r f short h in
    let nt : ℕ = length r.textures in
    let nc : ℕ = length r.contents in
    let at : ℕ = content_table r in
    let all : ℕ = section_size r in
    let g12 : Stands s (0 + (at + 4 * nc)) (parts content_lay r.contents) = stands_to g.contents (omega arith) in
    let end : all ≤ length s = omega (arith, g.contents.fits) in
    let b8 : 8 ≤ length s = omega (arith, g.offsets.fits) in
    let b20 : 20 ≤ length s = omega (arith, g.offsets.fits) in
    let es : get 4 s 4 ≡ all = g.whole in
    let et : get 2 s 12 ≡ nt = g.texture_count in
    let ec : get 2 s 14 ≡ nc = g.content_count in
    let ea : get 4 s 16 ≡ at = g.start in
    let to = run_there nt s 20 _ _ (table-reads ended s 20 (4 * nt) r.textures (omega (arith, g.names.fits)) g.name_offsets) in
    let co = run_there nc s at _ _ (table-reads content_lay s at (at + 4 * nc) r.contents (omega (arith, g.contents.fits)) g.offsets) in
    let tv = visit-reads ended text_cells FineText s texture (texture-reads s) 20 (4 * nt) (20 + 4 * nt) r.textures f.textures g.names in
    let cv = visit-reads content_lay content_cells FineContent s content (content-reads s short) 0 (at + 4 * nc) (at + 4 * nc) r.contents f.contents g12 in
    let lo : flag_of (get 1 s 10) ≡ r.looping = ap flag_of g.looping ∙ flag_own r.looping f.looping in
    let size4 : ℕ = get 4 s 4 in
    let last : (k : ℕ) → Reads s (end_at (seek_to size4 s k)) [] all =
    λ k. reads_as (sym (ap end_at (ap (λ (m : ℕ). seek_to m s k) es ∙ sought_there s all k end))) refl refl (reads_none all) in
    let cont : (j : ℕ) → contents (get 4 s 16) (get 2 s 14) s j ≡ visit 0 content (offsets content_lay (at + 4 * nc) r.contents) s (at + 4 * nc) =
    λ j. ap₂ (λ (a n : ℕ). contents a n s j) ea ec ∙ contents_on s at nc j at (at + 4 * nc) (seek_there s at (omega (arith, end))) co.next ∙ ap (λ (vs : List ℕ). visit 0 content vs s (at + 4 * nc)) co.values in
    let tex : visit 20 texture (numbers_at (get 2 s 12) s 20) s (20 + 4 * nt) ≡ visit 20 texture (offsets ended (4 * nt) r.textures) s (20 + 4 * nt) =
    ap (λ (n : ℕ). visit 20 texture (numbers_at n s 20) s (20 + 4 * nt)) et ∙ ap (λ (vs : List ℕ). visit 20 texture vs s (20 + 4 * nt)) to.values in
    let tail =
    reads_joined (λ j. joined (contents (get 4 s 16) (get 2 s 14) s j) (λ k. end_at (seek_to size4 s k))) (reads_as (sym tex) refl refl tv.here)
    (reads_joined (λ k. end_at (seek_to size4 s k)) (reads_as (sym (cont tv.next)) refl refl cv.here) (last cv.next)) in
    let nx : numbers_of (get 2 s 12) s 20 ≡ Ok (20 + 4 * nt) = ap (λ (n : ℕ). numbers_of n s 20) et ∙ to.next in
    reads_as (sym (section-body s b8 g.letters ∙ body_there s size4 b20 (20 + 4 * nt) nx)) (rw (g.frames, lo, et, ec, append-nil)) (sym (section_size_lem r)) (reads_before (head_items s size4) refl tail)

-- the record that was written, read again: its words, its texts, as they stand, and the end
pub record ReadsBack (s : List ℕ) (r : PaneAnimInfo) : Type 0 where
  pub items : List Item
  pub reads : section s 0 ≡ ok items (size (section_lay r))
  pub words : words_of s items ≡ words r
  pub texts : texts_of s items ≡ texts r
  pub none : replacements_of s items ≡ 0

pub reads_back : (r : PaneAnimInfo) → Within r → ReadsBack (written (section_lay r)) r
reads_back r w =
    let s : List ℕ = written (section_lay r) in
    let short : length s ≤ 16777216 = omega (arith, size-written (section_lay r), w.short) in
    let h = section-reads s r w (stands_all (section_lay r)) short in
    record { items = h.items; reads = h.reads; words = words-shown s h.items ∙ ap words_in h.shows; texts = texts-shown s h.items ∙ ap bytes_in h.shows; none = h.none }

-- the same of the call: with long enough tables it is accepted, and fills them with the record; no character was replaced
pub read-written : (r : PaneAnimInfo) → Within r → (w x : List ℕ) → length (words r) ≤ length w → length (texts r) ≤ length x
    → reading (written (section_lay r)) w x ≡ (accepted (length (words r) ∷ length (texts r) ∷ 0 ∷ []), sets w 0 (words r), sets x 0 (texts r))
read-written r v w x hw hx =
    let b = reads_back r v in
    reading_gives section (written (section_lay r)) w x b.items (size (section_lay r)) (words r) (texts r) 0 (omega (arith, size-written (section_lay r), v.short)) b.reads b.words b.texts b.none hw hx
