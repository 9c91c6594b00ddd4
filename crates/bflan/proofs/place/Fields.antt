-- A field that is found in a written section is the record's, and the section with other values there is the record's with these values.
-- Assumes nothing.
use Prim.Native.Nat.{ℕ, zero, suc, ◌+◌, ◌-◌, ◌*◌, ◌^◌, ◌≤◌, ◌<◌}
use mathlib.Core.Path.{◌≡◌, refl, ap, sym, ◌∙◌}
use mathlib.Core.Bool.{Bool, true, false, ◌&&◌}
use mathlib.Core.List.{List, [], ◌∷◌}
use native.Mathlib.Nat.{add-zero, zero-add, add_assoc}
use native.Mathlib.Omega.{arith}
use borrow.Author.Tests.{ltb-true, ltb-false, leb-true, eq-eqb, ne_eqb}
use lib.Dec.{eqb, ltb}
use lib.ListN.{length, get_or, take, replicate, length-replicate}
use lib.Seq.{sets}
use Rattle.base.specs.Choice.{pick}
use Rattle.base.specs.Number.{get, le}
use Rattle.bflan.specs.declared.place.Place.{Place}
use Rattle.bflan.specs.declared.place.Place.TheVariants.{FrameCount, Looping, Layer, Target, Key, Value}
use Rattle.bflan.specs.declared.place.Field.{Field}
use Rattle.bflan.specs.declared.place.Field.TheVariants.{FrameCount as framesField, Looping as loopingField, Layer as layerField, Target as numberField, Key as keyField, Value as valueField}
use Rattle.bflan.specs.pai1.Letters.{fleu, letters_of}
use Rattle.bflan.specs.Layout.{Layout, nothing, number, ◌⨾◌, size, written, row, parts, table}
use Rattle.bflan.specs.pai1.Layout.{key_lay, target_lay, datum_lay, info_head, info_lay, data_out, infos_out, table_from, infos_from, user_lay, content_body, content_lay, names_end, content_table, section_size, section_lay}
use Rattle.bflan.specs.Limits.{All, Fits}
use Rattle.bflan.specs.pai1.Limits.{FineTarget, FineDatum, FineInfo, FineContent, Fine, Within}
use Rattle.bflan.specs.pai1.Places.{widths, total, fit_widths, first, allowed, fit, Spot, nowhere, spot, stride, key_in, value_in, after, target_in, datum_in, info_table_in, info_in, content_in, locate, of_element, changed, Found, missing, found, at_target, at_datum, at_info, field_of, on_target, on_datum, on_content, on_info, replaced}
use Rattle.bflan.specs.Reader.{P, Item, many}
use Rattle.bflan.specs.pai1.Reading.{datum}
use Rattle.bflan.specs.pai1.Record.{AnimTarget, ExtendedUserDataAnim, AnimInfo, Standard, ExtendedUserData, AnimContent, PaneAnimInfo, key_widths, datum_cells}
use Rattle.bflan.specs.Cells.{Cell, each}
use Rattle.bflan.proofs.letters.Codes.{fleu_lt, fit_lt, letters_own}
use Rattle.bflan.proofs.Layouts.{size-written, size-row, size-key, Stands, stands_left, stands_right, stands_to, stands_all, stands_get, size-table, user-size, section_sizes}
use Rattle.bflan.proofs.reader.Rows.{fields_at}
use Rattle.bflan.proofs.round_trip.ReadBack.{Reads, reads_as, reads_none, reads_joined, ReadsPart}
use Rattle.bflan.proofs.place.Replacing.{Replaces, replaces_to, replaces_left, replaces_right, replaces_whole, replaces_number, length-row, length-changed, no_element, ahead, ahead_even, table-entry, Element, element}
use Rattle.bflan.proofs.round_trip.RoundTrip.{target_head_lem, datum_head_lem, datum-reads, info_head_lem, StandsContent, content_stands, StandsSection, section_stands}
use Rattle.bflan.proofs.reader.TargetParts.{curve_low, count_low}
use Rattle.bflan.proofs.reader.Walks.{many_suc}

pub unlike : ◌≡◌ {A = Bool} false true → ⊥
unlike e = let z : ◌≡◌ {A = ℕ} 0 1 = cc in omega arith

-- ---- what values fit

pub and_left : (a b : Bool) → (a && b) ≡ true → a ≡ true
and_left true b e = refl
and_left false b e = e

pub and_right : (a b : Bool) → (a && b) ≡ true → b ≡ true
and_right true b e = e
and_right false b e = absurd (unlike e)

fits-widths : (ks vs : List ℕ) → fit_widths ks vs ≡ true → Fits ks vs
unfolding fit_widths
fits-widths [] [] e = tt
fits-widths [] (v ∷ vs) e = let z : ◌≡◌ {A = ℕ} 0 1 = cc in absurd (omega arith)
fits-widths (k ∷ ks) [] e = let z : ◌≡◌ {A = ℕ} 0 1 = cc in absurd (omega arith)
fits-widths (k ∷ ks) (v ∷ vs) e = (ltb-true v (256 ^ k) (and_left (ltb v (256 ^ k)) (fit_widths ks vs) e), fits-widths ks vs (and_right (ltb v (256 ^ k)) (fit_widths ks vs) e))

module _ (f : Field) (vs : List ℕ) (e : fit f vs ≡ true) where
  fit_widths_lem : Fits (widths f) vs
  unfolding fit
  fit_widths_lem = fits-widths (widths f) vs (and_left (fit_widths (widths f) vs) (allowed f vs) e)

  fit-allowed : allowed f vs ≡ true
  unfolding fit
  fit-allowed = and_right (fit_widths (widths f) vs) (allowed f vs) e

first_lt : (k : ℕ) (vs : List ℕ) → Fits (k ∷ []) vs → first vs < 256 ^ k
first_lt k [] f = absurd f
first_lt k (v ∷ vs) f = f.0

-- ---- a field inside a part

-- the field f, o bytes into x: with values there, x is what `up` makes of it
pub record Change {X : Type 0} (lay : X → Layout) (Q : X → Type 0) (x : X) (up : List ℕ → X → X) (o : ℕ) (f : Field) : Type 0 where
  pub replaces : (vs : List ℕ) → Replaces (written (row (widths f) vs)) o (lay x) (lay (up vs x))
  pub fine : (vs : List ℕ) → fit f vs ≡ true → Q (up vs x)

-- what a section and the record say of a place in the part x that starts at b
pub data Inside {X : Type 0} (lay : X → Layout) (Q : X → Type 0) (b : ℕ) (x : X) (up : List ℕ → X → X) (look : Spot) (say : Found) : Type 0 where
  gone : say ≡ missing → look ≡ nowhere → Inside lay Q b x up look say
  there : (o : ℕ) (f : Field) → say ≡ found f → look ≡ spot (b + o) f → Change lay Q x up o f → Inside lay Q b x up look say

-- the same of the part y that holds x, k bytes on
module _ {X Y : Type 0} {lay : X → Layout} {Q : X → Type 0} (lay' : Y → Layout) (Q' : Y → Type 0) (k b : ℕ) {x : X} {up : List ℕ → X → X} {look : Spot} {say : Found} (y : Y) (up' : List ℕ → Y → Y) where
  lift : ((vs bs : List ℕ) (o : ℕ) → Replaces bs o (lay x) (lay (up vs x)) → Replaces bs (k + o) (lay' y) (lay' (up' vs y))) → ((vs : List ℕ) → Q (up vs x) → Q' (up' vs y))
      → Inside lay Q (b + k) x up look say → Inside lay' Q' b y up' look say
  lift r q (gone e l) = gone e l
  lift r q (there o f e l c) =
      there (k + o) f e (l ∙ ap (λ (n : ℕ). spot n f) (add_assoc b k o))
      (record { replaces = λ vs. r vs (written (row (widths f) vs)) o (c.replaces vs); fine = λ vs p. q vs (c.fine vs p) })

-- ---- under a target

module _ (letters b : ℕ) (y : AnimTarget) (f : FineTarget letters y) where
  layer-inside : Inside target_lay (FineTarget letters) b y (λ vs z. record { layer = first vs; target = z.target; curve = z.curve; keys = z.keys }) (spot b layerField) (found layerField)
  unfolding target_lay widths
  layer-inside =
      there 0 layerField refl (rw add-zero)
      (record {
        replaces = λ vs. replaces_left _ (replaces_number 1 y.layer vs);
        fine = λ vs e. record { layer = first_lt 1 vs (fit_widths_lem layerField vs e); target = f.target; curve = f.curve; count = f.count; keys = f.keys };
      })

  number-inside : Inside target_lay (FineTarget letters) b y (λ vs z. record { layer = z.layer; target = first vs; curve = z.curve; keys = z.keys }) (spot (b + 1) (numberField letters)) (found (numberField letters))
  unfolding target_lay widths allowed size
  number-inside =
      there 1 (numberField letters) refl refl
      (record {
        replaces = λ vs. replaces_to (replaces_right _ (replaces_left _ (replaces_number 1 y.target vs))) (omega arith);
        fine = λ vs e. record { layer = f.layer; target = fit-allowed (numberField letters) vs e; curve = f.curve; count = f.count; keys = f.keys };
      })

replaces_key : (curve : ℕ) (old vs : List ℕ) → Replaces (written (row (key_widths curve) vs)) 0 (key_lay curve old) (key_lay curve vs)
unfolding key_lay
replaces_key curve old vs = replaces_left _ (replaces_whole (row (key_widths curve) old) (row (key_widths curve) vs) (size-row (key_widths curve) old ∙ sym (size-row (key_widths curve) vs)))

key-found : (s : List ℕ) (letters b k : ℕ) (y : AnimTarget) → FineTarget letters y → Stands s b (target_lay y)
    → key_in s b k ≡ pick (ltb k (length y.keys)) (spot (b + 12 + k * stride y.curve) (keyField y.curve)) nowhere
unfolding key_in fields_at
key-found s letters b k y f h =
    let e = (target_head_lem y f h).0 in
    let low : y.curve ≤ 2 = omega (arith, f.curve) in
    let ec : get 1 s (b + 2) ≡ y.curve = ap (λ (vs : List ℕ). get_or vs 2 0) e in
    let en : get 2 s (b + 4) ≡ length y.keys = ap (λ (vs : List ℕ). get_or vs 4 0) e in
    let eo : get 4 s (b + 8) ≡ 12 = ap (λ (vs : List ℕ). get_or vs 6 0) e in
    rw (ec, en, eo, curve_low y.curve (length y.keys) low, count_low y.curve (length y.keys) low)

key-inside : (s : List ℕ) (letters b k : ℕ) (y : AnimTarget) → FineTarget letters y → Stands s b (target_lay y)
    → Inside target_lay (FineTarget letters) b y (λ vs z. record { layer = z.layer; target = z.target; curve = z.curve; keys = changed z.keys k (λ old. vs) }) (key_in s b k)
    (pick (ltb k (length y.keys)) (found (keyField y.curve)) missing)
unfolding target_lay size widths
key-inside s letters b k y f h = rw (key-found s letters b k y f h) (go (ltb k (length y.keys)) refl)
  where
    go : (t : Bool) → ltb k (length y.keys) ≡ t
        → Inside target_lay (FineTarget letters) b y (λ vs z. record { layer = z.layer; target = z.target; curve = z.curve; keys = changed z.keys k (λ old. vs) })
        (pick t (spot (b + 12 + k * stride y.curve) (keyField y.curve)) nowhere) (pick t (found (keyField y.curve)) missing)
    go false e = gone refl refl
    go true e =
        let lt : k < length y.keys = ltb-true k (length y.keys) e in
        let el : Element (key_lay y.curve) (Fits (key_widths y.curve)) y.keys k = element (key_lay y.curve) (Fits (key_widths y.curve)) y.keys k lt in
        let a : ahead (key_lay y.curve) y.keys k ≡ k * stride y.curve = ahead_even (key_lay y.curve) (stride y.curve) (size-key y.curve) y.keys k (omega arith) in
        there (12 + k * stride y.curve) (keyField y.curve) refl (ap (λ (n : ℕ). spot n (keyField y.curve)) (add_assoc b 12 (k * stride y.curve)))
        (record {
          replaces = λ vs.
              rw length-changed
              (replaces_to (replaces_right _ (replaces_right _ (replaces_right _ (replaces_right _ (replaces_right _ (replaces_right _ (replaces_right _ (el.replaces (λ old. vs) (written (row (key_widths y.curve) vs)) 0 (replaces_key y.curve el.part vs)))))))))
              (omega (arith, a)));
          fine = λ vs q.
              record { layer = f.layer; target = f.target; curve = f.curve; count = rw length-changed f.count; keys = el.every (λ old. vs) (fit_widths_lem (keyField y.curve) vs q) f.keys };
        })

-- ---- under an extended datum

value_below : (l v n : ℕ) → l < 3 → v < n → l * n + v < 3 * n
value_below zero v n h k = omega arith
value_below (suc zero) v n h k = omega arith
value_below (suc (suc zero)) v n h k = omega arith
value_below (suc (suc (suc l))) v n h k = absurd (omega arith)

abbrev valued : ℕ → ℕ → List ℕ → ExtendedUserDataAnim → ExtendedUserDataAnim
valued l v vs z =
    record { header_size = z.header_size; unk1 = z.unk1; unk2 = z.unk2; base_count = z.base_count; unk3 = z.unk3; values = changed z.values (l * z.base_count + v) (λ old. first vs); key = z.key }

value-inside : (s : List ℕ) (b l v : ℕ) (y : ExtendedUserDataAnim) → FineDatum y → Stands s b (datum_lay y)
    → Inside datum_lay FineDatum b y (valued l v) (value_in s b l v) (pick (ltb l 3 && ltb v y.base_count) (found valueField) missing)
unfolding datum_lay size widths value_in
value-inside s b l v y f h = rw base (go (ltb l 3 && ltb v y.base_count) refl)
  where
    base : get 4 s (b + 8) ≡ y.base_count
    base = unfold fields_at in ap (λ (vs : List ℕ). get_or vs 3 0) (datum_head_lem y f h).0

    n : ℕ
    n = l * y.base_count + v

    go : (t : Bool) → (ltb l 3 && ltb v y.base_count) ≡ t
        → Inside datum_lay FineDatum b y (valued l v) (pick t (spot (b + 16 + 4 * n) valueField) nowhere) (pick t (found valueField) missing)
    go false e = gone refl refl
    go true e =
        let ll : l < 3 = ltb-true l 3 (and_left (ltb l 3) (ltb v y.base_count) e) in
        let lv : v < y.base_count = ltb-true v y.base_count (and_right (ltb l 3) (ltb v y.base_count) e) in
        let lt : n < length y.values = rw f.count (value_below l v y.base_count ll lv) in
        let el : Element (number 4) (λ w. w < 256 ^ 4) y.values n = element (number 4) (λ w. w < 256 ^ 4) y.values n lt in
        let a : ahead (number 4) y.values n ≡ n * 4 = ahead_even (number 4) 4 (λ w. refl) y.values n (omega arith) in
        there (16 + 4 * n) valueField refl (ap (λ (m : ℕ). spot m valueField) (add_assoc b 16 (4 * n)))
        (record {
          replaces = λ vs.
              replaces_to (replaces_right _ (replaces_right _ (replaces_right _ (replaces_right _ (replaces_right _ (replaces_left _ (el.replaces (λ old. first vs) (written (row (4 ∷ []) vs)) 0 (replaces_number 4 el.part vs))))))))
              (omega (arith, a));
          fine = λ vs q.
              record {
                header_size = f.header_size;
                unk1 = f.unk1;
                unk2 = f.unk2;
                base_count = f.base_count;
                unk3 = f.unk3;
                count = length-changed y.values n (λ old. first vs) ∙ f.count;
                values = el.every (λ old. first vs) (first_lt 4 vs (fit_widths_lem valueField vs q)) f.values;
                key = f.key;
              };
        })

-- ---- under an info

-- the first n parts, read one after another
module _ {X : Type 0} (lay : X → Layout) (cells : X → List Cell) (Q : X → Type 0) (s : List ℕ) (p : P (List Item)) where
  many_ahead : ReadsPart lay cells Q s p → (i : ℕ) (xs : List X) (n : ℕ) → n ≤ length xs → All Q xs → Stands s i (parts lay xs)
      → Reads s (many n p s i) (each cells (take n xs)) (i + ahead lay xs n)
  unfolding parts each size
  many_ahead law i [] zero l q h = unfold many in reads_as refl refl (omega arith) (reads_none i)
  many_ahead law i (x ∷ xs) zero l q h = unfold many in reads_as refl refl (omega arith) (reads_none i)
  many_ahead law i [] (suc n) l q h = absurd (omega arith)
  many_ahead law i (x ∷ xs) (suc n) l q h =
      let a = law i x q.0 (stands_left h) in
      let b = many_ahead law (i + size (lay x)) xs n (omega arith) q.1 (stands_right h) in
      reads_as (sym (many_suc n p s i)) refl (omega arith) (reads_joined (λ j. many n p s j) a b)

module _ (s : List ℕ) (short : length s ≤ 16777216) where
  module _ (t : ℕ) (look : ℕ → Spot) (say : ℕ → AnimTarget → Found) (up : List ℕ → AnimTarget → AnimTarget) where
    target-inside : (b : ℕ) (x : AnimInfo) → FineInfo x → Stands s b (info_lay x)
        → ((letters a : ℕ) (y : AnimTarget) → letters_of (get 4 s b) ≡ letters → FineTarget letters y → Stands s a (target_lay y) → Inside target_lay (FineTarget letters) a y up (look a) (say letters y))
        → Inside info_lay FineInfo b x (λ vs. on_target t (up vs)) (target_in s b t look) (at_target missing x t say)
    unfolding info_lay info_head size le target_in at_target on_target
    target-inside b (ExtendedUserData ds) f h law =
        gone refl (rw ((info_head_lem fleu_lt f.0 (stands_left h)).0, eq-eqb fleu fleu refl))
    target-inside b (Standard letters ts) f h law = rw (e.0, ne_eqb letters fleu f.standard, e.1) (go (ltb t n) refl)
      where
        n : ℕ
        n = length ts

        e : (get 4 s b ≡ letters) × (get 1 s (b + 4) ≡ n)
        e = info_head_lem (fit_lt letters f.letters) f.count (stands_left h)

        go : (u : Bool) → ltb t n ≡ u
            → Inside info_lay FineInfo b (Standard letters ts) (λ vs. on_target t (up vs)) (pick u (look (b + get 4 s (b + 8 + 4 * t))) nowhere) (of_element ts t missing (say letters))
        go false k = gone (no_element ts t missing (say letters) (ltb-false t n k)) refl
        go true k =
            let h1 = stands_right h in
            let lt : size (table target_lay (8 + 4 * n) ts) ≡ 4 * n = size-table target_lay (8 + 4 * n) ts in
            let hp : Stands s (b + (8 + 4 * n)) (parts target_lay ts) = stands_to (stands_right h1) (omega (arith, lt)) in
            let lp : 8 + 4 * n + size (parts target_lay ts) < 256 ^ 4 = omega (arith, hp.fits) in
            let l : t < n = ltb-true t n k in
            let el : Element target_lay (FineTarget letters) ts t = element target_lay (FineTarget letters) ts t l in
            let to : get 4 s (b + 8 + 4 * t) ≡ 8 + 4 * n + ahead target_lay ts t = table-entry target_lay s (b + 8) (8 + 4 * n) ts t l lp (stands_to (stands_left h1) (omega arith)) in
            let re : (vs bs : List ℕ) (o : ℕ) → Replaces bs o (target_lay el.part) (target_lay (up vs el.part)) → Replaces bs (8 + 4 * n + ahead target_lay ts t + o) (info_lay (Standard letters ts)) (info_lay (Standard letters (changed ts t (up vs)))) =
            λ vs bs o r. rw (length-changed, el.tabled (up vs) (8 + 4 * n) r.same) (replaces_to (replaces_right _ (replaces_right _ (el.replaces (up vs) bs o r))) (omega (arith, lt))) in
            rw (to, el.says (say letters))
            (lift info_lay FineInfo (8 + 4 * n + ahead target_lay ts t) b (Standard letters ts) (λ vs. on_target t (up vs)) re
            (λ vs q. record { letters = f.letters; standard = f.standard; count = rw length-changed f.count; targets = el.every (up vs) q f.targets })
            (law letters (b + (8 + 4 * n + ahead target_lay ts t)) el.part (ap letters_of e.0 ∙ letters_own letters f.letters) (el.fine f.targets) (stands_to (el.stands s (b + (8 + 4 * n)) hp) (omega arith))))

  module _ (d : ℕ) (look : ℕ → Spot) (say : ExtendedUserDataAnim → Found) (up : List ℕ → ExtendedUserDataAnim → ExtendedUserDataAnim)
      (law : (a : ℕ) (y : ExtendedUserDataAnim) → FineDatum y → Stands s a (datum_lay y) → Inside datum_lay FineDatum a y up (look a) (say y)) where
    datum-inside : (b : ℕ) (x : AnimInfo) → FineInfo x → Stands s b (info_lay x) → Inside info_lay FineInfo b x (λ vs. on_datum d (up vs)) (datum_in s b d look) (at_datum missing x d say)
    unfolding info_lay info_head size le datum_in at_datum on_datum
    datum-inside b (Standard letters ts) f h =
        gone refl (rw ((info_head_lem (fit_lt letters f.letters) f.count (stands_left h)).0, ne_eqb letters fleu f.standard))
    datum-inside b (ExtendedUserData ds) f h = rw (e.0, eq-eqb fleu fleu refl, e.1) (go (ltb d n) refl)
      where
        n : ℕ
        n = length ds

        e : (get 4 s b ≡ fleu) × (get 1 s (b + 4) ≡ n)
        e = info_head_lem fleu_lt f.0 (stands_left h)

        go : (u : Bool) → ltb d n ≡ u
            → Inside info_lay FineInfo b (ExtendedUserData ds) (λ vs. on_datum d (up vs)) (pick u (after (many d datum s (b + 8)) look) nowhere) (of_element ds d missing say)
        go false k = gone (no_element ds d missing say (ltb-false d n k)) refl
        go true k =
            let hp : Stands s (b + 8) (parts datum_lay ds) = stands_to (stands_right h) (omega arith) in
            let l : d < n = ltb-true d n k in
            let el : Element datum_lay FineDatum ds d = element datum_lay FineDatum ds d l in
            let m = many_ahead datum_lay datum_cells FineDatum s datum (datum-reads s) (b + 8) ds d (omega arith) f.1 hp in
            let re : (vs bs : List ℕ) (o : ℕ) → Replaces bs o (datum_lay el.part) (datum_lay (up vs el.part)) → Replaces bs (8 + ahead datum_lay ds d + o) (info_lay (ExtendedUserData ds)) (info_lay (ExtendedUserData (changed ds d (up vs)))) =
            λ vs bs o r. rw length-changed (replaces_to (replaces_right (info_head fleu n) (el.replaces (up vs) bs o r)) (omega arith)) in
            rw (m.reads, el.says say, add_assoc b 8 (ahead datum_lay ds d))
            (lift info_lay FineInfo (8 + ahead datum_lay ds d) b (ExtendedUserData ds) (λ vs. on_datum d (up vs)) re
            (λ vs q. (rw length-changed f.0, el.every (up vs) q f.1))
            (law (b + (8 + ahead datum_lay ds d)) el.part (el.fine f.1) (stands_to (el.stands s (b + 8) hp) (omega arith))))

  -- ---- under a content

  content_replaces : (c : AnimContent) (i : ℕ) (g : AnimInfo → AnimInfo) (el : Element info_lay FineInfo c.infos i) → infos_out (changed c.infos i g) ≡ infos_out c.infos → length c.name ≤ 28
      → (bs : List ℕ) (o : ℕ) → Replaces bs o (info_lay el.part) (info_lay (g el.part)) → Replaces bs (infos_from c + ahead info_lay c.infos i + o) (content_lay c) (content_lay (on_content i g c))
  unfolding content_lay
  content_replaces c i g el quiet sh bs o r = rw (← body.same) (replaces_left _ body)
    where
      body : Replaces bs (infos_from c + ahead info_lay c.infos i + o) (content_body c) (content_body (on_content i g c))
      body = unfold content_body infos_from on_content size in
          let p = el.replaces g bs o r in
          let n : ℕ = length c.infos in
          let from : ℕ = table_from c.type + 4 * n in
          let total : ℕ = from + size (parts info_lay c.infos) - infos_out c.infos in
          let z : length (replicate {A = ℕ} (28 - length c.name) 0) ≡ 28 - length c.name = length-replicate (28 - length c.name) 0 in
          let u : 32 + size (user_lay c.type total) ≡ table_from c.type = user-size c.type total in
          let lt : size (table info_lay from c.infos) ≡ 4 * n = size-table info_lay from c.infos in
          rw (length-changed, quiet, ← p.same, el.tabled g from r.same)
          (replaces_to (replaces_right _ (replaces_right _ (replaces_right _ (replaces_right _ (replaces_right _ (replaces_right _ (replaces_right _ p))))))) (omega (arith, z, sh, u, lt)))

  table_in : (b type total : ℕ) → get 1 s (b + 29) ≡ type → Stands s (b + 32) (user_lay type total) → info_table_in s b ≡ b + table_from type
  unfolding info_table_in user_lay table_from
  table_in b type total e h = rw e (go (eqb type 2) h)
    where
      go : (u : Bool) → Stands s (b + 32) (pick u (number 4 40 ⨾ number 4 total) nothing) → pick u (b + get 4 s (b + 32)) (b + 32) ≡ b + pick u 40 32
      go true h = ap (λ (n : ℕ). b + n) (stands_get (stands_left h) (omega arith))
      go false h = refl

  -- what the total size of a User content leaves out stays
  abbrev Quiet : ℕ → (List ℕ → AnimInfo → AnimInfo) → Type 0
  Quiet i up = (vs : List ℕ) (is : List AnimInfo) → infos_out (changed is i (up vs)) ≡ infos_out is

  module _ (i : ℕ) (look : ℕ → Spot) (say : AnimInfo → Found) (up : List ℕ → AnimInfo → AnimInfo) (quiet : Quiet i up)
      (law : (b : ℕ) (x : AnimInfo) → FineInfo x → Stands s b (info_lay x) → Inside info_lay FineInfo b x up (look b) (say x)) where
    info-inside : (b : ℕ) (c : AnimContent) → FineContent c → Stands s b (content_lay c)
        → Inside content_lay FineContent b c (λ vs. on_content i (up vs)) (info_in s b i look) (of_element c.infos i missing say)
    unfolding info_in
    info-inside b c f h = rw (t.count, table_in b c.type _ t.type t.user) (go (ltb i n) refl)
      where
        t : StandsContent s short b c
        t = content_stands s short b c f h

        n : ℕ
        n = length c.infos

        go : (u : Bool) → ltb i n ≡ u
            → Inside content_lay FineContent b c (λ vs. on_content i (up vs)) (pick u (look (b + get 4 s (b + table_from c.type + 4 * i))) nowhere) (of_element c.infos i missing say)
        go false k = gone (no_element c.infos i missing say (ltb-false i n k)) refl
        go true k =
            let l : i < n = ltb-true i n k in
            let el : Element info_lay FineInfo c.infos i = element info_lay FineInfo c.infos i l in
            let lp : infos_from c + size (parts info_lay c.infos) < 256 ^ 4 = omega (arith, t.infos.fits) in
            let to : get 4 s (b + table_from c.type + 4 * i) ≡ infos_from c + ahead info_lay c.infos i = table-entry info_lay s (b + table_from c.type) (infos_from c) c.infos i l lp t.offsets in
            let re : (vs bs : List ℕ) (o : ℕ) → Replaces bs o (info_lay el.part) (info_lay (up vs el.part)) → Replaces bs (infos_from c + ahead info_lay c.infos i + o) (content_lay c) (content_lay (on_content i (up vs) c)) =
            λ vs bs o r. content_replaces c i (up vs) el (quiet vs c.infos) f.short bs o r in
            let fi : (vs : List ℕ) → FineInfo (up vs el.part) → FineContent (on_content i (up vs) c) =
            λ vs q. unfold on_content in record { short = f.short; name = f.name; type = f.type; count = rw length-changed f.count; infos = el.every (up vs) q f.infos } in
            rw (to, el.says say)
            (lift content_lay FineContent (infos_from c + ahead info_lay c.infos i) b c (λ vs. on_content i (up vs)) re fi
            (law (b + (infos_from c + ahead info_lay c.infos i)) el.part (el.fine f.infos) (stands_to (el.stands s (b + infos_from c) t.infos) (omega arith))))

-- ---- in a section

section_replaces : (r : PaneAnimInfo) (c : ℕ) (g : AnimContent → AnimContent) (el : Element content_lay FineContent r.contents c)
    → (bs : List ℕ) (o : ℕ) → Replaces bs o (content_lay el.part) (content_lay (g el.part))
    → Replaces bs (content_table r + 4 * length r.contents + ahead content_lay r.contents c + o) (section_lay r) (section_lay (record { frames = r.frames; looping = r.looping; textures = r.textures; contents = changed r.contents c g }))
unfolding section_lay content_table section_size names_end size
section_replaces r c g el bs o q =
    let p = el.replaces g bs o q in
    let z = section_sizes r in
    rw (length-changed, ← p.same, el.tabled g (content_table r + 4 * length r.contents) q.same)
    (replaces_to (replaces_right _ (replaces_right _ (replaces_right _ (replaces_right _ (replaces_right _ (replaces_right _ (replaces_right _ (replaces_right _ (replaces_right _ (replaces_right _ (replaces_right _ (replaces_right _ p))))))))))))
    (omega (arith, z.offsets, z.fill, z.content_offsets)))

module _ (s : List ℕ) (short : length s ≤ 16777216) (r : PaneAnimInfo) (f : Fine r) where
  module _ (c : ℕ) (look : ℕ → Spot) (say : AnimContent → Found) (up : List ℕ → AnimContent → AnimContent)
      (law : (b : ℕ) (x : AnimContent) → FineContent x → Stands s b (content_lay x) → Inside content_lay FineContent b x up (look b) (say x)) where
    abbrev with_content : List ℕ → PaneAnimInfo → PaneAnimInfo
    with_content vs z = record { frames = z.frames; looping = z.looping; textures = z.textures; contents = changed z.contents c (up vs) }

    content-inside : Stands s 0 (section_lay r) → Inside section_lay Fine 0 r with_content (content_in s c look) (of_element r.contents c missing say)
    unfolding content_in
    content-inside h = rw (t.content_count, t.start) (go (ltb c n) refl)
      where
        t : StandsSection s r
        t = section_stands s r f short h

        n : ℕ
        n = length r.contents

        from : ℕ
        from = content_table r + 4 * n

        go : (u : Bool) → ltb c n ≡ u → Inside section_lay Fine 0 r with_content (pick u (look (get 4 s (content_table r + 4 * c))) nowhere) (of_element r.contents c missing say)
        go false k = gone (no_element r.contents c missing say (ltb-false c n k)) refl
        go true k =
            let l : c < n = ltb-true c n k in
            let el : Element content_lay FineContent r.contents c = element content_lay FineContent r.contents c l in
            let lp : from + size (parts content_lay r.contents) < 256 ^ 4 = omega (arith, t.contents.fits) in
            let to : get 4 s (content_table r + 4 * c) ≡ 0 + (from + ahead content_lay r.contents c) = table-entry content_lay s (content_table r) from r.contents c l lp t.offsets ∙ sym (zero-add (from + ahead content_lay r.contents c)) in
            let re : (vs bs : List ℕ) (o : ℕ) → Replaces bs o (content_lay el.part) (content_lay (up vs el.part)) → Replaces bs (from + ahead content_lay r.contents c + o) (section_lay r) (section_lay (with_content vs r)) =
            λ vs bs o q. section_replaces r c (up vs) el bs o q in
            rw (to, el.says say)
            (lift section_lay Fine (from + ahead content_lay r.contents c) 0 r with_content re
            (λ vs q. record { frames = f.frames; looping = f.looping; texture_count = f.texture_count; content_count = rw length-changed f.content_count; textures = f.textures; contents = el.every (up vs) q f.contents })
            (law (0 + (from + ahead content_lay r.contents c)) el.part (el.fine f.contents) (stands_to (el.stands s from t.contents) (omega arith))))

-- a field that is replaced is no key text, so what the total size leaves out stays
quiet_target : (t i : ℕ) (g : AnimTarget → AnimTarget) (is : List AnimInfo) → infos_out (changed is i (on_target t g)) ≡ infos_out is
unfolding infos_out changed on_target
quiet_target t i g [] = refl
quiet_target t zero g (Standard letters ts ∷ is) = refl
quiet_target t zero g (ExtendedUserData ds ∷ is) = refl
quiet_target t (suc i) g (Standard letters ts ∷ is) = quiet_target t i g is
quiet_target t (suc i) g (ExtendedUserData ds ∷ is) = ap (λ (n : ℕ). data_out ds + n) (quiet_target t i g is)

module _ (g : ExtendedUserDataAnim → ExtendedUserDataAnim) (same : (y : ExtendedUserDataAnim) → length (g y).key ≡ length y.key) where
  quiet_data : (ds : List ExtendedUserDataAnim) (d : ℕ) → data_out (changed ds d g) ≡ data_out ds
  unfolding data_out changed
  quiet_data [] d = refl
  quiet_data (y ∷ ds) zero = rw (same y)
  quiet_data (y ∷ ds) (suc d) = rw (quiet_data ds d)

  quiet_datum : (d i : ℕ) (is : List AnimInfo) → infos_out (changed is i (on_datum d g)) ≡ infos_out is
  unfolding infos_out changed on_datum
  quiet_datum d i [] = refl
  quiet_datum d zero (Standard letters ts ∷ is) = refl
  quiet_datum d zero (ExtendedUserData ds ∷ is) = rw (quiet_data ds d)
  quiet_datum d (suc i) (Standard letters ts ∷ is) = quiet_datum d i is
  quiet_datum d (suc i) (ExtendedUserData ds ∷ is) = rw (quiet_datum d i is)

-- the two fields of the section's own head
module _ (r : PaneAnimInfo) (f : Fine r) where
  frames-inside : Inside section_lay Fine 0 r (λ vs z. replaced z FrameCount vs) (spot 8 framesField) (found framesField)
  unfolding section_lay section_size content_table names_end size widths replaced
  frames-inside =
      there 8 framesField refl refl
      (record {
        replaces = λ vs. replaces_to (replaces_right _ (replaces_right _ (replaces_left _ (replaces_number 2 r.frames vs)))) (omega arith);
        fine = λ vs e. record { frames = first_lt 2 vs (fit_widths_lem framesField vs e); looping = f.looping; texture_count = f.texture_count; content_count = f.content_count; textures = f.textures; contents = f.contents };
      })

  looping-inside : Inside section_lay Fine 0 r (λ vs z. replaced z Looping vs) (spot 10 loopingField) (found loopingField)
  unfolding section_lay section_size content_table names_end size widths allowed replaced
  looping-inside =
      there 10 loopingField refl refl
      (record {
        replaces = λ vs. replaces_to (replaces_right _ (replaces_right _ (replaces_right _ (replaces_left _ (replaces_number 1 r.looping vs))))) (omega arith);
        fine = λ vs e.
            let l : first vs ≤ 1 = leb-true (first vs) 1 (fit-allowed loopingField vs e) in
            record { frames = f.frames; looping = omega arith; texture_count = f.texture_count; content_count = f.content_count; textures = f.textures; contents = f.contents };
      })

module _ (s : List ℕ) (short : length s ≤ 16777216) (r : PaneAnimInfo) (f : Fine r) (h : Stands s 0 (section_lay r)) where
  under_target : (c i t : ℕ) (look : ℕ → ℕ → Spot) (say : ℕ → AnimTarget → Found) (up : List ℕ → AnimTarget → AnimTarget)
      → ((letters a b : ℕ) (y : AnimTarget) → letters_of (get 4 s a) ≡ letters → FineTarget letters y → Stands s b (target_lay y) → Inside target_lay (FineTarget letters) b y up (look a b) (say letters y))
      → Inside section_lay Fine 0 r (λ vs z. on_info z c i (on_target t (up vs))) (content_in s c (λ b. info_in s b i (λ a. target_in s a t (look a)))) (at_info missing r c i (λ x. at_target missing x t say))
  unfolding on_info at_info
  under_target c i t look say up law =
      content-inside s short r f c (λ b. info_in s b i (λ a. target_in s a t (look a))) (λ x. of_element x.infos i missing (λ z. at_target missing z t say)) (λ vs. on_content i (on_target t (up vs)))
      (info-inside s short i (λ a. target_in s a t (look a)) (λ z. at_target missing z t say) (λ vs. on_target t (up vs)) (λ vs. quiet_target t i (up vs))
      (λ a x fx hx. target-inside s short t (look a) say up a x fx hx (λ letters b y e fy hy. law letters a b y e fy hy)))
      h

  under_datum : (c i d : ℕ) (look : ℕ → Spot) (say : ExtendedUserDataAnim → Found) (up : List ℕ → ExtendedUserDataAnim → ExtendedUserDataAnim) → ((vs : List ℕ) (y : ExtendedUserDataAnim) → length (up vs y).key ≡ length y.key)
      → ((b : ℕ) (y : ExtendedUserDataAnim) → FineDatum y → Stands s b (datum_lay y) → Inside datum_lay FineDatum b y up (look b) (say y))
      → Inside section_lay Fine 0 r (λ vs z. on_info z c i (on_datum d (up vs))) (content_in s c (λ b. info_in s b i (λ a. datum_in s a d look))) (at_info missing r c i (λ x. at_datum missing x d say))
  unfolding on_info at_info
  under_datum c i d look say up same law =
      content-inside s short r f c (λ b. info_in s b i (λ a. datum_in s a d look)) (λ x. of_element x.infos i missing (λ z. at_datum missing z d say)) (λ vs. on_content i (on_datum d (up vs)))
      (info-inside s short i (λ a. datum_in s a d look) (λ z. at_datum missing z d say) (λ vs. on_datum d (up vs)) (λ vs. quiet_datum (up vs) (same vs) d i) (datum-inside s short d look say up law))
      h

  field_inside : (p : Place) → Inside section_lay Fine 0 r (λ vs z. replaced z p vs) (locate s p) (field_of r p)
  unfolding locate field_of replaced
  field_inside FrameCount = frames-inside r f
  field_inside Looping = looping-inside r f
  field_inside (Layer c i t) = under_target c i t (λ a b. spot b layerField) (λ letters y. found layerField) _ (λ letters a b y e fy hy. layer-inside letters b y fy)
  field_inside (Target c i t) =
      under_target c i t (λ a b. spot (b + 1) (numberField (letters_of (get 4 s a)))) (λ letters y. found (numberField letters)) (λ vs z. record { layer = z.layer; target = first vs; curve = z.curve; keys = z.keys })
      (λ letters a b y e fy hy. rw e (number-inside letters b y fy))
  field_inside (Key c i t k) = under_target c i t (λ a b. key_in s b k) (λ letters y. pick (ltb k (length y.keys)) (found (keyField y.curve)) missing) _ (λ letters a b y e fy hy. key-inside s letters b k y fy hy)
  field_inside (Value c i d l v) = under_datum c i d (λ b. value_in s b l v) (λ y. pick (ltb l 3 && ltb v y.base_count) (found valueField) missing) (valued l v) (λ vs y. refl) (λ b. value-inside s b l v)

-- ---- the fields of a written section

-- the record has the field f at the place p, and its bytes stand from `at` on: written there, values that fit make the section of the record with
-- these values, which stays within the limits
pub record Edits (r : PaneAnimInfo) (p : Place) (at : ℕ) (f : Field) : Type 0 where
  pub field : field_of r p ≡ found f
  pub inside : at + total (widths f) ≤ size (section_lay r)
  pub writes : (vs : List ℕ) → fit f vs ≡ true → sets (written (section_lay r)) at (written (row (widths f) vs)) ≡ written (section_lay (replaced r p vs))
  pub within : (vs : List ℕ) → fit f vs ≡ true → Within (replaced r p vs)

-- a place is missing in the record and found nowhere in the section, or it is there in both
pub data Finding (r : PaneAnimInfo) (p : Place) : Type 0 where
  absent : field_of r p ≡ missing → locate (written (section_lay r)) p ≡ nowhere → Finding r p
  present : (at : ℕ) (f : Field) → locate (written (section_lay r)) p ≡ spot at f → Edits r p at f → Finding r p

pub finding : (r : PaneAnimInfo) → Within r → (p : Place) → Finding r p
finding r w p =
    let short : length (written (section_lay r)) ≤ 16777216 = omega (arith, size-written (section_lay r), w.short) in
    go (field_inside (written (section_lay r)) short r w.fine (stands_all (section_lay r)) p)
  where
    go : Inside section_lay Fine 0 r (λ vs z. replaced z p vs) (locate (written (section_lay r)) p) (field_of r p) → Finding r p
    go (gone e l) = absent e l
    go (there o f e l c) =
        present o f (l ∙ ap (λ (n : ℕ). spot n f) (zero-add o))
        (record {
          field = e;
          inside = let n = length-row (widths f) [] in omega (arith, (c.replaces []).inside);
          writes = λ vs q. (c.replaces vs).writes;
          within = λ vs q. record { fine = c.fine vs q; short = rw (← (c.replaces vs).same) w.short };
        })
