-- The parts of a section as they are stored: each as its fields and the parts within it.
-- Assumes nothing.
use Prim.Native.Nat.{ℕ, zero, suc, ◌+◌, ◌*◌, ◌-◌, ◌≤◌, ◌<◌}
use mathlib.Core.Path.{◌≡◌, refl, sym, ap, ◌∙◌}
use mathlib.Core.Bool.{Bool, true, false}
use mathlib.Core.List.{List, [], ◌∷◌, ◌++◌, append_assoc, append-nil}
use native.Mathlib.Nat.{zero-add, add_comm, mul-zero, mul-suc, mul_comm}
use native.Mathlib.Omega.{arith}
use borrow.Author.Tests.{leb-true, eqb-true, eqb-false, eq-eqb, ne_eqb}
use lib.Dec.{eqb, leb}
use lib.ListN.{length, get_or, take, drop, replicate, length-drop, length-replicate}
use lib.Seq.{sets, take-add, drop-drop, length-take-le}
use Rattle.base.specs.Choice.{pick}
use Rattle.base.specs.Fill.{padding_of}
use Rattle.base.specs.Number.{le, put}
use Rattle.base.specs.Run.{numbers_le, pairs_le}
use Rattle.base.proofs.Runs.{numbers_le-append}
use Rattle.std.specs.Prelude.{Result, Ok, Err, IsOk}
use Rattle.bflan.specs.declared.curve.Curve.{Curve}
use Rattle.bflan.specs.declared.curve.UnknownCurve.{UnknownCurve}
use Rattle.bflan.specs.pai1.Curves.{curve_number, NamesCurve}
use Rattle.bflan.specs.Judge.{Judged, fine, next_text, times, wide, row}
use Rattle.bflan.specs.pai1.Judge.{target, datum, info, content, section}
use Rattle.bflan.specs.Layout.{Layout, nothing, number, bytes, ◌⨾◌, size, written, row as rowLay, parts, ended, zeros}
use Rattle.bflan.specs.pai1.Layout.{key_skip, key_lay, target_lay, datum_lay, info_head, info_lay, data_out, infos_out, table_from, infos_from, user_lay, content_body, content_lay, names_end, content_table, section_size, section_lay}
use Rattle.bflan.specs.pai1.Letters.{fleu}
use Rattle.bflan.specs.Limits.{limit}
use Rattle.bflan.specs.pai1.Reading.{own_bytes}
use Rattle.bflan.specs.pai1.Places.{total as sum, stride}
use Rattle.bflan.specs.pai1.Record.{ExtendedUserDataAnim, AnimInfo, Standard, ExtendedUserData, AnimContent, key_widths}
use Rattle.bflan.specs.inner.Pen.{Pen, Ready, laid, pen_behind, listed}
use Rattle.bflan.specs.inner.LayoutParts.{target_head, datum_head, datum_front, name_lay, body_lay, frame_lay, names_lay, out_of, out_by}
use Rattle.bflan.proofs.judge.Laws.{text_at}
use Rattle.bflan.proofs.judge.Inversion.{times_none, times_more, times-length, WordsAt, row_at, DatumAt, datum_at_lem, info_at_lem, info-extended, info-standard, ContentAt, content_at_lem, SectionAt, section_at, TargetAt, target_at_lem}
use Rattle.bflan.proofs.Layouts.{size-written, size-key, section_size_lem}
use Rattle.bflan.proofs.judge.Measures.{size-parts, size-numbers}
use Rattle.bflan.proofs.writer.Stored.{text-fits, text_done}
use Rattle.bflan.proofs.writer.Pens.{Leaves, laid-fine, behind-fine, listed-size, Wrote, wrote_number, wrote_bytes, wrote_then, wrote_like, wrote_patched, Splits, split_behind, head_splits, head_ready, ready_within, head_done, whole-laid, whole-behind, like_ready, like_behind, like_laid, wrote_code}

-- ---- a name

module _ (w x : List ℕ) (q : Pen) {most : ℕ} (h : Ready name_lay (next_text (λ n. leb n 28) w x q.word q.byte) q.at most) (n : ℕ) (e : n ≡ get_or w q.word 0) where
  name_shape : (t : List ℕ) → name_lay t ≡ bytes t ⨾ zeros (28 - length t)
  unfolding name_lay
  name_shape t = refl

  pub name-fits : (q.word < length w) × (n ≤ 28) × (q.byte + n ≤ length x) × (q.at + 28 ≤ limit)
  unfolding size
  name-fits =
      let f = text-fits name_lay (λ k. zeros (28 - k)) name_shape (λ n. leb n 28) w x q h n e in
      let m : n ≤ 28 = leb-true n 28 f.1 in
      (f.0, m, f.2, omega (arith, f.3, m, length-replicate {A = ℕ} (28 - n) 0))

  pub name_done : (out : List ℕ) {m o : List ℕ} {u : Pen} → m ≡ sets out q.at (take n (drop q.byte x)) → o ≡ sets m (q.at + n) (replicate (28 - n) 0)
      → u ≡ record { word = q.word + 1; byte = q.byte + n; at = q.at + 28 }
      → Leaves name_lay (next_text (λ n. leb n 28) w x q.word q.byte) q.at out u o
  unfolding size
  name_done out a b c =
      let m = name-fits.1 in
      let z : q.at + 28 ≡ q.at + n + length (replicate {A = ℕ} (28 - n) 0) = omega (arith, m, length-replicate {A = ℕ} (28 - n) 0) in
      text_done name_lay (λ k. zeros (28 - k)) name_shape (λ n. leb n 28) w x q h n e out a (wrote_bytes b) (rw z at c)

-- ---- a target

-- keys of a curve, each of c words and m bytes, written as `enc` says
pub record Coded (curve c m : ℕ) (enc : List ℕ → List ℕ) : Type 0 where
  words : length (key_widths curve) ≡ c
  bytes : stride curve ≡ m
  none : enc [] ≡ []
  more : (vs us : List ℕ) → length vs ≡ c → enc (vs ++ us) ≡ enc vs ++ enc us
  key : (vs : List ℕ) → length vs ≡ c → written (key_lay curve vs) ≡ enc vs

row-le : (vs : List ℕ) → written (rowLay (replicate (length vs) 4) vs) ≡ numbers_le vs
unfolding rowLay written numbers_le
row-le [] = refl
row-le (v ∷ vs) = ap (λ (b : List ℕ). le 4 v ++ b) (row-le vs)

-- of words of four bytes alone
coded_words : {curve c m : ℕ} → key_widths curve ≡ replicate c 4 → key_skip curve ≡ 0 → stride curve ≡ m → Coded curve c m numbers_le
unfolding key_lay written numbers_le
coded_words {c = c} ew ek em =
    record { words = rw (ew, length-replicate {A = ℕ} c 4); bytes = em; none = refl; more = λ vs us e. numbers_le-append vs us; key = λ vs e. rw (ew, ek, ← e) (append-nil _ ∙ row-le vs) }

coded_step : Coded 1 2 8 pairs_le
unfolding key_widths key_lay key_skip stride sum rowLay written pairs_le
coded_step = record { words = refl; bytes = refl; none = refl; more = two_more; key = two_key }
  where
    two_more : (vs us : List ℕ) → length vs ≡ 2 → pairs_le (vs ++ us) ≡ pairs_le vs ++ pairs_le us
    two_more [] us e = absurd (omega arith)
    two_more (a ∷ []) us e = absurd (omega arith)
    two_more (a ∷ b ∷ []) us e = rw (append_assoc, append_assoc)
    two_more (a ∷ b ∷ c ∷ vs) us e = absurd (omega arith)

    two_key : (vs : List ℕ) → length vs ≡ 2 → written (key_lay 1 vs) ≡ pairs_le vs
    two_key [] e = absurd (omega arith)
    two_key (a ∷ []) e = absurd (omega arith)
    two_key (a ∷ b ∷ []) e = rw (append-nil, append_assoc)
    two_key (a ∷ b ∷ c ∷ vs) e = absurd (omega arith)

module _ {curve : ℕ} where
  pub constant_coded : curve ≡ 0 → Coded curve 1 4 numbers_le
  unfolding key_widths key_skip stride sum
  constant_coded e = rw e (coded_words refl refl refl)

  pub step_coded : curve ≡ 1 → Coded curve 2 8 pairs_le
  step_coded e = rw e coded_step

  pub hermite_coded : curve ≡ 2 → Coded curve 3 12 numbers_le
  unfolding key_widths key_skip stride sum
  hermite_coded e = rw e (coded_words refl refl refl)

record KeysAt (enc : List ℕ → List ℕ) (bytes : List ℕ) (n c : ℕ) (w : List ℕ) (i j k l : ℕ) : Type 0 where
  same : bytes ≡ enc (take (c * n) (drop i w))
  word : k ≡ i + c * n
  byte : l ≡ j
  there : (most : ℕ) → i ≤ most → length w ≤ most → k ≤ most

module _ {curve c m : ℕ} {enc : List ℕ → List ℕ} (code : Coded curve c m enc) where
  keys_at_lem : (n : ℕ) (w x : List ℕ) (i j : ℕ) {ks : List (List ℕ)} {k l : ℕ} → times n (row (key_widths curve)) w x i j ≡ fine ks k l
      → KeysAt enc (written (parts (key_lay curve) ks)) n c w i j k l
  unfolding parts written
  keys_at_lem zero w x i j e =
      let h = times_none (row (key_widths curve)) w x i j e in
      let z : c * 0 ≡ 0 = mul-zero c in
      record {
        same = rw (h.0, z) (sym code.none);
        word = rw z (omega (arith, h.1));
        byte = h.2;
        there = λ most a b. omega (arith, h.1, a);
      }
  keys_at_lem (suc n) w x i j {ks} {k} {l} e =
      times_more (row (key_widths curve)) w x n i j e λ y zs o p first rest q.
      let r : WordsAt (length (key_widths curve)) w i j y o p = row_at (key_widths curve) w x i j first in
      let g = keys_at_lem n w x o p rest in
      let u : o ≡ i + c = r.word ∙ ap (λ (d : ℕ). i + d) code.words in
      let v : y ≡ take c (drop i w) = r.same ∙ ap (λ (d : ℕ). take d (drop i w)) code.words in
      let d : c * suc n ≡ c + c * n = mul-suc c n ∙ add_comm (c * n) c in
      record {
        same = rw (q, d, take-add c (c * n) (drop i w), drop-drop c i w, ← u, ← v, code.more y (take (c * n) (drop o w)) (r.count ∙ code.words), code.key y (r.count ∙ code.words))
            (ap (λ (b : List ℕ). enc y ++ b) g.same);
        word = omega (arith, g.word, u, d);
        byte = g.byte ∙ r.byte;
        there = λ most a b. g.there most (r.there most a b) b;
      }

  module _ (n : ℕ) (w x : List ℕ) (i j at : ℕ) {most : ℕ} (h : Ready (parts (key_lay curve)) (times n (row (key_widths curve)) w x i j) at most) where
    keys-size : size (parts (key_lay curve) h.value) ≡ m * n
    keys-size = size-parts (key_lay curve) m (λ k. size-key curve k ∙ code.bytes) h.value ∙ ap (λ (d : ℕ). d * m) (times-length (row (key_widths curve)) w x n i j h.judged) ∙ mul_comm n m

    pub keys-fit : (top : ℕ) → i ≤ top → length w ≤ top → (i + c * n ≤ top) × (at + m * n ≤ limit)
    keys-fit top a b =
        let g = keys_at_lem n w x i j h.judged in
        (rw (← g.word) (g.there top a b), rw (← keys-size) h.short)

    pub keys_done : (out : List ℕ) {o : List ℕ} {u : Pen} → o ≡ sets out at (enc (take (c * n) (drop i w)))
        → u ≡ record { word = i + c * n; byte = j; at = at + m * n }
        → Leaves (parts (key_lay curve)) (times n (row (key_widths curve)) w x i j) at out u o
    unfolding written
    keys_done out e f =
        let g = keys_at_lem n w x i j h.judged in (
          whole-behind (parts (key_lay curve)) h (ap (λ (z : Pen). z.word) f ∙ sym g.word) (ap (λ (z : Pen). z.byte) f ∙ sym g.byte)
              (ap (λ (z : Pen). z.at) f ∙ ap (λ (d : ℕ). at + d) (sym keys-size)),
          whole-laid (parts (key_lay curve)) h (wrote_bytes e) (sym g.same),
        )

-- a key of one word
module _ {curve : ℕ} (z : curve ≡ 0) (n : ℕ) (w x : List ℕ) (i j at : ℕ) {most : ℕ} (h : Ready (parts (key_lay curve)) (times n (row (key_widths curve)) w x i j) at most) where
  pub constant_done : (out : List ℕ) {o : List ℕ} {u : Pen} → o ≡ sets out at (numbers_le (take n (drop i w))) → u ≡ record { word = i + n; byte = j; at = at + 4 * n }
      → Leaves (parts (key_lay curve)) (times n (row (key_widths curve)) w x i j) at out u o
  constant_done out {o} {u} e f =
      let k : 1 * n ≡ n = omega arith in
      let e1 : o ≡ sets out at (numbers_le (take (1 * n) (drop i w))) = rw k e in
      let f1 : u ≡ record { word = i + 1 * n; byte = j; at = at + 4 * n } = rw k f in
      keys_done (constant_coded z) n w x i j at h out e1 f1

module _ (letters : ℕ) (w x : List ℕ) (i j at : ℕ) {most : ℕ} (h : Ready target_lay (target letters w x i j) at most) where
  t_at : TargetAt w x i j h.value h.word h.byte
  t_at = target_at_lem letters w x i j h.judged

  pub target_there : (i + 4 ≤ length w) × (at + 12 ≤ limit)
  unfolding target_lay size
  target_there = (t_at.there, omega (arith, h.short))

  module _ (a b c n : ℕ) (ea : a ≡ get_or w i 0) (eb : b ≡ get_or w (i + 1) 0) (ec : c ≡ get_or w (i + 2) 0) (en : n ≡ get_or w (i + 3) 0) where
    target_splits : Splits target_lay (target letters w x i j) (λ (l : Layout). l) (fine (target_head a b c n) (i + 4) j)
        (parts (key_lay c)) (times n (row (key_widths c)) w x (i + 4) j)
    unfolding target_lay target_head rowLay written
    target_splits =
        let k : times n (row (key_widths c)) w x (i + 4) j ≡ fine h.value.keys h.word h.byte = rw (ec, en) t_at.keys in
        let z : length h.value.keys ≡ n = times-length (row (key_widths c)) w x n (i + 4) j k in
        head_splits h h.value.keys k (rw (z, t_at.layer ∙ sym ea, t_at.number ∙ sym eb, t_at.curve ∙ sym ec) (simp append_assoc))

    twelve : 12 ≡ size (target_head a b c n)
    unfolding target_head rowLay size
    twelve = refl

    pub keys_ready : (c < 3) × (i + 4 ≤ length w) × Ready (parts (key_lay c)) (times n (row (key_widths c)) w x (i + 4) j) (at + 12) most
    keys_ready = (rw ec t_at.low, t_at.there, head_ready target_splits at 12 twelve h)

    pub target_done : (out : List ℕ) {m o : List ℕ} {u : Pen} → m ≡ sets out at (written (target_head a b c n))
        → u ≡ pen_behind (parts (key_lay c)) (times n (row (key_widths c)) w x (i + 4) j) (at + 12) → o ≡ laid (parts (key_lay c)) (times n (row (key_widths c)) w x (i + 4) j) (at + 12) m
        → Leaves target_lay (target letters w x i j) at out u o
    target_done out = head_done target_splits at 12 twelve out

-- a number below 3 is a curve's
pub curve_there : (n : ℕ) (r : Result Curve UnknownCurve) → NamesCurve n r → n < 3 → IsOk r
curve_there n (Ok curve) h l = refl
curve_there n (Err e) h l = absurd (omega (arith, h.1, l))

pub curve_is : {n : ℕ} {r : Result Curve UnknownCurve} {curve : Curve} → NamesCurve n r → r ≡ Ok curve → n ≡ curve_number curve
curve_is {n} {r} h e = let m : NamesCurve n (Ok _) = rw e at h in sym m

-- ---- an extended datum

numbers-parts : (vs : List ℕ) → written (parts (number 4) vs) ≡ numbers_le vs
unfolding parts written numbers_le
numbers-parts [] = refl
numbers-parts (v ∷ vs) = ap (λ (b : List ℕ). le 4 v ++ b) (numbers-parts vs)

pub front_stored : (w : List ℕ) (i at n : ℕ) {l0 l1 l2 l3 : List ℕ} → n ≡ 3 * get_or w (i + 3) 0 → i + 5 + n ≤ length w
    → l1 ≡ sets l0 at (written (datum_head (get_or w i 0) (get_or w (i + 1) 0) (get_or w (i + 2) 0) (get_or w (i + 3) 0) (get_or w (i + 4) 0)))
    → l2 ≡ sets l1 (at + 16) (numbers_le (take n (drop (i + 5) w))) → l3 ≡ put 4 l2 (at + 16 + 4 * n) 4
    → Wrote l0 at (datum_front w i) l3
unfolding size datum_front datum_head rowLay
front_stored w i at n {l0} {l1} {l2} {l3} en h e1 e2 e3 =
    let c : length (take (3 * get_or w (i + 3) 0) (drop (i + 5) w)) ≡ n = ap (λ (d : ℕ). length (take d (drop (i + 5) w))) (sym en) ∙ length-take-le n (drop (i + 5) w) (rw length-drop (omega (arith, h))) in
    let z = size-numbers (take (3 * get_or w (i + 3) 0) (drop (i + 5) w)) in
    wrote_then (record { same = e1 }) (wrote_then (record { same = e2 ∙ ap (sets l1 (at + 16)) (ap (λ (d : ℕ). numbers_le (take d (drop (i + 5) w))) en ∙ sym (numbers-parts (take (3 * get_or w (i + 3) 0) (drop (i + 5) w)))) })
    (wrote_number e3) (omega (arith, z, c))) refl

pub front_size : (w : List ℕ) (i : ℕ) → i + 5 + 3 * get_or w (i + 3) 0 ≤ length w → size (datum_front w i) ≡ 20 + 4 * (3 * get_or w (i + 3) 0)
unfolding size datum_front datum_head rowLay
front_size w i h =
    let z = size-numbers (take (3 * get_or w (i + 3) 0) (drop (i + 5) w)) in
    let c : length (take (3 * get_or w (i + 3) 0) (drop (i + 5) w)) ≡ 3 * get_or w (i + 3) 0 = length-take-le (3 * get_or w (i + 3) 0) (drop (i + 5) w) (rw length-drop (omega (arith, h))) in
    omega (arith, z, c)

module _ (w x : List ℕ) (i j at : ℕ) {most : ℕ} (h : Ready datum_lay (datum w x i j) at most) where
  d : DatumAt w x i j h.value h.word h.byte
  d = datum_at_lem w x i j h.judged

  datum_splits : Splits datum_lay (datum w x i j) (λ (l : Layout). l) (fine (datum_front w i) (i + 5 + 3 * get_or w (i + 3) 0) j)
      ended (next_text (wide 4) w x (i + 5 + 3 * get_or w (i + 3) 0) j)
  unfolding datum_lay datum_front datum_head rowLay written
  datum_splits = head_splits h h.value.key d.key (rw (d.header_size, d.unk1, d.unk2, d.base_count, d.unk3, d.values) (simp append_assoc))

  -- what its needs ask
  pub datum-fits : (i + 5 + 3 * get_or w (i + 3) 0 < length w) × (at + 20 + 4 * (3 * get_or w (i + 3) 0) ≤ limit)
  datum-fits =
      let t = text_at (wide 4) w x (i + 5 + 3 * get_or w (i + 3) 0) j d.key in
      let f = front_size w i (omega (arith, t.there)) in
      (t.there, omega (arith, f, (head_ready datum_splits at (size (datum_front w i)) refl h).short))

  front : 20 + 4 * (3 * get_or w (i + 3) 0) ≡ size (datum_front w i)
  front = sym (front_size w i (omega (arith, datum-fits.0)))

  pub key_ready : Ready ended (next_text (wide 4) w x (i + 5 + 3 * get_or w (i + 3) 0) j) (at + (20 + 4 * (3 * get_or w (i + 3) 0))) most
  key_ready = head_ready datum_splits at (20 + 4 * (3 * get_or w (i + 3) 0)) front h

  pub datum_done : (out : List ℕ) {m o : List ℕ} {u : Pen} → m ≡ sets out at (written (datum_front w i))
      → u ≡ pen_behind ended (next_text (wide 4) w x (i + 5 + 3 * get_or w (i + 3) 0) j) (at + (20 + 4 * (3 * get_or w (i + 3) 0)))
      → o ≡ laid ended (next_text (wide 4) w x (i + 5 + 3 * get_or w (i + 3) 0) j) (at + (20 + 4 * (3 * get_or w (i + 3) 0))) m
      → Leaves datum_lay (datum w x i j) at out u o
  datum_done out = head_done datum_splits at (20 + 4 * (3 * get_or w (i + 3) 0)) front out

-- ---- an info

pub info_head_stored : (at l n : ℕ) {l0 l1 l2 : List ℕ} → l1 ≡ put 4 l0 at l → l2 ≡ sets l1 (at + 4) (written (number 1 n ⨾ number 1 0 ⨾ number 2 0))
    → Wrote l0 at (info_head l n) l2
unfolding size info_head le
info_head_stored at l n e f = wrote_then (wrote_code 4 l e) (record { same = f }) refl

module _ (w x : List ℕ) (i j at : ℕ) {most : ℕ} (h : Ready info_lay (info w x i j) at most) where
  pub info_there : i + 2 ≤ length w
  info_there = (info_at_lem w x i j h.judged).there

  pub info-fits : at + 8 ≤ limit
  unfolding info_lay info_head size le
  info-fits = go h.value h.short
    where
      go : (a : AnimInfo) → at + size (info_lay a) ≤ limit → at + 8 ≤ limit
      go (Standard l ts) k = omega (arith, k)
      go (ExtendedUserData ds) k = omega (arith, k)

  module _ (l n : ℕ) (el : l ≡ get_or w i 0) (en : n ≡ get_or w (i + 1) 0) where
    extended_splits : l ≡ fleu → Splits info_lay (info w x i j) (λ (z : Layout). z) (fine (info_head l n) (i + 2) j) (parts datum_lay) (times n datum w x (i + 2) j)
    unfolding info_lay written
    extended_splits f =
        info-extended w x i j h.judged (sym el ∙ f) λ ds q r.
        let k : times n datum w x (i + 2) j ≡ fine ds h.word h.byte = rw en r in
        let z : length ds ≡ n = times-length datum w x n (i + 2) j k in
        head_splits h ds k (ap (λ (a : AnimInfo). written (info_lay a)) q ∙ rw (z, f))

    standard_splits : (l ≡ fleu → ⊥) → Splits info_lay (info w x i j) (λ (z : Layout). z) (fine (info_head l n) (i + 2) j)
        (listed target_lay (at + 8 + 4 * n - at)) (times n (target l) w x (i + 2) j)
    unfolding info_lay listed written
    standard_splits f =
        info-standard w x i j h.judged (λ g. f (el ∙ g)) λ ts q r.
        let k : times n (target l) w x (i + 2) j ≡ fine ts h.word h.byte = rw (en, el) r in
        let z : length ts ≡ n = times-length (target l) w x n (i + 2) j k in
        let m : at + 8 + 4 * n - at ≡ 8 + 4 * n = omega arith in
        head_splits h ts k (ap (λ (a : AnimInfo). written (info_lay a)) q ∙ rw (z, m, el))

    eight : 8 ≡ size (info_head l n)
    unfolding info_head size le
    eight = refl

    module _ (f : l ≡ fleu) where
      pub data_ready : Ready (parts datum_lay) (times n datum w x (i + 2) j) (at + 8) most
      data_ready = head_ready (extended_splits f) at 8 eight h

      pub data_done : (out : List ℕ) {m o : List ℕ} {u : Pen} → m ≡ sets out at (written (info_head l n)) → u ≡ pen_behind (parts datum_lay) (times n datum w x (i + 2) j) (at + 8)
          → o ≡ laid (parts datum_lay) (times n datum w x (i + 2) j) (at + 8) m → Leaves info_lay (info w x i j) at out u o
      data_done out = head_done (extended_splits f) at 8 eight out

    module _ (f : l ≡ fleu → ⊥) where
      pub targets_ready : Ready (listed target_lay (at + 8 + 4 * n - at)) (times n (target l) w x (i + 2) j) (at + 8) most
      targets_ready = head_ready (standard_splits f) at 8 eight h

      pub targets_done : (out : List ℕ) {m o : List ℕ} {u : Pen} → m ≡ sets out at (written (info_head l n))
          → u ≡ pen_behind (listed target_lay (at + 8 + 4 * n - at)) (times n (target l) w x (i + 2) j) (at + 8)
          → o ≡ laid (listed target_lay (at + 8 + 4 * n - at)) (times n (target l) w x (i + 2) j) (at + 8) m
          → Leaves info_lay (info w x i j) at out u o
      targets_done out = head_done (standard_splits f) at 8 eight out

-- ---- what a total size leaves out

data_out_lem : (n : ℕ) (w x : List ℕ) (i j : ℕ) {ds : List ExtendedUserDataAnim} {k l : ℕ} → times n datum w x i j ≡ fine ds k l → j + data_out ds ≡ l + 5 * n
unfolding data_out
data_out_lem zero w x i j e = let h = times_none datum w x i j e in rw h.0 (omega (arith, h.2))
data_out_lem (suc n) w x i j e =
    times_more datum w x n i j e λ d ds o p first rest q.
    let t = text_at (wide 4) w x (i + 5 + 3 * get_or w (i + 3) 0) j (datum_at_lem w x i j first).key in
    rw q (omega (arith, data_out_lem n w x o p rest, t.size, t.byte))

data_least : (n : ℕ) (w x : List ℕ) (i j : ℕ) {ds : List ExtendedUserDataAnim} {k l : ℕ} → times n datum w x i j ≡ fine ds k l → 5 * n ≤ data_out ds
unfolding data_out
data_least zero w x i j e = omega arith
data_least (suc n) w x i j e =
    times_more datum w x n i j e λ d ds o p first rest q.
    rw q (omega (arith, data_least n w x o p rest))

data_most : (ds : List ExtendedUserDataAnim) → data_out ds ≤ size (parts datum_lay ds)
unfolding data_out parts datum_lay ended size
data_most [] = omega arith
data_most (d ∷ ds) = omega (arith, data_most ds)

infos-most : (is : List AnimInfo) → infos_out is ≤ size (parts info_lay is)
unfolding infos_out parts info_lay size
infos-most [] = omega arith
infos-most (Standard l ts ∷ is) = omega (arith, infos-most is)
infos-most (ExtendedUserData ds ∷ is) = omega (arith, infos-most is, data_most ds)

infos-more : (a : AnimInfo) (is : List AnimInfo) → infos_out (a ∷ is) ≡ infos_out (a ∷ []) + infos_out is
unfolding infos_out
infos-more (Standard l ts) is = omega arith
infos-more (ExtendedUserData ds) is = omega arith

info_out : (w x : List ℕ) (i j : ℕ) {a : AnimInfo} {k l : ℕ} → info w x i j ≡ fine a k l → (infos_out (a ∷ []) ≡ out_by w i j l) × (get_or w i 0 ≡ fleu → j ≤ l)
unfolding infos_out out_by
info_out w x i j {a} {k} {l} e = go (eqb (get_or w i 0) fleu) refl
  where
    go : (b : Bool) → eqb (get_or w i 0) fleu ≡ b → (infos_out (a ∷ []) ≡ pick b (5 * get_or w (i + 1) 0 + (l - j)) 0) × (get_or w i 0 ≡ fleu → j ≤ l)
    go true t =
        info-extended w x i j e (eqb-true (get_or w i 0) fleu t) λ ds q r.
        let z = data_out_lem (get_or w (i + 1) 0) w x (i + 2) j r in
        let m = data_least (get_or w (i + 1) 0) w x (i + 2) j r in
        let o : infos_out (a ∷ []) ≡ data_out ds + 0 = ap (λ (b : AnimInfo). infos_out (b ∷ [])) q in
        (omega (arith, o, z, m), λ f. omega (arith, z, m))
    go false t =
        info-standard w x i j e (eqb-false (get_or w i 0) fleu t) λ ts q r.
        (ap (λ (b : AnimInfo). infos_out (b ∷ [])) q, λ f. absurd (eqb-false (get_or w i 0) fleu t f))

out_fine : {r : Judged (List AnimInfo)} {is : List AnimInfo} {i j : ℕ} → r ≡ fine is i j → out_of r ≡ infos_out is
unfolding out_of
out_fine e = rw e

module _ (w : List ℕ) (i j l : ℕ) where
  pub out_other : (get_or w i 0 ≡ fleu → ⊥) → out_by w i j l ≡ 0
  unfolding out_by
  out_other f = rw (ne_eqb (get_or w i 0) fleu f)

  pub out_extended : get_or w i 0 ≡ fleu → out_by w i j l ≡ 5 * get_or w (i + 1) 0 + (l - j)
  unfolding out_by
  out_extended e = rw (eq-eqb (get_or w i 0) fleu e)

-- the same of the first of a run
module _ (w x : List ℕ) where
  out_more : (n i j at : ℕ) {most : ℕ} → 0 < n → Ready (parts info_lay) (times n info w x i j) at most → (u : Pen) → u ≡ pen_behind info_lay (info w x i j) at
      → (out_of (times n info w x i j) ≡ out_by w i j u.byte + out_of (times (n - 1) info w x u.word u.byte)) × (get_or w i 0 ≡ fleu → j ≤ u.byte)
  unfolding out_of
  out_more zero i j at l h u e = absurd (omega arith)
  out_more (suc n) i j at l h u e =
      times_more info w x n i j h.judged λ a is o p first rest q.
      let d : u ≡ record { word = o; byte = p; at = at + size (info_lay a) } = e ∙ behind-fine info_lay first at in
      let s : suc n - 1 ≡ n = omega arith in
      let f = info_out w x i j first in
      let b : u.byte ≡ p = ap (λ (z : Pen). z.byte) d in (
        rw (h.judged, q, s, ap (λ (z : Pen). z.word) d, b, rest) (infos-more a is ∙ ap (λ (k : ℕ). k + infos_out is) f.0),
        rw b f.1,
      )

  -- none of n infos is passed; k are, and one more
  pub out_start : (n i j : ℕ) → 0 + out_of (times (n - 0) info w x i j) ≡ out_of (times n info w x i j)
  out_start n i j = let s : n - 0 ≡ n = omega arith in rw s (zero-add _)

  pub out_turn : (n k i j at : ℕ) {most : ℕ} → k < n → Ready (parts info_lay) (times (n - k) info w x i j) at most → (u : Pen) → u ≡ pen_behind info_lay (info w x i j) at
      → (out_of (times (n - k) info w x i j) ≡ out_by w i j u.byte + out_of (times (n - (k + 1)) info w x u.word u.byte)) × (get_or w i 0 ≡ fleu → j ≤ u.byte)
  out_turn n k i j at l h u e =
      let s : n - (k + 1) ≡ n - k - 1 = omega arith in
      rw s (out_more (n - k) i j at (omega (arith, l)) h u e)

  pub out_end : (n i j : ℕ) {gone all : ℕ} → gone + out_of (times n info w x i j) ≡ all → n ≤ 0 → gone ≡ all
  unfolding times out_of infos_out
  out_end zero i j e l = omega (arith, e)
  out_end (suc n) i j e l = absurd (omega arith)

  pub out_fits : (from n i j at : ℕ) {most : ℕ} (h : Ready (listed info_lay from) (times n info w x i j) at most) → out_of (times n info w x i j) ≤ limit
  out_fits from n i j at h = rw (out_fine h.judged) (omega (arith, listed-size info_lay from h.value, infos-most h.value, h.short))

-- ---- what is behind a content's name and counts

module _ (kind n : ℕ) (w x : List ℕ) (q : Pen) (start : ℕ) {most : ℕ} (h : Ready (body_lay kind) (times n info w x q.word q.byte) q.at most)
    (s : q.at ≡ start + 32) where
  count : length h.value ≡ n
  count = times-length info w x n q.word q.byte h.judged

  -- not of a User content: the infos
  module _ (k : kind ≡ 2 → ⊥) where
    plain : written (body_lay kind h.value) ≡ written (listed info_lay (q.at + 4 * n - start) h.value)
    unfolding body_lay user_lay table_from written
    plain =
        let m : q.at + 4 * n - start ≡ 32 + 4 * n = omega (arith, s) in
        rw (ne_eqb kind 2 k, count, m)

    pub plain_ready : Ready (listed info_lay (q.at + 4 * n - start)) (times n info w x q.word q.byte) q.at most
    plain_ready = like_ready (body_lay kind) (listed info_lay (q.at + 4 * n - start)) h plain

    pub plain_done : (out : List ℕ) {o : List ℕ} {u : Pen} → u ≡ pen_behind (listed info_lay (q.at + 4 * n - start)) (times n info w x q.word q.byte) q.at
        → o ≡ laid (listed info_lay (q.at + 4 * n - start)) (times n info w x q.word q.byte) q.at out
        → Leaves (body_lay kind) (times n info w x q.word q.byte) q.at out u o
    plain_done out e f =
        (e ∙ like_behind (body_lay kind) (listed info_lay (q.at + 4 * n - start)) h plain, f ∙ like_laid (body_lay kind) (listed info_lay (q.at + 4 * n - start)) h plain out)

module _ (n : ℕ) (w x : List ℕ) (q : Pen) (start : ℕ) {most : ℕ} (h : Ready (body_lay 2) (times n info w x q.word q.byte) q.at most)
    (s : q.at ≡ start + 32) where
  abbrev total : ℕ
  total = 40 + 4 * n + size (parts info_lay h.value) - infos_out h.value

  user_splits : Splits (body_lay 2) (times n info w x q.word q.byte) (λ (z : Layout). z) (fine (number 4 40 ⨾ number 4 total) q.word q.byte)
      (listed info_lay (q.at + 8 + 4 * n - start)) (times n info w x q.word q.byte)
  unfolding body_lay user_lay table_from written
  user_splits =
      let c = times-length info w x n q.word q.byte h.judged in
      let m : q.at + 8 + 4 * n - start ≡ 40 + 4 * n = omega (arith, s) in
      head_splits h h.value h.judged (rw (c, m))

  pub user_ready : Ready (listed info_lay (q.at + 8 + 4 * n - start)) (times n info w x q.word q.byte) (q.at + 8) most
  user_ready = head_ready user_splits q.at 8 (unfold size in refl) h

  -- what is left out is among the infos
  pub user_left : {u : Pen} {gone : ℕ} → u ≡ pen_behind (listed info_lay (q.at + 8 + 4 * n - start)) (times n info w x q.word q.byte) (q.at + 8)
      → gone ≡ out_of (times n info w x q.word q.byte) → start + gone ≤ u.at
  user_left {u} {gone} e f =
      let b : u.at ≡ q.at + 8 + size (listed info_lay (q.at + 8 + 4 * n - start) h.value) =
      ap (λ (z : Pen). z.at) (e ∙ behind-fine (listed info_lay (q.at + 8 + 4 * n - start)) h.judged (q.at + 8)) in
      let g : gone ≡ infos_out h.value = f ∙ out_fine h.judged in
      omega (arith, b, g, s, listed-size info_lay (q.at + 8 + 4 * n - start) h.value, infos-most h.value)

  -- the total size is patched when the infos are there
  pub user_done : (l0 : List ℕ) {l1 l2 l3 l4 : List ℕ} {u : Pen} {p gone : ℕ} → l1 ≡ put 4 l0 q.at 40 → p ≡ q.at + 4 → l2 ≡ put 4 l1 (q.at + 4) 0
      → u ≡ pen_behind (listed info_lay (q.at + 8 + 4 * n - start)) (times n info w x q.word q.byte) (q.at + 8)
      → l3 ≡ laid (listed info_lay (q.at + 8 + 4 * n - start)) (times n info w x q.word q.byte) (q.at + 8) l2
      → gone ≡ out_of (times n info w x q.word q.byte) → l4 ≡ put 4 l3 p (u.at - (start + gone))
      → Leaves (body_lay 2) (times n info w x q.word q.byte) q.at l0 u l4
  unfolding body_lay user_lay table_from size written
  user_done l0 {l1} {l2} {l3} {l4} {u} {p} {gone} e1 ep e2 eu e3 eg e4 =
      let c = times-length info w x n q.word q.byte h.judged in
      let b : u.at ≡ q.at + 8 + size (listed info_lay (q.at + 8 + 4 * n - start) h.value) =
      ap (λ (z : Pen). z.at) (eu ∙ behind-fine (listed info_lay (q.at + 8 + 4 * n - start)) h.judged (q.at + 8)) in
      let z = listed-size info_lay (q.at + 8 + 4 * n - start) h.value in
      let g : gone ≡ infos_out h.value = eg ∙ out_fine h.judged in
      let t : u.at - (start + gone) ≡ 40 + 4 * n + size (parts info_lay h.value) - infos_out h.value = omega (arith, s, b, c, z, g) in
      let m : q.at + 8 + 4 * n - start ≡ 40 + 4 * n = omega (arith, s) in
      let all : Wrote l0 q.at (number 4 40 ⨾ number 4 0 ⨾ listed info_lay (q.at + 8 + 4 * n - start) h.value) l3 =
      wrote_then (wrote_number e1) (wrote_then (wrote_number e2) (record { same = e3 ∙ laid-fine (listed info_lay (q.at + 8 + 4 * n - start)) h.judged (q.at + 8) l2 }) (omega arith)) refl in (
        eu ∙ split_behind user_splits q.at (record { word = q.word; byte = q.byte; at = q.at + 8 }) (unfold pen_behind in refl),
        whole-laid (body_lay 2) h (wrote_patched all p (u.at - (start + gone)) ep e4) (rw (t, m, c, append_assoc)),
      )

-- ---- a content

module _ (w x : List ℕ) (i j at : ℕ) {most : ℕ} (h : Ready content_lay (content w x i j) at most) where
  c : ContentAt w x i j h.value h.word h.byte
  c = content_at_lem w x i j h.judged

  name_size_lem : size (name_lay h.value.name) ≡ 28
  unfolding name_lay size
  name_size_lem =
      let t = text_at (λ n. leb n 28) w x i j c.name in
      let l : get_or w i 0 ≤ 28 = leb-true (get_or w i 0) 28 t.good in
      omega (arith, t.size, l, length-replicate {A = ℕ} (28 - length h.value.name) 0)

  abbrev frame : Layout
  frame = number 1 (length h.value.infos) ⨾ number 1 h.value.type ⨾ number 2 0

  body : written (content_body h.value) ≡ written (name_lay h.value.name ⨾ frame ⨾ body_lay h.value.type h.value.infos)
  unfolding content_body name_lay body_lay infos_from listed written
  body = simp append_assoc

  body-size : size (content_body h.value) ≡ 32 + size (body_lay h.value.type h.value.infos)
  unfolding size
  body-size = sym (size-written (content_body h.value)) ∙ ap length body ∙ size-written (name_lay h.value.name ⨾ frame ⨾ body_lay h.value.type h.value.infos) ∙ omega (arith, name_size_lem)

  whole-size : size (content_lay h.value) ≡ size (content_body h.value) + padding_of (size (content_body h.value))
  unfolding content_lay size
  whole-size = ap (λ (k : ℕ). size (content_body h.value) + k) (length-replicate {A = ℕ} (padding_of (size (content_body h.value))) 0)

  pub name_ready : Ready name_lay (next_text (λ n. leb n 28) w x i j) at most
  name_ready = ready_within h c.name (omega (arith, name_size_lem, body-size, whole-size))

  -- behind the name
  module _ (q : Pen) (eq : q ≡ pen_behind name_lay (next_text (λ n. leb n 28) w x i j) at) where
    placed : q ≡ record { word = c.word; byte = c.byte; at = at + size (name_lay h.value.name) }
    placed = eq ∙ behind-fine name_lay c.name at

    pub content-fits : (q.word + 2 ≤ length w) × (q.at ≡ at + 28) × (at + 32 ≤ limit)
    content-fits =
        (rw (ap (λ (z : Pen). z.word) placed) c.there, ap (λ (z : Pen). z.at) placed ∙ ap (λ (k : ℕ). at + k) name_size_lem, omega (arith, body-size, whole-size, h.short))

    -- in the record that the writer has there, which is the same one
    module _ {y z : List ℕ} (ey : y ≡ w) (ez : z ≡ x) (kind n : ℕ) (ek : kind ≡ get_or y q.word 0) (en : n ≡ get_or y (q.word + 1) 0) where
      infos-judged : times n info y z (q.word + 2) q.byte ≡ fine h.value.infos h.word h.byte
      infos-judged = rw (en, ey, ez, ap (λ (z : Pen). z.word) placed, ap (λ (z : Pen). z.byte) placed) c.infos

      kind_is : h.value.type ≡ kind
      kind_is = c.type ∙ rw (ek, ey, ap (λ (z : Pen). z.word) placed) refl

      pub body_ready : Ready (body_lay kind) (times n info y z (q.word + 2) q.byte) (at + 32) most
      body_ready = ready_within h infos-judged (rw (← kind_is) (omega (arith, body-size, whole-size)))

      pub content_done : (l0 : List ℕ) {l1 l2 l3 l4 : List ℕ} {e u : Pen} → l1 ≡ laid name_lay (next_text (λ n. leb n 28) w x i j) at l0
          → l2 ≡ sets l1 (at + 28) (written (number 1 n ⨾ number 1 kind ⨾ number 2 0))
          → e ≡ pen_behind (body_lay kind) (times n info y z (q.word + 2) q.byte) (at + 32)
          → l3 ≡ laid (body_lay kind) (times n info y z (q.word + 2) q.byte) (at + 32) l2
          → u.word ≡ e.word → u.byte ≡ e.byte → u.at ≡ e.at + padding_of (e.at - at) → l4 ≡ sets l3 e.at (replicate (padding_of (e.at - at)) 0)
          → Leaves content_lay (content w x i j) at l0 u l4
      unfolding content_lay size written
      content_done l0 {l1} {l2} {l3} {l4} {e} {u} e1 e2 ee e3 uw ub ua e4 =
          let count : n ≡ length h.value.infos = sym (times-length info y z n (q.word + 2) q.byte infos-judged) in
          let pe : e ≡ record { word = h.word; byte = h.byte; at = at + 32 + size (body_lay kind h.value.infos) } = ee ∙ behind-fine (body_lay kind) infos-judged (at + 32) in
          let pa : e.at ≡ at + 32 + size (body_lay kind h.value.infos) = ap (λ (z : Pen). z.at) pe in
          let bs : size (content_body h.value) ≡ 32 + size (body_lay kind h.value.infos) = rw (← kind_is) body-size in
          let sz : e.at - at ≡ size (content_body h.value) = omega (arith, pa, bs) in
          let w1 : Wrote l0 at (name_lay h.value.name) l1 = record { same = e1 ∙ laid-fine name_lay c.name at l0 } in
          let w2 : Wrote l1 (at + 28) (number 1 n ⨾ number 1 kind ⨾ number 2 0) l2 = record { same = e2 } in
          let w3 : Wrote l2 (at + 32) (body_lay kind h.value.infos) l3 = record { same = e3 ∙ laid-fine (body_lay kind) infos-judged (at + 32) l2 } in
          let w4 : Wrote l3 e.at (zeros (padding_of (size (content_body h.value)))) l4 = wrote_bytes (e4 ∙ rw sz refl) in
          let same : written (name_lay h.value.name ⨾ (number 1 n ⨾ number 1 kind ⨾ number 2 0) ⨾ body_lay kind h.value.infos) ≡ written (content_body h.value) =
          rw (count, ← kind_is) (sym body) in
          let all : Wrote l0 at ((name_lay h.value.name ⨾ (number 1 n ⨾ number 1 kind ⨾ number 2 0) ⨾ body_lay kind h.value.infos) ⨾ zeros (padding_of (size (content_body h.value)))) l4 =
          wrote_then (wrote_then w1 (wrote_then w2 w3 (omega arith)) (omega (arith, name_size_lem))) w4 (omega (arith, name_size_lem, pa)) in (
            whole-behind content_lay h (uw ∙ ap (λ (z : Pen). z.word) pe) (ub ∙ ap (λ (z : Pen). z.byte) pe)
                (ua ∙ rw sz (omega (arith, whole-size, pa, bs))),
            whole-laid content_lay h all (ap (λ (b : List ℕ). b ++ replicate (padding_of (size (content_body h.value))) 0) same),
          )

-- ---- a section

-- the texture names
module _ (n : ℕ) (w x : List ℕ) (i j at : ℕ) (twenty : at ≡ 20) {most : ℕ} (h : Ready names_lay (times n (next_text (wide 4)) w x i j) at most) where
  names_count : length h.value ≡ n
  names_count = times-length (next_text (wide 4)) w x n i j h.judged

  end : ℕ
  end = 20 + (4 * length h.value + size (parts ended h.value))

  names_size : size (names_lay h.value) ≡ 4 * n + size (parts ended h.value) + padding_of end
  unfolding names_lay size end
  names_size = omega (arith, names_count, listed-size ended (4 * length h.value) h.value, length-replicate {A = ℕ} (padding_of (20 + (4 * length h.value + size (parts ended h.value)))) 0)

  pub names_ready : Ready (listed ended (at + 4 * n - 20)) (times n (next_text (wide 4)) w x i j) at most
  names_ready =
      let z = listed-size ended (at + 4 * n - 20) h.value in
      ready_within h h.judged (omega (arith, names_size, names_count, z))

  pub names_done : (l0 : List ℕ) {l1 l2 : List ℕ} {q u : Pen} → q ≡ pen_behind (listed ended (at + 4 * n - 20)) (times n (next_text (wide 4)) w x i j) at
      → l1 ≡ laid (listed ended (at + 4 * n - 20)) (times n (next_text (wide 4)) w x i j) at l0
      → u.word ≡ q.word → u.byte ≡ q.byte → u.at ≡ q.at + padding_of q.at → l2 ≡ sets l1 q.at (replicate (padding_of q.at) 0)
      → Leaves names_lay (times n (next_text (wide 4)) w x i j) at l0 u l2
  unfolding names_lay written size end
  names_done l0 {l1} {l2} {q} {u} e1 e2 uw ub ua e3 =
      let m : at + 4 * n - 20 ≡ 4 * length h.value = omega (arith, names_count, twenty) in
      let pq : q ≡ record { word = h.word; byte = h.byte; at = at + size (listed ended (at + 4 * n - 20) h.value) } = e1 ∙ behind-fine (listed ended (at + 4 * n - 20)) h.judged at in
      let pa : q.at ≡ at + size (listed ended (at + 4 * n - 20) h.value) = ap (λ (z : Pen). z.at) pq in
      let z = listed-size ended (at + 4 * n - 20) h.value in
      let en : q.at ≡ 20 + (4 * length h.value + size (parts ended h.value)) = omega (arith, pa, z, twenty) in
      let w1 : Wrote l0 at (listed ended (4 * length h.value) h.value) l1 = record { same = e2 ∙ laid-fine (listed ended (at + 4 * n - 20)) h.judged at l0 ∙ rw m refl } in
      let w2 : Wrote l1 q.at (zeros (padding_of (20 + (4 * length h.value + size (parts ended h.value))))) l2 = wrote_bytes (e3 ∙ rw en refl) in (
        whole-behind names_lay h (uw ∙ ap (λ (z : Pen). z.word) pq) (ub ∙ ap (λ (z : Pen). z.byte) pq)
            (ua ∙ rw en (omega (arith, names_size, names_count, twenty))),
        whole-laid names_lay h (wrote_then w1 w2 (rw m at pa)) refl,
      )

module _ (w x : List ℕ) {most : ℕ} (h : Ready section_lay (section w x 0 0) 0 most) where
  at : SectionAt w x h.value h.word h.byte
  at = section_at w x h.judged

  abbrev ts : List (List ℕ)
  ts = h.value.textures

  abbrev cs : List AnimContent
  cs = h.value.contents

  pieces : written (bytes own_bytes ⨾ number 4 (section_size h.value) ⨾ frame_lay h.value.frames h.value.looping (length ts) (length cs)
      ⨾ number 4 (content_table h.value) ⨾ names_lay ts ⨾ listed content_lay (content_table h.value + 4 * length cs) cs) ≡ written (section_lay h.value)
  unfolding section_lay frame_lay rowLay names_lay listed names_end written
  pieces = simp append_assoc

  names_end_lem : size (names_lay ts) + 20 ≡ content_table h.value
  unfolding names_lay content_table names_end size
  names_end_lem = omega (arith, listed-size ended (4 * length ts) ts, length-replicate {A = ℕ} (padding_of (20 + (4 * length ts + size (parts ended ts)))) 0)

  contents_end : content_table h.value + size (listed content_lay (content_table h.value + 4 * length cs) cs) ≡ section_size h.value
  unfolding section_size
  contents_end = ap (λ (k : ℕ). content_table h.value + k) (listed-size content_lay (content_table h.value + 4 * length cs) cs)

  module _ (n : ℕ) (en : n ≡ get_or w 2 0) where
    names_judged : times n (next_text (wide 4)) w x 4 0 ≡ fine ts at.word at.byte
    names_judged = rw en at.textures

    pub names_there : Ready names_lay (times n (next_text (wide 4)) w x 4 0) 20 most
    names_there = ready_within h names_judged (omega (arith, names_end_lem, contents_end, section_size_lem h.value))

    -- and in the record that the writer has there, which is the same one
    module _ (q : Pen) (eq : q ≡ pen_behind names_lay (times n (next_text (wide 4)) w x 4 0) 20) {y z : List ℕ} (ey : y ≡ w) (ez : z ≡ x) (k : ℕ) (ek : k ≡ get_or w 3 0) where
      after_names : q ≡ record { word = at.word; byte = at.byte; at = 20 + size (names_lay ts) }
      after_names = eq ∙ behind-fine names_lay names_judged 20

      table_at : q.at ≡ content_table h.value
      table_at = ap (λ (z : Pen). z.at) after_names ∙ omega (arith, names_end_lem)

      contents-judged : times k content y z q.word q.byte ≡ fine cs h.word h.byte
      contents-judged = rw (ek, ey, ez, ap (λ (z : Pen). z.word) after_names, ap (λ (z : Pen). z.byte) after_names) at.contents

      from : q.at + 4 * k - 0 ≡ content_table h.value + 4 * length cs
      from = omega (arith, table_at, times-length content y z k q.word q.byte contents-judged)

      pub contents_there : Ready (listed content_lay (q.at + 4 * k - 0)) (times k content y z q.word q.byte) q.at most
      contents_there = ready_within h contents-judged (rw (from, table_at) (omega (arith, contents_end, section_size_lem h.value)))

      pub section_done : (l0 : List ℕ) {l1 l2 l3 l4 l5 l6 : List ℕ} {e : Pen} {p s : ℕ}
          → l1 ≡ sets l0 0 (written (bytes own_bytes ⨾ number 4 0 ⨾ frame_lay (get_or w 0 0) (get_or w 1 0) (get_or w 2 0) (get_or w 3 0))) → l2 ≡ put 4 l1 16 0
          → l3 ≡ laid names_lay (times n (next_text (wide 4)) w x 4 0) 20 l2 → p ≡ 16 → l4 ≡ put 4 l3 p (q.at - 0)
          → e ≡ pen_behind (listed content_lay (q.at + 4 * k - 0)) (times k content y z q.word q.byte) q.at
          → l5 ≡ laid (listed content_lay (q.at + 4 * k - 0)) (times k content y z q.word q.byte) q.at l4 → s ≡ 4 → l6 ≡ put 4 l5 s (e.at - 0)
          → l6 ≡ laid section_lay (section w x 0 0) 0 l0
      unfolding frame_lay rowLay size written
      section_done l0 {l1} {l2} {l3} {l4} {l5} {l6} {e} {p} {s} e1 e2 e3 ep e4 ee e5 es e6 =
          let nt : n ≡ length ts = sym (times-length (next_text (wide 4)) w x n 4 0 names_judged) in
          let nc : k ≡ length cs = sym (times-length content y z k q.word q.byte contents-judged) in
          let end : e.at ≡ section_size h.value =
          ap (λ (z : Pen). z.at) (ee ∙ behind-fine (listed content_lay (q.at + 4 * k - 0)) contents-judged q.at) ∙ rw (from, table_at) contents_end in
          let w1 : Wrote l0 0 (bytes own_bytes ⨾ number 4 0 ⨾ frame_lay (get_or w 0 0) (get_or w 1 0) (get_or w 2 0) (get_or w 3 0)) l1 = record { same = e1 } in
          let w2 : Wrote l1 16 (nothing ⨾ number 4 0 ⨾ names_lay ts) l3 =
          wrote_like (wrote_then {b = names_lay ts} (wrote_number e2) (record { same = e3 ∙ laid-fine names_lay names_judged 20 l2 }) refl) refl in
          let w3 : Wrote l1 16 (nothing ⨾ number 4 q.at ⨾ names_lay ts) l4 = wrote_patched w2 p q.at ep (let z : q.at - 0 ≡ q.at = omega arith in rw z at e4) in
          let w4 : Wrote l4 q.at (listed content_lay (q.at + 4 * k - 0) cs) l5 = record { same = e5 ∙ laid-fine (listed content_lay (q.at + 4 * k - 0)) contents-judged q.at l4 } in
          let w5 : Wrote l0 0 ((bytes own_bytes ⨾ number 4 0 ⨾ frame_lay (get_or w 0 0) (get_or w 1 0) (get_or w 2 0) (get_or w 3 0)) ⨾ (nothing ⨾ number 4 q.at ⨾ names_lay ts) ⨾ listed content_lay (q.at + 4 * k - 0) cs) l5 =
          wrote_then w1 (wrote_then w3 w4 (omega (arith, table_at, names_end_lem))) refl in
          let w6 : Wrote l0 0 (bytes own_bytes ⨾ number 4 0 ⨾ frame_lay (get_or w 0 0) (get_or w 1 0) (get_or w 2 0) (get_or w 3 0) ⨾ number 4 q.at ⨾ names_lay ts ⨾ listed content_lay (q.at + 4 * k - 0) cs) l5 =
          wrote_like w5 (simp append_assoc) in
          whole-laid section_lay h (wrote_patched w6 s e.at es (let z : e.at - 0 ≡ e.at = omega arith in rw z at e6)) (rw (end, from, table_at, sym at.frames, sym at.looping, sym en ∙ nt, sym ek ∙ nc) pieces)
