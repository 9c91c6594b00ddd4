-- What reading gives is a record within the limits but for the length of names. It is the record that the bytes are, which is within them
-- whatever the bytes are.
-- Assumes nothing.
use Prim.Native.Nat.{ℕ, zero, suc, ◌+◌, ◌-◌, ◌*◌, ◌^◌, ◌<◌, ◌≤◌}
use mathlib.Core.Path.{◌≡◌, refl, ap, sym, ◌∙◌}
use mathlib.Core.Bool.{true}
use mathlib.Core.List.{List, [], ◌∷◌}
use mathlib.Core.Logic.{⊎_elim}
use native.Mathlib.Omega.{arith}
use borrow.Author.Tests.{leb-true}
use lib.Dec.{leb, eqb}
use lib.ListN.{length, take, drop, length-take, length-drop}
use lib.Seq.{slice, length-take-le, take-take}
use Rattle.base.specs.Number.{val, get}
use Rattle.base.specs.Run.{numbers_at}
use Rattle.base.specs.Text.{before_zero, zero_free}
use Rattle.base.specs.Utf8.{replacement, decode}
use Rattle.base.proofs.Numbers.{Bytes, get_lt}
use Rattle.base.proofs.Runs.{length-numbers}
use Rattle.base.proofs.Zeros.{before-le, before_text, free_of, free_at}
use Rattle.base.proofs.utf8.Laws.{well_decode, decode_bound, Each, each-decode}
use Rattle.bflan.specs.pai1.FieldValues.{numbers_in}
use Rattle.bflan.specs.pai1.Letters.{fleu, letters_of, target_of}
use Rattle.bflan.specs.Limits.{limit, All, Fits, FineText}
use Rattle.bflan.specs.pai1.Limits.{FineTarget, FineDatum, FineInfo, FineNamed, Readable}
use Rattle.bflan.specs.pai1.Places.{info_table_in}
use Rattle.bflan.specs.Reader.{ok, Item}
use Rattle.bflan.specs.pai1.Reading.{curve_of, count_of, type_of, flag_of, section}
use Rattle.bflan.specs.pai1.Record.{PaneAnimInfo, key_widths, words, texts}
use Rattle.bflan.specs.pai1.RecordAt.{name_size, ended_at, target_at, datum_at, info_at, content_at, record_at}
use Rattle.bflan.specs.Cells.{words_in, bytes_in}
use Rattle.bflan.specs.Items.{shown_at, words_of, texts_of}
use Rattle.bflan.proofs.reader.SectionBounds.{count-le}
use Rattle.bflan.proofs.reader.Unstopped.{pick_by}
use Rattle.bflan.proofs.letters.Codes.{letters_fit_lem, target_fits_lem, target_fits-kept, letters_is}
use Rattle.bflan.proofs.reader.Emits.{shown_part}
use Rattle.bflan.proofs.judge.Laws.{free_none}
use Rattle.bflan.proofs.round_trip.ReadBack.{words-shown, texts-shown}
use Rattle.bflan.proofs.round_trip.ReadParts.{length-parts, length-keys, parts_all, keys_all, data_all, data_most, info_by, section-shown}

-- ---- texts

abbrev NonZero : ℕ → Type 0
NonZero v = v ≡ 0 → ⊥

-- U+FFFD has no zero
replacement_free : Each NonZero replacement
replacement_free zero h e = omega arith
replacement_free (suc zero) h e = omega arith
replacement_free (suc (suc zero)) h e = omega arith
replacement_free (suc (suc (suc i))) h e = omega arith

-- the decoding of a text with no zero has none
decode_free : (t : List ℕ) → before_zero t ≡ length t → zero_free (decode t) ≡ true
decode_free t e = free_none (decode t) (free_of (decode t) (each-decode NonZero replacement_free t (λ i h. free_at t i (omega arith))))

-- a part of a section in which no zero stands is shown as a text within the limits, of at most three bytes for each of its own
shown-fine : (s : List ℕ) (a n : ℕ) → length s ≤ limit → before_zero (take n (drop a s)) ≡ n → n ≤ length (drop a s)
    → FineText (shown_at s a n) × (length (shown_at s a n) ≤ 3 * n)
shown-fine s a n short z h =
    let m : a + n - a ≡ n = omega arith in
    let e : slice a (a + n) s ≡ take n (drop a s) = sym (shown_part s a n) ∙ rw m refl in
    let l : length (take n (drop a s)) ≡ n = length-take-le n (drop a s) h in
    let d : length (drop a s) ≡ length s - a = length-drop a s in
    let b : length (decode (take n (drop a s))) ≤ 3 * length (take n (drop a s)) = decode_bound (take n (drop a s)) in
    rw e (
      record {
        short = omega arith;
        well_formed = well_decode (take n (drop a s));
        zero_free = decode_free (take n (drop a s)) (z ∙ sym l);
      },
      omega arith,
    )

-- ---- what single numbers read as

-- a curve is 0 to 2, a type 0 to 4, looping 0 or 1
curve_lt : (curve : ℕ) → curve_of curve < 3
unfolding curve_of
curve_lt curve = pick_by (λ c. c < 3) (leb curve 2) (λ e. let h = leb-true curve 2 e in omega arith) (λ e. omega arith)

type_lt : (type : ℕ) → type_of type < 5
unfolding type_of
type_lt type = pick_by (λ c. c < 5) (leb type 4) (λ e. let h = leb-true type 4 e in omega arith) (λ e. omega arith)

flag_lt : (b : ℕ) → flag_of b < 2
unfolding flag_of
flag_lt b = pick_by (λ c. c < 2) (eqb b 0) (λ e. omega arith) (λ e. omega arith)

-- FLEU is not word 0
fleu_some : fleu ≡ 0 → ⊥
unfolding fleu val
fleu_some e = omega arith

-- letters other than FLEU are not kept as FLEU
pub standard-kept : (l : ℕ) → (l ≡ fleu → ⊥) → letters_of l ≡ fleu → ⊥
standard-kept l h e = ⊎_elim (λ q. h (sym q ∙ e)) (λ q. fleu_some (sym e ∙ q)) (letters_is l)

-- the record that was read: its words and its texts
pub record ReadTree (s : List ℕ) (is : List Item) : Type 0 where
  pub tree : PaneAnimInfo
  pub readable : Readable tree
  pub words : words tree ≡ words_of s is
  pub texts : texts tree ≡ texts_of s is

-- ---- the record that the bytes are, whatever they are: it is within the limits but for the length of names

module _ (s : List ℕ) (bytes : Bytes s) (short : length s ≤ limit) where
  -- a text that ends at a zero, and one in a field of 28 bytes
  ended-fine : (i : ℕ) → FineText (ended_at s i)
  unfolding ended_at
  ended-fine i = (shown-fine s i (before_zero (drop i s)) short (before_text (drop i s)) (before-le (drop i s))).0

  name-fine : (b : ℕ) → FineText (shown_at s b (name_size s b)) × (length (shown_at s b (name_size s b)) ≤ 84)
  name-fine b =
      let t = take 28 (drop b s) in
      let m = name_size s b in
      let a : m ≤ length t = before-le t in
      let l = length-take 28 (drop b s) in
      let e : take m t ≡ take m (drop b s) = take-take m 28 (drop b s) (omega (arith, a, l)) in
      let f = shown-fine s b m short (ap before_zero (sym e) ∙ before_text t) (omega (arith, a, l)) in
      (f.0, omega (arith, a, l, f.1))

  -- numbers
  fields_fit : (ks : List ℕ) (at : ℕ) → Fits ks (numbers_in ks s at)
  unfolding numbers_in
  fields_fit [] at = tt
  fields_fit (k ∷ ks) at = (get_lt k s at bytes, fields_fit ks (at + k))

  values-fit : (n at : ℕ) → All (λ v. v < 256 ^ 4) (numbers_at n s at)
  unfolding numbers_at
  values-fit zero at = tt
  values-fit (suc n) at = (get_lt 4 s at bytes, values-fit n (at + 4))

  -- level by level
  target-fine : (letters b : ℕ) → FineTarget (letters_of letters) (target_at s letters b)
  unfolding target_at
  target-fine letters b =
      let curve = get 1 s (b + 2) in
      let n = get 2 s (b + 4) in
      record {
        layer = get_lt 1 s b bytes;
        target = target_fits-kept letters (target_of letters (get 1 s (b + 1))) ∙ target_fits_lem letters (get 1 s (b + 1));
        curve = curve_lt curve;
        count = omega (arith, length-keys s (curve_of curve) (count_of curve n) (b + get 4 s (b + 8)), count-le curve n, get_lt 2 s (b + 4) bytes);
        keys = keys_all s (Fits (key_widths (curve_of curve))) (curve_of curve) _ _ (fields_fit (key_widths (curve_of curve)));
      }

  datum-fine : (p : ℕ) → FineDatum (datum_at s p)
  unfolding datum_at
  datum-fine p =
      record {
        header_size = get_lt 4 s p bytes;
        unk1 = get_lt 2 s (p + 4) bytes;
        unk2 = get_lt 2 s (p + 6) bytes;
        base_count = get_lt 4 s (p + 8) bytes;
        unk3 = get_lt 4 s (p + 12) bytes;
        count = length-numbers (3 * get 4 s (p + 8)) s (p + 16);
        values = values-fit (3 * get 4 s (p + 8)) (p + 16);
        key = ended-fine _;
      }

  info-fine : (b : ℕ) → FineInfo (info_at s b)
  info-fine b =
      info_by s FineInfo b (omega (arith, data_most s n (b + 8), lt), data_all s FineDatum _ _ datum-fine)
      (λ d.
      record {
        letters = letters_fit_lem letters;
        standard = standard-kept letters d;
        count = rw (length-parts s (target_at s letters) b n (b + 8)) lt;
        targets = parts_all s (FineTarget (letters_of letters)) (target_at s letters) _ _ _ (target-fine letters);
      })
    where
      letters : ℕ
      letters = get 4 s b

      n : ℕ
      n = get 1 s (b + 4)

      lt : n < 256
      lt = get_lt 1 s (b + 4) bytes

  content-fine : (b : ℕ) → FineNamed 84 (content_at s b)
  unfolding content_at
  content-fine b =
      record {
        short = (name-fine b).1;
        name = (name-fine b).0;
        type = type_lt (get 1 s (b + 29));
        count = rw (length-parts s (info_at s) b (get 1 s (b + 28)) (info_table_in s b)) (get_lt 1 s (b + 28) bytes);
        infos = parts_all s FineInfo (info_at s) _ _ _ info-fine;
      }

  record_readable : Readable (record_at s)
  unfolding record_at
  record_readable =
      record {
        frames = get_lt 2 s 8 bytes;
        looping = flag_lt (get 1 s 10);
        texture_count = rw (length-parts s (ended_at s) 20 (get 2 s 12) 20) (get_lt 2 s 12 bytes);
        content_count = rw (length-parts s (content_at s) 0 (get 2 s 14) (get 4 s 16)) (get_lt 2 s 14 bytes);
        textures = parts_all s FineText (ended_at s) _ _ _ ended-fine;
        contents = parts_all s (FineNamed 84) (content_at s) _ _ _ content-fine;
      }

  -- so what reading gives are the words and the texts of a record within these limits
  pub read_tree : (is : List Item) (end : ℕ) → section s 0 ≡ ok is end → ReadTree s is
  read_tree is end e =
      let shows = section-shown s is end e in
      record {
        tree = record_at s;
        readable = record_readable;
        words = sym (words-shown s is ∙ ap words_in shows);
        texts = sym (texts-shown s is ∙ ap bytes_in shows);
      }
