-- Reading what is written gives the record's cells back: the laws of single parts.
-- Assumes nothing.
use Prim.Native.Nat.{ℕ, zero, suc, ◌+◌, ◌<◌}
use mathlib.Core.Path.{◌≡◌, refl, ap, ap₂, sym, ◌∙◌}
use mathlib.Core.List.{List, [], ◌∷◌, ◌++◌, map}
use native.Mathlib.Omega.{arith}
use lib.ListN.{length}
use Rattle.bflan.specs.Layout.{Layout, size, parts}
use Rattle.bflan.specs.pai1.Layout.{key_skip, key_lay}
use Rattle.bflan.specs.pai1.Places.{total}
use Rattle.bflan.specs.Limits.{All, Fits}
use Rattle.bflan.specs.Reader.{Res, ok, P, ◌>>=◌, ret, Item, word, text, many, visit, skip}
use Rattle.bflan.specs.pai1.Reading.{key_of}
use Rattle.bflan.specs.Cells.{Cell, word as wordCell, chars, words_in, bytes_in, each}
use Rattle.bflan.specs.pai1.Record.{key_widths}
use Rattle.bflan.specs.Items.{shown_at, words_of, texts_of, replacements_of}
use Rattle.bflan.proofs.Layouts.{Stands, stands_left, stands_right, stands_to, size-row, row_stands, offsets}
use Rattle.bflan.proofs.reader.Rows.{row_then}
use Rattle.bflan.proofs.reader.Walks.{before, joined, many_suc, visit_cons, visit_nil}

-- ---- items as cells

unfoldable pub shown_in : List ℕ → List Item → List Cell
shown_in s [] = []
shown_in s (word v ∷ is) = wordCell v ∷ shown_in s is
shown_in s (text a n ∷ is) = chars (shown_at s a n) ∷ shown_in s is

module _ (s : List ℕ) where
  pub shown-append : (is js : List Item) → shown_in s (is ++ js) ≡ shown_in s is ++ shown_in s js
  unfolding shown_in
  shown-append [] js = refl
  shown-append (word v ∷ is) js = ap (λ (l : List Cell). wordCell v ∷ l) (shown-append is js)
  shown-append (text a n ∷ is) js = ap (λ (l : List Cell). chars (shown_at s a n) ∷ l) (shown-append is js)

  pub shown-words : (vs : List ℕ) → shown_in s (map word vs) ≡ map wordCell vs
  unfolding shown_in
  shown-words [] = refl
  shown-words (v ∷ vs) = ap (λ (l : List Cell). wordCell v ∷ l) (shown-words vs)

  -- the words and the text bytes of items are those of their cells
  pub words-shown : (is : List Item) → words_of s is ≡ words_in (shown_in s is)
  unfolding shown_in words_of words_in
  words-shown [] = refl
  words-shown (word v ∷ is) = ap (λ (l : List ℕ). v ∷ l) (words-shown is)
  words-shown (text a n ∷ is) = ap (λ (l : List ℕ). length (shown_at s a n) ∷ l) (words-shown is)

  pub texts-shown : (is : List Item) → texts_of s is ≡ bytes_in (shown_in s is)
  unfolding shown_in texts_of bytes_in
  texts-shown [] = refl
  texts-shown (word v ∷ is) = texts-shown is
  texts-shown (text a n ∷ is) = ap (λ (l : List ℕ). shown_at s a n ++ l) (texts-shown is)

  -- what the decodings put in
  pub count-append : (is js : List Item) → replacements_of s (is ++ js) ≡ replacements_of s is + replacements_of s js
  unfolding replacements_of
  count-append [] js = omega arith
  count-append (word v ∷ is) js = count-append is js
  count-append (text a n ∷ is) js = omega (arith, count-append is js)

  pub count-words : (vs : List ℕ) → replacements_of s (map word vs) ≡ 0
  unfolding replacements_of
  count-words [] = refl
  count-words (v ∷ vs) = count-words vs

-- ---- a reading that gives these cells, each text as it stands, and the position after them

pub record Reads (s : List ℕ) (r : Res (List Item)) (cs : List Cell) (q : ℕ) : Type 0 where
  pub items : List Item
  pub reads : r ≡ ok items q
  pub shows : shown_in s items ≡ cs
  pub none : replacements_of s items ≡ 0

-- wherever it ends
pub record ReadsOn (s : List ℕ) (r : Res (List Item)) (cs : List Cell) : Type 0 where
  pub next : ℕ
  pub here : Reads s r cs next

module _ {s : List ℕ} where
  pub reads_as : {r r' : Res (List Item)} {cs cs' : List Cell} {q q' : ℕ} → r ≡ r' → cs ≡ cs' → q ≡ q' → Reads s r cs q → Reads s r' cs' q'
  reads_as er ec eq h = record { items = h.items; reads = sym er ∙ h.reads ∙ ap (ok h.items) eq; shows = h.shows ∙ ec; none = h.none }

  pub reads_none : (q : ℕ) → Reads s (ok [] q) [] q
  unfolding shown_in replacements_of
  reads_none q = record { items = []; reads = refl; shows = refl; none = refl }

  pub reads_before : (is : List Item) → replacements_of s is ≡ 0 → {r : Res (List Item)} {cs : List Cell} {q : ℕ} → Reads s r cs q → Reads s (before is r) (shown_in s is ++ cs) q
  reads_before is z h =
      record {
        items = is ++ h.items;
        reads = ap (before is) h.reads;
        shows = shown-append s is h.items ∙ ap (λ (l : List Cell). shown_in s is ++ l) h.shows;
        none = let a = count-append s is h.items in omega (arith, a, z, h.none);
      }

  pub reads_joined : {r : Res (List Item)} (g : ℕ → Res (List Item)) {cs ds : List Cell} {p q : ℕ} → Reads s r cs p → Reads s (g p) ds q → Reads s (joined r g) (cs ++ ds) q
  reads_joined {r} g {cs} {ds} {p} {q} h k =
      record {
        items = h.items ++ k.items;
        reads = ap (λ (z : Res (List Item)). joined z g) h.reads ∙ ap (before h.items) k.reads;
        shows = shown-append s h.items k.items ∙ ap₂ (λ (a b : List Cell). a ++ b) h.shows k.shows;
        none = let a = count-append s h.items k.items in omega (arith, a, h.none, k.none);
      }

  pub reads-words : (vs : List ℕ) (q : ℕ) → Reads s (ok (map word vs) q) (map wordCell vs) q
  reads-words vs q = record { items = map word vs; reads = refl; shows = shown-words s vs; none = count-words s vs }

-- ---- parts one after another, and parts at offsets

module _ {X : Type 0} (lay : X → Layout) (cells : X → List Cell) (Q : X → Type 0) (s : List ℕ) where
  abbrev pub ReadsPart : P (List Item) → Type 0
  ReadsPart p = (i : ℕ) (x : X) → Q x → Stands s i (lay x) → Reads s (p s i) (cells x) (i + size (lay x))

  abbrev pub ReadsAt : (ℕ → P (List Item)) → Type 0
  ReadsAt p = (b i : ℕ) (x : X) → Q x → Stands s b (lay x) → ReadsOn s (p b s i) (cells x)

  pub many-reads : (p : P (List Item)) → ReadsPart p → (i : ℕ) (xs : List X) → All Q xs → Stands s i (parts lay xs)
      → Reads s (many (length xs) p s i) (each cells xs) (i + size (parts lay xs))
  unfolding parts each size
  many-reads p law i [] q h = unfold many in reads_as refl refl (omega arith) (reads_none i)
  many-reads p law i (x ∷ xs) q h =
      let a = law i x q.0 (stands_left h) in
      let b = many-reads p law (i + size (lay x)) xs q.1 (stands_right h) in
      reads_as (sym (many_suc (length xs) p s i)) refl (omega arith) (reads_joined (λ j. many (length xs) p s j) a b)

  pub visit-reads : (p : ℕ → P (List Item)) → ReadsAt p → (base from i : ℕ) (xs : List X) → All Q xs → Stands s (base + from) (parts lay xs)
      → ReadsOn s (visit base p (offsets lay from xs) s i) (each cells xs)
  unfolding parts each size
  visit-reads p law base from i [] q h = record { next = i; here = reads_as (sym (visit_nil base p s i)) refl refl (reads_none i) }
  visit-reads p law base from i (x ∷ xs) q h =
      let a = law (base + from) i x q.0 (stands_left h) in
      let b = visit-reads p law base (from + size (lay x)) a.next xs q.1 (stands_to (stands_right h) (omega arith)) in
      record { next = b.next; here = reads_as (sym (visit_cons base p from (offsets lay (from + size (lay x)) xs) s i)) refl refl (reads_joined (λ j. visit base p (offsets lay (from + size (lay x)) xs) s j) a.here b.here) }

-- ---- keys

-- a key is a row, and the bytes behind it that are skipped
pub key_reads : (curve : ℕ) → curve < 3 → (s : List ℕ) → ReadsPart (key_lay curve) (map wordCell) (Fits (key_widths curve)) s (key_of curve)
unfolding key_widths key_lay key_skip size skip row_then total
key_reads zero l s i k f h =
    reads_as (sym (row_stands (key_widths 0) k (λ vs. ret (map word vs)) i f (stands_left h))) refl (omega (arith, size-row (key_widths 0) k)) (reads-words k (i + 4))
key_reads (suc zero) l s i k f h =
    reads_as (sym (row_stands (key_widths 1) k (λ vs. ◌>>=◌ (skip 2) (λ n. ret (map word vs))) i f (stands_left h))) refl (omega (arith, size-row (key_widths 1) k)) (reads-words k (i + 6 + 2))
key_reads (suc (suc zero)) l s i k f h =
    reads_as (sym (row_stands (key_widths 2) k (λ vs. ret (map word vs)) i f (stands_left h))) refl (omega (arith, size-row (key_widths 2) k)) (reads-words k (i + 12))
key_reads (suc (suc (suc c))) l s i k f h = absurd (omega arith)
