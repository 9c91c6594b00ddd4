-- Walks that judge words and texts, of any format: over the cells of a value within the limits, wherever they stand, such a walk gives the
-- value, and where it accepts, the cells of its value stand there.
-- Assumes nothing.
use Prim.Native.Nat.{ℕ, zero, suc, ◌+◌, ◌^◌, ◌≤◌, ◌<◌}
use mathlib.Core.Path.{◌≡◌, refl, sym, ap, ap₂, ◌∙◌}
use mathlib.Core.Bool.{Bool, true, false}
use mathlib.Core.List.{List, [], ◌∷◌, ◌++◌, map, append_assoc, append-nil}
use native.Mathlib.Nat.{add-zero}
use native.Mathlib.Omega.{arith}
use borrow.Author.Tests.{ltb-true, ltb-false, lt-ltb, le-ltb, leb-true, le-leb, eqb-true, eq-eqb}
use lib.Dec.{ltb, leb}
use lib.ListN.{length, get_or, take, drop, length-append, length-take, length-drop}
use lib.Seq.{drop-cons, drop-drop, take-add, take_all, take-length}
use Rattle.base.specs.Choice.{pick}
use Rattle.base.specs.Text.{before_zero, zero_free, first_fault}
use Rattle.base.specs.Utf8.{valid_up_to}
use Rattle.base.proofs.Zeros.{before-le, none_free, block_zero}
use Rattle.base.proofs.utf8.Laws.{valid_le, well_valid}
use Rattle.bflan.specs.Judge.{Judged, fine, bad_word, bad_text, J, and_then, ◌>>=◌, ret, next_word, next_chars, next_text, times, wide, row, ends, whole}
use Rattle.bflan.specs.Layout.{bytes, ◌⨾◌, size, written}
use Rattle.bflan.specs.Limits.{All, Fits, FineText}
use Rattle.bflan.specs.inner.Measure.{fits}
use Rattle.bflan.specs.Cells.{Cell, word as wordCell, chars as charsCell, words_in, bytes_in, text_cells, each}
use Rattle.bflan.proofs.judge.Measures.{fits_there, fits_holds, tests_then, words_end}
use Rattle.bflan.proofs.Layouts.{Stands, stands_left, stands_right}

-- ---- texts

-- a text with neither fault has no first one
pub fault_none : (t : List ℕ) → FineText t → first_fault t ≡ length t
unfolding first_fault
fault_none t f =
    let z = none_free t f.zero_free in
    let s = eqb-true (valid_up_to t) (length t) (sym (well_valid t) ∙ f.well_formed) in
    rw (z, s) (omega arith)

pub free_none : (t : List ℕ) → before_zero t ≡ length t → zero_free t ≡ true
free_none t e = go (zero_free t) refl
  where
    go : (b : Bool) → zero_free t ≡ b → zero_free t ≡ true
    go true q = q
    go false q =
        let l = block_zero t 0 (length t) (omega arith) (rw (take-length t) q) in
        absurd (omega arith)

-- and back
pub none_fault : (t : List ℕ) → length t < 256 ^ 4 → length t ≤ first_fault t → FineText t
unfolding first_fault
none_fault t l h =
    let a = before-le t in
    let b = valid_le t in
    record {
      short = l;
      well_formed = well_valid t ∙ eq-eqb (valid_up_to t) (length t) (omega arith);
      zero_free = free_none t (omega arith);
    }

-- ---- the words and the bytes of cells

pub words_append : (cs ds : List Cell) → words_in (cs ++ ds) ≡ words_in cs ++ words_in ds
unfolding words_in
words_append [] ds = refl
words_append (wordCell v ∷ cs) ds = ap (λ (l : List ℕ). v ∷ l) (words_append cs ds)
words_append (charsCell t ∷ cs) ds = ap (λ (l : List ℕ). length t ∷ l) (words_append cs ds)

pub bytes-append : (cs ds : List Cell) → bytes_in (cs ++ ds) ≡ bytes_in cs ++ bytes_in ds
unfolding bytes_in
bytes-append [] ds = refl
bytes-append (wordCell v ∷ cs) ds = bytes-append cs ds
bytes-append (charsCell t ∷ cs) ds = ap (λ (l : List ℕ). t ++ l) (bytes-append cs ds) ∙ sym (append_assoc t (bytes_in cs) (bytes_in ds))

-- ---- cells at a place of two lists

-- lists one after another stand there as one
module _ {s : List ℕ} {i : ℕ} (a b : List ℕ) where
  apart : Stands s i (bytes (a ++ b)) → Stands s i (bytes a ⨾ bytes b)
  unfolding size written
  apart h = record { fits = rw (← length-append a b) h.fits; same = rw (← length-append a b) h.same }

  pub list_left : Stands s i (bytes (a ++ b)) → Stands s i (bytes a)
  list_left h = stands_left (apart h)

  pub list_right : Stands s i (bytes (a ++ b)) → Stands s (i + length a) (bytes b)
  unfolding size
  list_right h = stands_right (apart h)

  pub list_join : Stands s i (bytes a) → Stands s (i + length a) (bytes b) → Stands s i (bytes (a ++ b))
  unfolding size written
  list_join h k =
      record {
        fits = rw (length-append a b) (omega (arith, k.fits));
        same = rw (length-append a b, take-add (length a) (length b) (drop i s), h.same, drop-drop (length a) i s, k.same);
      }

abbrev pub word_count : List Cell → ℕ
word_count cs = length (words_in cs)

abbrev pub byte_count : List Cell → ℕ
byte_count cs = length (bytes_in cs)

pub word_counts : (cs ds : List Cell) → word_count (cs ++ ds) ≡ word_count cs + word_count ds
word_counts cs ds = ap length (words_append cs ds) ∙ length-append (words_in cs) (words_in ds)

pub byte_counts : (cs ds : List Cell) → byte_count (cs ++ ds) ≡ byte_count cs + byte_count ds
byte_counts cs ds = ap length (bytes-append cs ds) ∙ length-append (bytes_in cs) (bytes_in ds)

-- the cells' words stand in w from i to k, their bytes in x from j to l
pub record Place (w x : List ℕ) (i j k l : ℕ) (cs : List Cell) : Type 0 where
  pub words : Stands w i (bytes (words_in cs))
  pub texts : Stands x j (bytes (bytes_in cs))
  pub words_to : k ≡ i + word_count cs
  pub texts_to : l ≡ j + byte_count cs

module _ {w x : List ℕ} {i j k l : ℕ} (cs ds : List Cell) (h : Place w x i j k l (cs ++ ds)) where
  pub place_left : Place w x i j (i + word_count cs) (j + byte_count cs) cs
  place_left =
      record {
        words = list_left (words_in cs) (words_in ds) (rw (words_append cs ds) at h.words);
        texts = list_left (bytes_in cs) (bytes_in ds) (rw (bytes-append cs ds) at h.texts);
        words_to = refl;
        texts_to = refl;
      }

  pub place_right : Place w x (i + word_count cs) (j + byte_count cs) k l ds
  place_right =
      record {
        words = list_right (words_in cs) (words_in ds) (rw (words_append cs ds) at h.words);
        texts = list_right (bytes_in cs) (bytes_in ds) (rw (bytes-append cs ds) at h.texts);
        words_to = omega (arith, h.words_to, word_counts cs ds);
        texts_to = omega (arith, h.texts_to, byte_counts cs ds);
      }

pub place_join : {w x : List ℕ} {i j k l m n : ℕ} {cs ds : List Cell} → Place w x i j m n cs → Place w x m n k l ds → Place w x i j k l (cs ++ ds)
place_join {cs = cs} {ds = ds} g h =
    record {
      words = rw (words_append cs ds) (list_join (words_in cs) (words_in ds) g.words (rw g.words_to at h.words));
      texts = rw (bytes-append cs ds) (list_join (bytes_in cs) (bytes_in ds) g.texts (rw g.texts_to at h.texts));
      words_to = omega (arith, g.words_to, h.words_to, word_counts cs ds);
      texts_to = omega (arith, g.texts_to, h.texts_to, byte_counts cs ds);
    }

-- positions within the two lists
pub record Inside (w x : List ℕ) (i j : ℕ) : Type 0 where
  pub words : i ≤ length w
  pub texts : j ≤ length x

pub place_inside : {w x : List ℕ} {i j k l : ℕ} {cs : List Cell} → Place w x i j k l cs → Inside w x k l
unfolding size
place_inside h = record { words = omega (arith, h.words.fits, h.words_to); texts = omega (arith, h.texts.fits, h.texts_to) }

-- no cells
pub none_there : {w x : List ℕ} {i j : ℕ} → Inside w x i j → Place w x i j i j []
unfolding size written words_in bytes_in
none_there {i = i} {j = j} s =
    record {
      words = record { fits = omega (arith, s.words); same = refl };
      texts = record { fits = omega (arith, s.texts); same = refl };
      words_to = sym (add-zero i);
      texts_to = sym (add-zero j);
    }

-- where none are left, the walk is at its end
pub none_left : {A : Type 0} {a : A} {w x : List ℕ} {i j k l : ℕ} → Place w x i j k l [] → fine a i j ≡ fine a k l
unfolding words_in bytes_in
none_left {a = a} h = ap₂ (fine a) (omega (arith, h.words_to)) (omega (arith, h.texts_to))

-- the first of the words that stand there
pub first_word : {w : List ℕ} {i v : ℕ} {vs : List ℕ} → Stands w i (bytes (v ∷ vs)) → (i < length w) × (get_or w i 0 ≡ v)
unfolding size written
first_word {w} {i} {v} {vs} h =
    let l : i < length w = omega (arith, h.fits) in
    (l, ap (λ (s : List ℕ). get_or s 0 0) (ap (take (suc (length vs))) (sym (drop-cons w i 0 l)) ∙ h.same))

-- a word by itself
abbrev pub one : ℕ → List Cell
one v = wordCell v ∷ []

module _ {w x : List ℕ} {i j k l v : ℕ} {cs : List Cell} (h : Place w x i j k l (wordCell v ∷ cs)) where
  pub word_first : (i < length w) × (get_or w i 0 ≡ v)
  unfolding words_in
  word_first = first_word h.words

  pub word_next : Place w x (i + 1) j k l cs
  unfolding words_in bytes_in
  word_next = rw add-zero at (place_right (one v) cs h)

module _ {w x : List ℕ} {i j k l : ℕ} {t : List ℕ} {cs : List Cell} (h : Place w x i j k l (charsCell t ∷ cs)) where
  pub text_first : (i < length w) × (get_or w i 0 ≡ length t)
  unfolding words_in
  text_first = first_word h.words

  pub text_there : (j + length t ≤ length x) × (take (length t) (drop j x) ≡ t)
  unfolding bytes_in size written
  text_there = let k = list_left t (bytes_in cs) h.texts in (k.fits, k.same)

  pub text_next : Place w x (i + 1) (j + length t) k l cs
  unfolding words_in bytes_in text_cells
  text_next = rw append-nil at (place_right (text_cells t) cs h)

-- ---- the walk over the cells of a part gives the part

abbrev pub Walks : {X : Type 0} → J X → (X → List Cell) → (X → Type 0) → Type 0
Walks {X = X} p cells_of Q = (w x : List ℕ) (i j k l : ℕ) (a : X) → Q a → Place w x i j k l (cells_of a) → p w x i j ≡ fine a k l

pub word_law : {w x : List ℕ} {i j k l v : ℕ} {cs : List Cell} (test : ℕ → Bool) → test v ≡ true → Place w x i j k l (wordCell v ∷ cs)
    → next_word test w x i j ≡ fine v (i + 1) j
unfolding next_word
word_law {w} {x} {i} {j} test q h =
    let f = word_first h in
    rw (lt-ltb i (length w) f.0, f.1, q)

-- words with a test each, and the place behind them
abbrev pub Pass : List (ℕ → Bool) → List ℕ → Type 0
Pass [] [] = Unit
Pass [] (v ∷ vs) = ⊥
Pass (t ∷ ts) [] = ⊥
Pass (t ∷ ts) (v ∷ vs) = (t v ≡ true) × Pass ts vs

pub tests_law : {A : Type 0} {w x : List ℕ} {i j k l : ℕ} (ts : List (ℕ → Bool)) (c : List ℕ → J A) (vs : List ℕ) (cs : List Cell) → Pass ts vs → Place w x i j k l (map wordCell vs ++ cs)
    → (tests_then ts c w x i j ≡ c vs w x (words_end ts i) j) × Place w x (words_end ts i) j k l cs
unfolding tests_then
tests_law [] c [] cs q h = (refl, h)
tests_law [] c (v ∷ vs) cs q h = absurd q
tests_law (t ∷ ts) c [] cs q h = absurd q
tests_law {i = i} (t ∷ ts) c (v ∷ vs) cs q h =
    let g = tests_law {i = i + 1} ts (λ us. c (v ∷ us)) vs cs q.1 (word_next h) in
    (rw (word_law t q.0 h) g.0, g.1)

pub text_law : {w x : List ℕ} {i j k l : ℕ} {t : List ℕ} {cs : List Cell} (test : ℕ → Bool) → test (length t) ≡ true → FineText t
    → Place w x i j k l (charsCell t ∷ cs) → next_text test w x i j ≡ fine t (i + 1) (j + length t)
unfolding next_text next_word next_chars
text_law {w} {x} {i} {j} {t = t} test q f h =
    let a = text_first h in
    let b = text_there h in
    rw (
      lt-ltb i (length w) a.0,
      a.1,
      q,
      le-leb (j + length t) (length x) b.0,
      b.1,
      fault_none t f,
      le-ltb (length t) (length t) (omega arith),
    )

module _ {X : Type 0} {p : J X} {cells_of : X → List Cell} {Q : X → Type 0} (law : Walks p cells_of Q) where
  pub times_law : {w x : List ℕ} {i j k l : ℕ} (ys : List X) → All Q ys → Place w x i j k l (each cells_of ys) → times (length ys) p w x i j ≡ fine ys k l
  unfolding times each
  times_law [] q h = none_left h
  times_law {w} {x} {i} {j} (a ∷ ys) q h =
      rw (
        law w x i j _ _ a q.0 (place_left (cells_of a) (each cells_of ys) h),
        times_law {i = i + word_count (cells_of a)} {j = j + byte_count (cells_of a)} ys q.1 (place_right (cells_of a) (each cells_of ys) h),
      )

pub row_law : (ks : List ℕ) → Walks (row ks) (map wordCell) (Fits ks)
unfolding row
row_law [] w x i j k l [] q h = none_left h
row_law [] w x i j k l (v ∷ vs) q h = absurd q
row_law (c ∷ cs) w x i j k l [] q h = absurd q
row_law (c ∷ cs) w x i j k l (v ∷ vs) q h = rw (word_law (wide c) (lt-ltb v (256 ^ c) q.0) h, row_law cs w x (i + 1) j k l vs q.1 (word_next h))

pub one_law : (test : ℕ → Bool) → Walks (next_word test) one (λ v. test v ≡ true)
one_law test w x i j k l v q h = word_law test q h ∙ none_left (word_next h)

pub each_one : (vs : List ℕ) → each one vs ≡ map wordCell vs
unfolding each
each_one [] = refl
each_one (v ∷ vs) = ap (λ (l : List Cell). wordCell v ∷ l) (each_one vs)

pub all_map : {X : Type 0} (Q R : X → Type 0) → ((a : X) → Q a → R a) → (xs : List X) → All Q xs → All R xs
all_map Q R f [] q = tt
all_map Q R f (x ∷ xs) q = (f x q.0, all_map Q R f xs q.1)

pub values_law : {w x : List ℕ} {i j k l : ℕ} (vs : List ℕ) → All (λ v. v < 256 ^ 4) vs → Place w x i j k l (map wordCell vs) → times (length vs) (next_word (wide 4)) w x i j ≡ fine vs k l
values_law vs q h =
    times_law (one_law (wide 4)) vs
    (all_map (λ v. v < 256 ^ 4) (λ v. wide 4 v ≡ true) (λ v l. lt-ltb v (256 ^ 4) l) vs q) (rw (each_one vs) h)

pub one_text_law : Walks (next_text (wide 4)) text_cells FineText
unfolding text_cells
one_text_law w x i j k l t q h = text_law (wide 4) (lt-ltb (length t) (256 ^ 4) q.short) q h ∙ none_left (text_next h)

-- cells that stand there from the start on and are all of the two lists
pub place_all : (cs : List Cell) → Place (words_in cs) (bytes_in cs) 0 0 (word_count cs) (byte_count cs) cs
unfolding size written
place_all cs =
    record {
      words = record { fits = omega arith; same = take-length (words_in cs) };
      texts = record { fits = omega arith; same = take-length (bytes_in cs) };
      words_to = omega arith;
      texts_to = omega arith;
    }

pub ends_law : (w x : List ℕ) (i j : ℕ) → length w ≤ i → length x ≤ j → ends w x i j ≡ fine 0 i j
unfolding ends
ends_law w x i j h k = rw (le-ltb i (length w) h, le-ltb j (length x) k)

-- a text whose length fails its test is refused at its length
pub text-long : {w x : List ℕ} {i j k l : ℕ} {t : List ℕ} {cs : List Cell} (test : ℕ → Bool) → test (length t) ≡ false → Place w x i j k l (charsCell t ∷ cs)
    → next_text test w x i j ≡ bad_word i
unfolding next_text next_word
text-long {w} {i = i} test q h =
    let f = text_first h in
    rw (lt-ltb i (length w) f.0, f.1, q)

-- ---- what the walk accepts stands there: the converse

pub record Got {X : Type 0} (cells_of : X → List Cell) (Q : X → Type 0) (w x : List ℕ) (i j : ℕ) (a : X) (k l : ℕ) : Type 0 where
  pub place : Place w x i j k l (cells_of a)
  pub good : Q a

abbrev pub Sound : {X : Type 0} → J X → (X → List Cell) → (X → Type 0) → Type 0
Sound {X = X} p cells_of Q = (w x : List ℕ) (i j k l : ℕ) (a : X) → Inside w x i j → p w x i j ≡ fine a k l → Got cells_of Q w x i j a k l

pub fine_to : {A : Type 0} (R : A → ℕ → ℕ → Type 0) {a b : A} {i j k l : ℕ} → fine a i j ≡ fine b k l → R a i j → R b k l
fine_to R {a} {b} {i} {j} {k} {l} e r =
    let ea : a ≡ b = cc in
    let ei : i ≡ k = cc in
    let ej : j ≡ l = cc in
    rw (← ea, ← ei, ← ej) r

-- a walk that a fault ends accepts nothing
module _ {A C : Type 0} {a : A} {k l n : ℕ} where
  pub no_word : bad_word n ≡ fine a k l → C
  no_word e = let z : ◌≡◌ {A = ℕ} 0 1 = cc in absurd (omega arith)

  pub no_text : bad_text n ≡ fine a k l → C
  no_text e = let z : ◌≡◌ {A = ℕ} 0 1 = cc in absurd (omega arith)

-- where a walk is accepted, so is its first part, and what is behind it
module _ {Y C : Type 0} (w x : List ℕ) (i j : ℕ) {y : Y} {k l : ℕ} where
  pub opened : {X : Type 0} (p : J X) (q : X → J Y) → ◌>>=◌ p q w x i j ≡ fine y k l
      → ((v : X) (m n : ℕ) → p w x i j ≡ fine v m n → q v w x m n ≡ fine y k l → C)
      → C
  opened {X} p q e f = go (p w x i j) refl e
    where
      go : (r : Judged X) → p w x i j ≡ r → and_then r q w x ≡ fine y k l → C
      go (fine v m n) c d = f v m n c d
      go (bad_word m) c d = no_word d
      go (bad_text m) c d = no_text d

  -- a word
  pub opened_word : (test : ℕ → Bool) (q : ℕ → J Y) → ◌>>=◌ (next_word test) q w x i j ≡ fine y k l
      → (fits test w i ≡ true → q (get_or w i 0) w x (i + 1) j ≡ fine y k l → C)
      → C
  unfolding next_word fits
  opened_word test q e f = go (fits test w i) refl e
    where
      go : (b : Bool) → fits test w i ≡ b → and_then (pick b (fine (get_or w i 0) (i + 1) j) (bad_word i)) q w x ≡ fine y k l → C
      go true a d = f a d
      go false a d = no_word d

-- the first part stands there, and it ends within the lists
pub opens : {X Y C : Type 0} {w x : List ℕ} {i j k l : ℕ} {y : Y} {p : J X} {cells_of : X → List Cell} {Q : X → Type 0} → Inside w x i j → Sound p cells_of Q → (q : X → J Y) → ◌>>=◌ p q w x i j ≡ fine y k l
    → ((v : X) (m n : ℕ) → Place w x i j m n (cells_of v) → Q v → Inside w x m n → q v w x m n ≡ fine y k l → C)
    → C
opens {w = w} {x = x} {i = i} {j = j} {p = p} {cells_of = cells_of} {Q = Q} s sound q e f =
    opened w x i j p q e λ v m n c d.
    let g : Got cells_of Q w x i j v m n = sound w x i j m n v s c in
    f v m n g.place g.good (place_inside g.place) d

-- ---- words and texts

pub word_there : {w x : List ℕ} {i j : ℕ} → i < length w → Inside w x i j → Place w x i j (i + 1) j (one (get_or w i 0))
unfolding size written words_in bytes_in
word_there {w} {i = i} {j = j} a s =
    record {
      words = record { fits = omega arith; same = ap (take 1) (drop-cons w i 0 a) };
      texts = record { fits = omega (arith, s.texts); same = refl };
      words_to = refl;
      texts_to = sym (add-zero j);
    }

pub word_sound : (test : ℕ → Bool) → Sound (next_word test) one (λ v. test v ≡ true)
unfolding next_word fits
word_sound test w x i j k l v s e = go (fits test w i) refl e
  where
    go : (t : Bool) → fits test w i ≡ t → pick t (fine (get_or w i 0) (i + 1) j) (bad_word i) ≡ fine v k l → Got one (λ v. test v ≡ true) w x i j v k l
    go true h d = fine_to (λ (v k l : ℕ). Got one (λ v. test v ≡ true) w x i j v k l) d (record { place = word_there (fits_there test w i h) s; good = fits_holds test w i h })
    go false h d = no_word d

-- what is said of the words that a row of tests lets pass, each word by its own name
abbrev pub Passing : List (ℕ → Bool) → (List ℕ → Type 0) → Type 0
Passing [] K = K []
Passing (t ∷ ts) K = (v : ℕ) → t v ≡ true → Passing ts (λ vs. K (v ∷ vs))

passing_map : (ts : List (ℕ → Bool)) (K L : List ℕ → Type 0) → ((vs : List ℕ) → K vs → L vs) → Passing ts K → Passing ts L
passing_map [] K L g f = g [] f
passing_map (t ∷ ts) K L g f = λ v q. passing_map ts _ _ (λ vs. g (v ∷ vs)) (f v q)

-- a head of words with a test each stands there as a row
pub opens_row : {Y C : Type 0} {w x : List ℕ} {i j k l : ℕ} {y : Y} → Inside w x i j → (ts : List (ℕ → Bool)) (c : List ℕ → J Y) → tests_then ts c w x i j ≡ fine y k l
    → Passing ts (λ vs. Place w x i j (words_end ts i) j (map wordCell vs) → Inside w x (words_end ts i) j → c vs w x (words_end ts i) j ≡ fine y k l → C)
    → C
unfolding tests_then
opens_row s [] c e f = f (none_there s) s e
opens_row {w = w} {x = x} {i = i} {j = j} s (t ∷ ts) c e f =
    opened_word w x i j t _ e λ h e.
    let p = word_there (fits_there t w i h) s in
    opens_row {i = i + 1} {j = j} (place_inside p) ts (λ vs. c (get_or w i 0 ∷ vs)) e (passing_map ts _ _ (λ vs g h. g (place_join p h)) (f (get_or w i 0) (fits_holds t w i h)))

pub taken_length : (n j : ℕ) (x : List ℕ) → j + n ≤ length x → length (take n (drop j x)) ≡ n
taken_length n j x h = simp (length-take, length-drop) (omega arith)

pub text-bytes : (t : List ℕ) → byte_count (text_cells t) ≡ length t
unfolding text_cells bytes_in
text-bytes t = ap length (append-nil t)

pub text_place : {w x : List ℕ} {i j k l n : ℕ} → Place w x i j k j (one n) → j + n ≤ length x → l ≡ j + n → Place w x i j k l (text_cells (take n (drop j x)))
unfolding text_cells words_in bytes_in size written
text_place {x = x} {j = j} {n = n} p h e =
    let m = taken_length n j x h in
    record {
      words = rw m p.words;
      texts = rw append-nil (record { fits = omega (arith, m); same = rw m refl });
      words_to = p.words_to;
      texts_to = rw append-nil (omega (arith, m, e));
    }

-- a text that is accepted: the word at i is its length, it stands in x from j on, and it has neither fault
pub record TextAt (test : ℕ → Bool) (w x : List ℕ) (i j : ℕ) (t : List ℕ) (k l : ℕ) : Type 0 where
  pub there : i < length w
  pub good : test (get_or w i 0) ≡ true
  pub inside : j + get_or w i 0 ≤ length x
  pub bytes : t ≡ take (get_or w i 0) (drop j x)
  pub size : length t ≡ get_or w i 0
  pub word : k ≡ i + 1
  pub byte : l ≡ j + get_or w i 0
  pub clean : length t ≤ first_fault t

pub text_at : (test : ℕ → Bool) (w x : List ℕ) (i j : ℕ) {t : List ℕ} {k l : ℕ} → next_text test w x i j ≡ fine t k l → TextAt test w x i j t k l
unfolding next_text next_chars
text_at test w x i j {t} {k} {l} e =
    opened_word w x i j test next_chars e λ h d.
    go (fits_there test w i h) (fits_holds test w i h) (take (get_or w i 0) (drop j x)) refl (leb (j + get_or w i 0) (length x)) (ltb (first_fault (take (get_or w i 0) (drop j x))) (get_or w i 0)) refl refl d
  where
    go : i < length w → test (get_or w i 0) ≡ true → (u : List ℕ) → take (get_or w i 0) (drop j x) ≡ u → (c d : Bool) → leb (j + get_or w i 0) (length x) ≡ c → ltb (first_fault u) (get_or w i 0) ≡ d
        → pick c (pick d (bad_text (j + first_fault u)) (fine u (i + 1) (j + get_or w i 0))) (bad_text (length x)) ≡ fine t k l
        → TextAt test w x i j t k l
    go h g u s true true c d f = no_text f
    go h g u s true false c d f =
        let m : j + get_or w i 0 ≤ length x = leb-true (j + get_or w i 0) (length x) c in
        let z : length u ≡ get_or w i 0 = ap length (sym s) ∙ taken_length (get_or w i 0) j x m in
        fine_to (λ (t : List ℕ) (k l : ℕ). TextAt test w x i j t k l) f
        (record { there = h; good = g; inside = m; bytes = sym s; size = z; word = refl; byte = refl; clean = rw z (ltb-false (first_fault u) (get_or w i 0) d) })
    go h g u s false d c q f = no_text f

pub text_sound : (test : ℕ → Bool) → ((n : ℕ) → test n ≡ true → n < 256 ^ 4) → Sound (next_text test) text_cells (λ t. FineText t × (test (length t) ≡ true))
text_sound test small w x i j k l v s e =
    let t = text_at test w x i j e in
    record {
      place = rw (t.bytes, t.word) (text_place (word_there t.there s) t.inside t.byte);
      good = (none_fault v (rw t.size (small (get_or w i 0) t.good)) t.clean, rw t.size t.good);
    }

-- ---- rows and runs

abbrev pub AllOf : {X : Type 0} → (X → Type 0) → ℕ → List X → Type 0
AllOf Q n xs = All Q xs × (length xs ≡ n)

module _ {X : Type 0} {p : J X} {cells_of : X → List Cell} {Q : X → Type 0} (sound : Sound p cells_of Q) where
  pub times_sound : (n : ℕ) → Sound (times n p) (each cells_of) (AllOf Q n)
  unfolding times each
  times_sound zero w x i j k l ys s e =
      fine_to (λ (ys : List X) (k l : ℕ). Got (each cells_of) (AllOf Q zero) w x i j ys k l) e (record { place = none_there s; good = (tt, refl) })
  times_sound (suc n) w x i j k l ys s e =
      opens s sound _ e λ y m o py qy s e.
      opens s (times_sound n) _ e λ zs m o pz qz s e.
      fine_to (λ (ys : List X) (k l : ℕ). Got (each cells_of) (AllOf Q (suc n)) w x i j ys k l) e (record { place = place_join py pz; good = ((qy, qz.0), ap suc qz.1) })

pub row_sound : (ks : List ℕ) → Sound (row ks) (map wordCell) (Fits ks)
unfolding row
row_sound [] w x i j k l vs s e = fine_to (λ (vs : List ℕ) (k l : ℕ). Got (map wordCell) (Fits []) w x i j vs k l) e (record { place = none_there s; good = tt })
row_sound (c ∷ cs) w x i j k l vs s e =
    opens s (word_sound (wide c)) _ e λ v m n pv qv s e.
    opens s (row_sound cs) _ e λ us m n pu qu s e.
    fine_to (λ (vs : List ℕ) (k l : ℕ). Got (map wordCell) (Fits (c ∷ cs)) w x i j vs k l) e (record { place = place_join pv pu; good = (ltb-true v (256 ^ c) qv, qu) })

pub values_sound : (n : ℕ) → Sound (times n (next_word (wide 4))) (map wordCell) (AllOf (λ v. v < 256 ^ 4) n)
values_sound n w x i j k l vs s e =
    let g = times_sound (word_sound (wide 4)) n w x i j k l vs s e in
    record {
      place = rw (← each_one vs) g.place;
      good = (all_map (λ v. wide 4 v ≡ true) (λ v. v < 256 ^ 4) (λ v t. ltb-true v (256 ^ 4) t) vs g.good.0, g.good.1);
    }

pub wide_four : (n : ℕ) → wide 4 n ≡ true → n < 256 ^ 4
wide_four n t = ltb-true n (256 ^ 4) t

-- ---- a value that is all there is

pub ends_then : {Y : Type 0} (q : ℕ → J Y) (w x : List ℕ) (i j : ℕ) (y : Y) (k l : ℕ) → ◌>>=◌ ends q w x i j ≡ fine y k l
    → (length w ≤ i) × (length x ≤ j) × (q 0 w x i j ≡ fine y k l)
unfolding ends
ends_then q w x i j y k l e = go (ltb i (length w)) (ltb j (length x)) refl refl e
  where
    go : (s t : Bool) → ltb i (length w) ≡ s → ltb j (length x) ≡ t → and_then (pick s (bad_word i) (pick t (bad_text j) (fine 0 i j))) q w x ≡ fine y k l
        → (length w ≤ i) × (length x ≤ j) × (q 0 w x i j ≡ fine y k l)
    go true t a b e = no_word e
    go false true a b e = no_text e
    go false false a b e = (ltb-false i (length w) a, ltb-false j (length x) b, e)

module _ {X : Type 0} (cells_of : X → List Cell) (Q : X → Type 0) where
  -- two lists that are those of a value within the limits, all of them
  pub record Accepted (w x : List ℕ) (a : X) : Type 0 where
    pub fine : Q a
    pub words : words_in (cells_of a) ≡ w
    pub texts : bytes_in (cells_of a) ≡ x

  all_there : {w x : List ℕ} {k l : ℕ} (a : X) → Q a → Place w x 0 0 k l (cells_of a) → length w ≤ k → length x ≤ l → Accepted w x a
  unfolding size written
  all_there {w} {x} a f p m n =
      record {
        fine = f;
        words = sym p.words.same ∙ take_all (word_count (cells_of a)) w (omega (arith, p.words_to));
        texts = sym p.texts.same ∙ take_all (byte_count (cells_of a)) x (omega (arith, p.texts_to));
      }

-- a format's walk: over the two lists of a value within the limits it gives the value, and it accepts no others
pub record Judges {X : Type 0} (p : J X) (cells_of : X → List Cell) (Q : X → Type 0) : Type 0 where
  pub flat : (a : X) → Q a → p (words_in (cells_of a)) (bytes_in (cells_of a)) 0 0 ≡ fine a (word_count (cells_of a)) (byte_count (cells_of a))
  pub accepts : (w x : List ℕ) (a : X) (i j : ℕ) → p w x 0 0 ≡ fine a i j → Accepted cells_of Q w x a

-- so is one that goes over the cells of a value wherever they stand, accepts no others, and lets nothing follow
module _ {X : Type 0} {p : J X} {cells_of : X → List Cell} {Q : X → Type 0} (law : Walks p cells_of Q) (sound : Sound p cells_of Q) where
  whole-flat : (a : X) → Q a → whole p (words_in (cells_of a)) (bytes_in (cells_of a)) 0 0 ≡ fine a (word_count (cells_of a)) (byte_count (cells_of a))
  unfolding whole
  whole-flat a q =
      let w = words_in (cells_of a) in
      let x = bytes_in (cells_of a) in
      rw (law w x 0 0 _ _ a q (place_all (cells_of a)), ends_law w x (word_count (cells_of a)) (byte_count (cells_of a)) (omega arith) (omega arith))

  whole_accepts : (w x : List ℕ) (a : X) (i j : ℕ) → whole p w x 0 0 ≡ fine a i j → Accepted cells_of Q w x a
  unfolding whole
  whole_accepts w x a i j e =
      opens (record { words = omega arith; texts = omega arith }) sound _ e λ v m n pv qv s e.
      let d = ends_then (λ u. ret v) w x m n a i j e in
      fine_to (λ (a : X) (i j : ℕ). Accepted cells_of Q w x a) d.2 (all_there cells_of Q v qv pv d.0 d.1)

  pub whole_judges : Judges (whole p) cells_of Q
  whole_judges = record { flat = whole-flat; accepts = whole_accepts }
