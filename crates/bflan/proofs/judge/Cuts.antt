-- A judging walk over words, and the same with more words behind them, of any format: the walk over the first ends early, at their end, or
-- what stands behind them changes nothing. Where it is fine, no text byte behind it matters either.
-- Assumes nothing.
use Prim.Native.Nat.{ℕ, ◌+◌, ◌≤◌, ◌<◌}
use mathlib.Core.Path.{◌≡◌, refl, sym, ap, subst, ◌∙◌}
use mathlib.Core.Bool.{Bool, true, false, ◌&&◌}
use mathlib.Core.List.{List, ◌++◌}
use native.Mathlib.Omega.{arith}
use borrow.Author.Tests.{ltb-true, ltb-false, lt-ltb, leb-true, le-leb}
use lib.Dec.{ltb, leb}
use lib.ListN.{length, get_or, take, drop, length-append, get_or-append}
use lib.Seq.{length-take-le, take-take, take-add, drop_at}
use Rattle.base.specs.Choice.{pick}
use Rattle.base.specs.Text.{first_fault}
use Rattle.bflan.specs.Judge.{Judged, fine, bad_word, bad_text, J, and_then, ◌>>=◌, ret, next_word, next_chars, next_text}
use Rattle.bflan.proofs.judge.Laws.{fine_to, no_word, no_text, opened}

-- ---- how far a walk came; a fault of the texts says nothing of the words

-- to the word n or further
abbrev pub From : {A : Type 0} → ℕ → Judged A → Type 0
From n (fine a i j) = n ≤ i
From n (bad_word i) = n ≤ i
From n (bad_text j) = Unit

-- it asked for the word n
abbrev pub Beyond : {A : Type 0} → ℕ → Judged A → Type 0
Beyond n (fine a i j) = n < i
Beyond n (bad_word i) = n ≤ i
Beyond n (bad_text j) = Unit

-- it did not ask for the word n
abbrev pub Before : {A : Type 0} → ℕ → Judged A → Type 0
Before n (fine a i j) = i ≤ n
Before n (bad_word i) = i < n
Before n (bad_text j) = Unit

from_less : {A : Type 0} {n m : ℕ} (r : Judged A) → n ≤ m → From m r → From n r
from_less (fine a i j) l h = omega (arith, l, h)
from_less (bad_word i) l h = omega (arith, l, h)
from_less (bad_text j) l h = tt

from_beyond : {A : Type 0} {n m : ℕ} (r : Judged A) → n < m → From m r → Beyond n r
from_beyond (fine a i j) l h = omega (arith, l, h)
from_beyond (bad_word i) l h = omega (arith, l, h)
from_beyond (bad_text j) l h = tt

-- no walk goes back
abbrev pub Monotone : {A : Type 0} → J A → Type 0
Monotone p = (w x : List ℕ) (i j : ℕ) → From i (p w x i j)

module _ {A B : Type 0} (q : A → J B) (law : (a : A) → Monotone (q a)) (w x : List ℕ) (n : ℕ) where
  then_from : (r : Judged A) → From n r → From n (and_then r q w x)
  then_from (fine a i j) h = from_less (q a w x i j) h (law a w x i j)
  then_from (bad_word i) h = h
  then_from (bad_text j) h = tt

  pub then_beyond : (r : Judged A) → Beyond n r → Beyond n (and_then r q w x)
  then_beyond (fine a i j) h = from_beyond (q a w x i j) h (law a w x i j)
  then_beyond (bad_word i) h = h
  then_beyond (bad_text j) h = tt

-- ---- a walk over n words, and over these with more behind them

pub data Cut {A : Type 0} (n : ℕ) (short long : Judged A) : Type 0 where
  early : short ≡ bad_word n → Beyond n long → Cut n short long
  same : long ≡ short → Before n short → Cut n short long

pub record Cuts {A : Type 0} (p : J A) : Type 0 where
  pub monotone : Monotone p
  pub cut : (w v x : List ℕ) (i j : ℕ) → i ≤ length w → Cut (length w) (p w x i j) (p (w ++ v) x i j)
  -- a walk that is fine goes forth in the texts, within them
  pub forth : (w x : List ℕ) (i j : ℕ) {a : A} {k l : ℕ} → p w x i j ≡ fine a k l → (j ≤ l) × (j ≤ length x → l ≤ length x)
  -- and any texts that begin with the same bytes will do
  pub apart : (w x : List ℕ) (i j : ℕ) {a : A} {k l : ℕ} → p w x i j ≡ fine a k l → (y : List ℕ) → l ≤ length y → take l y ≡ take l x
      → p w y i j ≡ fine a k l

pub ret_cuts : {A : Type 0} (a : A) → Cuts (ret a)
ret_cuts {A} a =
    record {
      monotone = λ w x i j. omega arith;
      cut = λ w v x i j h. same refl h;
      forth = λ w x i j e. fine_to (λ (a : A) (k l : ℕ). (j ≤ l) × (j ≤ length x → l ≤ length x)) e (omega arith, λ h. h);
      apart = λ w x i j e y l t. e;
    }

pub bind_cuts : {A B : Type 0} {p : J A} {q : A → J B} → Cuts p → ((a : A) → Cuts (q a)) → Cuts (◌>>=◌ p q)
bind_cuts {A} {B} {p} {q} c d =
    record {
      monotone = λ w x i j. then_from q (λ a. (d a).monotone) w x i (p w x i j) (c.monotone w x i j);
      cut = λ w v x i j h. go w v x (p w x i j) (p (w ++ v) x i j) (c.cut w v x i j h);
      forth = λ w x i j e.
          opened w x i j p q e λ a m n f g.
          let s = c.forth w x i j f in
          let t = (d a).forth w x m n g in
          (omega (arith, s.0, t.0), λ h. t.1 (s.1 h));
      apart = λ w x i j e y h t.
          opened w x i j p q e λ a m n f g.
          rw (c.apart w x i j f y (omega (arith, h, ((d a).forth w x m n g).0)) (begins x y ((d a).forth w x m n g).0 t))
          ((d a).apart w x m n g y h t);
    }
  where
    begins : (x y : List ℕ) {n l : ℕ} → n ≤ l → take l y ≡ take l x → take n y ≡ take n x
    begins x y {n} {l} h t = sym (take-take n l y h) ∙ ap (take n) t ∙ take-take n l x h

    on : (w v x : List ℕ) (r : Judged A) → Before (length w) r → Cut (length w) (and_then r q w x) (and_then r q (w ++ v) x)
    on w v x (fine a i j) h = (d a).cut w v x i j h
    on w v x (bad_word i) h = same refl h
    on w v x (bad_text j) h = same refl tt

    go : (w v x : List ℕ) (s l : Judged A) → Cut (length w) s l → Cut (length w) (and_then s q w x) (and_then l q (w ++ v) x)
    go w v x s l (early e b) = early (ap (λ (r : Judged A). and_then r q w x) e) (then_beyond q (λ a. (d a).monotone) (w ++ v) x (length w) l b)
    go w v x s l (same e b) = subst (λ (r : Judged A). Cut (length w) (and_then s q w x) (and_then r q (w ++ v) x)) (sym e) (on w v x s b)

-- ---- words and texts

module _ (test : ℕ → Bool) where
  word_monotone : Monotone (next_word test)
  unfolding next_word
  word_monotone w x i j = go (ltb i (length w) && test (get_or w i 0))
    where
      go : (b : Bool) → From i (pick b (fine (get_or w i 0) (i + 1) j) (bad_word i))
      go true = omega arith
      go false = omega arith

  pub word_cuts : Cuts (next_word test)
  unfolding next_word
  word_cuts =
      record {
        monotone = word_monotone;
        cut = λ w v x i j h. go w v x i j h (ltb i (length w)) refl;
        forth = λ w x i j e. on w x i j (ltb i (length w) && test (get_or w i 0)) e;
        apart = λ w x i j e y h t. e;
      }
    where
      on : (w x : List ℕ) (i j : ℕ) {a k l : ℕ} (b : Bool) → pick b (fine (get_or w i 0) (i + 1) j) (bad_word i) ≡ fine a k l → (j ≤ l) × (j ≤ length x → l ≤ length x)
      on w x i j true e = fine_to (λ (a k l : ℕ). (j ≤ l) × (j ≤ length x → l ≤ length x)) e (omega arith, λ h. h)
      on w x i j false e = no_word e

      there : (w v x : List ℕ) (i j : ℕ) → i < length w → (b : Bool) → Before (length w) (pick b (fine (get_or w i 0) (i + 1) j) (bad_word i))
      there w v x i j l true = omega (arith, l)
      there w v x i j l false = l

      behind : (w v x : List ℕ) (i j : ℕ) → length w ≤ i → (b : Bool) → Beyond (length w) (pick b (fine (get_or (w ++ v) i 0) (i + 1) j) (bad_word i))
      behind w v x i j l true = omega (arith, l)
      behind w v x i j l false = l

      go : (w v x : List ℕ) (i j : ℕ) → i ≤ length w → (b : Bool) → ltb i (length w) ≡ b → Cut (length w) (next_word test w x i j) (next_word test (w ++ v) x i j)
      go w v x i j h true e =
          let l = ltb-true i (length w) e in
          same
          (rw (e, lt-ltb i (length (w ++ v)) (omega (arith, l, length-append w v)), get_or-append w v 0 i l))
          (there w v x i j l (ltb i (length w) && test (get_or w i 0)))
      go w v x i j h false e =
          let l = ltb-false i (length w) e in
          early (rw e (ap bad_word (omega (arith, h, l)))) (behind w v x i j l (ltb i (length (w ++ v)) && test (get_or (w ++ v) i 0)))

module _ (n : ℕ) (x : List ℕ) (i j : ℕ) where
  -- by whether the bytes are there, and whether there is a fault among them
  abbrev pub chars_by : Bool → Bool → Judged (List ℕ)
  chars_by b c = pick b (pick c (bad_text (j + first_fault (take n (drop j x)))) (fine (take n (drop j x)) i (j + n))) (bad_text (length x))

  chars_from : (b c : Bool) → From i (chars_by b c)
  chars_from true true = tt
  chars_from true false = omega arith
  chars_from false c = tt

  chars-before : {m : ℕ} → i ≤ m → (b c : Bool) → Before m (chars_by b c)
  chars-before h true true = tt
  chars-before h true false = h
  chars-before h false c = tt

-- n bytes from j on, in texts that begin alike
same_bytes_lem : (n j : ℕ) (x y : List ℕ) → j ≤ length x → j ≤ length y → take (j + n) y ≡ take (j + n) x → take n (drop j y) ≡ take n (drop j x)
same_bytes_lem n j x y h k t = sym (part y k) ∙ ap (drop j) t ∙ part x h
  where
    part : (z : List ℕ) → j ≤ length z → drop j (take (j + n) z) ≡ take n (drop j z)
    part z h = ap (drop j) (take-add j n z) ∙ drop_at (take j z) (take n (drop j z)) j (length-take-le j z h)

pub chars_cuts : (n : ℕ) → Cuts (next_chars n)
unfolding next_chars
chars_cuts n =
    record {
      monotone = λ w x i j. chars_from n x i j (leb (j + n) (length x)) (ltb (first_fault (take n (drop j x))) n);
      cut = λ w v x i j h. same refl (chars-before n x i j h (leb (j + n) (length x)) (ltb (first_fault (take n (drop j x))) n));
      forth = λ w x i j e. on x i j (leb (j + n) (length x)) refl (ltb (first_fault (take n (drop j x))) n) e;
      apart = λ w x i j e y h t. behind w x i j (leb (j + n) (length x)) refl (ltb (first_fault (take n (drop j x))) n) refl e y h t;
    }
  where
    on : (x : List ℕ) (i j : ℕ) {a : List ℕ} {k l : ℕ} (b : Bool) → leb (j + n) (length x) ≡ b → (c : Bool) → chars_by n x i j b c ≡ fine a k l
        → (j ≤ l) × (j ≤ length x → l ≤ length x)
    on x i j true u true e = no_text e
    on x i j true u false e = fine_to (λ (a : List ℕ) (k l : ℕ). (j ≤ l) × (j ≤ length x → l ≤ length x)) e (omega arith, λ h. leb-true (j + n) (length x) u)
    on x i j false u c e = no_text e

    behind : (w x : List ℕ) (i j : ℕ) {a : List ℕ} {k l : ℕ} (b : Bool) → leb (j + n) (length x) ≡ b → (c : Bool) → ltb (first_fault (take n (drop j x))) n ≡ c
        → chars_by n x i j b c ≡ fine a k l → (y : List ℕ) → l ≤ length y → take l y ≡ take l x → next_chars n w y i j ≡ fine a k l
    behind w x i j true u true g e = no_text e
    behind w x i j true u false g e =
        fine_to (λ (a : List ℕ) (k l : ℕ). (y : List ℕ) → l ≤ length y → take l y ≡ take l x → next_chars n w y i j ≡ fine a k l) e
        (λ y h t. rw (le-leb (j + n) (length y) h, same_bytes_lem n j x y (omega (arith, leb-true (j + n) (length x) u)) (omega (arith, h)) t, g))
    behind w x i j false u c g e = no_text e

pub text_cuts : (test : ℕ → Bool) → Cuts (next_text test)
unfolding next_text
text_cuts test = bind_cuts (word_cuts test) chars_cuts
