-- A judging walk that ends early, of any format: words can be put behind the list, and the texts cut, so that the walk is fine and all of
-- both lists is used.
-- Assumes nothing.
use Prim.Native.Nat.{ℕ, zero, suc, ◌+◌, ◌^◌, ◌≤◌, ◌<◌}
use mathlib.Core.Path.{◌≡◌, refl, sym, ap, subst, ◌∙◌}
use mathlib.Core.Bool.{Bool, true, false, ◌&&◌}
use mathlib.Core.List.{List, [], ◌∷◌, ◌++◌, append_assoc}
use native.Mathlib.Nat.{add-zero}
use native.Mathlib.Omega.{arith}
use borrow.Author.Tests.{lt-ltb, le-ltb, le-leb}
use lib.Dec.{ltb, leb}
use lib.ListN.{length, get_or, take, drop, length-append}
use lib.Seq.{length-take-le, get_or-append_seam, take-take}
use Rattle.base.specs.Choice.{pick}
use Rattle.base.specs.Text.{first_fault}
use Rattle.bflan.specs.Judge.{Judged, fine, bad_word, bad_text, J, and_then, ◌>>=◌, ret, given, next_word, next_chars, next_text, times, wide, row}
use Rattle.bflan.proofs.judge.Cuts.{Before, Cut, early, same, Cuts, chars_by, ret_cuts, bind_cuts, word_cuts, text_cuts}
use Rattle.bflan.proofs.judge.Laws.{no_word}

module _ {A : Type 0} where
  pub word_same : {i k : ℕ} → ◌≡◌ {A = Judged A} (bad_word i) (bad_word k) → i ≡ k
  word_same e = cc

  pub text_no_word : {C : Type 0} {i j : ℕ} → ◌≡◌ {A = Judged A} (bad_text j) (bad_word i) → C
  text_no_word e = let z : ◌≡◌ {A = ℕ} 0 1 = cc in absurd (omega arith)

-- what is fine stays so where more words follow, and it is within the list
pub words-kept : {A : Type 0} {p : J A} → Cuts p → (w v x : List ℕ) (i j : ℕ) → i ≤ length w → {a : A} {k l : ℕ} → p w x i j ≡ fine a k l
    → (p (w ++ v) x i j ≡ fine a k l) × (k ≤ length w)
words-kept {A} {p} c w v x i j h {a} {k} {l} e = go (c.cut w v x i j h)
  where
    go : Cut (length w) (p w x i j) (p (w ++ v) x i j) → (p (w ++ v) x i j ≡ fine a k l) × (k ≤ length w)
    go (early d b) = no_word (sym d ∙ e)
    go (same d b) = (d ∙ e, subst (Before (length w)) e b)

-- from the ends of both lists on, with more words
pub record Started {A : Type 0} (p : J A) (w x : List ℕ) : Type 0 where
  pub more : List ℕ
  pub value : A
  pub walks : p (w ++ more) x (length w) (length x) ≡ fine value (length (w ++ more)) (length x)

-- from any place on, with more words, at least one, and the texts up to a byte
pub record Finished {A : Type 0} (p : J A) (w x : List ℕ) (i j : ℕ) : Type 0 where
  pub more : List ℕ
  pub some : 0 < length more
  pub value : A
  pub byte : ℕ
  pub within : byte ≤ length x
  pub walks : p (w ++ more) (take byte x) i j ≡ fine value (length (w ++ more)) byte

pub record Completes {A : Type 0} (p : J A) : Type 0 where
  pub cuts : Cuts p
  pub start : (w x : List ℕ) → Started p w x
  pub finish : (w x : List ℕ) (i j : ℕ) → i ≤ length w → j ≤ length x → p w x i j ≡ bad_word (length w) → Finished p w x i j

pub ret_completes : {A : Type 0} (a : A) → Completes (ret a)
ret_completes a =
    record {
      cuts = ret_cuts a;
      start = λ w x. record { more = []; value = a; walks = ap (λ (n : ℕ). fine a n (length x)) (omega (arith, length-append w [])) };
      finish = λ w x i j h k e. no_word (sym e);
    }

pub bind_completes : {A B : Type 0} {p : J A} {q : A → J B} → Completes p → ((a : A) → Completes (q a)) → Completes (◌>>=◌ p q)
bind_completes {A} {B} {p} {q} c d =
    record {
      cuts = bind_cuts c.cuts (λ a. (d a).cuts);
      start = λ w x. started w x (c.start w x);
      finish = λ w x i j h k e. go w x i j h k (p w x i j) refl e;
    }
  where
    -- the second part is started where the first ends
    on : (w u x : List ℕ) (i j : ℕ) → i ≤ length w → (a : A) → p (w ++ u) x i j ≡ fine a (length (w ++ u)) (length x) → (s : Started (q a) (w ++ u) x)
        → ◌>>=◌ p q (w ++ (u ++ s.more)) x i j ≡ fine s.value (length (w ++ (u ++ s.more))) (length x)
    on w u x i j h a e s =
        let t = append_assoc w u s.more in
        rw (← t)
        (ap (λ (r : Judged A). and_then r q ((w ++ u) ++ s.more) x) (words-kept c.cuts (w ++ u) s.more x i j (omega (arith, h, length-append w u)) e).0 ∙ s.walks)

    started : (w x : List ℕ) → Started p w x → Started (◌>>=◌ p q) w x
    started w x s =
        let t = (d s.value).start (w ++ s.more) x in
        record { more = s.more ++ t.more; value = t.value; walks = on w s.more x (length w) (length x) (omega arith) s.value s.walks t }

    finished : (w x : List ℕ) (i j : ℕ) → i ≤ length w → Finished p w x i j → Finished (◌>>=◌ p q) w x i j
    finished w x i j h s =
        let y : List ℕ = take s.byte x in
        let n : length y ≡ s.byte = length-take-le s.byte x s.within in
        let t = (d s.value).start (w ++ s.more) y in
        record {
          more = s.more ++ t.more;
          some = omega (arith, s.some, length-append s.more t.more);
          value = t.value;
          byte = s.byte;
          within = s.within;
          walks =
              on w s.more y i j h s.value (s.walks ∙ ap (fine s.value (length (w ++ s.more))) (sym n)) t
              ∙ ap (fine t.value (length (w ++ (s.more ++ t.more)))) n;
        }

    -- or it ends early itself
    behind : (w x : List ℕ) (i j k l : ℕ) → i ≤ length w → (a : A) → p w x i j ≡ fine a k l → Finished (q a) w x k l → Finished (◌>>=◌ p q) w x i j
    behind w x i j k l h a e s =
        let y : List ℕ = take s.byte x in
        let n : length y ≡ s.byte = length-take-le s.byte x s.within in
        let m : l ≤ s.byte = ((d a).cuts.forth (w ++ s.more) y k l s.walks).0 in
        let f : p (w ++ s.more) y i j ≡ fine a k l =
        c.cuts.apart (w ++ s.more) x i j (words-kept c.cuts w s.more x i j h e).0 y (omega (arith, n, m)) (take-take l s.byte x m) in
        record {
          more = s.more;
          some = s.some;
          value = s.value;
          byte = s.byte;
          within = s.within;
          walks = ap (λ (r : Judged A). and_then r q (w ++ s.more) y) f ∙ s.walks;
        }

    go : (w x : List ℕ) (i j : ℕ) → i ≤ length w → j ≤ length x → (r : Judged A) → p w x i j ≡ r → and_then r q w x ≡ bad_word (length w) → Finished (◌>>=◌ p q) w x i j
    go w x i j h k (fine a m n) e f =
        behind w x i j m n h a e ((d a).finish w x m n (words-kept c.cuts w [] x i j h e).1 ((c.cuts.forth w x i j e).1 k) f)
    go w x i j h k (bad_word m) e f = finished w x i j h (c.finish w x i j h k (e ∙ ap bad_word (word_same f)))
    go w x i j h k (bad_text m) e f = text_no_word f

-- ---- words, texts, and several of them

-- the last word of a list, of which the test holds
last_word : (test : ℕ → Bool) (c : ℕ) → test c ≡ true → (w x : List ℕ) (j : ℕ) → next_word test (w ++ (c ∷ [])) x (length w) j ≡ fine c (length (w ++ (c ∷ []))) j
unfolding next_word
last_word test c h w x j =
    let n : length (w ++ (c ∷ [])) ≡ length w + 1 = length-append w (c ∷ []) in
    rw (lt-ltb (length w) (length (w ++ (c ∷ []))) (omega (arith, n)), get_or-append_seam w c [] 0, h) (ap (λ (k : ℕ). fine c k j) (sym n))

-- a word that ends early is asked for at the list's end
word_end : (test : ℕ → Bool) (w x : List ℕ) (i j : ℕ) → i ≤ length w → next_word test w x i j ≡ bad_word (length w) → i ≡ length w
unfolding next_word
word_end test w x i j h e = go (ltb i (length w) && test (get_or w i 0)) e
  where
    go : (b : Bool) → pick b (fine (get_or w i 0) (i + 1) j) (bad_word i) ≡ bad_word (length w) → i ≡ length w
    go true e = no_word (sym e)
    go false e = word_same e

pub word_completes : (test : ℕ → Bool) (c : ℕ) → test c ≡ true → Completes (next_word test)
word_completes test c t =
    record {
      cuts = word_cuts test;
      start = λ w x. record { more = c ∷ []; value = c; walks = last_word test c t w x (length x) };
      finish = λ w x i j h k e.
          record {
            more = c ∷ [];
            some = omega arith;
            value = c;
            byte = j;
            within = k;
            walks = rw (word_end test w x i j h e) (last_word test c t w (take j x) j);
          };
    }

-- the text of no bytes
no_chars : (w x : List ℕ) (i j : ℕ) → j ≤ length x → next_chars 0 w x i j ≡ fine [] i j
unfolding next_chars
no_chars w x i j h =
    rw (le-leb (j + 0) (length x) (omega (arith, h)), le-ltb (first_fault (take 0 (drop j x))) 0 (omega arith)) (ap (fine [] i) (add-zero j))

chars_no_word : {C : Type 0} (n : ℕ) (w x : List ℕ) (i j : ℕ) {k : ℕ} → next_chars n w x i j ≡ bad_word k → C
unfolding next_chars
chars_no_word {C} n w x i j {k} e = go (leb (j + n) (length x)) (ltb (first_fault (take n (drop j x))) n) e
  where
    go : (b c : Bool) → chars_by n x i j b c ≡ bad_word k → C
    go true true e = text_no_word e
    go true false e = no_word (sym e)
    go false c e = text_no_word e

module _ (test : ℕ → Bool) (t : test 0 ≡ true) where
  last_text : (w x : List ℕ) (j : ℕ) → j ≤ length x → next_text test (w ++ (0 ∷ [])) x (length w) j ≡ fine [] (length (w ++ (0 ∷ []))) j
  unfolding next_text
  last_text w x j h = rw (last_word test 0 t w x j) (no_chars (w ++ (0 ∷ [])) x (length (w ++ (0 ∷ []))) j h)

  text_end : (w x : List ℕ) (i j : ℕ) → i ≤ length w → next_text test w x i j ≡ bad_word (length w) → i ≡ length w
  unfolding next_text
  text_end w x i j h e = go (next_word test w x i j) refl e
    where
      go : (r : Judged ℕ) → next_word test w x i j ≡ r → and_then r next_chars w x ≡ bad_word (length w) → i ≡ length w
      go (fine n k l) d e = chars_no_word n w x k l e
      go (bad_word k) d e = word_end test w x i j h (d ∙ ap bad_word (word_same e))
      go (bad_text k) d e = text_no_word e

  pub text_completes : Completes (next_text test)
  text_completes =
      record {
        cuts = text_cuts test;
        start = λ w x. record { more = 0 ∷ []; value = []; walks = last_text w x (length x) (omega arith) };
        finish = λ w x i j h k e.
            record {
              more = 0 ∷ [];
              some = omega arith;
              value = [];
              byte = j;
              within = k;
              walks = rw (text_end w x i j h e) (last_text w (take j x) j (omega (arith, length-take-le j x k)));
            };
      }

pub given_completes : {A : Type 0} (b : Bool) {p q : J A} → Completes p → Completes q → Completes (given b p q)
given_completes true c d = c
given_completes false c d = d

pub times_completes : {A : Type 0} {p : J A} (n : ℕ) → Completes p → Completes (times n p)
unfolding times
times_completes zero c = ret_completes []
times_completes (suc n) c = bind_completes c (λ y. bind_completes (times_completes n c) (λ ys. ret_completes (y ∷ ys)))

-- 0 has every width
pub wide_zero : (k : ℕ) → wide k 0 ≡ true
wide_zero k = lt-ltb 0 (256 ^ k) (power_pos k)
  where
    power_pos : (k : ℕ) → 0 < 256 ^ k
    power_pos zero = omega arith
    power_pos (suc k) = omega (arith, power_pos k)

pub row_completes : (ks : List ℕ) → Completes (row ks)
unfolding row
row_completes [] = ret_completes []
row_completes (k ∷ ks) = bind_completes (word_completes (wide k) 0 (wide_zero k)) (λ v. bind_completes (row_completes ks) (λ vs. ret_completes (v ∷ vs)))
