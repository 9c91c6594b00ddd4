-- Walks one after another: what `walk_of` makes of readings that are joined, and of loops over them.
-- Assumes nothing.
use Prim.Native.Nat.{ℕ, suc, ◌+◌, ◌-◌, ◌*◌, ◌<◌, ◌≤◌}
use mathlib.Core.Path.{◌≡◌, refl, ap, sym, ◌∙◌}
use mathlib.Core.Bool.{Bool, true, false}
use mathlib.Core.List.{List, [], ◌∷◌, ◌++◌, append_assoc}
use native.Mathlib.Nat.{add-zero}
use native.Mathlib.Omega.{arith}
use borrow.Author.Tests.{leb-true, leb-false}
use lib.Dec.{leb}
use lib.ListN.{length, length-append}
use lib.Seq.{sets, length-sets}
use Rattle.base.specs.Number.{get}
use Rattle.base.specs.Run.{numbers_at}
use Rattle.base.proofs.Stores.{sets-append, sets_at_end}
use Rattle.bflan.specs.declared.fault.Fault.{Fault}
use Rattle.bflan.specs.declared.reader.tally.Tables.{Tables}
use Rattle.bflan.specs.declared.reader.tally.Tally.{Tally}
use Rattle.std.specs.Prelude.{Result, Ok, Err, Option, Some, IsErrAnd}
use Rattle.bflan.specs.Reader.{Res, ok, stop, P, and_then, Item, word, text, many, visit}
use Rattle.bflan.specs.Items.{shown_at, words_of, texts_of}
use Rattle.bflan.specs.inner.Walk.{Walk, sat, with_words, with_text, with_text_of, tallied, after, walk_of, walked}

-- ---- readings one after another

abbrev pub before : List Item → Res (List Item) → Res (List Item)
before is (ok js q) = ok (is ++ js) q
before is (stop f) = stop f

abbrev pub joined : Res (List Item) → (ℕ → Res (List Item)) → Res (List Item)
joined (ok is p) g = before is (g p)
joined (stop f) g = stop f

pub before_nil : (r : Res (List Item)) → before [] r ≡ r
before_nil (ok js q) = refl
before_nil (stop f) = refl

pub before-before : (is js : List Item) (r : Res (List Item)) → before is (before js r) ≡ before (is ++ js) r
before-before is js (ok ks q) = ap (λ (l : List Item). ok l q) (sym (append_assoc is js ks))
before-before is js (stop f) = refl

-- the last lines of a reading in the definitions, `xs ← r` and then `ret (is ++ xs)`
pub put-before : (is : List Item) (r : Res (List Item)) (s : List ℕ) → and_then r (λ (xs : List Item) (s' : List ℕ) (k : ℕ). ok (is ++ xs) k) s ≡ before is r
put-before is (ok js q) s = refl
put-before is (stop f) s = refl

pub many_suc : (n : ℕ) (p : P (List Item)) (s : List ℕ) (i : ℕ) → many (suc n) p s i ≡ joined (p s i) (λ j. many n p s j)
unfolding many
many_suc n p s i = go (p s i)
  where
    go : (r : Res (List Item)) → and_then r (λ (x : List Item) (s' : List ℕ) (j : ℕ). and_then (many n p s' j) (λ (xs : List Item) (s'' : List ℕ) (k : ℕ). ok (x ++ xs) k) s') s ≡ joined r (λ j. many n p s j)
    go (ok x j) = put-before x (many n p s j) s
    go (stop f) = refl

pub visit_cons : (base : ℕ) (p : ℕ → P (List Item)) (o : ℕ) (os : List ℕ) (s : List ℕ) (i : ℕ) → visit base p (o ∷ os) s i ≡ joined (p (base + o) s i) (λ j. visit base p os s j)
unfolding visit
visit_cons base p o os s i = go (p (base + o) s i)
  where
    go : (r : Res (List Item)) → and_then r (λ (x : List Item) (s' : List ℕ) (j : ℕ). and_then (visit base p os s' j) (λ (xs : List Item) (s'' : List ℕ) (k : ℕ). ok (x ++ xs) k) s') s ≡ joined r (λ j. visit base p os s j)
    go (ok x j) = put-before x (visit base p os s j) s
    go (stop f) = refl

pub visit_nil : (base : ℕ) (p : ℕ → P (List Item)) (s : List ℕ) (i : ℕ) → visit base p [] s i ≡ ok [] i
unfolding visit
visit_nil base p s i = refl

-- ---- a reading that is one reading and then what is left, as a loop's turn takes it

pub record Next (whole one : Res (List Item)) (rest : ℕ → Res (List Item)) : Type 0 where
  pub is : whole ≡ joined one rest

-- of n in a row, those from number k on
module _ (p : P (List Item)) (s : List ℕ) (n : ℕ) where
  pub many_next : (k i : ℕ) → k < n → Next (many (n - k) p s i) (p s i) (λ j. many (n - (k + 1)) p s j)
  many_next k i h = let e : n - k ≡ suc (n - (k + 1)) = omega arith in record { is = rw e (many_suc (n - (k + 1)) p s i) }

  pub many_end : (k i : ℕ) → n ≤ k → many (n - k) p s i ≡ ok [] i
  unfolding many
  many_end k i h = let e : n - k ≡ 0 = omega arith in rw e

-- of those at n offsets from `table` on, those from number k on
module _ (base : ℕ) (p : ℕ → P (List Item)) (s : List ℕ) (table n : ℕ) where
  abbrev pub visit_from : ℕ → ℕ → Res (List Item)
  visit_from k i = visit base p (numbers_at (n - k) s (table + 4 * k)) s i

  pub visit_next : (k i : ℕ) → k < n → {to : ℕ} → to ≡ base + get 4 s (table + 4 * k) → Next (visit_from k i) (p to s i) (visit_from (k + 1))
  unfolding numbers_at
  visit_next k i h eo =
      let e : n - k ≡ suc (n - (k + 1)) = omega arith in
      let o : table + 4 * (k + 1) ≡ table + 4 * k + 4 = omega arith in
      record { is = rw (e, eo, ← o) (visit_cons base p (get 4 s (table + 4 * k)) (numbers_at (n - (k + 1)) s (table + 4 * (k + 1))) s i) }

  pub visit_end : (k i : ℕ) → n ≤ k → visit_from k i ≡ ok [] i
  unfolding numbers_at
  visit_end k i h = let e : n - k ≡ 0 = omega arith in rw e (visit_nil base p s i)

-- ---- items one after another

pub words_append : (s : List ℕ) (is js : List Item) → words_of s (is ++ js) ≡ words_of s is ++ words_of s js
unfolding words_of
words_append s [] js = refl
words_append s (word v ∷ is) js = ap (λ (l : List ℕ). v ∷ l) (words_append s is js)
words_append s (text a n ∷ is) js = ap (λ (l : List ℕ). length (shown_at s a n) ∷ l) (words_append s is js)

pub texts-append : (s : List ℕ) (is js : List Item) → texts_of s (is ++ js) ≡ texts_of s is ++ texts_of s js
unfolding texts_of
texts-append s [] js = refl
texts-append s (word v ∷ is) js = texts-append s is js
texts-append s (text a n ∷ is) js = ap (λ (l : List ℕ). shown_at s a n ++ l) (texts-append s is js) ∙ sym (append_assoc (shown_at s a n) (texts_of s is) (texts_of s js))

pub tallied-append : (s : List ℕ) (t : Tally) (is js : List Item) → tallied s t (is ++ js) ≡ tallied s (tallied s t is) js
unfolding tallied
tallied-append s t [] js = refl
tallied-append s t (word v ∷ is) js = tallied-append s (with_words t 1) is js
tallied-append s t (text a n ∷ is) js = tallied-append s (with_text_of s t a n) is js

-- where the next word and the next text byte stand
module _ (s : List ℕ) where
  pub tallied-words : (t : Tally) (is : List Item) → sat (tallied s t is).words ≡ sat (t.words + length (words_of s is))
  unfolding tallied words_of with_words with_text
  tallied-words t [] = rw add-zero
  tallied-words t (word v ∷ is) = tallied-words (with_words t 1) is ∙ (let h = length (words_of s is) in omega arith)
  tallied-words t (text a n ∷ is) = tallied-words (with_text_of s t a n) is ∙ (let h = length (words_of s is) in omega arith)

  pub tallied-bytes : (t : Tally) (is : List Item) → sat (tallied s t is).bytes ≡ sat (t.bytes + length (texts_of s is))
  unfolding tallied texts_of with_words with_text
  tallied-bytes t [] = rw add-zero
  tallied-bytes t (word v ∷ is) = tallied-bytes (with_words t 1) is
  tallied-bytes t (text a n ∷ is) =
      let e = length-append (shown_at s a n) (texts_of s is) in
      tallied-bytes (with_text_of s t a n) is ∙ omega (arith, e)

-- a place that a usize does not hold is past every end
pub sets-sat : (l : List ℕ) (o p : ℕ) (v : List ℕ) → length l ≤ 18446744073709551615 → sat o ≡ sat p → sets l o v ≡ sets l p v
sets-sat l o p v h e = go (leb o 18446744073709551615) refl (leb p 18446744073709551615) refl
  where
    go : (a : Bool) → leb o 18446744073709551615 ≡ a → (b : Bool) → leb p 18446744073709551615 ≡ b → sets l o v ≡ sets l p v
    go true ea true eb =
        let x = leb-true o 18446744073709551615 ea in
        let y = leb-true p 18446744073709551615 eb in
        let q : o ≡ p = omega arith in
        ap (λ (k : ℕ). sets l k v) q
    go true ea false eb =
        let x = leb-true o 18446744073709551615 ea in
        let y = leb-false p 18446744073709551615 eb in
        sets_at_end l o p v (omega arith) (omega arith)
    go false ea b eb =
        let x = leb-false o 18446744073709551615 ea in
        sets_at_end l o p v (omega arith) (omega arith)

-- ---- walks one after another

-- the tables have lengths that a usize holds
abbrev pub Small : Tables → Type 0
Small t = (length t.words.now ≤ 18446744073709551615) × (length t.texts.now ≤ 18446744073709551615)

pub after-small : (s : List ℕ) (t : Tables) (is : List Item) → Small t → Small (after s t is)
after-small s t is (h, k) = (rw (length-sets t.words.now t.tally.words (words_of s is)) h, rw (length-sets t.texts.now t.tally.bytes (texts_of s is)) k)

pub after-after : (s : List ℕ) (t : Tables) (is js : List Item) → Small t → after s (after s t is) js ≡ after s t (is ++ js)
after-after s t is js h =
    let u = tallied s t.tally is in
    let w = sets t.words.now t.tally.words (words_of s is) in
    let x = sets t.texts.now t.tally.bytes (texts_of s is) in
    let k = after-small s t is h in
    let ew : sets t.words.now t.tally.words (words_of s (is ++ js)) ≡ sets w u.words (words_of s js) =
    rw (words_append s is js, sets-append t.words.now t.tally.words (words_of s is) (words_of s js)) (sets-sat w (t.tally.words + length (words_of s is)) u.words (words_of s js) k.0 (sym (tallied-words s t.tally is))) in
    let ex : sets t.texts.now t.tally.bytes (texts_of s (is ++ js)) ≡ sets x u.bytes (texts_of s js) =
    rw (texts-append s is js, sets-append t.texts.now t.tally.bytes (texts_of s is) (texts_of s js)) (sets-sat x (t.tally.bytes + length (texts_of s is)) u.bytes (texts_of s js) k.1 (sym (tallied-bytes s t.tally is))) in
    rw (tallied-append s t.tally is js, ew, ex)

-- the same of what two functions stored
pub after_both : (s : List ℕ) (t : Tables) {u v : Tables} (is js : List Item) → Small t → u ≡ after s t is → v ≡ after s u js → v ≡ after s t (is ++ js)
after_both s t is js h e d = rw (d, e) (after-after s t is js h)

pub walk_before : (s : List ℕ) (t : Tables) (is : List Item) (r : Res (List Item)) → Small t → walk_of s (after s t is) r ≡ walk_of s t (before is r)
unfolding walk_of
walk_before s t is (stop f) h = refl
walk_before s t is (ok js q) h = ap (λ (u : Tables). (Ok q, Some u)) (after-after s t is js h)

-- the same of tables that some function filled so
pub walk_stored : (s : List ℕ) (t u : Tables) (is : List Item) (r : Res (List Item)) → length t.words.now ≤ 18446744073709551615 → length t.texts.now ≤ 18446744073709551615 → u ≡ after s t is
    → walk_of s u r ≡ walk_of s t (before is r)
walk_stored s t u is r h k e = rw e (walk_before s t is r (h, k))

-- and of a reading that is such a one
pub walk_behind : (s : List ℕ) (t : Tables) {u : Tables} (is : List Item) (r : Res (List Item)) {g : Res (List Item)} → Small t → u ≡ after s t is → before is r ≡ g → walk_of s u r ≡ walk_of s t g
walk_behind s t {u} is r h e d = walk_stored s t u is r h.0 h.1 e ∙ ap (walk_of s t) d

pub on_no : (q : ℕ) (f : Fault) → ◌≡◌ {A = Walk} (Ok q) (Err f) → ⊥
on_no q f e = let z : ◌≡◌ {A = ℕ} 0 1 = cc in omega arith

pub on_place : (p q : ℕ) → ◌≡◌ {A = Walk} (Ok p) (Ok q) → p ≡ q
on_place p q e = cc

pub on_tables : (t u : Tables) → ◌≡◌ {A = Option Tables} (Some t) (Some u) → t ≡ u
on_tables t u e = cc

pub no_fault : (f g : Fault) → ◌≡◌ {A = Walk} (Err f) (Err g) → f ≡ g
no_fault f g e = cc

-- what a `?` hands on
pub handed_on : {T E : Type 0} {r : Result T E} {f : E} → IsErrAnd r (λ e. e ≡ f) → r ≡ Err f
handed_on {r = Ok x} h = absurd h
handed_on {r = Err e} h = ap Err h

-- the answer of a callee, in the two forms that its caller's arms have

pub first : {a b : Walk × Option Tables} → a ≡ b → a.0 ≡ b.0
first e = ap (λ (z : Walk × Option Tables). z.0) e

pub second : {a b : Walk × Option Tables} → a ≡ b → a.1 ≡ b.1
second e = ap (λ (z : Walk × Option Tables). z.1) e

module _ (s : List ℕ) (t : Tables) where
  on_case : (r : Res (List Item)) (u : Tables) (q : ℕ) (g : ℕ → Res (List Item)) → Small t → walked (Ok q) u ≡ walk_of s t r → walk_of s u (g q) ≡ walk_of s t (joined r g)
  unfolding walked
  on_case (ok is p) u q g h e = same (unfold walk_of in first e) (unfold walk_of in second e)
    where
      same : ◌≡◌ {A = Walk} (Ok q) (Ok p) → ◌≡◌ {A = Option Tables} (Some u) (Some (after s t is)) → walk_of s u (g q) ≡ walk_of s t (before is (g p))
      same a b = rw (on_place _ _ a, on_tables _ _ b) (walk_before s t is (g p) h)
  on_case (stop f) u q g h e = absurd (on_no q f (unfold walk_of in first e))

  small_case : (r : Res (List Item)) (u : Tables) (q : ℕ) → Small t → walked (Ok q) u ≡ walk_of s t r → Small u
  unfolding walked
  small_case (ok is p) u q h e = same (unfold walk_of in second e)
    where
      same : ◌≡◌ {A = Option Tables} (Some u) (Some (after s t is)) → Small u
      same b = rw (on_tables _ _ b) (after-small s t is h)
  small_case (stop f) u q h e = absurd (on_no q f (unfold walk_of in first e))

  pub no_case : (r : Res (List Item)) (f : Fault) (u : Tables) → walked (Err f) u ≡ walk_of s t r → r ≡ stop f
  unfolding walked
  no_case (ok is p) f u e = absurd (on_no p f (sym (unfold walk_of in first e)))
  no_case (stop g) f u e = ap (λ (z : Fault). stop z) (sym (no_fault f g (unfold walk_of in first e)))

  -- the callee went on: so does the whole, from where it stands
  pub turn_on : (one : Res (List Item)) {r : Walk} (u : Tables) {q : ℕ} (g : ℕ → Res (List Item)) → Small t → walked r u ≡ walk_of s t one → r ≡ Ok q → walk_of s u (g q) ≡ walk_of s t (joined one g)
  turn_on one u {q} g h e er = on_case one u q g h (rw er at e)

  pub turn_small : (one : Res (List Item)) {r : Walk} (u : Tables) {q : ℕ} → Small t → walked r u ≡ walk_of s t one → r ≡ Ok q → Small u
  turn_small one u {q} h e er = small_case one u q h (rw er at e)

  -- the callee was stopped: so is the whole
  pub turn_no : (one : Res (List Item)) {r : Walk} {f : Fault} (u : Tables) (g : ℕ → Res (List Item)) (v : Tables) → walked r u ≡ walk_of s t one → r ≡ Err f → walked (Err f) v ≡ walk_of s t (joined one g)
  turn_no one {f = f} u g v e er =
      let d = no_case one f u (rw er at e) in
      rw d (unfold walked walk_of in refl)

-- a reading that is stopped, and one that ends
pub told_stop : (s : List ℕ) (t u : Tables) (f : Fault) → walked (Err f) u ≡ walk_of s t (stop f)
unfolding walked walk_of
told_stop s t u f = refl

-- the same of what a `?` hands on
pub told_handed : (s : List ℕ) (t : Tables) (r : Walk) {f : Fault} {g : Res (List Item)} (u : Tables) → IsErrAnd r (λ e. e ≡ f) → stop f ≡ g → walked r u ≡ walk_of s t g
told_handed s t r {f} u h e = rw (handed_on h) (told_stop s t u f ∙ ap (walk_of s t) e)

pub told_ok : (s : List ℕ) (t : Tables) (p : ℕ) → walked (Ok p) t ≡ walk_of s t (ok [] p)
unfolding walked walk_of tallied words_of texts_of
told_ok s t p = refl

-- the tables with all that was read
pub told_items : (s : List ℕ) (t : Tables) {u : Tables} (is : List Item) (p : ℕ) → u ≡ after s t is → walked (Ok p) u ≡ walk_of s t (ok is p)
unfolding walked walk_of
told_items s t is p e = rw e

-- ---- a loop over readings, which began with `whole` to read and the tables t₀, and has `rest` to read and the tables t: what is left, from
-- here, is the whole, from the start

pub record Walking (s : List ℕ) (whole : Res (List Item)) (t₀ : Tables) (rest : Res (List Item)) (t : Tables) : Type 0 where
  pub same : walk_of s t rest ≡ walk_of s t₀ whole
  pub small : Small t

module _ {s : List ℕ} {t₀ t : Tables} {whole rest : Res (List Item)} (h : Walking s whole t₀ rest t) where
  -- by what the reader of the next one said
  module _ {one : Res (List Item)} {r : Walk} (u : Tables) (d : walked r u ≡ walk_of s t one) {g : ℕ → Res (List Item)} (e : Next rest one g) where
    pub walking_turn : {q : ℕ} → r ≡ Ok q → Walking s whole t₀ (g q) u
    walking_turn v = record { same = turn_on s t one u g h.small d v ∙ ap (walk_of s t) (sym e.is) ∙ h.same; small = turn_small s t one u h.small d v }

    pub walking_stop : {f : Fault} → r ≡ Err f → (v : Tables) → walked (Err f) v ≡ walk_of s t₀ whole
    walking_stop v z = turn_no s t one u g z d v ∙ ap (walk_of s t) (sym e.is) ∙ h.same

  pub walking_end : {i : ℕ} → rest ≡ ok [] i → walked (Ok i) t ≡ walk_of s t₀ whole
  walking_end {i} e = told_ok s t i ∙ ap (walk_of s t) (sym e) ∙ h.same
