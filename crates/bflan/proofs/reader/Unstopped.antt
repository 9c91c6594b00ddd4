-- What holds of a reading that is not stopped, of any format: of single reads, heads and tables, and of readings one after another.
-- Assumes nothing.
use Rattle.base.specs.declared.error.PastEnd.{PastEnd as Past}
use Rattle.base.specs.declared.error.TextError.{TextError}
use Rattle.base.specs.declared.error.TextError.TheVariants.{PastEnd as TextPast, NoZero as TextNoZero}
use Rattle.std.specs.Prelude.{Result, Ok, Err}
use Prim.Native.Nat.{ℕ, zero, suc, ◌+◌, ◌*◌, ◌<◌, ◌≤◌}
use mathlib.Core.Path.{◌≡◌, refl, ◌∙◌}
use mathlib.Core.Bool.{Bool, true, false}
use mathlib.Core.List.{List, [], ◌∷◌}
use native.Mathlib.Omega.{arith}
use borrow.Author.Tests.{leb-true, leb-false}
use lib.Dec.{leb}
use lib.ListN.{length, drop}
use Rattle.base.specs.Choice.{pick}
use Rattle.base.specs.Number.{get}
use Rattle.base.specs.Run.{numbers_at, numbers_of}
use Rattle.base.specs.Text.{before_zero, ended_of}
use Rattle.base.proofs.Runs.{table_fits, numbers_next}
use Rattle.base.proofs.Zeros.{ended_text_lem}
use Rattle.bflan.specs.declared.fault.Fault.{Fault}
use Rattle.bflan.specs.pai1.Places.{total}
use Rattle.bflan.specs.Reader.{Res, ok, stop, P, and_then, ret, Item, text, as_text, num, seek_to, ended_text, one_ended, numbers, visit}
use Rattle.bflan.proofs.reader.Emits.{sought_there, sought_over}
use Rattle.bflan.proofs.reader.KeyRuns.{as_numbers, num_there, num-short, numbers_run}
use Rattle.bflan.proofs.reader.Rows.{row_then, offset_by, offset_is, fields_at, row_there, row_cut}

-- what both sides of a choice have, by its test
pub pick_by : {A : Type 0} (Q : A → Type 0) (t : Bool) {x y : A} → (t ≡ true → Q x) → (t ≡ false → Q y) → Q (pick t x y)
pick_by Q true f g = f refl
pick_by Q false f g = g refl

-- of its value and of the place behind it
abbrev pub Holds : {A : Type 0} → (A → ℕ → Type 0) → Res A → Type 0
Holds Q (ok v j) = Q v j
Holds Q (stop f) = Unit

pub record If {A : Type 0} (Q : A → ℕ → Type 0) (r : Res A) : Type 0 where
  pub holds : Holds Q r

pub if_ok : {A : Type 0} (Q : A → ℕ → Type 0) (r : Res A) {v : A} {j : ℕ} → If Q r → r ≡ ok v j → Q v j
if_ok Q r h e = rw e at h.holds

module _ {A : Type 0} {Q : A → ℕ → Type 0} where
  pub yes : {v : A} {j : ℕ} → Q v j → If Q (ok v j)
  yes h = record { holds = h }

  pub no : (f : Fault) → If Q (stop f)
  no f = record { holds = tt }

pub weaker : {A : Type 0} {Q R : A → ℕ → Type 0} (r : Res A) → If Q r → ((v : A) (j : ℕ) → Q v j → R v j) → If R r
weaker {Q = Q} (ok v j) h f = yes (f v j h.holds)
weaker (stop g) h f = no g

-- a fact that is known already
pub sure : {A : Type 0} {X : Type 0} (r : Res A) → X → If (λ v j. X) r
sure (ok v j) x = yes x
sure (stop f) x = no f

module _ (s : List ℕ) {A B : Type 0} {Q : B → ℕ → Type 0} (r : Res A) (q : A → P B) where
  -- one reading after another
  pub next : ((v : A) (j : ℕ) → r ≡ ok v j → If Q (q v s j)) → If Q (and_then r q s)
  next f = go r refl
    where
      go : (x : Res A) → r ≡ x → If Q (and_then x q s)
      go (ok v j) e = f v j e
      go (stop g) e = no g

  pub after : {R : A → ℕ → Type 0} → If R r → ((v : A) (j : ℕ) → R v j → If Q (q v s j)) → If Q (and_then r q s)
  after {R} h f = next (λ v j e. f v j (if_ok R r h e))

-- ---- single reads: what follows may use that they are in the section

pub landed : (s : List ℕ) (to i : ℕ) → If (λ v j. (v ≡ to) × (j ≡ to) × (to ≤ length s)) (seek_to to s i)
landed s to i = go (leb to (length s)) refl
  where
    go : (b : Bool) → leb to (length s) ≡ b → If (λ v j. (v ≡ to) × (j ≡ to) × (to ≤ length s)) (seek_to to s i)
    go true t = let h = leb-true to (length s) t in rw (sought_there s to i h) (yes (refl, refl, h))
    go false t = rw (sought_over s to i (leb-false to (length s) t)) (no _)

module _ (s : List ℕ) {B : Type 0} {Q : B → ℕ → Type 0} where
  pub number : (k i : ℕ) (q : ℕ → P B) → (i + k ≤ length s → If Q (q (get k s i) s (i + k))) → If Q (and_then (num k s i) q s)
  number k i q f = go (leb (i + k) (length s)) refl
    where
      go : (b : Bool) → leb (i + k) (length s) ≡ b → If Q (and_then (num k s i) q s)
      go true t = let h = leb-true (i + k) (length s) t in rw (num_there k s i h) (f h)
      go false t = rw (num-short k s i (leb-false (i + k) (length s) t)) (no _)

  -- a head of fixed fields, whose first number stands o behind b
  pub head : (ks : List ℕ) (c : List ℕ → P B) (b o : ℕ) → 0 < total ks → (b + (o + total ks) ≤ length s → If Q (c (fields_at ks s b o) s (b + (o + total ks))))
      → If Q (row_then ks c s (offset_by b o))
  head ks c b o z f = go (leb (b + (o + total ks)) (length s)) refl
    where
      go : (x : Bool) → leb (b + (o + total ks)) (length s) ≡ x → If Q (row_then ks c s (offset_by b o))
      go true t = let h = leb-true (b + (o + total ks)) (length s) t in rw (row_there s ks c b o h) (f h)
      go false t =
          let h = leb-false (b + (o + total ks)) (length s) t in
          let e = offset_is b o in
          rw (row_cut s ks c (offset_by b o) z (omega (arith, h, e))) (no _)

  pub sought : (to i : ℕ) (q : ℕ → P B) → (to ≤ length s → If Q (q to s to)) → If Q (and_then (seek_to to s i) q s)
  sought to i q f = after s (seek_to to s i) q (landed s to i) (λ v j k. rw (k.0, k.1) (f k.2))

  pub table : (n i : ℕ) (q : List ℕ → P B) → i ≤ length s → (i + 4 * n ≤ length s → If Q (q (numbers_at n s i) s (i + 4 * n))) → If Q (and_then (numbers n s i) q s)
  table n i q h f = go (numbers_of n s i) refl
    where
      go : (r : Result ℕ Past) → numbers_of n s i ≡ r → If Q (and_then (numbers n s i) q s)
      go (Ok p) e =
          let d : numbers n s i ≡ ok (numbers_at n s i) (i + 4 * n) = numbers_run n s i ∙ rw (e, (numbers_next n s i p e).1) in
          rw d (f (table_fits n s i p h e))
      go (Err x) e = let d : numbers n s i ≡ as_numbers (Err x) (numbers_at n s i) = numbers_run n s i ∙ rw e in rw d (no _)

  -- a table of offsets, and the parts at them
  pub listed : (base : ℕ) (p : ℕ → P (List Item)) (n i : ℕ) (q : List Item → P B) {R : List Item → ℕ → Type 0} → i ≤ length s → ((j : ℕ) → If R (visit base p (numbers_at n s i) s j))
      → (i + 4 * n ≤ length s → (is : List Item) (j : ℕ) → R is j → If Q (q is s j)) → If Q (and_then (numbers n s i) (λ os s j. and_then (visit base p os s j) q s) s)
  listed base p n i q h g f = table n i _ h (λ l. after s (visit base p (numbers_at n s i) s (i + 4 * n)) q (g (i + 4 * n)) (f l))

-- a text that ends at a zero: it lies in the section
pub ended : (s : List ℕ) {Q : List Item → ℕ → Type 0} (i : ℕ) → (i + before_zero (drop i s) ≤ length s → (j : ℕ) → Q (text i (before_zero (drop i s)) ∷ []) j) → If Q (one_ended s i)
unfolding one_ended ended_text
ended s {Q} i f = go (ended_of s i) refl
  where
    go : (r : Result (ℕ × ℕ) TextError) → ended_of s i ≡ r → If Q (and_then (as_text i r) (λ t. ret (t ∷ [])) s)
    go (Ok (n, j)) e = let t = ended_text_lem s i n j e in yes (rw t.text (f (omega (arith, t.text, t.after, t.fits)) j))
    go (Err (TextPast o)) e = no _
    go (Err (TextNoZero a)) e = no _

-- ---- parts at the offsets of a table

module _ (s : List ℕ) (base : ℕ) (p : ℕ → P (List Item)) (Good : ℕ → Type 0) (h : (b i : ℕ) → If (λ is j. Good b) (p b s i)) where
  pub visited : (n at i : ℕ) → If (λ is j. (k : ℕ) → k < n → Good (base + get 4 s (at + 4 * k))) (visit base p (numbers_at n s at) s i)
  unfolding visit numbers_at
  visited zero at i = yes (λ k l. absurd (omega arith))
  visited (suc n) at i =
      after s (p (base + get 4 s at) s i) _ (h (base + get 4 s at) i) (λ x j g.
      after s (visit base p (numbers_at n s (at + 4)) s j) _ (visited n (at + 4) j) (λ xs j' gs. yes (found g gs)))
    where
      found : Good (base + get 4 s at) → ((k : ℕ) → k < n → Good (base + get 4 s (at + 4 + 4 * k))) → (k : ℕ) → k < suc n → Good (base + get 4 s (at + 4 * k))
      found g gs zero l = let e : at + 4 * 0 ≡ at = omega arith in rw e g
      found g gs (suc k) l = let e : at + 4 * suc k ≡ at + 4 + 4 * k = omega arith in rw e (gs k (omega arith))
