-- How much a reading of a section can give: so many items and texts at most, and each text lies in the section. Of any format.
-- Assumes nothing.
use Rattle.base.specs.declared.error.PastEnd.{PastEnd as Past}
use Rattle.base.specs.declared.error.TextError.{TextError}
use Rattle.base.specs.declared.error.TextError.TheVariants.{PastEnd as TextPast, NoZero as TextNoZero}
use Rattle.std.specs.Prelude.{Result, Ok, Err}
use Prim.Native.Nat.{ℕ, zero, suc, ◌+◌, ◌*◌, ◌<◌, ◌≤◌}
use mathlib.Core.Path.{◌≡◌, refl, ap}
use mathlib.Core.Bool.{Bool, true, false}
use mathlib.Core.List.{List, [], ◌∷◌, ◌++◌, map}
use native.Mathlib.Omega.{arith}
use lib.ListN.{length, get_or, length-append, length-map}
use Rattle.base.specs.Run.{numbers_of, numbers_at}
use Rattle.base.specs.Text.{fixed_of}
use Rattle.base.proofs.Runs.{length-numbers, numbers_next}
use Rattle.base.proofs.Zeros.{fixed_text_lem}
use Rattle.bflan.specs.declared.fault.Fault.{Fault}
use Rattle.bflan.specs.Items.{texts_in}
use Rattle.bflan.specs.pai1.Places.{total}
use Rattle.bflan.specs.Reader.{ok, P, ◌>>=◌, ret, given, fail, Item, word, text, as_text, fixed_text, one_ended, numbers, many, visit}
use Rattle.bflan.proofs.reader.KeyRuns.{as_numbers, numbers_run}
use Rattle.bflan.proofs.reader.Rows.{row_then, fields_at}
use Rattle.bflan.proofs.reader.Unstopped.{If, if_ok, yes, no, weaker, next as then, after, head, ended}

-- ---- what holds of what a reading gives, wherever it starts, unless it is stopped

pub record Gives (s : List ℕ) {A : Type 0} (Q : A → Type 0) (p : P A) : Type 0 where
  pub from : (i : ℕ) → If (λ v j. Q v) (p s i)

pub given_ok : {s : List ℕ} {A : Type 0} {Q : A → Type 0} {p : P A} {i j : ℕ} {v : A} → Gives s Q p → p s i ≡ ok v j → Q v
given_ok {s} {Q = Q} {p} {i} g e = if_ok (λ v j. Q v) (p s i) (g.from i) e

-- a reading's last line, and a stop
module _ (s : List ℕ) {A : Type 0} {Q : A → Type 0} where
  pub done : (v : A) → Q v → Gives s Q (ret v)
  done v h = record { from = λ i. yes h }

  pub none : (f : Fault) → Gives s Q (fail f)
  none f = record { from = λ i. no f }

  pub either : (t : Bool) {p q : P A} → Gives s Q p → Gives s Q q → Gives s Q (given t p q)
  either true g h = g
  either false g h = h

-- one reading after another: what follows may use what the first gives
module _ (s : List ℕ) {B : Type 0} {Q : B → Type 0} where
  pub next : {A : Type 0} {R : A → Type 0} {p : P A} (q : A → P B) → Gives s R p → ((v : A) → R v → Gives s Q (q v)) → Gives s Q (◌>>=◌ p q)
  next {p = p} q g h = record { from = λ i. after s (p s i) q (g.from i) (λ v j k. (h v k).from j) }

  pub past : {A : Type 0} (p : P A) (q : A → P B) → ((v : A) → Gives s Q (q v)) → Gives s Q (◌>>=◌ p q)
  past p q h = record { from = λ i. then s (p s i) q (λ v j e. (h v).from j) }

  -- a head of fixed fields
  pub row_gives : (ks : List ℕ) (c : List ℕ → P B) → 0 < total ks → ((i : ℕ) → Gives s Q (c (fields_at ks s i 0))) → Gives s Q (row_then ks c)
  row_gives ks c z h = record { from = λ i. head s ks c i 0 z (λ l. (h i).from (i + (0 + total ks))) }

-- ---- items: how many they are, how many of them are texts, and where those lie

-- each text lies in the section; a number past the last one names an empty text at its start
abbrev pub Inside : List ℕ → List (ℕ × ℕ) → Type 0
Inside s ts = (k : ℕ) → (get_or ts k (0, 0)).0 + (get_or ts k (0, 0)).1 ≤ length s

pub record Small (s : List ℕ) (a b : ℕ) (is : List Item) : Type 0 where
  pub items : length is ≤ a
  pub texts : length (texts_in is) ≤ b
  pub inside : Inside s (texts_in is)

texts-append : (is js : List Item) → texts_in (is ++ js) ≡ texts_in is ++ texts_in js
unfolding texts_in
texts-append [] js = refl
texts-append (word v ∷ is) js = texts-append is js
texts-append (text a n ∷ is) js = ap (λ (l : List (ℕ × ℕ)). (a, n) ∷ l) (texts-append is js)

texts-words : (vs : List ℕ) → texts_in (map word vs) ≡ []
unfolding texts_in
texts-words [] = refl
texts-words (v ∷ vs) = texts-words vs

inside-append : (s : List ℕ) (ts us : List (ℕ × ℕ)) → Inside s ts → Inside s us → Inside s (ts ++ us)
inside-append s [] us h g k = g k
inside-append s (t ∷ ts) us h g zero = h 0
inside-append s (t ∷ ts) us h g (suc k) = inside-append s ts us (λ j. h (suc j)) g k

module _ (s : List ℕ) where
  pub wider : {a b c d : ℕ} {is : List Item} → Small s a b is → a ≤ c → b ≤ d → Small s c d is
  wider h x y = record { items = omega (arith, h.items); texts = omega (arith, h.texts); inside = h.inside }

  pub small-none : (a b : ℕ) → Small s a b []
  unfolding texts_in
  small-none a b = record { items = omega arith; texts = omega arith; inside = λ k. omega arith }

  pub small_word : (v : ℕ) {a b : ℕ} {is : List Item} → Small s a b is → Small s (suc a) b (word v ∷ is)
  unfolding texts_in
  small_word v h = record { items = omega (arith, h.items); texts = h.texts; inside = h.inside }

  small-text : (a n : ℕ) → a + n ≤ length s → Small s 1 1 (text a n ∷ [])
  unfolding texts_in
  small-text a n h = record { items = omega arith; texts = omega arith; inside = at }
    where
      at : Inside s ((a, n) ∷ [])
      at zero = h
      at (suc k) = omega arith

  pub small-words : (vs : List ℕ) → Small s (length vs) 0 (map word vs)
  small-words vs = record { items = omega (arith, length-map vs word); texts = rw (texts-words vs) (omega arith); inside = rw (texts-words vs) (λ k. omega arith) }

  pub small-append : {a b c d : ℕ} {is js : List Item} → Small s a b is → Small s c d js → Small s (a + c) (b + d) (is ++ js)
  small-append {is = is} {js = js} h g =
      record {
        items = omega (arith, h.items, g.items, length-append is js);
        texts = rw (texts-append is js) (omega (arith, h.texts, g.texts, length-append (texts_in is) (texts_in js)));
        inside = rw (texts-append is js) (inside-append s (texts_in is) (texts_in js) h.inside g.inside);
      }

  -- parts one after another
  pub many-small : (a b : ℕ) (p : P (List Item)) → Gives s (Small s a b) p → (n : ℕ) → Gives s (Small s (n * a) (n * b)) (many n p)
  unfolding many
  many-small a b p h zero = done s [] (small-none (0 * a) (0 * b))
  many-small a b p h (suc n) = next s _ h (λ x hx. next s _ (many-small a b p h n) (λ xs hs. done s (x ++ xs) (wider (small-append hx hs) (omega arith) (omega arith))))

  pub visit-small : (a b base : ℕ) (p : ℕ → P (List Item)) → ((at : ℕ) → Gives s (Small s a b) (p at)) → (os : List ℕ) → Gives s (Small s (length os * a) (length os * b)) (visit base p os)
  unfolding visit
  visit-small a b base p h [] = done s [] (small-none (0 * a) (0 * b))
  visit-small a b base p h (o ∷ os) = next s _ (h (base + o)) (λ x hx. next s _ (visit-small a b base p h os) (λ xs hs. done s (x ++ xs) (wider (small-append hx hs) (omega arith) (omega arith))))

  -- ---- single reads

  pub ended-small : Gives s (Small s 1 1) one_ended
  ended-small = record { from = λ i. ended s i (λ h j. small-text i _ h) }

  pub fixed_small : (n : ℕ) → Gives s (λ t. Small s 1 1 (t ∷ [])) (fixed_text n)
  unfolding fixed_text
  fixed_small n = record { from = λ i. go i (fixed_of n s i) refl }
    where
      go : (i : ℕ) (r : Result (ℕ × ℕ) TextError) → fixed_of n s i ≡ r → If (λ t j. Small s 1 1 (t ∷ [])) (as_text i r)
      go i (Ok (m, q)) e = let f = fixed_text_lem n s i m q e in yes (small-text i m (omega (arith, f.within, f.fits)))
      go i (Err (TextPast o)) e = no _
      go i (Err (TextNoZero a)) e = no _

  pub numbers_fit : (n : ℕ) → Gives s (λ vs. (length vs ≡ n) × (4 * n ≤ length s)) (numbers n)
  numbers_fit n = record { from = λ i. rw (numbers_run n s i) (go i (numbers_of n s i) refl) }
    where
      go : (i : ℕ) (r : Result ℕ Past) → numbers_of n s i ≡ r → If (λ vs j. (length vs ≡ n) × (4 * n ≤ length s)) (as_numbers r (numbers_at n s i))
      go i (Ok q) e = yes (length-numbers n s i, omega (arith, (numbers_next n s i q e).0))
      go i (Err x) e = no _

-- ---- the counts

pub wider_all : (s : List ℕ) {a b : ℕ} (c d : ℕ) {p : P (List Item)} → Gives s (Small s a b) p → a ≤ c → b ≤ d → Gives s (Small s c d) p
wider_all s c d {p} g x y = record { from = λ i. weaker (p s i) (g.from i) (λ is j k. wider s k x y) }

-- items whose counts a usize holds
abbrev pub Countable : List ℕ → List Item → Type 0
Countable s is = Small s 144115188075855872 8589934592 is
