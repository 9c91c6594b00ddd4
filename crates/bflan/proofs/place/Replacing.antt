-- Layouts with bytes replaced: numbers, layouts one behind another, and an element among parts and in their table.
-- Assumes nothing.
use Prim.Native.Nat.{ℕ, zero, suc, ◌+◌, ◌*◌, ◌^◌, ◌≤◌, ◌<◌}
use mathlib.Core.Path.{◌≡◌, refl, ap, sym, subst, ◌∙◌}
use mathlib.Core.List.{List, [], ◌∷◌, ◌++◌, append-nil}
use native.Mathlib.Nat.{add-zero, zero-add, add_assoc, suc-add}
use native.Mathlib.Omega.{arith}
use lib.ListN.{length, set, length-set}
use lib.Seq.{sets, sets-eq, drop-length, set-append_left}
use Rattle.base.specs.Number.{le, get}
use Rattle.bflan.specs.Layout.{Layout, number, ◌⨾◌, size, written, row, parts, table}
use Rattle.bflan.specs.Limits.{All}
use Rattle.bflan.specs.pai1.Places.{total, first, Found, missing, of_element, changed}
use Rattle.bflan.proofs.Layouts.{size-written, size-row, Stands, stands_left, stands_right, stands_to, stands_get}

-- ---- a run of stores in a list of two parts

sets_front : (a b : List ℕ) (o : ℕ) (v : List ℕ) → o + length v ≤ length a → sets (a ++ b) o v ≡ sets a o v ++ b
sets_front a b o [] h = refl
sets_front a b o (x ∷ v) h =
    let k : suc o + length v ≤ length (set a o x) = simp length-set (omega arith) in
    rw (set-append_left a b o x (omega arith)) (sets_front (set a o x) b (suc o) v k)

sets_cons : (y : ℕ) (l : List ℕ) (o : ℕ) (v : List ℕ) → sets (y ∷ l) (suc o) v ≡ y ∷ sets l o v
sets_cons y l o [] = refl
sets_cons y l o (x ∷ v) = sets_cons y (set l o x) (suc o) v

sets_back : (a b : List ℕ) (o : ℕ) (v : List ℕ) → sets (a ++ b) (length a + o) v ≡ a ++ sets b o v
sets_back [] b o v = rw zero-add
sets_back (y ∷ a) b o v = rw (suc-add, sets_cons y (a ++ b) (length a + o) v, sets_back a b o v)

sets-whole : (l v : List ℕ) → length v ≡ length l → sets l 0 v ≡ v
sets-whole l v e = sets-eq v l 0 (omega arith) ∙ rw (e, zero-add, drop-length l) (append-nil v)

-- ---- a layout with the bytes bs from o on

pub record Replaces (bs : List ℕ) (o : ℕ) (l m : Layout) : Type 0 where
  pub inside : o + length bs ≤ size l
  pub same : size l ≡ size m
  pub writes : sets (written l) o bs ≡ written m

pub replaces_to : {bs : List ℕ} {o p : ℕ} {l m : Layout} → Replaces bs o l m → o ≡ p → Replaces bs p l m
replaces_to {bs} {o} {p} {l} {m} h e = subst (λ (k : ℕ). Replaces bs k l m) e h

module _ {bs : List ℕ} {o : ℕ} where
  pub replaces_left : {a c : Layout} (b : Layout) → Replaces bs o a c → Replaces bs o (a ⨾ b) (c ⨾ b)
  unfolding size written
  replaces_left {a} {c} b h =
      record {
        inside = omega (arith, h.inside);
        same = ap (λ (n : ℕ). n + size b) h.same;
        writes = sets_front (written a) (written b) o bs (rw (size-written a) h.inside) ∙ ap (λ (l : List ℕ). l ++ written b) h.writes;
      }

  pub replaces_right : (a : Layout) {b c : Layout} → Replaces bs o b c → Replaces bs (size a + o) (a ⨾ b) (a ⨾ c)
  unfolding size written
  replaces_right a {b} {c} h =
      record {
        inside = omega (arith, h.inside);
        same = ap (λ (n : ℕ). size a + n) h.same;
        writes = rw (← size-written a) (sets_back (written a) (written b) o bs ∙ ap (λ (l : List ℕ). written a ++ l) h.writes);
      }

-- the whole
pub replaces_whole : (l m : Layout) → size l ≡ size m → Replaces (written m) 0 l m
replaces_whole l m e =
    let n : length (written m) ≡ size l = size-written m ∙ sym e in
    record { inside = omega (arith, n); same = e; writes = sets-whole (written l) (written m) (n ∙ sym (size-written l)) }

-- ---- rows

pub length-row : (ks vs : List ℕ) → length (written (row ks vs)) ≡ total ks
length-row ks vs = size-written (row ks vs) ∙ size-row ks vs

-- one number
row_one : (k : ℕ) (vs : List ℕ) → written (row (k ∷ []) vs) ≡ le k (first vs)
unfolding written row
row_one k [] = append-nil (le k 0)
row_one k (v ∷ vs) = append-nil (le k v)

pub replaces_number : (k n : ℕ) (vs : List ℕ) → Replaces (written (row (k ∷ []) vs)) 0 (number k n) (number k (first vs))
unfolding size written
replaces_number k n vs = rw (row_one k vs) (replaces_whole (number k n) (number k (first vs)) refl)

-- ---- elements

module _ {X : Type 0} where
  pub length-changed : (xs : List X) (n : ℕ) (g : X → X) → length (changed xs n g) ≡ length xs
  unfolding changed
  length-changed [] n g = refl
  length-changed (x ∷ xs) zero g = refl
  length-changed (x ∷ xs) (suc n) g = ap suc (length-changed xs n g)

  pub no_element : {A : Type 0} (xs : List X) (n : ℕ) (none : A) (f : X → A) → length xs ≤ n → of_element xs n none f ≡ none
  unfolding of_element
  no_element [] n none f h = refl
  no_element (x ∷ xs) zero none f h = absurd (omega arith)
  no_element (x ∷ xs) (suc n) none f h = no_element xs n none f (omega arith)

module _ {X : Type 0} (lay : X → Layout) where
  -- the bytes before part n
  abbrev pub ahead : List X → ℕ → ℕ
  ahead [] n = 0
  ahead (x ∷ xs) zero = 0
  ahead (x ∷ xs) (suc n) = size (lay x) + ahead xs n

  -- where all parts have one size
  pub ahead_even : (k : ℕ) → ((x : X) → size (lay x) ≡ k) → (xs : List X) (n : ℕ) → n ≤ length xs → ahead xs n ≡ n * k
  ahead_even k e [] zero h = omega arith
  ahead_even k e [] (suc n) h = absurd (omega arith)
  ahead_even k e (x ∷ xs) zero h = omega arith
  ahead_even k e (x ∷ xs) (suc n) h = omega (arith, e x, ahead_even k e xs n (omega arith))

  -- entry n of the table is part n's offset
  pub table-entry : (s : List ℕ) (i from : ℕ) (xs : List X) (n : ℕ) → n < length xs → from + size (parts lay xs) < 256 ^ 4 → Stands s i (table lay from xs)
      → get 4 s (i + 4 * n) ≡ from + ahead xs n
  unfolding table parts size
  table-entry s i from [] n l b h = absurd (omega arith)
  table-entry s i from (x ∷ xs) zero l b h =
      let r : from < 256 ^ 4 = omega arith in
      rw (add-zero, add-zero) (stands_get (stands_left h) r)
  table-entry s i from (x ∷ xs) (suc n) l b h =
      let e : i + 4 * suc n ≡ i + 4 + 4 * n = omega arith in
      rw (e, ← add_assoc) (table-entry s (i + 4) (from + size (lay x)) xs n (omega arith) (omega arith) (stands_right h))

  -- part n: what is said of it, where it stands, and what its change is in the whole
  pub record Element (Q : X → Type 0) (xs : List X) (n : ℕ) : Type 0 where
    pub part : X
    pub says : (f : X → Found) → of_element xs n missing f ≡ f part
    pub fine : All Q xs → Q part
    pub stands : (s : List ℕ) (i : ℕ) → Stands s i (parts lay xs) → Stands s (i + ahead xs n) (lay part)
    pub replaces : (g : X → X) (bs : List ℕ) (o : ℕ) → Replaces bs o (lay part) (lay (g part)) → Replaces bs (ahead xs n + o) (parts lay xs) (parts lay (changed xs n g))
    pub tabled : (g : X → X) (from : ℕ) → size (lay part) ≡ size (lay (g part)) → table lay from (changed xs n g) ≡ table lay from xs
    pub every : (g : X → X) → Q (g part) → All Q xs → All Q (changed xs n g)

  pub element : (Q : X → Type 0) (xs : List X) (n : ℕ) → n < length xs → Element Q xs n
  unfolding of_element changed parts table size
  element Q [] n l = absurd (omega arith)
  element Q (x ∷ xs) zero l =
      record {
        part = x;
        says = λ f. refl;
        fine = λ q. q.0;
        stands = λ s i h. stands_to (stands_left h) (omega arith);
        replaces = λ g bs o r. replaces_to (replaces_left (parts lay xs) r) (omega arith);
        tabled = λ g from e. rw (← e);
        every = λ g q qs. (q, qs.1);
      }
  element Q (x ∷ xs) (suc n) l =
      let e : Element Q xs n = element Q xs n (omega arith) in
      record {
        part = e.part;
        says = e.says;
        fine = λ q. e.fine q.1;
        stands = λ s i h. stands_to (e.stands s (i + size (lay x)) (stands_right h)) (omega arith);
        replaces = λ g bs o r. replaces_to (replaces_right (lay x) (e.replaces g bs o r)) (omega arith);
        tabled = λ g from q. ap (λ (t : Layout). number 4 from ⨾ t) (e.tabled g (from + size (lay x)) q);
        every = λ g q qs. (qs.0, e.every g q qs.1);
      }
