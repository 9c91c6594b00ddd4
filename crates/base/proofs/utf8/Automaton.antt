-- The automaton of `specs/Flow.antt`: bytes that lead from state 0 to state 0 are a well-formed text, so a scan may go on behind them.
-- Assumes nothing.
use Prim.Native.Nat.{ℕ, zero, suc, ◌+◌, ◌*◌, ◌/◌, ◌%◌, ◌^◌, ◌<◌, ◌≤◌}
use mathlib.Core.Path.{◌≡◌, refl, ap, sym, ◌∙◌}
use mathlib.Core.Bool.{Bool, true, false}
use mathlib.Core.List.{List, [], ◌∷◌, ◌++◌}
use native.Mathlib.Numerals.{add-one}
use native.Mathlib.Omega.{arith}
use borrow.Author.Tests.{ne_eqb, le-leb}
use lib.Dec.{eqb}
use lib.ListN.{length, get_or, take, drop, take-append-drop}
use lib.Seq.{slice, slice-cons, slice_empty, length-slice, length-take-le, drop-append-le}
use Rattle.base.specs.Choice.{pick}
use Rattle.base.specs.Utf8.{Range, rows, within, class_of, byte_class, later_of, matched, more, valid_up_to, well_formed}
use Rattle.base.specs.inner.Flow.{awaits, entered, passed, first_fits, state_after, flows, state_of, State, Rows, Flow}
use Rattle.base.proofs.utf8.Steps.{class_below, matched_none}
use Rattle.base.proofs.utf8.Pieces.{well_nil, well_good}
use Rattle.base.proofs.utf8.Laws.{before, good_from}

-- ---- no way leads back from state 1

stuck : (xs : List ℕ) → flows 1 xs ≡ false
unfolding flows state_after
stuck [] = refl
stuck (x ∷ xs) = stuck xs

not_both : (b : Bool) → b ≡ true → b ≡ false → ⊥
not_both b p q = let z : ◌≡◌ {A = ℕ} 0 1 = cc in omega arith

-- ---- the states against Table 3-7

-- behind a first byte of a class, the later bytes of its row are still to come
pub entered-awaits : (c : ℕ) → c < 9 → awaits (get_or entered (suc c) 1) ≡ later_of (suc c)
unfolding later_of rows
entered-awaits zero h = refl
entered-awaits (suc zero) h = refl
entered-awaits (suc (suc zero)) h = refl
entered-awaits (suc (suc (suc zero))) h = refl
entered-awaits (suc (suc (suc (suc zero)))) h = refl
entered-awaits (suc (suc (suc (suc (suc zero))))) h = refl
entered-awaits (suc (suc (suc (suc (suc (suc zero)))))) h = refl
entered-awaits (suc (suc (suc (suc (suc (suc (suc zero))))))) h = refl
entered-awaits (suc (suc (suc (suc (suc (suc (suc (suc zero)))))))) h = refl
entered-awaits (suc (suc (suc (suc (suc (suc (suc (suc (suc c))))))))) h = absurd (omega arith)

pub entered_below : (c : ℕ) → c < 10 → get_or entered c 1 < 9
entered_below zero h = omega arith
entered_below (suc zero) h = omega arith
entered_below (suc (suc zero)) h = omega arith
entered_below (suc (suc (suc zero))) h = omega arith
entered_below (suc (suc (suc (suc zero)))) h = omega arith
entered_below (suc (suc (suc (suc (suc zero))))) h = omega arith
entered_below (suc (suc (suc (suc (suc (suc zero)))))) h = omega arith
entered_below (suc (suc (suc (suc (suc (suc (suc zero))))))) h = omega arith
entered_below (suc (suc (suc (suc (suc (suc (suc (suc zero)))))))) h = omega arith
entered_below (suc (suc (suc (suc (suc (suc (suc (suc (suc zero))))))))) h = omega arith
entered_below (suc (suc (suc (suc (suc (suc (suc (suc (suc (suc c)))))))))) h = absurd (omega arith)

-- no byte that begins a row leads to state 1
pub entered_known : (c : ℕ) → c < 9 → get_or entered (suc c) 1 ≡ 1 → ⊥
entered_known zero h e = omega arith
entered_known (suc zero) h e = omega arith
entered_known (suc (suc zero)) h e = omega arith
entered_known (suc (suc (suc zero))) h e = omega arith
entered_known (suc (suc (suc (suc zero)))) h e = omega arith
entered_known (suc (suc (suc (suc (suc zero))))) h e = omega arith
entered_known (suc (suc (suc (suc (suc (suc zero)))))) h e = omega arith
entered_known (suc (suc (suc (suc (suc (suc (suc zero))))))) h e = omega arith
entered_known (suc (suc (suc (suc (suc (suc (suc (suc zero)))))))) h e = omega arith
entered_known (suc (suc (suc (suc (suc (suc (suc (suc (suc c))))))))) h e = omega arith

-- behind a later byte, what the state before it awaited but for that byte
pub record Awaiting (q : ℕ) : Type 0 where
  pub first : Range
  pub rest : awaits (suc (suc q)) ≡ first ∷ awaits (get_or passed (suc (suc q)) 1)
  pub small : get_or passed (suc (suc q)) 1 < 9
  pub known : get_or passed (suc (suc q)) 1 ≡ 1 → ⊥

pub awaiting : (q : ℕ) → q < 7 → Awaiting q
awaiting zero h = record { first = record { lo = 0x80; hi = 0xBF }; rest = refl; small = omega arith; known = λ e. omega arith }
awaiting (suc zero) h = record { first = record { lo = 0x80; hi = 0xBF }; rest = refl; small = omega arith; known = λ e. omega arith }
awaiting (suc (suc zero)) h = record { first = record { lo = 0xA0; hi = 0xBF }; rest = refl; small = omega arith; known = λ e. omega arith }
awaiting (suc (suc (suc zero))) h = record { first = record { lo = 0x80; hi = 0x9F }; rest = refl; small = omega arith; known = λ e. omega arith }
awaiting (suc (suc (suc (suc zero)))) h = record { first = record { lo = 0x90; hi = 0xBF }; rest = refl; small = omega arith; known = λ e. omega arith }
awaiting (suc (suc (suc (suc (suc zero))))) h = record { first = record { lo = 0x80; hi = 0xBF }; rest = refl; small = omega arith; known = λ e. omega arith }
awaiting (suc (suc (suc (suc (suc (suc zero)))))) h = record { first = record { lo = 0x80; hi = 0x8F }; rest = refl; small = omega arith; known = λ e. omega arith }
awaiting (suc (suc (suc (suc (suc (suc (suc q))))))) h = absurd (omega arith)

-- ---- bytes that flow to state 0 complete what is awaited, and are well-formed behind it

pub more_is : (x : ℕ) (xs : List ℕ) (c : ℕ) → class_of x ≡ c → more x xs ≡ matched (later_of c) xs
unfolding more
more_is x xs c e = rw e

pub matched_on : (r : Range) (rs : List Range) (x : ℕ) (xs : List ℕ) → within r x ≡ true → matched (r ∷ rs) (x ∷ xs) ≡ suc (matched rs xs)
unfolding matched
matched_on r rs x xs e = rw e

record Flowed (q : ℕ) (xs : List ℕ) : Type 0 where
  full : matched (awaits q) xs ≡ length (awaits q)
  rest : well_formed (drop (length (awaits q)) xs) ≡ true

flowed_first : (x : ℕ) (xs : List ℕ) (c : ℕ) → c < 10 → class_of x ≡ c → flows (get_or entered c 1) xs ≡ true → ((q : ℕ) → q < 9 → flows q xs ≡ true → Flowed q xs) → Flowed 0 (x ∷ xs)
flowed_first x xs zero h e f ih = absurd (not_both (flows 1 xs) f (stuck xs))
flowed_first x xs (suc c) h e f ih =
    let r = ih (get_or entered (suc c) 1) (entered_below (suc c) h) f in
    let a = entered-awaits c (omega arith) in
    let n : more x xs ≡ length (awaits (get_or entered (suc c) 1)) = more_is x xs (suc c) e ∙ rw (← a) r.full in
    let m : more x xs ≡ length (later_of (class_of x)) = rw (e, ← a) n in
    let g = good_from x xs (rw e (le-leb 1 (suc c) (omega arith))) m in
    record { full = sym (matched_none (x ∷ xs)); rest = well_good x xs g ∙ rw n r.rest }

flowed_later : (x : ℕ) (xs : List ℕ) (q : ℕ) (a : Awaiting q) (b : Bool) → within a.first x ≡ b → flows (pick b (get_or passed (suc (suc q)) 1) 1) xs ≡ true
    → ((p : ℕ) → p < 9 → flows p xs ≡ true → Flowed p xs) → Flowed (suc (suc q)) (x ∷ xs)
flowed_later x xs q a true e f ih =
    let r = ih (get_or passed (suc (suc q)) 1) a.small f in
    record { full = rw a.rest (matched_on _ _ x xs e ∙ ap suc r.full); rest = rw a.rest r.rest }
flowed_later x xs q a false e f ih = absurd (not_both (flows 1 xs) f (stuck xs))

flowed : (xs : List ℕ) (q : ℕ) → q < 9 → flows q xs ≡ true → Flowed q xs
unfolding flows state_after
flowed [] zero h f = record { full = sym (matched_none []); rest = well_nil }
flowed [] (suc q) h f = absurd (not_both (eqb (suc q) 0) f (ne_eqb (suc q) 0 (λ e. omega arith)))
flowed (x ∷ xs) zero h f = flowed_first x xs (class_of x) (class_below x) refl f (flowed xs)
flowed (x ∷ xs) (suc zero) h f = absurd (not_both (flows 1 xs) f (stuck xs))
flowed (x ∷ xs) (suc (suc q)) h f =
    let a = awaiting q (omega arith) in
    flowed_later x xs q a (within a.first x) refl (later (eqb (suc (suc q)) 0) (ne_eqb (suc (suc q)) 0 (λ e. omega arith)) (awaits (suc (suc q))) a.rest f) (flowed xs)
  where
    later : (t : Bool) → t ≡ false → (rs : List Range) → rs ≡ (awaiting q (omega arith)).first ∷ awaits (get_or passed (suc (suc q)) 1)
        → flows (pick t (get_or entered (class_of x) 1) (pick (first_fits rs x) (get_or passed (suc (suc q)) 1) 1)) xs ≡ true
        → flows (pick (within (awaiting q (omega arith)).first x) (get_or passed (suc (suc q)) 1) 1) xs ≡ true
    later t e rs r k = rw (e, r) at k

pub flows_well : (xs : List ℕ) → flows 0 xs ≡ true → well_formed xs ≡ true
flows_well xs f = (flowed xs 0 (omega arith) f).rest

-- ---- at positions of a slice

-- one turn: the state behind one byte more
pub flows-turn : (q : ℕ) (s : List ℕ) (j e : ℕ) → j < e → e ≤ length s → flows q (slice j e s) ≡ flows (state_after q (get_or s j 0)) (slice (j + 1) e s)
unfolding flows
flows-turn q s j e h k = rw (add-one, slice-cons j e s 0 h k)

pub flows_end : (q : ℕ) (s : List ℕ) (e : ℕ) → flows q (slice e e s) ≡ eqb q 0
unfolding flows
flows_end q s e = rw slice_empty

-- behind bytes that flow from state 0 to state 0 the scan may go on
short : (s : List ℕ) (j i : ℕ) → i ≤ j → j ≤ length s → i ≤ length (take j s)
short s j i h k = rw (length-take-le j s k) h

pub flows_on : (s : List ℕ) (i j : ℕ) → i ≤ j → j ≤ length s → flows 0 (slice i j s) ≡ true → j + valid_up_to (drop j s) ≡ i + valid_up_to (drop i s)
flows_on s i j h k f =
    let b = before (slice i j s) (drop j s) (flows_well _ f) in
    let l = length-slice i j s k in
    let e : slice i j s ++ drop j s ≡ drop i s = cut in
    let r = b.reach in
    let w = ap valid_up_to e in
    omega arith
  where
    cut : slice i j s ++ drop j s ≡ drop i s
    cut = sym (drop-append-le i (take j s) (drop j s) (short s j i h k)) ∙ ap (drop i) (take-append-drop j s)

-- ---- the automaton on its way

-- a state that is held
state_is : (v n : ℕ) → v % 64 ≡ 6 * n → n < 9 → State v × (state_of v ≡ n)
unfolding state_of
state_is v n e h = (record { whole = omega arith; small = omega arith }, omega arith)

pub zero_state : State 0
zero_state = (state_is 0 0 refl (omega arith)).0

pub state_zero : (q : ℕ) → q % 64 ≡ 0 → state_of q ≡ 0
state_zero q e = (state_is q 0 (omega arith) (omega arith)).1

pub state_lost : (q : ℕ) → q % 64 ≡ 6 → state_of q ≡ 1
state_lost q e = (state_is q 1 (omega arith) (omega arith)).1

pub not_zero_lem : (q : ℕ) → State q → (q % 64 ≡ 0 → ⊥) → state_of q ≡ 0 → ⊥
not_zero_lem q h n e = n (omega (arith, h.whole))

pub not_lost : (q : ℕ) → State q → (q % 64 ≡ 6 → ⊥) → state_of q ≡ 1 → ⊥
not_lost q h n e = n (omega (arith, h.whole))

-- a shift of the row of a byte's class gives the state behind it
pub next_held : (r : List ℕ) (q b c : ℕ) → Rows r → State q → b < 256 → c ≡ byte_class b
    → State (get_or r c 0 / 2 ^ (q % 64)) × (state_of (get_or r c 0 / 2 ^ (q % 64)) ≡ state_after (state_of q) b)
next_held r q b c rr sq h ec =
    let m = rr.entry b (state_of q) h sq.small in
    let e : get_or r c 0 / 2 ^ (q % 64) % 64 ≡ 6 * state_after (state_of q) b = rw (ec, ← sq.whole) m.0 in
    state_is _ _ e m.1

module _ (s : List ℕ) where
  pub flow_start : (i p : ℕ) → State p → i ≤ length s → Flow s i p i p
  flow_start i p h k = record { held = h; start = omega arith; fits = k; same = λ e l m. refl }

  pub flow_turn : (i p j q r : ℕ) → Flow s i p j q → j < length s → State r → state_of r ≡ state_after (state_of q) (get_or s j 0) → Flow s i p (j + 1) r
  flow_turn i p j q r f h t e =
      record {
        held = t;
        start = omega (arith, f.start);
        fits = omega arith;
        same = λ k l m. rw e (sym (flows-turn (state_of q) s j k (omega arith) m) ∙ f.same k (omega arith) m);
      }

  pub flow_join : (i p j q k r : ℕ) → Flow s i p j q → Flow s j q k r → Flow s i p k r
  flow_join i p j q k r f g =
      record {
        held = g.held;
        start = omega (arith, f.start, g.start);
        fits = g.fits;
        same = λ e l m. g.same e l m ∙ f.same e (omega (arith, g.start)) m;
      }

  -- between two characters it may as well start
  pub flow_here : (j q : ℕ) → State q → state_of q ≡ 0 → j ≤ length s → Flow s j 0 j q
  flow_here j q h e k =
      let z : state_of q ≡ state_of 0 = e ∙ sym (state_zero 0 refl) in
      record { held = h; start = omega arith; fits = k; same = λ n l m. rw z }

  pub flow_end : (i j q : ℕ) → Flow s i 0 j q → state_of q ≡ 0 → j + valid_up_to (drop j s) ≡ i + valid_up_to (drop i s)
  flow_end i j q f e =
      let w : flows (state_of 0) (slice i j s) ≡ true = sym (f.same j (omega arith) f.fits) ∙ rw e (flows_end 0 s j) in
      flows_on s i j f.start f.fits (rw (state_zero 0 refl) at w)
