-- A target, by its twelve bytes and its keys; and its words, as a walk stores them.
-- Assumes nothing.
use Prim.Native.Nat.{ℕ, zero, suc, ◌+◌, ◌<◌, ◌≤◌}
use mathlib.Core.Path.{◌≡◌, refl, ap, sym, ◌∙◌}
use mathlib.Core.List.{List, [], ◌∷◌}
use native.Mathlib.Omega.{arith}
use borrow.Author.Tests.{le-leb, lt-leb}
use lib.ListN.{length, get_or}
use Rattle.base.specs.declared.error.PastEnd.{PastEnd as Past}
use Rattle.base.specs.Number.{get}
use Rattle.base.specs.Seek.{seek_of}
use Rattle.base.proofs.Numbers.{get_zero, get_suc}
use Rattle.bflan.specs.declared.curve.Curve.{Curve}
use Rattle.bflan.specs.declared.curve.Curve.TheVariants.{Constant, Step, Hermite}
use Rattle.bflan.specs.declared.fault.Fault.{Fault}
use Rattle.bflan.specs.declared.reader.tally.Tables.{Tables}
use Rattle.std.specs.Prelude.{Ok, Err}
use Rattle.bflan.specs.pai1.Curves.{curve_number}
use Rattle.bflan.specs.pai1.Letters.{target_of}
use Rattle.bflan.specs.Reader.{past_fault, Res, stop, and_then, ◌>>=◌, ret, Item, word, seek_to, many}
use Rattle.bflan.specs.pai1.Reading.{curve_of, count_of, keys, target}
use Rattle.bflan.specs.pai1.Places.{total}
use Rattle.bflan.specs.inner.Row.{sought_cut}
use Rattle.bflan.specs.inner.Walk.{after, walk_of, walked}
use Rattle.bflan.proofs.reader.Emits.{sought_on, sought_past}
use Rattle.bflan.proofs.reader.Rows.{row_then, fields_at, sought_row, sought_short}
use Rattle.bflan.proofs.reader.Walks.{before, before-before, put-before, Small, after_both, walk_behind, told_items}

-- ---- its fields

module _ (curve n : ℕ) where
  pub curve_low : curve ≤ 2 → curve_of curve ≡ curve
  unfolding curve_of
  curve_low h = rw (le-leb curve 2 h)

  pub count_low : curve ≤ 2 → count_of curve n ≡ n
  unfolding count_of
  count_low h = rw (le-leb curve 2 h)

  pub curve_high : 2 < curve → curve_of curve ≡ 0
  unfolding curve_of
  curve_high h = rw (lt-leb curve 2 h)

  pub count_high : 2 < curve → count_of curve n ≡ 0
  unfolding count_of
  count_high h = rw (lt-leb curve 2 h)

  -- the keys of the curve and the count that are kept are those that are read
  keys_kept : keys (curve_of curve) (count_of curve n) ≡ keys curve n
  unfolding keys curve_of count_of
  keys_kept = go curve
    where
      go : (c : ℕ) → keys (curve_of c) (count_of c n) ≡ keys c n
      go zero = refl
      go (suc zero) = refl
      go (suc (suc zero)) = refl
      go (suc (suc (suc c))) = rw (lt-leb (suc (suc (suc c))) 2 (omega arith))

pub number-low : (curve : Curve) → curve_number curve ≤ 2
number-low Constant = omega arith
number-low Step = omega arith
number-low Hermite = omega arith

-- ---- its head

-- what is read behind the numbers of a target's head
abbrev pub target_after : ℕ → ℕ → List ℕ → List ℕ → ℕ → Res (List Item)
target_after letters base vs =
    ◌>>=◌ (seek_to (base + get_or vs 6 0))
    (λ at. ◌>>=◌ (keys (get_or vs 2 0) (get_or vs 4 0))
    (λ ks. ret (word (get_or vs 0 0) ∷ word (target_of letters (get_or vs 1 0)) ∷ word (curve_of (get_or vs 2 0)) ∷ word (count_of (get_or vs 2 0) (get_or vs 4 0)) ∷ ks)))

abbrev pub target_widths : List ℕ
target_widths = 1 ∷ 1 ∷ 1 ∷ 1 ∷ 2 ∷ 2 ∷ 4 ∷ []

module _ (letters base : ℕ) (s : List ℕ) (i : ℕ) where
  -- a seek, its numbers as a row, and what is behind them
  target_seek : target letters base s i ≡ and_then (seek_to base s i) (λ at. row_then target_widths (target_after letters base)) s
  unfolding target row_then
  target_seek = refl

  pub target_short : {f : Fault} → length s < base + 12 → f ≡ sought_cut target_widths s base → target letters base s i ≡ stop f
  unfolding total
  target_short h e = rw e (target_seek ∙ sought_short s target_widths (target_after letters base) base i h)

  -- with all of them there it goes on with its keys, where its offset is in the section
  pub target_there : base + 12 ≤ length s → target letters base s i ≡ target_after letters base (fields_at target_widths s base 0) s (base + 12)
  unfolding total
  target_there h = target_seek ∙ sought_row s target_widths (target_after letters base) base i h

  pub target_on : (p : ℕ) → base + 12 ≤ length s → seek_of s (base + get 4 s (base + 8)) ≡ Ok p
      → target letters base s i ≡ and_then (keys (get 1 s (base + 2)) (get 2 s (base + 4)) s p) (λ ks. ret (word (get 1 s base) ∷ word (target_of letters (get 1 s (base + 1))) ∷ word (curve_of (get 1 s (base + 2))) ∷ word (count_of (get 1 s (base + 2)) (get 2 s (base + 4))) ∷ ks)) s
  unfolding fields_at
  target_on p h k = target_there h ∙ rw (sought_on s (base + get 4 s (base + 8)) (base + 12) p k)

  pub target_past : (past : Past) → base + 12 ≤ length s → seek_of s (base + get 4 s (base + 8)) ≡ Err past → target letters base s i ≡ stop (past_fault past)
  unfolding fields_at
  target_past past h z = target_there h ∙ rw (sought_past s (base + get 4 s (base + 8)) (base + 12) past z)

  -- the same with the fields as code has them
  pub target_fields : (p : ℕ) {layer raw curve n : ℕ} → base + 12 ≤ length s → seek_of s (base + get 4 s (base + 8)) ≡ Ok p
      → layer ≡ get 1 s base → raw ≡ get_or s (base + 1) 0 → curve ≡ curve_of (get 1 s (base + 2)) → n ≡ count_of (get 1 s (base + 2)) (get 2 s (base + 4))
      → and_then (keys curve n s p) (λ ks. ret (word layer ∷ word (target_of letters raw) ∷ word curve ∷ word n ∷ ks)) s ≡ target letters base s i
  target_fields p h k el er ec en =
      let one : get_or s (base + 1) 0 ≡ get 1 s (base + 1) = omega (arith, get_suc 0 s (base + 1), get_zero s (base + 1 + 1)) in
      rw (el, er, one, ec, en, keys_kept (get 1 s (base + 2)) (get 2 s (base + 4))) (sym (target_on p h k))

-- ---- its words, as a walk stores them

module _ (s : List ℕ) (t : Tables) where
  -- two words stored, in front of two more and what follows them
  pub run_target : (a b c d : ℕ) (r : Res (List Item)) {u : Tables} {b' : ℕ} → Small t → u ≡ after s t (word a ∷ word b' ∷ []) → b' ≡ b
      → walk_of s u (and_then r (λ ks. ret (word c ∷ word d ∷ ks)) s) ≡ walk_of s t (and_then r (λ ks. ret (word a ∷ word b ∷ word c ∷ word d ∷ ks)) s)
  run_target a b c d r h eu eb =
      rw (put-before (word c ∷ word d ∷ []) r s, put-before (word a ∷ word b ∷ word c ∷ word d ∷ []) r s)
      (walk_behind s t (word a ∷ word b ∷ []) (before (word c ∷ word d ∷ []) r) h (eu ∙ ap (λ (n : ℕ). after s t (word a ∷ word n ∷ [])) eb) (before-before (word a ∷ word b ∷ []) (word c ∷ word d ∷ []) r))

  -- the same where no keys are behind them, and the last two are 0
  pub run_none : (a b p : ℕ) {u v : Tables} {b' : ℕ} → Small t → u ≡ after s t (word a ∷ word b' ∷ []) → b' ≡ b → v ≡ after s u (word 0 ∷ word 0 ∷ [])
      → walked (Ok p) v ≡ walk_of s t (and_then (keys 0 0 s p) (λ ks. ret (word a ∷ word b ∷ word 0 ∷ word 0 ∷ ks)) s)
  unfolding keys curve_of count_of many
  run_none a b p h eu eb ev =
      told_items s t (word a ∷ word b ∷ word 0 ∷ word 0 ∷ []) p (after_both s t (word a ∷ word b ∷ []) (word 0 ∷ word 0 ∷ []) h (eu ∙ ap (λ (n : ℕ). after s t (word a ∷ word n ∷ [])) eb) ev)
