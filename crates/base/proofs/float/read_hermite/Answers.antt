-- `float::read_hermite` meets its contract: each of the three reads is that of a number of four bytes.
-- Assumes nothing.
use Prim.Native.Nat.{ℕ, ◌+◌}
use mathlib.Core.Path.{◌≡◌, refl, sym, ap, ◌∙◌}
use mathlib.Core.List.{List}
use native.Mathlib.Omega.{arith}
use Rattle.base.specs.Number.{read_of, past_end}
use Rattle.base.specs.Float.{hermite_of, patterns_at, read_hermite_of}
use Rattle.std.specs.Prelude.{Result, Ok, Err}
use Rattle.base.specs.declared.error.PastEnd.{PastEnd}
use Rattle.base.specs.declared.float.Hermite.{Hermite}
use Rattle.base.proofs.Results.{handed_on}
use Rattle.base.proofs.Numbers.{read_value_lem, read_past}
use Rattle.base.proofs.Floats.{hermite_there, hermite_short, hermite_short_2, hermite_short_3}
use Rattle.base.proofs.float.read_hermite.Goals as goal

past_is : (e : PastEnd) {at k : ℕ} → e.offset ≡ at → e.requested ≡ k → e ≡ past_end at k
past_is e p q = rw (sym p, sym q) refl

module _ (s : List ℕ) (at : ℕ) where
  past_1 : {e : PastEnd} → read_of 4 s at ≡ Err e → ◌≡◌ {A = Result (Hermite × ℕ) PastEnd} (Err e) (read_hermite_of s at)
  past_1 {e} q =
      let g = read_past 4 s at e.offset e.requested q in
      ap Err (past_is e g.place g.asked) ∙ (sym (hermite_short s at g.over))

  module _ {f a : ℕ} (first : read_of 4 s at ≡ Ok (f, a)) where
    past_2 : {e : PastEnd} → read_of 4 s a ≡ Err e → ◌≡◌ {A = Result (Hermite × ℕ) PastEnd} (Err e) (read_hermite_of s at)
    past_2 {e} q =
        let h = read_value_lem 4 s at f a first in
        let g = read_past 4 s a e.offset e.requested q in
        let ea = h.next in
        ap Err (past_is e g.place g.asked) ∙ rw ea (sym (hermite_short_2 s at h.fits (omega (arith, g.over))))

    module _ {v b : ℕ} (second : read_of 4 s a ≡ Ok (v, b)) where
      third : b ≡ at + 8
      third =
          let h = read_value_lem 4 s at f a first in
          let i = read_value_lem 4 s a v b second in
          omega arith

      past_3 : {e : PastEnd} → read_of 4 s b ≡ Err e → ◌≡◌ {A = Result (Hermite × ℕ) PastEnd} (Err e) (read_hermite_of s at)
      past_3 {e} q =
          let i = read_value_lem 4 s a v b second in
          let g = read_past 4 s b e.offset e.requested q in
          ap Err (past_is e g.place g.asked) ∙ rw third (sym (hermite_short_3 s at (omega (arith, third, i.next, i.fits)) (omega (arith, third, g.over))))

      whole : {w n : ℕ} {k : Hermite} → read_of 4 s b ≡ Ok (w, n) → k ≡ hermite_of (f, v, w) → Ok (k, n) ≡ read_hermite_of s at
      unfolding patterns_at
      whole {w} {n} e ek =
          let h = read_value_lem 4 s at f a first in
          let i = read_value_lem 4 s a v b second in
          let j = read_value_lem 4 s b w n e in
          let en : n ≡ at + 12 = omega (arith, third, j.next) in
          rw (ek, h.number, i.number, j.number, h.next, third, en) (sym (hermite_there s at (omega (arith, third, j.fits))))

pub returns-in_err-frame : goal.returns-in_err-frame
returns-in_err-frame c = handed_on _ c.from_residual.ensures.1 ∙ past_1 _ _ (sym c.in_err-frame.ensures)

pub returns-in_err-value : goal.returns-in_err-value
returns-in_err-value c = handed_on _ c.from_residual-in_err-value.ensures.1 ∙ past_2 _ _ (sym c.in_ok-frame.ensures) (sym c.in_err-value.ensures)

pub returns-in_err-slope : goal.returns-in_err-slope
returns-in_err-slope c = handed_on _ c.from_residual-in_err-slope.ensures.1 ∙ past_3 _ _ (sym c.in_ok-frame.ensures) (sym c.in_ok-value.ensures) (sym c.in_err-slope.ensures)

pub returns : goal.returns
returns c = whole _ _ (sym c.in_ok-frame.ensures) (sym c.in_ok-value.ensures) (sym c.in_ok-slope.ensures) c.from_bits.ensures
