-- `text::ended_text` meets its contract.
-- Assumes nothing.
use Rattle.std.specs.Prelude.{Ok, Err}
use Rattle.base.specs.declared.error.TextError.TheVariants.{NoZero}
use Prim.Native.Nat.{ℕ, ◌+◌, ◌-◌, ◌<◌, ◌≤◌}
use mathlib.Core.Path.{◌≡◌, ap, ◌∙◌}
use mathlib.Core.List.{List}
use native.Mathlib.Omega.{arith}
use borrow.Author.Tests.{lt-ltb, le-ltb}
use lib.ListN.{length, take, drop, length-drop}
use lib.Seq.{take_all}
use Rattle.base.specs.Text.{before_zero, ended_of}
use Rattle.base.proofs.Zeros.{before-le}
use Rattle.base.proofs.text.ended_text.Goals as goal

module _ (s : List ℕ) (at : ℕ) where
  past : length s ≤ at → Err (NoZero at) ≡ ended_of s at
  unfolding ended_of
  past h = rw (le-ltb (at + before_zero (drop at s)) (length s) (omega arith))

  -- the part from at on, as a slice
  whole : (r : ℕ) → r ≡ before_zero (take (length s - at) (drop at s)) → r ≡ before_zero (drop at s)
  whole r e = e ∙ ap before_zero (take_all (length s - at) (drop at s) (simp length-drop (omega arith)))

  reach : (r : ℕ) → at < length s → r ≡ before_zero (take (length s - at) (drop at s)) → at + r ≤ length s
  reach r h e =
      let z : before_zero (drop at s) ≤ length s - at = rw length-drop at (before-le (drop at s)) in
      omega (arith, whole r e)

  module _ (r : ℕ) (e : r ≡ before_zero (take (length s - at) (drop at s))) where
    found : at + r < length s → Ok (r, at + r + 1) ≡ ended_of s at
    unfolding ended_of
    found h = rw (← whole r e, lt-ltb (at + r) (length s) h)

    none : length s ≤ at + r → Err (NoZero at) ≡ ended_of s at
    unfolding ended_of
    none h = rw (← whole r e, le-ltb (at + r) (length s) h)

pub returns-then-s-at : goal.returns-then-s-at
returns-then-s-at c = past _ _ c.if-s-at.true

pub overflow_add-zero : goal.overflow_add-zero
overflow_add-zero c = omega (arith, reach c.args.s.now c.args.at _ c.if-s-at.false c.first_zero-n.ensures)

pub returns-then-zero-s : goal.returns-then-zero-s
returns-then-zero-s c = found _ _ _ c.first_zero-n.ensures c.if-zero-s.true

pub returns-else-zero-s : goal.returns-else-zero-s
returns-else-zero-s c = none _ _ _ c.first_zero-n.ensures c.if-zero-s.false
