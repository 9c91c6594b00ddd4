-- `text::fixed_text` meets its contract.
-- Assumes nothing.
use Rattle.std.specs.Prelude.{Ok, Err}
use Rattle.base.specs.Number.{past_end}
use Rattle.base.specs.declared.error.TextError.TheVariants.{PastEnd}
use Prim.Native.Nat.{ℕ, ◌+◌, ◌-◌, ◌<◌, ◌≤◌, min}
use mathlib.Core.Path.{◌≡◌, sym, ap, ◌∙◌}
use mathlib.Core.List.{List}
use native.Mathlib.Omega.{arith}
use borrow.Author.Tests.{le-leb, lt-leb}
use lib.ListN.{length, take, drop, length-take, length-drop}
use lib.Seq.{take_all}
use Rattle.base.specs.Text.{before_zero, fixed_of}
use Rattle.base.proofs.text.fixed_text.Goals as goal

module _ (n : ℕ) (s : List ℕ) (at : ℕ) where
  past : length s < at + min n 1 → Err (PastEnd (past_end at n)) ≡ fixed_of n s at
  unfolding fixed_of
  past h = rw (lt-leb (at + min n 1) (length s) h)

  -- the field's bytes and their number, whichever way the code reached them
  there : (r next : ℕ) → at + min n 1 ≤ length s → r ≡ before_zero (take n (drop at s)) → next ≡ at + length (take n (drop at s)) → Ok (r, next) ≡ fixed_of n s at
  unfolding fixed_of
  there r next h e l = rw (e, l, le-leb (at + min n 1) (length s) h)

  cut : (r : ℕ) → at ≤ length s → n ≤ length s - at → r ≡ before_zero (take (at + n - at) (drop at s)) → Ok (r, at + n) ≡ fixed_of n s at
  cut r h k e =
      let m : at + n - at ≡ n = omega arith in
      let l : length (take n (drop at s)) ≡ min n (length s - at) = simp (length-take, length-drop) in
      there r (at + n) (omega arith) (rw m at e) (omega arith)

  rest : (r : ℕ) → at < length s → length s - at ≤ n → r ≡ before_zero (take (length s - at) (drop at s)) → Ok (r, length s) ≡ fixed_of n s at
  rest r h k e =
      let l : length (take n (drop at s)) ≡ min n (length s - at) = simp (length-take, length-drop) in
      let d : length (drop at s) ≡ length s - at = length-drop at s in
      let a = take_all (length s - at) (drop at s) (omega arith) in
      let b = take_all n (drop at s) (omega arith) in
      there r (length s) (omega arith) (e ∙ ap before_zero (a ∙ sym b)) (omega arith)

pub returns-then-s-at : goal.returns-then-s-at
returns-then-s-at c = past _ _ _ (omega (arith, c.if-s-at.true))

pub returns-then-n-left : goal.returns-then-n-left
returns-then-n-left c = cut _ _ _ _ (omega arith) (omega arith) c.first_zero.ensures

pub returns-then-left-eq0 : goal.returns-then-left-eq0
returns-then-left-eq0 c = past _ _ _ (omega arith)

pub returns : goal.returns
returns c = rest _ _ _ _ (omega arith) (omega arith) c.first_zero-2.ensures
