-- `text::zero_from` meets its contract. The loop's invariant: the bytes passed and those before the first zero from there are what they were.
-- Assumes nothing.
use Prim.Native.Nat.{◌+◌, ◌≤◌}
use mathlib.Core.Path.{◌≡◌}
use lib.ListN.{length, drop}
use Rattle.base.specs.Text.{before_zero}
use Rattle.base.proofs.text.zero_from.Given as goal

abbrev pub invariant-loop-i : goal.invariant-loop-i
invariant-loop-i l = (l.i ≤ length l.text) × (l.i + before_zero (drop l.i l.text) ≡ l.at + before_zero (drop l.at l.text))
