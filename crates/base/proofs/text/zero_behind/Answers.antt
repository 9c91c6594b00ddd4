-- `text::zero_behind` meets its contract.
-- Assumes nothing.
use mathlib.Core.Path.{sym, ◌∙◌}
use Prim.Native.Nat.{◌+◌, ◌-◌, ◌≤◌}
use native.Mathlib.Omega.{arith}
use lib.ListN.{length}
use Rattle.base.specs.Text.{before_zero}
use Rattle.base.proofs.Zeros.{before-le, block_free}
use Rattle.base.proofs.text.zero_behind.Goals as goal

pub returns-then-every_in : goal.returns-then-every_in
returns-then-every_in c =
    let s = c.args.text.now in
    let b : length s - 8 + 8 ≤ before_zero s = block_free s (length s - 8) 8 (omega (arith, c.requires.0, c.requires.1)) (omega (arith, c.if-n-lt8.false)) (sym c.every_in.ensures ∙ c.if-every_in.true) in
    omega (arith, b, before-le s, c.if-n-lt8.false)
