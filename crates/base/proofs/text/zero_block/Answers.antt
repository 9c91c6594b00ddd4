-- `text::zero_block` meets its contract.
-- Assumes nothing.
use native.Mathlib.Omega.{arith}
use Rattle.base.proofs.Zeros.{zero_in_four}
use Rattle.base.proofs.text.zero_block.Goals as goal

pub returns : goal.returns
returns c =
    let z = zero_in_four c.args.text.now c.args.at _ _ _ _ _ _ c.requires.0 c.requires.1 c.requires.2 c.every_in-a.ensures c.every_in-b.ensures c.every_in-c.ensures c.eight_if.ensures.0 c.eight_if-2.ensures.0 c.eight_if-3.ensures.0 in
    (z.0, z.1, omega (arith, c.eight_if-3.ensures.1, c.eight_if-2.ensures.1, c.eight_if.ensures.1, c.requires.0))
