-- `writer::Writer::put_padding` meets its contract.
-- Assumes nothing.
use Prim.Native.Nat.{◌-◌}
use native.Mathlib.Omega.{arith}
use Rattle.base.proofs.Padding.{padding_lt}
use Rattle.bflan.proofs.writer.Writer.put_padding.Goals as goal

pub overflow_add-self : goal.overflow_add-self
overflow_add-self c = omega (arith, c.padding-n.ensures, padding_lt (c.args.self.now.at - c.args.start), c.requires.1)
