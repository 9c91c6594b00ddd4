-- `float::read_f32` meets its contract, by the read of its four bytes. Assumes nothing.
use Rattle.std.specs.Prelude.{Ok}
use Rattle.std.proofs.Common.{◌∙◌, ap}
use Rattle.base.specs.declared.float.Binary32.{Binary32}
use Rattle.base.proofs.Floats.{float_by_read}
use Rattle.base.proofs.Results.{handed_on}
use Rattle.base.proofs.float.read_f32.Goals as goal

pub returns-in_err-bits : goal.returns-in_err-bits
returns-in_err-bits c = handed_on _ c.from_residual.ensures.1 ∙ float_by_read c.args.s.now c.args.at c.in_err-bits.ensures

pub returns : goal.returns
returns c = ap (λ (x : Binary32). Ok (x, c.in_ok-bits.next)) c.from_bits.ensures ∙ float_by_read c.args.s.now c.args.at c.in_ok-bits.ensures
