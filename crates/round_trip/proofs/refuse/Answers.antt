-- `refuse` meets its contract.
-- Assumes nothing.
use Rattle.std.proofs.Common.{◌∙◌}
use Rattle.round_trip.proofs.Decimals.{decimal_written, line_put}
use Rattle.round_trip.proofs.refuse.Goals as goal

pub returns : goal.returns
returns c =
    line_put _ _ _ _ _ _ (c.as_bytes-digits.ensures.value ∙ c.format.ensures.text ∙ decimal_written c.args.number c.ranges.number.fits) c.copy.ensures
    c.copy-2.ensures c.copy-3.ensures
