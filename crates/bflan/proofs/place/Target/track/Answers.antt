-- `place::Target::track` meets its contract.
-- Assumes nothing.
use Rattle.bflan.proofs.place.Locating.{curve_is}
use Rattle.bflan.proofs.place.Target.track.Goals as goal

pub returns : goal.returns
returns c =
    rw (curve_is _ _ c.curve_and_count-curve.ensures.0, c.curve_and_count-curve.ensures.1, c.byte_at.ensures.0, c.half_at.ensures.0, c.offset_at.ensures.0)
