-- `run` meets its contract.
-- Assumes nothing.
use mathlib.Core.Path.{ap, ◌∙◌}
use Rattle.round_trip.specs.Trip.{replied}
use Rattle.round_trip.proofs.run.Goals as goal

pub returns : goal.returns
returns c = c.reply.ensures ∙ ap replied c.round_trip-t.ensures
