-- `answer` meets its contract.
-- Assumes nothing.
use Rattle.std.proofs.Common.{sym}
use Rattle.round_trip.specs.Trip.{answered, number_of, of_trip}
use Rattle.round_trip.proofs.answer.Goals as goal

pub returns-in-Ok : goal.returns-in-Ok
unfolding answered
returns-in-Ok c = rw (c.in-Ok.is, sym c.part.ensures.0) c.run.ensures

pub returns-in-Err : goal.returns-in-Err
unfolding answered of_trip number_of
returns-in-Err c = rw c.in-Err.is c.reply.ensures
