-- `reply` meets its contract.
-- Assumes nothing.
use Rattle.std.proofs.Common.{sym, refl}
use Rattle.round_trip.specs.Trip.{of_trip, replied_with, replied}
use Rattle.round_trip.proofs.reply.Goals as goal

pub returns-in-Ok : goal.returns-in-Ok
unfolding of_trip replied replied_with
returns-in-Ok c = rw c.in-Ok.is

pub returns-in-Err : goal.returns-in-Err
unfolding of_trip replied replied_with
returns-in-Err c = rw (c.in-Err.is, sym c.number.ensures, c.refuse.ensures.0, c.refuse.ensures.1) refl
