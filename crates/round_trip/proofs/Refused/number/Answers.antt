-- `Refused::number` meets its contract.
-- Assumes nothing.
use Rattle.std.proofs.Common.{refl}
use Rattle.round_trip.specs.Trip.{number_of}
use Rattle.round_trip.proofs.Trips.{first_number}
use Rattle.round_trip.proofs.Refused.number.Goals as goal

pub returns-in-Unread : goal.returns-in-Unread
unfolding number_of
returns-in-Unread c = rw c.in-Unread.is refl

pub returns-in-TooLong : goal.returns-in-TooLong
unfolding number_of
returns-in-TooLong c = rw c.in-TooLong.is refl

pub returns-in-Reading : goal.returns-in-Reading
unfolding number_of
returns-in-Reading c = rw c.in-Reading.is (first_number _ _ c.numbers.ensures)

pub returns-in-Writing : goal.returns-in-Writing
unfolding number_of
returns-in-Writing c = rw c.in-Writing.is (first_number _ _ c.numbers-in-Writing.ensures)
