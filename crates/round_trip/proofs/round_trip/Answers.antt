-- `round_trip` meets its contract.
-- Assumes nothing.
use Rattle.std.proofs.lemmas.Result.{err_from_is_err_and}
use Rattle.round_trip.proofs.Trips.{trip-long, trip_unread, trip-read, held}
use Rattle.round_trip.proofs.round_trip.Goals as goal

pub returns-then-section-gt-MOST : goal.returns-then-section-gt-MOST
returns-then-section-gt-MOST c = trip-long _ _ _ _ c.if-section-gt-MOST.true

pub returns-in_err-filled : goal.returns-in_err-filled
returns-in_err-filled c =
    let p = err_from_is_err_and c.from_residual.result c.from_residual.ensures.1 in
    rw (p.1, p.2) (trip_unread _ _ _ _ c.if-section-gt-MOST.false _ _ _ (rw c.in_err-filled.was at c.read.ensures))

pub slice_bounds-write_again-end : goal.slice_bounds-write_again-end
slice_bounds-write_again-end c = (held _ _ _ _ _ _ (rw c.in_ok-filled.was at c.read.ensures)).0

pub slice_bounds-write_again-end-2 : goal.slice_bounds-write_again-end-2
slice_bounds-write_again-end-2 c = (held _ _ _ _ _ _ (rw c.in_ok-filled.was at c.read.ensures)).1

pub returns : goal.returns
returns c = trip-read _ _ _ _ c.if-section-gt-MOST.false c.read.new.words c.read.new.texts c.in_ok-filled.filled _ (rw c.in_ok-filled.was at c.read.ensures) c.write_again.ensures
