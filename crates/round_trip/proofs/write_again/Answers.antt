-- `write_again` meets its contract.
-- Assumes nothing.
use Rattle.std.proofs.lemmas.Result.{err_from_is_err_and}
use Rattle.round_trip.proofs.Trips.{wrote_section, wrote_none}
use Rattle.round_trip.proofs.write_again.Goals as goal

pub returns-in_err-len : goal.returns-in_err-len
returns-in_err-len c =
    let p = err_from_is_err_and c.from_residual.result c.from_residual.ensures.1 in
    rw (p.1, p.2) (wrote_none _ _ _ _ _ (rw c.in_err-len.was at c.write.ensures))

pub returns : goal.returns
returns c = wrote_section _ _ _ _ _ (rw c.in_ok-len.was at c.write.ensures)
