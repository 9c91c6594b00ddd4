-- `place::locate` meets its contract.
-- Assumes nothing.
use Rattle.std.proofs.Common.{sym, ◌∙◌, arith}
use Rattle.bflan.proofs.place.Locating.{locating_on, whole_section}
use Rattle.bflan.proofs.place.locate.Goals as goal

pub invariant_of-path : goal.invariant_of-path
invariant_of-path c = record { reads = whole_section _ _ (sym c.measure.ensures ∙ c.in_ok-measure.was) }

pub returns : goal.returns
returns c =
    c.ok_or.ensures.value ∙ sym (locating_on _ _ _ (sym c.measure.ensures ∙ c.in_ok-measure.was) (omega (arith, c.if-size-gt-LIMIT.false)) c.path.ensures)
