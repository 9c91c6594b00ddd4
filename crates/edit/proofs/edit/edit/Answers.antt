-- `edit::edit` meets its contract.
-- Assumes nothing.
use Rattle.std.proofs.Common.{sym, ◌∙◌}
use Rattle.std.proofs.lemmas.Result.{err_from_is_err_and}
use Rattle.bflan.proofs.place.Locating.{spotted}
use Rattle.edit.specs.inner.Packing.{spot_as, located_as}
use Rattle.edit.proofs.Changes.{edit_by, refused_same}
use Rattle.edit.proofs.edit.edit.Goals as goal

pub change_at-requires : goal.change_at-requires
unfolding spot_as located_as
change_at-requires c =
    let e = rw (sym c.way_of-w.ensures, c.place_of.ensures, c.in_ok-spot.was, sym c.field_as-f.ensures) at c.spot_at.ensures in
    let x = spotted _ _ _ (sym e) in
    (x.short, x.inside)

pub returns-in_err-spot : goal.returns-in_err-spot
unfolding located_as
returns-in_err-spot c =
    let p = err_from_is_err_and c.from_residual.result c.from_residual.ensures.1 in
    rw (p.1, p.2, refused_same c.in_err-spot.field-0.0) (edit_by _ _ _ _ _ (rw (sym c.way_of-w.ensures, c.place_of.ensures, c.in_err-spot.was) at c.spot_at.ensures))

pub returns : goal.returns
unfolding spot_as located_as
returns c = rw c.values_of-v.ensures at c.change_at.ensures ∙ edit_by _ _ _ _ _ (rw (sym c.way_of-w.ensures, c.place_of.ensures, c.in_ok-spot.was, sym c.field_as-f.ensures) at c.spot_at.ensures)
