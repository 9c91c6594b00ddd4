-- `field::field_at` meets its contract.
-- Assumes nothing.
use Rattle.std.proofs.Common.{sym}
use Rattle.bflan.proofs.place.Locating.{spotted}
use Rattle.edit.specs.FieldAt.{at_located}
use Rattle.edit.specs.inner.Packing.{spot_as, located_as}
use Rattle.edit.proofs.FieldAt.{field_by}
use Rattle.edit.proofs.field.field_at.Goals as goal

pub value_at-requires : goal.value_at-requires
unfolding spot_as located_as
value_at-requires c =
    let e = rw (sym c.way_of-w.ensures, c.in-Ok.is, sym c.field_as-f.ensures) at c.spot_at.ensures in
    (spotted _ _ _ (sym e)).inside

pub returns-in-Err : goal.returns-in-Err
unfolding at_located located_as
returns-in-Err c = field_by _ _ (rw (sym c.way_of-w.ensures, c.in-Err.is) at c.spot_at.ensures)

pub returns-in-Ok : goal.returns-in-Ok
unfolding at_located spot_as located_as
returns-in-Ok c = rw c.value_at.ensures (field_by _ _ (rw (sym c.way_of-w.ensures, c.in-Ok.is, sym c.field_as-f.ensures) at c.spot_at.ensures))
