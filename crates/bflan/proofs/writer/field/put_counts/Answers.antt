-- `writer::field::put_counts` meets its contract.
-- Assumes nothing.
use mathlib.Core.Path.{refl}
use Rattle.base.specs.Number.{le}
use Rattle.bflan.specs.Layout.{written, row as rowLay}
use Rattle.bflan.proofs.writer.Stored.{puts_none, puts_more, row_stored}
use Rattle.bflan.proofs.writer.field.put_counts.Goals as goal

pub returns : goal.returns
unfolding le rowLay written
returns c = row_stored (puts_more c.write.ensures refl (puts_more c.write-2.ensures refl (puts_more c.write-3.ensures refl puts_none)))
