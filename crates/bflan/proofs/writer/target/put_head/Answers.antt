-- `writer::target::put_head` meets its contract.
-- Assumes nothing.
use mathlib.Core.Path.{refl}
use Rattle.bflan.specs.inner.LayoutParts.{target_head}
use Rattle.bflan.proofs.writer.Stored.{puts_none, puts_more, row_stored}
use Rattle.bflan.proofs.writer.target.put_head.Goals as goal

pub returns : goal.returns
unfolding target_head
returns c = row_stored (puts_more c.write.ensures refl (puts_more c.write-2.ensures refl (puts_more c.write-3.ensures refl (puts_more c.write-4.ensures refl (puts_more c.write-5.ensures refl (puts_more c.write-6.ensures refl (puts_more c.write-7.ensures refl puts_none)))))))
