-- `writer::datum::put_head` meets its contract.
-- Assumes nothing.
use Rattle.bflan.specs.inner.LayoutParts.{datum_head}
use Rattle.bflan.proofs.writer.Stored.{puts_none, puts_more, row_stored}
use Rattle.bflan.proofs.writer.datum.put_head.Goals as goal

pub returns : goal.returns
unfolding datum_head
returns c = row_stored (puts_more c.write.ensures c.word_of-size.ensures (puts_more c.write-2.ensures c.word_of-one.ensures (puts_more c.write-3.ensures c.word_of-two.ensures (puts_more c.write-4.ensures c.word_of-base.ensures (puts_more c.write-5.ensures c.word_of-three.ensures puts_none)))))
