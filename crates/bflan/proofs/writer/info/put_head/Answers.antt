-- `writer::info::put_head` meets its contract.
-- Assumes nothing.
use Rattle.bflan.proofs.writer.LayoutParts.{info_head_stored}
use Rattle.bflan.proofs.writer.info.put_head.Goals as goal

pub returns : goal.returns
returns c = (info_head_stored c.args.at c.args.letters c.args.n c.write.ensures c.put_counts.ensures).same
