-- `writer::Writer::put_name` meets its contract.
-- Assumes nothing.
use mathlib.Core.Path.{refl}
use native.Mathlib.Omega.{arith}
use Rattle.bflan.proofs.writer.Pens.{pen_of, wrote_behind}
use Rattle.bflan.proofs.writer.LayoutParts.{name-fits, name_done}
use Rattle.bflan.proofs.writer.Writer.put_name.Goals as goal

pub put_chars-requires : goal.put_chars-requires
put_chars-requires c = (name-fits _ _ (pen_of c.args.self.now) c.requires _ c.word_of-n.ensures).2

pub overflow_sub-n : goal.overflow_sub-n
overflow_sub-n c = (name-fits _ _ (pen_of c.args.self.now) c.requires _ c.word_of-n.ensures).1

pub overflow_add-self : goal.overflow_add-self
overflow_add-self c = omega (arith, (name-fits _ _ (pen_of c.args.self.now) c.requires _ c.word_of-n.ensures).0)

pub overflow_add-self-2 : goal.overflow_add-self-2
overflow_add-self-2 c = omega (arith, (name-fits _ _ (pen_of c.args.self.now) c.requires _ c.word_of-n.ensures).2)

pub returns : goal.returns
returns c = wrote_behind _ _ c.args.self.now (name_done _ _ (pen_of c.args.self.now) c.requires _ c.word_of-n.ensures _ c.put_chars.ensures c.zeros.ensures refl)
