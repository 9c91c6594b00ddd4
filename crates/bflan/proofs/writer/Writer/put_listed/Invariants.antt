-- `writer::Writer::put_listed` meets its contract. The loop's invariant: what is left, from here, is what all of it is, from the start.
-- Assumes nothing.
use Rattle.bflan.proofs.writer.Pens.{Going}
use Rattle.bflan.proofs.writer.Writer.put_listed.Given as goal

abbrev pub invariant-loop-i : goal.invariant-loop-i
invariant-loop-i g l = Going (g.P.Part.judged l.part) g.P.Part.lay l.base l.n l.table.0 l.initial.self l.i l.self
