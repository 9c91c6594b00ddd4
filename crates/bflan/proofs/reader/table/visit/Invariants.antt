-- `table::visit` meets its contract. The loop's invariant: what is left, from here, is what all of it is, from the start.
-- Assumes nothing.
use Rattle.base.specs.Run.{numbers_at}
use Rattle.bflan.specs.Reader.{visit}
use Rattle.bflan.proofs.reader.Walks.{Walking, visit_from}
use Rattle.bflan.proofs.reader.table.visit.Given as goal

abbrev pub invariant-loop-i : goal.invariant-loop-i
invariant-loop-i g l =
    Walking l.s.bytes.now (visit l.base (g.Q.Part.part l.kind) (numbers_at l.n l.s.bytes.now l.table) l.s.bytes.now l.pos) l.initial.into (visit_from l.base (g.Q.Part.part l.kind) l.s.bytes.now l.table l.n l.i l.p) l.into
