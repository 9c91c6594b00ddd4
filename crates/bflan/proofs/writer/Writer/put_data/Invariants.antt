-- `writer::Writer::put_data` meets its contract. The loop's invariant: what is left, from here, is what all of it is, from the start.
-- Assumes nothing.
use Rattle.std.proofs.Common.{◌-◌}
use Rattle.bflan.specs.pai1.Judge.{datum}
use Rattle.bflan.specs.pai1.Layout.{datum_lay}
use Rattle.bflan.proofs.writer.Pens.{Running}
use Rattle.bflan.proofs.writer.Writer.put_data.Given as goal

abbrev pub invariant-loop : goal.invariant-loop
invariant-loop l = Running datum datum_lay l.n l.initial.self (l.n - l.counter) l.self
