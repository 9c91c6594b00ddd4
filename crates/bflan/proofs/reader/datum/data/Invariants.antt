-- `datum::data` meets its contract. The loop's invariant: what is left, from here, is what all of it is, from the start.
-- Assumes nothing.
use Rattle.std.proofs.Common.{◌-◌}
use Rattle.bflan.specs.Reader.{many}
use Rattle.bflan.specs.pai1.Reading.{datum}
use Rattle.bflan.proofs.reader.Walks.{Walking}
use Rattle.bflan.proofs.reader.datum.data.Given as goal

abbrev pub invariant-loop-i : goal.invariant-loop-i
invariant-loop-i l = Walking l.s.bytes.now (many l.n datum l.s.bytes.now l.p) l.initial.into (many (l.n - l._i) datum l.s.bytes.now l.q) l.into
