-- `writer::Writer::put_infos` meets its contract. The loop's invariant: what is left, from here, is what all of it is, from the start.
-- Assumes nothing.
use Rattle.std.proofs.Common.{◌+◌, ◌-◌, ◌≡◌}
use Rattle.bflan.specs.Judge.{times}
use Rattle.bflan.specs.pai1.Judge.{info}
use Rattle.bflan.specs.pai1.Layout.{info_lay}
use Rattle.bflan.specs.inner.LayoutParts.{out_of}
use Rattle.bflan.specs.inner.Pen.{next}
use Rattle.bflan.proofs.writer.Pens.{Going}
use Rattle.bflan.proofs.writer.Writer.put_infos.Given as goal

abbrev pub invariant-loop-i : goal.invariant-loop-i
invariant-loop-i l =
    Going info info_lay l.base l.n l.table.0 l.initial.self l.i l.self
    × (l.gone + out_of (next (times (l.n - l.i) info) l.self) ≡ out_of (next (times l.n info) l.initial.self))
