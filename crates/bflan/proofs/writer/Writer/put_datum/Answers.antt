-- `writer::Writer::put_datum` meets its contract.
-- Assumes nothing.
use mathlib.Core.Path.{refl}
use native.Mathlib.Omega.{arith}
use lib.Seq.{length-sets}
use Rattle.bflan.specs.Layout.{written}
use Rattle.bflan.specs.inner.LayoutParts.{datum_front}
use Rattle.bflan.proofs.writer.Pens.{ready_in, wrote_behind}
use Rattle.bflan.proofs.writer.LayoutParts.{datum-fits, key_ready, datum_done}
use Rattle.bflan.proofs.writer.Writer.put_datum.Goals as goal

pub put_front-requires : goal.put_front-requires
put_front-requires c = let w = c.args.self.now in let f = datum-fits w.words.now w.texts.now w.word w.byte w.at c.requires in (omega (arith, f.0), f.1)

pub put_ended-requires : goal.put_ended-requires
put_ended-requires c = let w = c.args.self.now in rw c.put_front.ensures (ready_in (length-sets w.out.now w.at (written (datum_front w.words.now w.word))) (key_ready w.words.now w.texts.now w.word w.byte w.at c.requires))

pub returns : goal.returns
returns c = let w = c.args.self.now in rw (c.put_ended.ensures, c.put_front.ensures) (wrote_behind _ _ w (datum_done w.words.now w.texts.now w.word w.byte w.at c.requires w.out.now refl refl refl))
