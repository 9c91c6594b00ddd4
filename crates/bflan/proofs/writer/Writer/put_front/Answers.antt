-- `writer::Writer::put_front` meets its contract.
-- Assumes nothing.
use Prim.Native.Nat.{ℕ, ◌*◌}
use mathlib.Core.Path.{ap}
use native.Mathlib.Omega.{arith}
use Rattle.bflan.proofs.writer.Pens.{moved_alike, pen_alike}
use Rattle.bflan.proofs.writer.LayoutParts.{front_stored}
use Rattle.bflan.proofs.writer.Writer.put_front.Goals as goal

pub returns : goal.returns
returns c =
    let w = c.args.self.now in
    moved_alike w (pen_alike (omega (arith, c.word_of-base.ensures)) (omega (arith, c.word_of-base.ensures)))
    (front_stored w.words.now w.word w.at _ (ap (λ (k : ℕ). 3 * k) c.word_of-base.ensures) (omega (arith, c.requires.0, c.word_of-base.ensures)) c.put_head.ensures c.write_numbers.ensures c.write.ensures).same
