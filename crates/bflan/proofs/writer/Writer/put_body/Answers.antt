-- `writer::Writer::put_body` meets its contract.
-- Assumes nothing.
use mathlib.Core.Path.{refl, ◌∙◌}
use native.Mathlib.Omega.{arith}
use Rattle.bflan.proofs.writer.Pens.{pen_of, wrote_behind}
use Rattle.bflan.proofs.writer.LayoutParts.{plain_ready, plain_done}
use Rattle.bflan.proofs.writer.Writer.put_body.Goals as goal

pub put_infos-left_out-requires : goal.put_infos-left_out-requires
put_infos-left_out-requires c = let w = c.args.self.now in (omega (arith, c.requires.0), plain_ready c.args.kind c.args.n w.words.now w.texts.now (pen_of w) c.args.start c.requires.1 c.requires.0 c.if-kind-eq-USER.false)

pub returns : goal.returns
returns c =
    let w = c.args.self.now in
    c.put_infos-left_out.ensures.0
    ∙ wrote_behind _ _ w (plain_done c.args.kind c.args.n w.words.now w.texts.now (pen_of w) c.args.start c.requires.1 c.requires.0 c.if-kind-eq-USER.false w.out.now refl refl)
