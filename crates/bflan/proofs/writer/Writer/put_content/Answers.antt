-- `writer::Writer::put_content` meets its contract.
-- Assumes nothing.
use Prim.Native.Nat.{◌+◌, ◌-◌}
use mathlib.Core.Path.{refl, ap, ◌∙◌}
use native.Mathlib.Omega.{arith}
use lib.ListN.{length, replicate}
use lib.Seq.{sets}
use Rattle.base.specs.Fill.{padding_of}
use Rattle.bflan.specs.declared.writer.Writer.{Writer}
use Rattle.bflan.specs.inner.Pen.{Pen}
use Rattle.bflan.proofs.writer.Pens.{pen_of, words_of, texts_of, stored_of, ready_in, length-laid, moved_on, wrote_behind, behind-within}
use Rattle.bflan.proofs.writer.LayoutParts.{name_ready, content-fits, body_ready, content_done}
use Rattle.bflan.proofs.writer.Writer.put_content.Goals as goal

pub put_name-requires : goal.put_name-requires
put_name-requires c = let w = c.args.self.now in name_ready w.words.now w.texts.now w.word w.byte w.at c.requires

pub overflow_add-i : goal.overflow_add-i
overflow_add-i c = let w = c.args.self.now in omega (arith, (content-fits w.words.now w.texts.now w.word w.byte w.at c.requires _ (ap pen_of c.put_name.ensures)).0)

pub put_counts-requires : goal.put_counts-requires
put_counts-requires c = let w = c.args.self.now in omega (arith, (content-fits w.words.now w.texts.now w.word w.byte w.at c.requires _ (ap pen_of c.put_name.ensures)).2)

pub overflow_add-self : goal.overflow_add-self
overflow_add-self c = let w = c.args.self.now in omega (arith, (content-fits w.words.now w.texts.now w.word w.byte w.at c.requires _ (ap pen_of c.put_name.ensures)).0)

pub put_body-requires : goal.put_body-requires
put_body-requires c =
    let w = c.args.self.now in
    let e = c.put_name.ensures in
    let long = ap (λ (v : Writer). length v.out.now) e ∙ length-laid _ _ w.at w.out.now in (
      refl,
      ready_in (c.put_counts.auto.out ∙ long)
          (body_ready w.words.now w.texts.now w.word w.byte w.at c.requires _ (ap pen_of e) (ap words_of e) (ap texts_of e) _ _ c.word_of-kind.ensures c.word_of-n.ensures),
    )

pub put_padding-requires : goal.put_padding-requires
put_padding-requires c =
    let w = c.args.self.now in
    let e = c.put_name.ensures in
    let b = behind-within _ (body_ready w.words.now w.texts.now w.word w.byte w.at c.requires _ (ap pen_of e) (ap words_of e) (ap texts_of e) _ _ c.word_of-kind.ensures c.word_of-n.ensures)
    (ap pen_of c.put_body.ensures) in
    (omega (arith, b.0), b.1)

pub returns : goal.returns
returns c =
    let w = c.args.self.now in
    let v = c.put_body.new.self in
    let e = c.put_name.ensures in
    let u : Pen = record { word = v.word; byte = v.byte; at = v.at + padding_of (v.at - w.at) } in
    let o = sets v.out.now v.at (replicate (padding_of (v.at - w.at)) 0) in
    let d = content_done w.words.now w.texts.now w.word w.byte w.at c.requires _ (ap pen_of e) (ap words_of e) (ap texts_of e) _ _ c.word_of-kind.ensures c.word_of-n.ensures
    w.out.now {l4 = o} {e = pen_of v} {u = u} (ap stored_of e) c.put_counts.ensures (ap pen_of c.put_body.ensures) (ap stored_of c.put_body.ensures) refl refl refl refl in
    c.put_padding.ensures ∙ moved_on c.put_name.new.self c.put_body.ensures u o ∙ moved_on w e u o ∙ wrote_behind _ _ w d
