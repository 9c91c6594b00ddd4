-- `writer::Writer::put_names` meets its contract.
-- Assumes nothing.
use Prim.Native.Nat.{ℕ, ◌+◌}
use mathlib.Core.Path.{refl, ap, ◌∙◌}
use native.Mathlib.Omega.{arith}
use Rattle.base.proofs.Padding.{padding_lt}
use Rattle.bflan.specs.inner.Pen.{Pen}
use Rattle.bflan.proofs.writer.Pens.{pen_of, stored_of, moved_on, wrote_behind, behind-within}
use Rattle.bflan.proofs.writer.LayoutParts.{names_ready, names_done}
use Rattle.bflan.proofs.writer.Writer.put_names.Goals as goal

pub put_listed-requires : goal.put_listed-requires
put_listed-requires c = let w = c.args.self.now in (omega (arith, c.requires.0), names_ready c.args.n w.words.now w.texts.now w.word w.byte w.at c.requires.0 c.requires.1)

pub overflow_add-self : goal.overflow_add-self
overflow_add-self c =
    let w = c.args.self.now in
    let b = behind-within _ (names_ready c.args.n w.words.now w.texts.now w.word w.byte w.at c.requires.0 c.requires.1) (ap pen_of c.put_listed.ensures) in
    omega (arith, b.1, c.align4-pad.ensures.0, padding_lt c.put_listed.new.self.at)

pub returns : goal.returns
returns c =
    let w = c.args.self.now in
    let v = c.put_listed.new.self in
    let u : Pen = record { word = v.word; byte = v.byte; at = v.at + c.align4-pad.result } in
    let d = names_done c.args.n w.words.now w.texts.now w.word w.byte w.at c.requires.0 c.requires.1 w.out.now {u = u} (ap pen_of c.put_listed.ensures) (ap stored_of c.put_listed.ensures)
    refl refl (ap (λ (k : ℕ). v.at + k) c.align4-pad.ensures.0) c.align4-pad.ensures.1 in
    moved_on w c.put_listed.ensures u c.align4-pad.new.out ∙ wrote_behind _ _ w d
