-- `writer::Writer::put_info` meets its contract.
-- Assumes nothing.
use mathlib.Core.Path.{refl, ◌∙◌}
use native.Mathlib.Omega.{arith}
use Rattle.base.specs.Number.{val}
use Rattle.bflan.specs.pai1.Letters.{fleu}
use Rattle.bflan.proofs.writer.Pens.{ready_in, wrote_behind}
use Rattle.bflan.proofs.writer.LayoutParts.{info_there, info-fits, data_ready, data_done, targets_ready, targets_done}
use Rattle.bflan.proofs.writer.Writer.put_info.Goals as goal

pub overflow_add-i : goal.overflow_add-i
overflow_add-i c = let w = c.args.self.now in omega (arith, info_there w.words.now w.texts.now w.word w.byte w.at c.requires)

pub put_head-requires : goal.put_head-requires
put_head-requires c = let w = c.args.self.now in info-fits w.words.now w.texts.now w.word w.byte w.at c.requires

pub overflow_add-self : goal.overflow_add-self
overflow_add-self c = let w = c.args.self.now in omega (arith, info_there w.words.now w.texts.now w.word w.byte w.at c.requires)

pub put_data-requires : goal.put_data-requires
unfolding fleu val
put_data-requires c =
    let w = c.args.self.now in
    ready_in c.put_head.auto.out (data_ready w.words.now w.texts.now w.word w.byte w.at c.requires _ _ c.word_of-letters.ensures c.word_of-n.ensures c.if-letters-eq-FLEU.true)

pub returns-then-letters-eq-FLEU : goal.returns-then-letters-eq-FLEU
unfolding fleu val
returns-then-letters-eq-FLEU c =
    let w = c.args.self.now in
    c.put_data.ensures
    ∙ wrote_behind _ _ w (data_done w.words.now w.texts.now w.word w.byte w.at c.requires _ _ c.word_of-letters.ensures c.word_of-n.ensures c.if-letters-eq-FLEU.true w.out.now c.put_head.ensures refl refl)

pub put_targets-requires : goal.put_targets-requires
unfolding fleu val
put_targets-requires c =
    let w = c.args.self.now in
    (omega arith, ready_in c.put_head.auto.out (targets_ready w.words.now w.texts.now w.word w.byte w.at c.requires _ _ c.word_of-letters.ensures c.word_of-n.ensures c.if-letters-eq-FLEU.false))

pub returns : goal.returns
unfolding fleu val
returns c =
    let w = c.args.self.now in
    c.put_targets.ensures
    ∙ wrote_behind _ _ w (targets_done w.words.now w.texts.now w.word w.byte w.at c.requires _ _ c.word_of-letters.ensures c.word_of-n.ensures c.if-letters-eq-FLEU.false w.out.now c.put_head.ensures refl refl)
