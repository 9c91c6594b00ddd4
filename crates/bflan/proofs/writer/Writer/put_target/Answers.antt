-- `writer::Writer::put_target` meets its contract.
-- Assumes nothing.
use mathlib.Core.Path.{refl}
use native.Mathlib.Omega.{arith}
use Rattle.bflan.proofs.writer.Pens.{ready_in, wrote_behind}
use Rattle.bflan.proofs.writer.LayoutParts.{curve_there, curve_is, target_there, keys_ready, target_done}
use Rattle.bflan.proofs.writer.Writer.put_target.Goals as goal

pub overflow_add-i : goal.overflow_add-i
overflow_add-i c = let w = c.args.self.now in omega (arith, (target_there c.args.letters w.words.now w.texts.now w.word w.byte w.at c.requires).0)

pub overflow_add-i-2 : goal.overflow_add-i-2
overflow_add-i-2 c = let w = c.args.self.now in omega (arith, (target_there c.args.letters w.words.now w.texts.now w.word w.byte w.at c.requires).0)

pub overflow_add-i-3 : goal.overflow_add-i-3
overflow_add-i-3 c = let w = c.args.self.now in omega (arith, (target_there c.args.letters w.words.now w.texts.now w.word w.byte w.at c.requires).0)

pub put_head-requires : goal.put_head-requires
put_head-requires c = let w = c.args.self.now in (target_there c.args.letters w.words.now w.texts.now w.word w.byte w.at c.requires).1

pub overflow_add-self : goal.overflow_add-self
overflow_add-self c = let w = c.args.self.now in omega (arith, (target_there c.args.letters w.words.now w.texts.now w.word w.byte w.at c.requires).0)

pub unwrap-requires : goal.unwrap-requires
unwrap-requires c =
    let w = c.args.self.now in
    curve_there _ _ c.try_from.ensures (keys_ready c.args.letters w.words.now w.texts.now w.word w.byte w.at c.requires _ _ _ _ c.word_of-layer.ensures c.word_of-number.ensures c.word_of-curve.ensures c.word_of-n.ensures).0

pub put_keys-requires : goal.put_keys-requires
put_keys-requires c =
    let w = c.args.self.now in
    let k = keys_ready c.args.letters w.words.now w.texts.now w.word w.byte w.at c.requires _ _ _ _ c.word_of-layer.ensures c.word_of-number.ensures c.word_of-curve.ensures c.word_of-n.ensures in
    rw (← curve_is c.try_from.ensures c.unwrap.ensures) (k.1, ready_in c.put_head.auto.out k.2)

pub returns : goal.returns
returns c =
    let w = c.args.self.now in
    rw (c.put_keys.ensures, ← curve_is c.try_from.ensures c.unwrap.ensures)
    (wrote_behind _ _ w (target_done c.args.letters w.words.now w.texts.now w.word w.byte w.at c.requires _ _ _ _ c.word_of-layer.ensures c.word_of-number.ensures c.word_of-curve.ensures c.word_of-n.ensures w.out.now c.put_head.ensures refl refl))
