-- `writer::Writer::put_keys` meets its contract.
-- Assumes nothing.
use mathlib.Core.Path.{refl, ap}
use native.Mathlib.Omega.{arith}
use lib.ListN.{length}
use Rattle.bflan.specs.pai1.Curves.{curve_number}
use Rattle.bflan.proofs.writer.Pens.{wrote_behind}
use Rattle.bflan.proofs.writer.LayoutParts.{constant_coded, step_coded, hermite_coded, keys-fit, constant_done, keys_done}
use Rattle.bflan.proofs.writer.Writer.put_keys.Goals as goal

pub overflow_add-self : goal.overflow_add-self
overflow_add-self c = let w = c.args.self.now in omega (arith, (keys-fit (constant_coded (ap curve_number c.in-Constant.is)) c.args.n w.words.now w.texts.now w.word w.byte w.at c.requires.1 (length w.words.now) c.requires.0 (omega arith)).0)

pub overflow_mul-self : goal.overflow_mul-self
overflow_mul-self c = let w = c.args.self.now in omega (arith, (keys-fit (constant_coded (ap curve_number c.in-Constant.is)) c.args.n w.words.now w.texts.now w.word w.byte w.at c.requires.1 (length w.words.now) c.requires.0 (omega arith)).1)

pub overflow_add-self-in-Constant : goal.overflow_add-self-in-Constant
overflow_add-self-in-Constant c = let w = c.args.self.now in omega (arith, (keys-fit (constant_coded (ap curve_number c.in-Constant.is)) c.args.n w.words.now w.texts.now w.word w.byte w.at c.requires.1 (length w.words.now) c.requires.0 (omega arith)).1)

pub returns-in-Constant : goal.returns-in-Constant
returns-in-Constant c = let w = c.args.self.now in wrote_behind _ _ w (constant_done (ap curve_number c.in-Constant.is) c.args.n w.words.now w.texts.now w.word w.byte w.at c.requires.1 w.out.now c.write_numbers.ensures refl)

pub overflow_mul-self-in-Step : goal.overflow_mul-self-in-Step
overflow_mul-self-in-Step c = let w = c.args.self.now in omega (arith, (keys-fit (step_coded (ap curve_number c.in-Step.is)) c.args.n w.words.now w.texts.now w.word w.byte w.at c.requires.1 (length w.words.now) c.requires.0 (omega arith)).0)

pub overflow_add-self-in-Step : goal.overflow_add-self-in-Step
overflow_add-self-in-Step c = let w = c.args.self.now in omega (arith, (keys-fit (step_coded (ap curve_number c.in-Step.is)) c.args.n w.words.now w.texts.now w.word w.byte w.at c.requires.1 (length w.words.now) c.requires.0 (omega arith)).0)

pub overflow_mul-self-in-Step-2 : goal.overflow_mul-self-in-Step-2
overflow_mul-self-in-Step-2 c = let w = c.args.self.now in omega (arith, (keys-fit (step_coded (ap curve_number c.in-Step.is)) c.args.n w.words.now w.texts.now w.word w.byte w.at c.requires.1 (length w.words.now) c.requires.0 (omega arith)).1)

pub overflow_add-self-in-Step-2 : goal.overflow_add-self-in-Step-2
overflow_add-self-in-Step-2 c = let w = c.args.self.now in omega (arith, (keys-fit (step_coded (ap curve_number c.in-Step.is)) c.args.n w.words.now w.texts.now w.word w.byte w.at c.requires.1 (length w.words.now) c.requires.0 (omega arith)).1)

pub returns-in-Step : goal.returns-in-Step
returns-in-Step c = let w = c.args.self.now in wrote_behind _ _ w (keys_done (step_coded (ap curve_number c.in-Step.is)) c.args.n w.words.now w.texts.now w.word w.byte w.at c.requires.1 w.out.now c.write_pairs.ensures refl)

pub overflow_mul-n : goal.overflow_mul-n
overflow_mul-n c = let w = c.args.self.now in omega (arith, (keys-fit (hermite_coded (ap curve_number c.in-Hermite.is)) c.args.n w.words.now w.texts.now w.word w.byte w.at c.requires.1 (length w.words.now) c.requires.0 (omega arith)).0)

pub overflow_mul-self-in-Hermite : goal.overflow_mul-self-in-Hermite
overflow_mul-self-in-Hermite c = let w = c.args.self.now in omega (arith, (keys-fit (hermite_coded (ap curve_number c.in-Hermite.is)) c.args.n w.words.now w.texts.now w.word w.byte w.at c.requires.1 (length w.words.now) c.requires.0 (omega arith)).0)

pub overflow_add-self-in-Hermite : goal.overflow_add-self-in-Hermite
overflow_add-self-in-Hermite c = let w = c.args.self.now in omega (arith, (keys-fit (hermite_coded (ap curve_number c.in-Hermite.is)) c.args.n w.words.now w.texts.now w.word w.byte w.at c.requires.1 (length w.words.now) c.requires.0 (omega arith)).0)

pub overflow_mul-self-in-Hermite-2 : goal.overflow_mul-self-in-Hermite-2
overflow_mul-self-in-Hermite-2 c = let w = c.args.self.now in omega (arith, (keys-fit (hermite_coded (ap curve_number c.in-Hermite.is)) c.args.n w.words.now w.texts.now w.word w.byte w.at c.requires.1 (length w.words.now) c.requires.0 (omega arith)).1)

pub overflow_add-self-in-Hermite-2 : goal.overflow_add-self-in-Hermite-2
overflow_add-self-in-Hermite-2 c = let w = c.args.self.now in omega (arith, (keys-fit (hermite_coded (ap curve_number c.in-Hermite.is)) c.args.n w.words.now w.texts.now w.word w.byte w.at c.requires.1 (length w.words.now) c.requires.0 (omega arith)).1)

pub returns-in-Hermite : goal.returns-in-Hermite
returns-in-Hermite c = let w = c.args.self.now in wrote_behind _ _ w (keys_done (hermite_coded (ap curve_number c.in-Hermite.is)) c.args.n w.words.now w.texts.now w.word w.byte w.at c.requires.1 w.out.now c.write_numbers-in-Hermite.ensures refl)
