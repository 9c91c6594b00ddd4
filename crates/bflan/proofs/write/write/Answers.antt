-- `write::write` meets its contract.
-- Assumes nothing.
use Rattle.std.proofs.Common.{sym, ◌∙◌}
use Rattle.std.proofs.lemmas.Result.{err_from_is_err_and}
use Rattle.bflan.specs.pai1.Judge.{section}
use Rattle.bflan.specs.pai1.Layout.{section_lay}
use Rattle.bflan.proofs.writer.WriteAnswers.{answer-refused, answer_over, answer-short, answer_ready, answer-written}
use Rattle.bflan.proofs.write.write.Goals as goal

pub returns-then-size-gt-LIMIT : goal.returns-then-size-gt-LIMIT
returns-then-size-gt-LIMIT c = answer_over section_lay section c.args.words.now c.args.texts.now c.args.out.now _ (sym c.judge_section.ensures ∙ c.in_ok-size.was) c.if-size-gt-LIMIT.true

pub returns-then-out-size : goal.returns-then-out-size
returns-then-out-size c = answer-short section_lay section c.args.words.now c.args.texts.now c.args.out.now _ (sym c.judge_section.ensures ∙ c.in_ok-size.was) c.if-size-gt-LIMIT.false c.if-out-size.true

pub put_section-requires : goal.put_section-requires
put_section-requires c = answer_ready section_lay section c.args.words.now c.args.texts.now c.args.out.now _ (sym c.judge_section.ensures ∙ c.in_ok-size.was) c.if-size-gt-LIMIT.false c.if-out-size.false

pub returns-in_err-size : goal.returns-in_err-size
returns-in_err-size c =
    let p = err_from_is_err_and c.from_residual.result c.from_residual.ensures.1 in
    rw (p.1, p.2) (answer-refused section_lay section c.args.words.now c.args.texts.now c.args.out.now _ (sym c.judge_section.ensures ∙ c.in_err-size.was))

pub returns : goal.returns
returns c = answer-written section_lay section c.args.words.now c.args.texts.now c.args.out.now _ (sym c.judge_section.ensures ∙ c.in_ok-size.was) c.if-size-gt-LIMIT.false c.if-out-size.false c.put_section.ensures
