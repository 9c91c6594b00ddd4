use Rattle.std.proofs.Common.{◌+◌, ◌-◌, ◌≡◌, refl, ◌∙◌, arith}
use Rattle.bflan.proofs.judge.Measures.{held, failed, there, refused_word}
use Rattle.bflan.proofs.judge.JudgeParts.{pair_first, pair_second, pair_on, pair_end, pairs_size}
use Rattle.bflan.proofs.judge.run.pairs.Goals as goal

pub returns-in_err-word_below : goal.returns-in_err-word_below
returns-in_err-word_below c = λ x.
    refused_word _ _ c.word_below.ensures c.from_residual.ensures.1 c.in_err-word_below.was refl
    ∙ pair_first _ _ _ _ _ _ _ (c.loop.invariant x) (omega (arith, c.loop-test.true)) (failed _ _ c.word_below.ensures c.in_err-word_below.was refl) ∙ pairs_size _ _ _ _ _

pub overflow_add-word : goal.overflow_add-word
overflow_add-word c = omega (arith, there _ _ c.word_below.ensures c.in_ok-word_below.was, c.well_formed)

pub returns-in_err-word_below-2 : goal.returns-in_err-word_below-2
returns-in_err-word_below-2 c = λ x.
    refused_word _ _ c.word_below-in-loop.ensures c.from_residual-in_err-word_below-2.ensures.1 c.in_err-word_below-2.was refl
    ∙ pair_second _ _ _ _ _ _ _ (c.loop.invariant x) (omega (arith, c.loop-test.true)) (held _ _ c.word_below.ensures c.in_ok-word_below.was refl) (failed _ _ c.word_below-in-loop.ensures c.in_err-word_below-2.was refl) ∙ pairs_size _ _ _ _ _

pub overflow_add-word-in-loop : goal.overflow_add-word-in-loop
overflow_add-word-in-loop c = omega (arith, there _ _ c.word_below-in-loop.ensures c.in_ok-word_below-2.was, c.well_formed)

pub loop-preserved : goal.loop-preserved
loop-preserved c = λ x.
    let d : c.args.n - (c.loop.counter + 1) ≡ c.args.n - c.loop.counter - 1 = omega arith in
    let q : c.loop.word + 2 ≡ c.loop.word + 1 + 1 = omega arith in
    rw (d, q) (pair_on _ _ _ _ _ _ _ (c.loop.invariant x) (omega (arith, c.loop-test.true)) (held _ _ c.word_below.ensures c.in_ok-word_below.was refl) (held _ _ c.word_below-in-loop.ensures c.in_ok-word_below-2.was refl))

pub returns : goal.returns
returns c = λ x. pair_end _ _ _ _ _ _ _ (c.loop.invariant x) (omega (arith, c.loop-test.false)) (omega (arith, c.requires)) ∙ pairs_size _ _ _ _ _
