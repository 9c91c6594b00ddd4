use Rattle.std.proofs.Common.{ap, sym, ◌∙◌, arith}
use Rattle.bflan.proofs.judge.Measures.{handed_on, repeating_start, repeating_bad, repeating_turn, repeating_end}
use Rattle.bflan.proofs.judge.Rest.times.Goals as goal

pub loop-init : goal.loop-init
loop-init g c = λ f e. repeating_start

pub returns-in_err-part : goal.returns-in_err-part
returns-in_err-part g c = λ f e. handed_on c.from_residual.ensures.1 ∙ repeating_bad (c.loop.invariant f e) (omega (arith, c.loop-test.true)) (ap f (sym c.behind.ensures) ∙ sym (e _ _ c.in_err-part.ensures))

pub loop-preserved : goal.loop-preserved
loop-preserved g c = λ f e. repeating_turn (c.loop.invariant f e) (omega (arith, c.loop-test.true)) (ap f (sym c.behind.ensures) ∙ sym (e _ _ c.in_ok-part.ensures)) c.grown-mark.ensures

pub returns : goal.returns
returns g c = λ f e. repeating_end (c.loop.invariant f e) (omega (arith, c.loop-test.false))
