use mathlib.Core.Path.{sym, ◌∙◌}
use Rattle.base.proofs.utf8.Turns.{BadAt, lone_bad, one_lone, run_bad, sets_bad}
use Rattle.base.proofs.utf8.put_lone.Goals as goal
use Rattle.base.proofs.utf8.put_lone.Goals.{In-loop-out}

bad : (c : In-loop-out) → BadAt c.args.text.now c.loop-out.end 1
bad c = lone_bad _ _ (sym c.lone.ensures ∙ c.loop-out-test.true)

pub loop-out-preserved : goal.loop-out-preserved
loop-out-preserved c =
    let b = bad (goal.at.loop-out-preserved c).In-loop-out in (
      one_lone _ _ _ c.loop-out.invariant.0 (run_bad _ _ _ b),
      c.put_replacement-next.auto.out ∙ c.loop-out.invariant.1,
      sets_bad _ _ _ _ _ _ _ b c.put_replacement-next.ensures.0 c.put_replacement-next.ensures.1 ∙ c.loop-out.invariant.2,
    )
