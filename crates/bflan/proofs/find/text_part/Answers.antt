-- `find::text_part` meets its contract: by the tests that led to each answer.
-- Assumes nothing.
use mathlib.Core.Path.{◌∙◌}
use native.Mathlib.Omega.{arith}
use Rattle.bflan.proofs.read.Answers.{part_section, part_scratch, part_nowhere}
use Rattle.bflan.proofs.find.text_part.Goals.{then-source-eq1+then-start-size+else-len-size, then-source-eq1+else-start-size, else-source-eq1}
use Rattle.bflan.proofs.find.text_part.Goals as goal

pub returns-then-source-eq0 : goal.returns-then-source-eq0
returns-then-source-eq0 c = let z = part_section c.args.section c.args.scratch _ c.args.start c.args.len c.if-source-eq0.true in (c.part.ensures.0 ∙ z.0, c.part.ensures.1 ∙ z.1)

pub returns-then-len-size : goal.returns-then-len-size
returns-then-len-size c = part_scratch c.args.section c.args.scratch _ _ _ c.if-source-eq1.true (omega (arith, c.if-start-size.true, c.if-len-size.true))

pub returns : goal.returns
returns c = part_nowhere c.args.section c.args.scratch _ _ _ c.if-source-eq0.false (λ e.
    elim c.if-source-eq1.branch [
      | then-source-eq1+then-start-size+else-len-size w ↦ omega (arith, w.if-start-size.true, w.if-len-size.false)
      | then-source-eq1+else-start-size w ↦ omega (arith, w.if-start-size.false)
      | else-source-eq1 w ↦ absurd (w.if-source-eq1.false e)
    ])
