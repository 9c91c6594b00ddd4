-- `read::read` meets its contract.
-- Assumes nothing.
use mathlib.Core.Path.{sym}
use native.Mathlib.Omega.{arith}
use Rattle.bflan.specs.pai1.Reading.{section}
use Rattle.bflan.proofs.reader.SectionBounds.{section_countable}
use Rattle.bflan.proofs.read.Answers.{reading-long, reading-stop, reading_on, reading-words, reading-texts}
use Rattle.bflan.proofs.reader.Walks.{handed_on}
use Rattle.bflan.proofs.read.read.Goals as goal

pub returns-then-size-gt-LIMIT : goal.returns-then-size-gt-LIMIT
returns-then-size-gt-LIMIT c = reading-long section _ _ _ c.if-size-gt-LIMIT.true

pub returns-then-words-needs : goal.returns-then-words-needs
returns-then-words-needs c = reading-words section _ _ _ (omega (arith, c.if-size-gt-LIMIT.false)) (section_countable _ (λ i. (c.type_inv.section i).fits) (omega (arith, c.if-size-gt-LIMIT.false))) _ _ (sym c.in_ok-needs.ensures) c.if-words-needs.true

pub returns-then-texts-needs : goal.returns-then-texts-needs
returns-then-texts-needs c = reading-texts section _ _ _ (omega (arith, c.if-size-gt-LIMIT.false)) (section_countable _ (λ i. (c.type_inv.section i).fits) (omega (arith, c.if-size-gt-LIMIT.false))) _ _ (sym c.in_ok-needs.ensures) (omega (arith, c.if-words-needs.false)) c.if-texts-needs.true

pub returns-in_err-needs : goal.returns-in_err-needs
returns-in_err-needs c = rw (handed_on c.from_residual.ensures.1) (reading-stop section _ _ _ (omega (arith, c.if-size-gt-LIMIT.false)) _ _ (sym c.in_err-needs.ensures))

pub returns : goal.returns
returns c = reading_on section _ _ _ (omega (arith, c.if-size-gt-LIMIT.false)) (section_countable _ (λ i. (c.type_inv.section i).fits) (omega (arith, c.if-size-gt-LIMIT.false))) _ _ (sym c.in_ok-needs.ensures) _ _ _ (omega (arith, c.if-words-needs.false)) (omega (arith, c.if-texts-needs.false)) c.walk.ensures
