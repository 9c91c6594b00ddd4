-- `find::find_text` meets its contract.
-- Assumes nothing.
use mathlib.Core.Path.{sym, ◌∙◌}
use native.Mathlib.Omega.{arith}
use Rattle.bflan.specs.pai1.Reading.{section}
use Rattle.bflan.proofs.reader.SectionBounds.{section_countable}
use Rattle.bflan.proofs.read.Answers.{finding-long, finding-stop, finding-none, finding-inside, finding_there}
use Rattle.bflan.proofs.reader.Walks.{handed_on}
use Rattle.bflan.proofs.find.find_text.Goals as goal

pub returns-then-size-gt-LIMIT : goal.returns-then-size-gt-LIMIT
returns-then-size-gt-LIMIT c = finding-long section _ _ _ c.if-size-gt-LIMIT.true

pub returns-then-t-text : goal.returns-then-t-text
returns-then-t-text c = finding-none section _ _ _ (omega (arith, c.if-size-gt-LIMIT.false)) (section_countable _ (λ i. (c.type_inv.section i).fits) (omega (arith, c.if-size-gt-LIMIT.false))) _ (sym c.in_ok-t.ensures) c.if-t-text.true

pub show-requires : goal.show-requires
show-requires c = finding-inside section _ _ (omega (arith, c.if-size-gt-LIMIT.false)) (section_countable _ (λ i. (c.type_inv.section i).fits) (omega (arith, c.if-size-gt-LIMIT.false))) _ (sym c.in_ok-t.ensures) (omega (arith, c.if-t-text.false))

pub returns-in_err-t : goal.returns-in_err-t
returns-in_err-t c = rw (handed_on c.from_residual.ensures.1) (finding-stop section _ _ _ (omega (arith, c.if-size-gt-LIMIT.false)) _ (sym c.in_err-t.ensures))

pub returns : goal.returns
returns c = c.show.ensures ∙ sym (finding_there section _ _ _ (omega (arith, c.if-size-gt-LIMIT.false)) (section_countable _ (λ i. (c.type_inv.section i).fits) (omega (arith, c.if-size-gt-LIMIT.false))) _ (sym c.in_ok-t.ensures) (omega (arith, c.if-t-text.false)))
