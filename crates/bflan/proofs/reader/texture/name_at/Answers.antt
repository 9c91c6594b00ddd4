-- `texture::name_at` meets its contract.
-- Assumes nothing.
use mathlib.Core.Path.{sym, ◌∙◌}
use native.Mathlib.Omega.{arith}
use Rattle.base.proofs.utf8.Turns.{plain-text}
use Rattle.bflan.proofs.reader.Emits.{texture-plain}
use Rattle.bflan.proofs.reader.texture.name_at.Goals as goal

pub overflow_add-result : goal.overflow_add-result
overflow_add-result c = let p = plain-text _ _ _ (sym c.plain_text.ensures ∙ c.if-plain_text.true) in omega (arith, p.fits)

pub overflow_add-result-then-plain_text : goal.overflow_add-result-then-plain_text
overflow_add-result-then-plain_text c = let p = plain-text _ _ _ (sym c.plain_text.ensures ∙ c.if-plain_text.true) in omega (arith, p.fits)

pub returns-then-plain_text : goal.returns-then-plain_text
returns-then-plain_text c = let p = plain-text _ _ _ (sym c.plain_text.ensures ∙ c.if-plain_text.true) in (λ i. sym (texture-plain _ _ i _ p.fits p.ended), omega (arith, p.fits), λ e. p.shown)
