use Rattle.std.proofs.Common.{arith}
use mathlib.Core.Path.{refl, ap, ◌∙◌}
use Rattle.bflan.specs.inner.Walk.{walk_of}
use Rattle.bflan.proofs.reader.Walks.{visit_next, walking_turn, walking_stop, handed_on, told_stop, told_items}
use Rattle.bflan.proofs.reader.texture.textures.Goals as goal

pub returns-in_err-name : goal.returns-in_err-name
returns-in_err-name c =
    rw (handed_on c.from_residual.ensures.1)
    (walking_stop c.loop-i.invariant c.loop-i.into (told_stop _ _ _ _ ∙ ap (walk_of c.args.s.bytes.now c.loop-i.into) (c.in_err-name.ensures.0 c.loop-i.p)) (visit_next _ _ _ _ _ _ _ c.loop-i-test.true (omega (arith, c.offset_at-off.ensures.0))) refl _)

pub loop-i-preserved : goal.loop-i-preserved
loop-i-preserved c =
    walking_turn c.loop-i.invariant _ (told_items _ _ _ _ c.put_text.ensures ∙ ap (walk_of c.args.s.bytes.now c.loop-i.into) (c.in_ok-name.ensures.0 c.loop-i.p)) (visit_next _ _ _ _ _ _ _ c.loop-i-test.true (omega (arith, c.offset_at-off.ensures.0))) refl
