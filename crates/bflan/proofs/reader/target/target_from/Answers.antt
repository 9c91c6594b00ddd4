-- `target::target_from` meets its contract: the fields that it reads are the definition's.
-- Assumes nothing.
use Prim.Native.Nat.{◌+◌, ◌<◌, ◌≤◌}
use mathlib.Core.Path.{refl, ap, sym, ◌∙◌}
use native.Mathlib.Omega.{arith}
use Rattle.base.specs.Number.{get}
use Rattle.bflan.specs.inner.Walk.{walk_of}
use Rattle.bflan.proofs.reader.TargetParts.{run_target, run_none, target_fields, curve_low, count_low, curve_high, count_high, number-low}
use Rattle.bflan.proofs.reader.target.target_from.Goals as goal

pub returns-in-Ok : goal.returns-in-Ok
returns-in-Ok c = λ i k.
    let s = c.args.s.now in
    let e = c.in-Ok.ensures ∙ c.byte_at.ensures.0 in
    let low : get 1 c.args.s.now (c.args.base + 2) ≤ 2 = omega (arith, e, number-low c.in-Ok.curve) in
    c.put_keys.ensures
    ∙ run_target s c.args.into.now _ _ _ _ _ (omega arith, omega arith) (c.put2.ensures s) (c.from.ensures ∙ c.resolve-number.ensures)
    ∙ ap (walk_of s c.args.into.now) (target_fields c.args.letters c.args.base s i c.args.p c.requires k c.byte_at-layer.ensures.0 refl (e ∙ sym (curve_low _ 0 low)) (c.half_at.ensures.0 ∙ sym (count_low _ _ low)))

pub returns-in-Err : goal.returns-in-Err
returns-in-Err c = λ i k.
    let s = c.args.s.now in
    let high : 2 < get 1 c.args.s.now (c.args.base + 2) = omega (arith, c.in-Err.ensures.1, c.byte_at.ensures.0) in
    run_none s c.args.into.now _ _ c.args.p (omega arith, omega arith) (c.put2.ensures s) (c.from.ensures ∙ c.resolve-number.ensures) (c.put2-in-Err.ensures s)
    ∙ ap (walk_of s c.args.into.now) (target_fields c.args.letters c.args.base s i c.args.p c.requires k c.byte_at-layer.ensures.0 refl (sym (curve_high _ 0 high)) (sym (count_high _ _ high)))
