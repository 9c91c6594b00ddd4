use mathlib.Core.Path.{refl}
use native.Mathlib.Omega.{arith}
use Rattle.bflan.proofs.writer.LayoutParts.{info_there, out_start, out_turn, out_end, out_fits}
use Rattle.bflan.proofs.writer.Pens.{going_start, going_first, going_turn, going_end, listed-fits}
use Rattle.bflan.proofs.writer.Writer.put_infos.Goals as goal

pub overflow_mul-self : goal.overflow_mul-self
overflow_mul-self c = omega (arith, listed-fits _ _ _ _ _ _ _ _ c.requires.1)

pub overflow_add-self : goal.overflow_add-self
overflow_add-self c = omega (arith, listed-fits _ _ _ _ _ _ _ _ c.requires.1)

pub loop-i-init : goal.loop-i-init
loop-i-init c = (going_start c.args.self.now c.requires.1 c.write_placeholders_u32-table.ensures.0 c.requires.0 c.write_placeholders_u32-table.auto.out, out_start _ _ _ _ _)

pub put_info-requires : goal.put_info-requires
put_info-requires c = going_first c.loop-i.invariant.0 c.loop-i-test.true c.patch_u32.auto.out

pub left_out-gone-requires : goal.left_out-gone-requires
left_out-gone-requires c =
    let h = info_there _ _ _ _ _ (going_first c.loop-i.invariant.0 c.loop-i-test.true refl) in
    let t = out_turn _ _ _ _ _ _ _ c.loop-i-test.true c.loop-i.invariant.0.ready _ refl in
    let f = out_fits _ _ _ _ _ _ _ c.requires.1 in
    rw c.put_info.ensures (omega (arith, h), omega (arith, t.0, c.loop-i.invariant.1, f), t.1)

pub overflow_add-gone : goal.overflow_add-gone
overflow_add-gone c =
    let t = out_turn _ _ _ _ _ _ _ c.loop-i-test.true c.loop-i.invariant.0.ready _ refl in
    omega (arith, t.0, c.loop-i.invariant.1, out_fits _ _ _ _ _ _ _ c.requires.1, rw c.put_info.ensures at c.left_out-gone.ensures)

pub loop-i-preserved : goal.loop-i-preserved
loop-i-preserved c =
    let t = out_turn _ _ _ _ _ _ _ c.loop-i-test.true c.loop-i.invariant.0.ready _ refl in (
      going_turn c.loop-i.invariant.0 c.loop-i-test.true c.write_placeholders_u32-table.ensures.1 (rw (c.placeholder_of.ensures, c.distance.ensures) at c.patch_u32.ensures) c.put_info.ensures,
      rw c.put_info.ensures (omega (arith, t.0, c.loop-i.invariant.1, rw c.put_info.ensures at c.left_out-gone.ensures)),
    )

pub returns : goal.returns
returns c = (
  going_end c.args.self.now c.requires.1 c.write_placeholders_u32-table.ensures.0 c.write_placeholders_u32-table.ensures.2 c.loop-i.invariant.0 c.loop-i-test.false,
  out_end _ _ _ _ _ c.loop-i.invariant.1 (omega (arith, c.loop-i-test.false)),
)
