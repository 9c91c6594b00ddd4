use Rattle.std.proofs.Common.{arith}
use Rattle.bflan.proofs.writer.Pens.{going_start, going_first, going_turn, going_end, listed-fits}
use Rattle.bflan.proofs.writer.Writer.put_listed.Goals as goal

pub overflow_mul-self : goal.overflow_mul-self
overflow_mul-self g c = omega (arith, listed-fits _ _ _ _ _ _ _ _ c.requires.1)

pub overflow_add-self : goal.overflow_add-self
overflow_add-self g c = omega (arith, listed-fits _ _ _ _ _ _ _ _ c.requires.1)

pub loop-i-init : goal.loop-i-init
loop-i-init g c = going_start c.args.self.now c.requires.1 c.write_placeholders_u32-table.ensures.0 c.requires.0 c.write_placeholders_u32-table.auto.out

pub put-requires : goal.put-requires
put-requires g c = going_first c.loop-i.invariant c.loop-i-test.true c.patch_u32.auto.out

pub loop-i-preserved : goal.loop-i-preserved
loop-i-preserved g c = going_turn c.loop-i.invariant c.loop-i-test.true c.write_placeholders_u32-table.ensures.1 (rw (c.placeholder_of.ensures, c.distance.ensures) at c.patch_u32.ensures) c.put.ensures

pub returns : goal.returns
returns g c = going_end c.args.self.now c.requires.1 c.write_placeholders_u32-table.ensures.0 c.write_placeholders_u32-table.ensures.2 c.loop-i.invariant c.loop-i-test.false
