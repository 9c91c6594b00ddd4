use Prim.Native.Nat.{ℕ, ◌+◌, ◌≤◌}
use mathlib.Core.Path.{sym, ap, ◌∙◌}
use mathlib.Core.List.{List}
use native.Mathlib.Omega.{arith}
use lib.Seq.{sets}
use Rattle.base.proofs.utf8.Turns.{part_is, GoodAt, BadAt, good_at, bad_at, run_bad, counted-good, counted_run, counted_end, counted-size, decode_end, sets-good, sets_bad}
use borrow.Author.Rules.{rules}
use Rattle.base.proofs.utf8.decode_plain.Goals as goal
use Rattle.base.proofs.utf8.decode_plain.Goals.{In-Bad, In-Good}

good_arm : (c : In-Good) → GoodAt c.args.text.now c.loop-i.i c.in-Good.k
good_arm c = good_at _ _ _ (search rules) _ c.step_at.ensures c.in-Good.is

bad_arm : (c : In-Bad) → BadAt c.args.text.now c.loop-i.i c.in-Bad.k
bad_arm c = bad_at _ _ _ (search rules) _ c.step_at.ensures c.in-Bad.is

pub overflow_add-next : goal.overflow_add-next
overflow_add-next c = let g = good_arm (goal.at.overflow_add-next c).In-Good in omega (arith, g.reach)

pub slice_bounds-copy_few-end : goal.slice_bounds-copy_few-end
slice_bounds-copy_few-end c = let g = good_arm (goal.at.slice_bounds-copy_few-end c).In-Good in omega (arith, g.reach)

pub loop-i-smaller-in-Good : goal.loop-i-smaller-in-Good
loop-i-smaller-in-Good c = let g = good_arm (goal.at.loop-i-smaller-in-Good c).In-Good in omega (arith, g.some, g.reach)

pub loop-i-preserved-in-Good : goal.loop-i-preserved-in-Good
loop-i-preserved-in-Good c =
    let h : c.loop-i.i ≤ c.loop-i.i + c.in-Good.k = omega arith in
    let g = good_arm (goal.at.loop-i-preserved-in-Good c).In-Good in (
      counted-good _ _ _ _ _ c.loop-i.invariant.0 g,
      c.copy_few-o.auto.out ∙ c.loop-i.invariant.1,
      sets-good _ _ _ _ _ _ _ _ g (part_is _ _ _ h) c.copy_few-o.ensures.0 c.copy_few-o.ensures.1 ∙ c.loop-i.invariant.2,
    )

pub overflow_sub-extra : goal.overflow_sub-extra
overflow_sub-extra c = let b = bad_arm (goal.at.overflow_sub-extra c).In-Bad in omega (arith, b.some)

pub overflow_add-extra : goal.overflow_add-extra
overflow_add-extra c = let b = bad_arm (goal.at.overflow_add-extra c).In-Bad in let k = counted_run _ _ _ _ _ _ c.loop-i.invariant.0 (run_bad _ _ _ b) b.some in omega (arith, k.0, k.2, c.well_formed)

pub overflow_add-i : goal.overflow_add-i
overflow_add-i c = let b = bad_arm (goal.at.overflow_add-i c).In-Bad in omega (arith, b.reach)

pub loop-i-smaller : goal.loop-i-smaller
loop-i-smaller c = let b = bad_arm (goal.at.loop-i-smaller c).In-Bad in omega (arith, b.some, b.reach)

pub loop-i-preserved : goal.loop-i-preserved
loop-i-preserved c =
    let b = bad_arm (goal.at.loop-i-preserved c).In-Bad in (
      counted_run _ _ _ _ _ _ c.loop-i.invariant.0 (run_bad _ _ _ b) b.some,
      c.put_replacement-o.auto.out ∙ c.loop-i.invariant.1,
      sets_bad _ _ _ _ _ _ _ b c.put_replacement-o.ensures.0 c.put_replacement-o.ensures.1 ∙ c.loop-i.invariant.2,
    )

pub returns : goal.returns
returns c =
    let n = counted_end _ _ _ _ c.loop-i.invariant.0 c.loop-i-test.false in (
      counted-size _ _ _ n.0 c.saturating_add.ensures,
      n.1,
      ap (λ (l : List ℕ). sets c.loop-i.out c.loop-i.o l) (sym (decode_end _ _ c.loop-i-test.false)) ∙ c.loop-i.invariant.2,
    )
