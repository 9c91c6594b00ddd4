use Prim.Native.Nat.{ℕ, ◌+◌, ◌-◌, ◌<◌, min}
use mathlib.Core.Path.{◌≡◌, sym, ap, ap₂, ◌∙◌}
use native.Mathlib.Omega.{arith}
use lib.Seq.{sets}
use Rattle.base.proofs.utf8.Turns.{part_is, RunAt, run_at, Counted, counted_lones, counted_run, counted_last, counted-size, added_is, sets_run}
use Rattle.base.proofs.utf8.decode_runs.Goals as goal
use Rattle.base.proofs.utf8.decode_runs.Goals.{After-next_run-run, After-put_lone-lones}

-- behind the lone bytes
lones : (c : After-put_lone-lones)
    → Counted c.args.text.now c.put_lone-lones.result.end c.loop-replaced.extra (c.loop-replaced.count + (c.put_lone-lones.result.end - c.loop-replaced.i))
lones c = counted_lones _ _ _ _ _ c.loop-replaced.invariant.0 c.put_lone-lones.ensures.0

run : (c : After-next_run-run) → RunAt c.args.text.now c.put_lone-lones.result.end c.next_run-run.result.end c.next_run-run.result.skip
run c = run_at _ _ _ _ ((let its : Counted c.args.text.now c.put_lone-lones.result.end c.loop-replaced.extra (c.loop-replaced.count + (c.put_lone-lones.result.end - c.loop-replaced.i)) = counted_lones _ _ _ _ _ c.loop-replaced.invariant.0 c.put_lone-lones.ensures.0 in its)).0 c.next_run-run.ensures.0 c.next_run-run.ensures.1

some : (n : ℕ) → (n ≡ 0 → ⊥) → 0 < n
some n h = omega arith

pub slice_bounds-copy_on-end : goal.slice_bounds-copy_on-end
slice_bounds-copy_on-end c = let r = run (goal.at.slice_bounds-copy_on-end c).After-next_run-run in omega (arith, r.reach)

pub returns-then-skip-eq0 : goal.returns-then-skip-eq0
returns-then-skip-eq0 c =
    let r = run (goal.at.returns-then-skip-eq0 c).After-next_run-run in
    let n = counted_last _ _ _ _ _ _ (lones (goal.at.returns-then-skip-eq0 c).After-put_lone-lones) r c.if-skip-eq0.true in (
      counted-size _ _ _ n.0 c.saturating_add-then-skip-eq0.ensures,
      c.saturating_add.ensures ∙ ap₂ (λ (a b : ℕ). min (a + b) 18446744073709551615) c.loop-replaced.invariant.3 n.1 ∙ added_is _ _ (omega (arith, c.loop-replaced.invariant.3)),
      c.copy_on-next.ensures.0 ∙ ap (sets c.put_lone-lones.new.out c.put_lone-lones.result.next) (part_is _ _ _ r.start ∙ sym (r.whole c.if-skip-eq0.true)) ∙ c.put_lone-lones.ensures.1 ∙ c.loop-replaced.invariant.2,
    )

pub overflow_add-extra : goal.overflow_add-extra
overflow_add-extra c = let k = counted_run _ _ _ _ _ _ (lones (goal.at.overflow_add-extra c).After-put_lone-lones) (run (goal.at.overflow_add-extra c).After-next_run-run) (some _ c.if-skip-eq0.false) in omega (arith, k.0, k.2, c.well_formed)

pub overflow_add-i : goal.overflow_add-i
overflow_add-i c = let r = run (goal.at.overflow_add-i c).After-next_run-run in omega (arith, r.reach)

pub loop-replaced-smaller : goal.loop-replaced-smaller
loop-replaced-smaller c = let r = run (goal.at.loop-replaced-smaller c).After-next_run-run in let s = some _ c.if-skip-eq0.false in omega (arith, c.put_lone-lones.ensures.0.0, r.start, r.reach, s)

pub loop-replaced-preserved : goal.loop-replaced-preserved
loop-replaced-preserved c =
    let r = run (goal.at.loop-replaced-preserved c).After-next_run-run in
    let h = some _ c.if-skip-eq0.false in (
      counted_run _ _ _ _ _ _ (lones (goal.at.loop-replaced-preserved c).After-put_lone-lones) r h,
      c.put_replacement-o.auto.out ∙ c.copy_on-next.auto.out ∙ c.put_lone-lones.auto.out ∙ c.loop-replaced.invariant.1,
      sets_run _ _ _ _ _ _ _ _ _ _ _ r h (part_is _ _ _ r.start) c.copy_on-next.ensures.0 c.copy_on-next.ensures.1 c.put_replacement-o.ensures.0 c.put_replacement-o.ensures.1 ∙ c.put_lone-lones.ensures.1 ∙ c.loop-replaced.invariant.2,
      c.loop-replaced.invariant.3,
    )
