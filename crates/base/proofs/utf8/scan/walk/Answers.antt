use mathlib.Core.Path.{refl, ◌∙◌}
use native.Mathlib.Omega.{arith}
use Rattle.base.proofs.utf8.Automaton.{zero_state, state_zero, state_lost, not_zero_lem, not_lost}
use Rattle.base.proofs.utf8.Inside.{inside-start, inside-turn, inside_cut, inside_on, inside_new, inside_done}
use Rattle.base.proofs.utf8.scan.walk.Goals as goal

pub loop-j-init : goal.loop-j-init
loop-j-init c = (omega arith, omega arith, zero_state, rw (state_zero 0 refl) (inside-start _ _ (omega arith)), refl)

pub returns-then-q-eq6 : goal.returns-then-q-eq6
returns-then-q-eq6 c =
    let b = (inside-turn c.args.s.now _ _ _ _ c.loop-j.invariant.3 (omega arith) c.next_state-q.ensures.1).lost (state_lost _ c.if-q-eq6.true) in
    (c.loop-j.invariant.0, omega (arith, c.loop-j.invariant.3.start), c.loop-j.invariant.4, λ e. absurd (omega (arith, c.max.ensures, e)), λ h. (c.max.ensures ∙ b.size, b.here))

pub loop-j-preserved-then-q-eq0 : goal.loop-j-preserved-then-q-eq0
loop-j-preserved-then-q-eq0 c =
    let t = inside-turn c.args.s.now _ _ _ _ c.loop-j.invariant.3 (omega arith) c.next_state-q.ensures.1 in
    let z = state_zero _ c.if-q-eq0.true in
    (omega (arith, c.loop-j.invariant.3.start), omega arith, c.next_state-q.ensures.0, inside_new _ _ _ (omega arith) z, inside_done _ _ _ _ t c.loop-j.invariant.3.start z ∙ c.loop-j.invariant.4)

pub loop-j-preserved : goal.loop-j-preserved
loop-j-preserved c =
    let t = inside-turn c.args.s.now _ _ _ _ c.loop-j.invariant.3 (omega arith) c.next_state-q.ensures.1 in
    let n = c.next_state-q.ensures.0 in
    (c.loop-j.invariant.0, omega arith, n, inside_on _ _ _ _ t c.loop-j.invariant.3.start (omega arith) (not_lost _ n c.if-q-eq6.false) (not_zero_lem _ n c.if-q-eq0.false), c.loop-j.invariant.4)

pub returns-then-j-s : goal.returns-then-j-s
returns-then-j-s c =
    let n = c.loop-j.invariant.3 in
    (c.loop-j.invariant.0, omega (arith, n.start), c.loop-j.invariant.4, λ e w. omega (arith, e, w, c.if-j-s.true), λ h. let b = inside_cut _ _ _ _ n (omega arith) (omega (arith, h)) in (b.size, b.here))
