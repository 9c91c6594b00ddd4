use Prim.Native.Nat.{ℕ, min, ◌+◌, ◌-◌, ◌*◌, ◌/◌, ◌≤◌}
use mathlib.Core.Path.{◌≡◌, sym, ap, ◌∙◌}
use native.Mathlib.Omega.{arith}
use lib.ListN.{length, drop, length-set}
use lib.Seq.{sets}
use Rattle.base.specs.Run.{pairs_at, cut_pair, stored_run}
use Rattle.base.proofs.Filling.{fill_end}
use Rattle.base.proofs.Runs.{length_pairs, pairs_first, pairs_second, pairs_whole, pairs_cut, pair_turn, pair_last, stored_next, stored_cut_pair}
use Rattle.base.proofs.run.read_pairs.Goals as goal

pub returns-then-whole-n : goal.returns-then-whole-n
returns-then-whole-n c =
    let e = c.saturating_sub-left.ensures in
    let w = ap (λ (x : ℕ). cut_pair c.args.s.now (c.args.at + 8 * ((x + 2) / 8))) e in
    let q = c.cut_pair.ensures ∙ w in (
      q ∙ sym (pairs_cut c.args.n c.args.s.now c.args.at (omega arith)),
      sym (ap (λ r. stored_run r c.args.out.now c.args.o (pairs_at c.args.n c.args.s.now c.args.at)) q ∙ stored_cut_pair _ _ _ _ _),
    )

pub loop-k-preserved : goal.loop-k-preserved
loop-k-preserved c =
    let v = pairs_at c.args.n c.args.s.now c.args.at in
    let l = length_pairs c.args.n c.args.s.now c.args.at in (
      c.loop-k.invariant.0,
      omega arith,
      simp length-set c.loop-k.invariant.2,
      pair_turn c.loop-k.out c.args.o c.loop-k.k _ _ v (omega (arith, l, c.loop-k.invariant.0)) (c.get.ensures ∙ sym (pairs_first _ _ _ _ (omega arith))) (c.get-in-loop-k.ensures ∙ sym (pairs_second _ _ _ _ (omega arith))) ∙ c.loop-k.invariant.3,
    )

pub returns-then-full-n : goal.returns-then-full-n
returns-then-full-n c =
    let v = pairs_at c.args.n c.args.s.now c.args.at in
    let l = length_pairs c.args.n c.args.s.now c.args.at in
    let full = c.room-m.result / 2 in
    let e : full ≡ c.loop-k.k = omega arith in
    let d = c.loop-k.invariant.2 in
    let w : min (2 * c.args.n) (length c.loop-k.out - c.args.o) / 2 ≤ full = omega (arith, d, c.room-m.ensures) in
    let x = pair_last c.loop-k.out c.args.o full c.args.n _ v l (omega arith) w (c.get-then-full-n.ensures ∙ sym (pairs_first _ _ _ _ (omega arith))) in
    (sym (pairs_whole _ _ _ (omega arith)), c.put_word.ensures ∙ x ∙ ap (λ (k : ℕ). sets c.loop-k.out (c.args.o + 2 * k) (drop (2 * k) v)) e ∙ c.loop-k.invariant.3 ∙ sym (stored_next _ _ _ _))

pub returns : goal.returns
returns c =
    let v = pairs_at c.args.n c.args.s.now c.args.at in
    let l = length_pairs c.args.n c.args.s.now c.args.at in
    (sym (pairs_whole _ _ _ (omega arith)), sym (fill_end c.loop-k.out c.args.o (2 * c.loop-k.k) v (omega (arith, l, c.loop-k.invariant.1))) ∙ c.loop-k.invariant.3 ∙ sym (stored_next _ _ _ _))
