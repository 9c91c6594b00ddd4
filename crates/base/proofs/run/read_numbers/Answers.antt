use Rattle.std.specs.Prelude.{Err}
use Rattle.base.specs.Number.{past_end}
use Prim.Native.Nat.{ℕ, ◌+◌, ◌*◌, ◌<◌}
use mathlib.Core.Path.{◌≡◌, sym, ap, ◌∙◌}
use native.Mathlib.Omega.{arith}
use lib.ListN.{length, drop, set, get_or, length-set}
use lib.Seq.{sets}
use Rattle.base.specs.Run.{numbers_at}
use Rattle.base.proofs.Filling.{fill_turn, fill_end}
use Rattle.base.proofs.Runs.{length-numbers, numbers_at_lem, numbers-whole, numbers_cut, stored_next, stored_cut}
use Rattle.base.proofs.run.read_numbers.Goals as goal

pub returns-then-whole-n : goal.returns-then-whole-n
returns-then-whole-n c =
    (ap (λ (x : ℕ). Err (past_end (c.args.at + 4 * x) 4)) c.whole_numbers-whole.ensures ∙ sym (numbers_cut c.args.n c.args.s.now c.args.at (omega arith)), sym (stored_cut _ _ _ _ _))

pub loop-k-preserved : goal.loop-k-preserved
loop-k-preserved c =
    let v = numbers_at c.args.n c.args.s.now c.args.at in
    let h : c.loop-k.k < length v = rw (length-numbers c.args.n c.args.s.now c.args.at) (omega arith) in
    let e : c.get.result ≡ get_or v c.loop-k.k 0 = c.get.ensures ∙ sym (numbers_at_lem _ _ _ _ (omega arith)) in
    (c.loop-k.invariant.0, simp length-set c.loop-k.invariant.1, ap (λ (x : ℕ). sets (set c.loop-k.out (c.args.o + c.loop-k.k) x) (c.args.o + (c.loop-k.k + 1)) (drop (c.loop-k.k + 1) v)) e ∙ fill_turn _ _ _ v h ∙ c.loop-k.invariant.2)

pub returns : goal.returns
returns c =
    let v = numbers_at c.args.n c.args.s.now c.args.at in
    let l = length-numbers c.args.n c.args.s.now c.args.at in
    (sym (numbers-whole _ _ _ (omega arith)), sym (fill_end c.loop-k.out c.args.o c.loop-k.k v (omega (arith, l, c.loop-k.invariant.1))) ∙ c.loop-k.invariant.2 ∙ sym (stored_next _ _ _ _))
