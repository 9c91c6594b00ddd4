-- `answer::put` meets its contract.
-- Assumes nothing.
use Rattle.std.proofs.Common.{◌≡◌, ℕ, ◌+◌, ◌<◌, List, [], ◌∷◌, length, get_or, set, take, refl, sym, ap, ◌∙◌, arith, add-one, zero-add}
use Rattle.std.proofs.Math.Seq.{set_out, take-suc, length-take-le}
use Rattle.std.proofs.lemmas.List.{take_all}
use Rattle.std.proofs.lemmas.List.Edits.{sets}
use Rattle.base.proofs.Stores.{sets-append}
use Rattle.capi.proofs.answer.put.Goals.{then-at-list, else-at-list}
use Rattle.capi.proofs.answer.put.Goals as goal

-- one number more
next_put : (l v : List ℕ) (i : ℕ) → i < length v → set (sets l 0 (take i v)) i (get_or v i 0) ≡ sets l 0 (take (i + 1) v)
next_put l v i h =
    let e : length (take i v) ≡ i = length-take-le i v (omega arith) in
    rw (add-one, take-suc v i 0 h, sets-append l 0 (take i v) (get_or v i 0 ∷ []), e, zero-add i) refl

pub loop-at-preserved : goal.loop-at-preserved
loop-at-preserved c =
    let n = next_put c.args.list.now c.args.numbers.now c.loop-at.at c.loop-at-test.true in
    let e : c.loop-at.list ≡ sets c.args.list.now 0 (take c.loop-at.at c.args.numbers.now) = c.loop-at.invariant in
    elim c.if-at-list.branch [
      | then-at-list w ↦ w.list-is ∙ (rw e n)
      | else-at-list w ↦ w.list-is ∙ sym (set_out c.loop-at.list c.loop-at.at (get_or c.args.numbers.now c.loop-at.at 0) w.if-at-list.false) ∙ (rw e n)
    ]

pub returns : goal.returns
returns c = c.loop-at.invariant ∙ ap (sets c.args.list.now 0) (take_all _ _ c.loop-at-test.false)
