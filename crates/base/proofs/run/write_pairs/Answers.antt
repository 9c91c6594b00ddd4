use Prim.Native.Nat.{ℕ, ◌+◌, ◌*◌, ◌/◌, ◌≤◌, ◌<◌}
use mathlib.Core.Path.{◌≡◌, sym, ap, ◌∙◌}
use mathlib.Core.List.{List}
use native.Mathlib.Omega.{arith}
use lib.ListN.{length, take, drop}
use lib.Seq.{sets}
use Rattle.base.specs.Run.{pairs_le}
use Rattle.base.proofs.Runs.{length-words, words_pair, count_below, pair_there, pairs_gone, pair_over, pairs_le-turn, pairs_le_last, pairs_le_end}
use Rattle.base.proofs.run.write_pairs.Goals as goal

pub loop-k-preserved : goal.loop-k-preserved
loop-k-preserved c =
    let vs = take (2 * c.args.n) (drop c.args.from c.args.words.now) in
    let t = count_below _ _ _ _ c.room-full.ensures c.loop-k-test.true in
    let h : 2 * c.loop-k.k + 1 < length vs = rw (length-words (2 * c.args.n) c.args.from c.args.words.now) (pair_there _ _ _ _ (rw c.saturating_sub.ensures at c.room-m.ensures) t) in
    let e = words_pair (2 * c.args.n) c.args.from c.loop-k.k c.args.words.now h in (
      omega arith,
      c.store_pair.auto.out ∙ c.loop-k.invariant.1,
      ap (λ (l : List ℕ). sets l (c.args.at + 8 * (c.loop-k.k + 1)) (pairs_le (drop (2 * (c.loop-k.k + 1)) vs))) c.store_pair.ensures ∙ pairs_le-turn c.loop-k.out c.args.at c.loop-k.k _ _ vs h e.0 e.1 ∙ c.loop-k.invariant.2,
    )

pub returns-then-full-m : goal.returns-then-full-m
returns-then-full-m c =
    let vs = take (2 * c.args.n) (drop c.args.from c.args.words.now) in
    let h : 2 * c.room-full.result + 1 < length vs = rw (length-words (2 * c.args.n) c.args.from c.args.words.now) (pair_there _ _ _ _ (rw c.saturating_sub.ensures at c.room-m.ensures) c.if-full-m.true) in
    let e = words_pair (2 * c.args.n) c.args.from c.room-full.result c.args.words.now h in
    let q : c.room-full.result ≡ c.loop-k.k = omega arith in
    let r : length c.loop-k.out ≤ c.args.at + 8 * (c.room-full.result + 1) = rw c.loop-k.invariant.1 (pair_over _ _ _ _ (rw c.saturating_sub-2.ensures at c.room-full.ensures) c.if-full-m.true) in
    c.clip_pair.ensures ∙ pairs_le_last c.loop-k.out c.args.at c.room-full.result _ _ vs h r e.0 e.1 ∙ ap (λ (k : ℕ). sets c.loop-k.out (c.args.at + 8 * k) (pairs_le (drop (2 * k) vs))) q ∙ c.loop-k.invariant.2

pub returns-else-full-m : goal.returns-else-full-m
returns-else-full-m c =
    let vs = take (2 * c.args.n) (drop c.args.from c.args.words.now) in
    let h : length vs / 2 ≤ c.loop-k.k = rw (length-words (2 * c.args.n) c.args.from c.args.words.now) (pairs_gone _ _ _ _ _ (rw c.saturating_sub.ensures at c.room-m.ensures) c.if-full-m.false c.loop-k-test.false) in
    sym (pairs_le_end c.loop-k.out c.args.at c.loop-k.k vs h) ∙ c.loop-k.invariant.2
