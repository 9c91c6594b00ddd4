use Prim.Native.Nat.{ℕ, ◌+◌, ◌*◌, ◌≤◌, ◌<◌}
use mathlib.Core.Path.{◌≡◌, sym, ap, ◌∙◌}
use mathlib.Core.List.{List}
use native.Mathlib.Omega.{arith}
use lib.ListN.{length, take, drop}
use lib.Seq.{sets}
use Rattle.base.specs.Run.{numbers_le}
use Rattle.base.proofs.Runs.{length-words, words_at, numbers_le-turn, numbers_le_last, numbers_le_end}
use Rattle.base.proofs.run.write_numbers.Goals as goal

pub loop-k-preserved : goal.loop-k-preserved
loop-k-preserved c =
    let vs = take c.args.n (drop c.args.from c.args.words.now) in
    let n = length-words c.args.n c.args.from c.args.words.now in
    let h : c.loop-k.k < length vs = omega (arith, n) in
    let e = words_at c.args.n c.args.from c.loop-k.k c.args.words.now h in (
      omega arith,
      c.put.auto.out ∙ c.loop-k.invariant.1,
      ap (λ (l : List ℕ). sets l (c.args.at + 4 * (c.loop-k.k + 1)) (numbers_le (drop (c.loop-k.k + 1) vs))) c.put.ensures ∙ numbers_le-turn c.loop-k.out c.args.at c.loop-k.k _ vs h e ∙ c.loop-k.invariant.2,
    )

pub returns-then-full-m : goal.returns-then-full-m
returns-then-full-m c =
    let vs = take c.args.n (drop c.args.from c.args.words.now) in
    let n = length-words c.args.n c.args.from c.args.words.now in
    let q : c.room-full.result ≡ c.loop-k.k = omega arith in
    let h : c.room-full.result < length vs = omega (arith, n) in
    let r : length c.loop-k.out ≤ c.args.at + 4 * (c.room-full.result + 1) = omega arith in
    let e = words_at c.args.n c.args.from c.room-full.result c.args.words.now h in
    c.write.ensures ∙ numbers_le_last c.loop-k.out c.args.at c.room-full.result _ vs h r e ∙ ap (λ (k : ℕ). sets c.loop-k.out (c.args.at + 4 * k) (numbers_le (drop k vs))) q ∙ c.loop-k.invariant.2

pub returns-else-full-m : goal.returns-else-full-m
returns-else-full-m c =
    let vs = take c.args.n (drop c.args.from c.args.words.now) in
    let n = length-words c.args.n c.args.from c.args.words.now in
    let h : length vs ≤ c.loop-k.k = omega (arith, n) in
    sym (numbers_le_end c.loop-k.out c.args.at c.loop-k.k vs h) ∙ c.loop-k.invariant.2
