-- `judge::run::pairs` meets its contract. The loop's invariant: what is left, from here, is what all of it is, from the start.
-- Assumes nothing.
use Rattle.std.proofs.Common.{ℕ, ◌-◌, ◌*◌, ◌≡◌, List}
use Rattle.bflan.specs.Judge.{times, row}
use Rattle.bflan.specs.inner.Measure.{verdict_of}
use Rattle.bflan.specs.pai1.Record.{key_widths}
use Rattle.bflan.proofs.judge.run.pairs.Given as goal

abbrev pub invariant-loop : goal.invariant-loop
invariant-loop l = (x : List ℕ) → verdict_of (λ ks. 8 * l.n) (times (l.n - l.counter) (row (key_widths 1)) l.words x l.word l.at.byte) ≡ verdict_of (λ ks. 8 * l.n) (times l.n (row (key_widths 1)) l.words x l.at.word l.at.byte)
