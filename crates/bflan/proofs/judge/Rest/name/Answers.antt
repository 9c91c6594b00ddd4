-- `judge::Rest::name` meets its contract.
-- Assumes nothing.
use Rattle.std.proofs.Common.{ℕ, List, length, leb, sym, ◌∙◌, arith}
use Rattle.bflan.proofs.judge.Measures.{fits-most, held, failed, there, word_is, refused_word}
use Rattle.bflan.proofs.judge.JudgeParts.{text_bad, text_then}
use Rattle.bflan.proofs.judge.Rest.name.Goals as goal

pub returns-in_err-n : goal.returns-in_err-n
returns-in_err-n c = refused_word _ _ c.word_below.ensures c.from_residual.ensures.1 c.in_err-n.was (omega arith) ∙ text_bad (λ n. leb n 28) c.args.self (λ (t : List ℕ). length t) (sym (fits-most 28 c.args.self.words.now c.args.self.at.word) ∙ failed _ _ c.word_below.ensures c.in_err-n.was (omega arith))

pub past-requires : goal.past-requires
past-requires c = omega (arith, there _ _ c.word_below.ensures c.in_ok-n.was, c.well_formed)

pub returns : goal.returns
returns c = text_then (λ n. leb n 28) c.args.self _ _ (sym (fits-most 28 c.args.self.words.now c.args.self.at.word) ∙ held _ _ c.word_below.ensures c.in_ok-n.was (omega arith)) (word_is _ _ c.word_below.ensures c.in_ok-n.was (omega arith)) (rw c.past.ensures at c.chars.ensures)
