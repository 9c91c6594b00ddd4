-- `judge::Rest::named` meets its contract.
-- Assumes nothing.
use Rattle.std.proofs.Common.{ℕ, ◌+◌, ◌*◌, ap, sym, ◌∙◌, arith}
use Rattle.bflan.proofs.judge.Measures.{fits-most, held, failed, there, word_is, refused_word, handed_on, more, none_more, filled, none_filled, tested_bad, tested_next}
use Rattle.bflan.proofs.judge.JudgeParts.{named_bad, table-le, named_whole}
use Rattle.bflan.proofs.judge.Rest.named.Goals as goal

pub returns-in_err-kind : goal.returns-in_err-kind
returns-in_err-kind c = λ name h. refused_word _ _ c.word_below.ensures c.from_residual.ensures.1 c.in_err-kind.was (omega arith) ∙ named_bad name c.args.self (tested_bad (sym (fits-most 4 c.args.self.words.now c.args.self.at.word) ∙ failed _ _ c.word_below.ensures c.in_err-kind.was (omega arith)))

pub word_below-requires-2 : goal.word_below-requires-2
word_below-requires-2 c = omega (arith, there _ _ c.word_below.ensures c.in_ok-kind.was, c.well_formed)

pub returns-in_err-n : goal.returns-in_err-n
returns-in_err-n c = λ name h. refused_word _ _ c.word_below-2.ensures c.from_residual-in_err-n.ensures.1 c.in_err-n.was (omega arith) ∙ named_bad name c.args.self (tested_next (sym (fits-most 4 c.args.self.words.now c.args.self.at.word) ∙ held _ _ c.word_below.ensures c.in_ok-kind.was (omega arith)) (tested_bad (failed _ _ c.word_below-2.ensures c.in_err-n.was (omega arith))))

pub past-requires : goal.past-requires
past-requires c = omega (arith, there _ _ c.word_below-2.ensures c.in_ok-n.was, c.well_formed)

pub overflow_add-head : goal.overflow_add-head
overflow_add-head c = let h = table-le c.in_ok-kind.kind in omega (arith, h, c.table_from.ensures)

pub returns-in_err-rest : goal.returns-in_err-rest
returns-in_err-rest c = λ name h. handed_on c.from_residual-in_err-rest.ensures.1 ∙ none_filled (sym (none_more _ c.in_err-rest.was)) ∙ named_whole name c.args.self (sym (fits-most 4 c.args.self.words.now c.args.self.at.word) ∙ held _ _ c.word_below.ensures c.in_ok-kind.was (omega arith), (held _ _ c.word_below-2.ensures c.in_ok-n.was (omega arith), tt)) h _ _ _ (word_is _ _ c.word_below-2.ensures c.in_ok-n.was (omega arith)) (word_is _ _ c.word_below.ensures c.in_ok-kind.was (omega arith)) (ap (λ (k : ℕ). k + 4 * c.in_ok-n.field-0) c.table_from.ensures) _ (rw c.past.ensures at c.infos.ensures)

pub returns : goal.returns
returns c = λ name h. filled (sym (more _ c.in_ok-rest.was c.grown.ensures)) c.padded.ensures ∙ named_whole name c.args.self (sym (fits-most 4 c.args.self.words.now c.args.self.at.word) ∙ held _ _ c.word_below.ensures c.in_ok-kind.was (omega arith), (held _ _ c.word_below-2.ensures c.in_ok-n.was (omega arith), tt)) h _ _ _ (word_is _ _ c.word_below-2.ensures c.in_ok-n.was (omega arith)) (word_is _ _ c.word_below.ensures c.in_ok-kind.was (omega arith)) (ap (λ (k : ℕ). k + 4 * c.in_ok-n.field-0) c.table_from.ensures) _ (rw c.past.ensures at c.infos.ensures)
