use Rattle.std.proofs.Common.{◌≡◌, ◌<◌, ◌≤◌, length, get_or, sym, ◌∙◌, rules}
use Rattle.bflan.proofs.judge.Measures.{word_if_in, word_if_unfit, word_if_out}
use Rattle.bflan.proofs.judge.word.word_where.Goals as goal
use Rattle.bflan.proofs.judge.word.word_where.Goals.{in_default-2, in_default}

pub returns-in-Some : goal.returns-in-Some
returns-in-Some g c = λ test e.
    let l : c.args.i < length c.args.words.now = search rules in
    let d : c.in-Some.word.now ≡ get_or c.args.words.now c.args.i 0 = search rules in
    rw d (word_if_in test _ _ l (sym (e _ _ (rw d at c.if-fits.ensures))))

pub returns : goal.returns
returns g c = λ test e.
    elim c.match-get.branch [
      | in_default-2 w ↦
          let l : c.args.i < length c.args.words.now = search rules in
          let d : w.in-Some.word.now ≡ get_or c.args.words.now c.args.i 0 = search rules in
          w.result-is ∙ word_if_unfit test _ _ l (sym (e _ _ (rw d at w.if-fits.ensures)))
      | in_default w ↦ let l : length c.args.words.now ≤ c.args.i = search rules in w.result-is ∙ word_if_out test _ _ l
    ]
