-- `find::show` meets its contract.
-- Assumes nothing.
use Prim.Native.Nat.{ℕ, ◌+◌}
use mathlib.Core.Path.{◌≡◌, ap, sym, ◌∙◌}
use mathlib.Core.List.{List}
use native.Mathlib.Omega.{arith}
use lib.ListN.{length}
use lib.Seq.{slice, sets, length-slice}
use Rattle.base.specs.Utf8.{decode, replacements, well_formed}
use Rattle.bflan.specs.Items.{shown_at}
use Rattle.bflan.proofs.reader.Emits.{shown-size, shown_part}
use Rattle.bflan.proofs.read.Answers.{shown_well, shown-short, shown-decoded}
use Rattle.bflan.proofs.find.show.Goals as goal
use Rattle.bflan.proofs.find.show.Goals.{After-decoded_len-size, After-well_formed-2}

judged : (c : After-well_formed-2) → c.well_formed-2.result ≡ well_formed (slice c.args.start (c.args.start + c.args.len) c.args.s.bytes.now)
judged c = c.well_formed-2.ensures ∙ ap well_formed (shown_part c.args.s.bytes.now c.args.start c.args.len)

sized : (c : After-decoded_len-size) → c.decoded_len-size.result ≡ length (shown_at c.args.s.bytes.now c.args.start c.args.len)
sized c = (shown-size _ _ _ _ _ c.requires c.args.s.short (shown_part c.args.s.bytes.now c.args.start c.args.len) c.decoded_len-size.ensures).0

pub returns-then-well_formed : goal.returns-then-well_formed
returns-then-well_formed c =
    let l = length-slice c.args.start (c.args.start + c.args.len) c.args.s.bytes.now c.requires in
    shown_well _ _ _ _ (sym (judged (goal.at.returns-then-well_formed c).After-well_formed-2) ∙ c.if-well_formed.true) (omega (arith, l))

pub returns-then-scratch-size : goal.returns-then-scratch-size
returns-then-scratch-size c = shown-short _ _ _ _ (sym (judged (goal.at.returns-then-scratch-size c).After-well_formed-2) ∙ c.if-well_formed.false) (sized (goal.at.returns-then-scratch-size c).After-decoded_len-size) c.if-scratch-size.true

pub returns : goal.returns
returns c =
    let e = shown_part c.args.s.bytes.now c.args.start c.args.len in
    shown-decoded _ _ _ _ _ _ (sym (judged (goal.at.returns c).After-well_formed-2) ∙ c.if-well_formed.false) (sized (goal.at.returns c).After-decoded_len-size) (c.decode_into.ensures.1 ∙ ap replacements e) (omega (arith, c.if-scratch-size.false))
    (c.decode_into.ensures.2 ∙ ap (λ (l : List ℕ). sets c.args.scratch.now 0 (decode l)) e)
