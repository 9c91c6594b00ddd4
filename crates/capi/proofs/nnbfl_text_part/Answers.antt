-- `nnbfl_text_part` meets its contract.
-- Assumes nothing.
use mathlib.Core.Path.{ap, ◌∙◌}
use lib.ListN.{length}
use lib.Seq.{sets}
use Rattle.capi.proofs.nnbfl_text_part.Goals as goal

pub returns : goal.returns
returns c =
    let e = c.text_part-text.ensures.0 in (
      ap length e,
      c.copy.ensures ∙ ap (sets c.args.out.now 0) e,
    )
