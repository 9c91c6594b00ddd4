-- `content::name_and_infos` meets its contract.
-- Assumes nothing.
use mathlib.Core.Path.{sym, ◌∙◌}
use mathlib.Core.Bool.{true≢false}
use native.Mathlib.Omega.{arith}
use Rattle.bflan.proofs.reader.ContentParts.{name-within, run_content}
use Rattle.bflan.proofs.reader.content.name_and_infos.Goals as goal

pub put_text-requires : goal.put_text-requires
put_text-requires c =
    let k = name-within c.args.s.bytes.now c.args.base c.requires.0 in
    (omega (arith, k, c.name_size-len.ensures), λ e. absurd (true≢false (sym e)))

pub returns : goal.returns
returns c = c.visit.ensures ∙ run_content c.args.s.bytes.now c.args.into.now c.args.base c.args.kind c.args.n _ (omega arith, omega arith) c.name_size-len.ensures c.type_of.ensures c.put_text.ensures (c.put2.ensures _)
