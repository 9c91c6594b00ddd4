-- `content::with_table` meets its contract.
-- Assumes nothing.
use mathlib.Core.Path.{sym, ap, ◌∙◌}
use Rattle.bflan.specs.inner.Walk.{walk_of}
use Rattle.bflan.proofs.reader.ContentParts.{content_rest_lem}
use Rattle.bflan.proofs.reader.content.with_table.Goals as goal

pub returns : goal.returns
returns c = λ i.
    let d = content_rest_lem c.args.base c.args.s.bytes.now i c.requires.0 c.requires.1 c.requires.2 c.args.table _ c.requires.3 (sym c.in_ok-p.ensures) in
    c.name_and_infos.ensures ∙ ap (walk_of c.args.s.bytes.now c.args.into.now) (sym d)
