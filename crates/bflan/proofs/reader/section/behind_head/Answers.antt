-- `section::behind_head` meets its contract.
-- Assumes nothing.
use mathlib.Core.Path.{sym, ◌∙◌}
use native.Mathlib.Omega.{arith}
use Rattle.bflan.proofs.reader.SectionParts.{behind_parts}
use Rattle.bflan.proofs.reader.Walks.{walk_behind}
use Rattle.bflan.proofs.reader.section.behind_head.Goals as goal

pub returns : goal.returns
returns c =
    let s = c.args.s.bytes.now in
    let d = behind_parts s c.args.size c.args.h _ (sym c.in_ok-p.ensures) in
    c.parts.ensures ∙ walk_behind s c.args.into.now _ _ (omega arith, omega arith) (c.put_head.ensures s) (sym d)
