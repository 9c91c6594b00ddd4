-- `tally::Tables::put_text` meets its contract.
-- Assumes nothing.
use mathlib.Core.Path.{◌≡◌, ap, ap₂, ◌∙◌}
use native.Mathlib.Omega.{arith}
use Prim.Native.Nat.{◌≤◌}
use lib.ListN.{length, set}
use lib.Seq.{sets}
use Rattle.bflan.specs.Items.{shown_at}
use Rattle.bflan.specs.inner.Walk.{with_text}
use Rattle.bflan.proofs.reader.Emits.{shown_part, known_count, known_size, known_bytes, after_text}
use Rattle.bflan.proofs.reader.tally.Tables.put_text.Goals as goal
use Rattle.bflan.proofs.reader.tally.Tables.put_text.Goals.{After-decode_known-size}

sized : (c : After-decode_known-size) → (c.decode_known-size.result ≡ length (shown_at c.args.s.bytes.now c.args.start c.args.len)) × (c.decode_known-size.result ≤ 50331648)
sized c = known_size c.args.s.bytes.now c.args.start c.args.len c.args.plain _ (shown_part c.args.s.bytes.now c.args.start c.args.len) c.requires.1 _ c.requires.0 c.args.s.short c.decode_known-size.ensures.0

pub overflow_cast-size : goal.overflow_cast-size
overflow_cast-size c = let z = sized (goal.at.overflow_cast-size c).After-decode_known-size in omega (arith, z.1)

pub returns : goal.returns
returns c =
    let z = sized (goal.at.returns c).After-decode_known-size in
    let n = known_count c.args.s.bytes.now c.args.start c.args.len c.args.plain _ (shown_part c.args.s.bytes.now c.args.start c.args.len) c.requires.1 c.args.self.now.tally.replaced _ c.decode_known-size.ensures.1 in
    after_text c.args.s.bytes.now c.args.self.now _ _
    (c.put_word.ensures ∙ ap (set c.args.self.now.words.now c.args.self.now.tally.words) z.0)
    (c.decode_known-size.ensures.2 ∙ ap (sets c.args.self.now.texts.now c.args.self.now.tally.bytes) (known_bytes c.args.s.bytes.now c.args.start c.args.len c.args.plain _ (shown_part c.args.s.bytes.now c.args.start c.args.len) c.requires.1))
    (c.add_text.ensures ∙ ap₂ (with_text c.args.self.now.tally c.args.start c.args.len) z.0 n)
