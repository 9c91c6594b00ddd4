-- `writer::section::put_section` meets its contract.
-- Assumes nothing.
use Rattle.std.proofs.Common.{rules}
use mathlib.Core.Path.{refl, ap, ◌∙◌}
use native.Mathlib.Omega.{arith}
use lib.ListN.{length}
use Rattle.bflan.specs.declared.writer.Writer.{Writer}
use Rattle.bflan.proofs.writer.Pens.{pen_of, words_of, texts_of, stored_of, ready_in, length-laid, behind-within}
use Rattle.bflan.proofs.writer.LayoutParts.{names_there, contents_there, section_done}
use Rattle.bflan.proofs.writer.section.put_section.Goals as goal

pub put_names-requires : goal.put_names-requires
put_names-requires c = (refl, ready_in (c.write_placeholder_u32-table.auto.out ∙ c.put_start-size.auto.out) (names_there c.args.words.now c.args.texts.now c.requires _ c.word_of-nt.ensures))

pub distance-requires : goal.distance-requires
distance-requires c = let b = behind-within _ (names_there c.args.words.now c.args.texts.now c.requires _ c.word_of-nt.ensures) (ap pen_of c.put_names.ensures) in (omega arith, omega (arith, b.1))

pub put_contents-requires : goal.put_contents-requires
put_contents-requires c =
    let e = c.put_names.ensures in
    let long = ap (λ (v : Writer). length v.out.now) e ∙ length-laid _ _ 20 c.write_placeholder_u32-table.new.out in (
      omega arith,
      ready_in (c.patch_u32.auto.out ∙ long ∙ c.write_placeholder_u32-table.auto.out ∙ c.put_start-size.auto.out)
          (contents_there c.args.words.now c.args.texts.now c.requires _ c.word_of-nt.ensures _ (ap pen_of e) (ap words_of e) (ap texts_of e) _ c.word_of-nc.ensures),
    )

pub distance-requires-2 : goal.distance-requires-2
distance-requires-2 c =
    let e = c.put_names.ensures in
    let b = behind-within _ (contents_there c.args.words.now c.args.texts.now c.requires _ c.word_of-nt.ensures _ (ap pen_of e) (ap words_of e) (ap texts_of e) _ c.word_of-nc.ensures) (ap pen_of c.put_contents.ensures) in
    (omega arith, omega (arith, b.1))

pub returns : goal.returns
returns c =
    let e = c.put_names.ensures in
    rw (← section_done c.args.words.now c.args.texts.now c.requires _ c.word_of-nt.ensures _ (ap pen_of e) (ap words_of e) (ap texts_of e) _ c.word_of-nc.ensures c.args.out.now
    c.put_start-size.ensures.1 c.write_placeholder_u32-table.ensures.1 (ap stored_of e) c.write_placeholder_u32-table.ensures.0 (rw c.distance.ensures at c.patch_u32.ensures)
    (ap pen_of c.put_contents.ensures) (ap stored_of c.put_contents.ensures) c.put_start-size.ensures.0 (rw c.distance-2.ensures at c.patch_u32-2.ensures))
    (search rules)
