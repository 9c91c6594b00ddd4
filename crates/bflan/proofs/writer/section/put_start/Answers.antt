-- `writer::section::put_start` meets its contract.
-- Assumes nothing.
use mathlib.Core.Path.{refl}
use mathlib.Core.List.{[], ◌∷◌}
use Rattle.base.specs.Number.{le, val}
use Rattle.bflan.specs.Layout.{row, written}
use Rattle.bflan.specs.inner.LayoutParts.{frame_lay}
use Rattle.bflan.specs.pai1.Reading.{own_letters}
use Rattle.bflan.proofs.writer.Stored.{puts_none, puts_more, row_stored}
use Rattle.bflan.proofs.writer.section.put_start.Goals as goal

pub returns : goal.returns
unfolding frame_lay row written le own_letters val
returns c = (c.write_placeholder_u32-size.ensures.0, row_stored {ks = 4 ∷ 4 ∷ 2 ∷ 1 ∷ 1 ∷ 2 ∷ 2 ∷ []} {vs = own_letters ∷ 0 ∷ _ ∷ _ ∷ 0 ∷ _ ∷ _ ∷ []} (puts_more c.write.ensures refl (puts_more c.write_placeholder_u32-size.ensures.1 refl (puts_more c.write-2.ensures c.word_of-frames.ensures (puts_more c.write-3.ensures c.word_of-looping.ensures (puts_more c.write-4.ensures refl (puts_more c.write-5.ensures c.word_of-textures.ensures (puts_more c.write-6.ensures c.word_of-contents.ensures puts_none))))))))
