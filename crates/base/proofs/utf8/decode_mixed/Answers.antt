-- `utf8::decode_mixed` meets its contract.
-- Assumes nothing.
use mathlib.Core.Path.{refl, sym, ap, ◌∙◌}
use native.Mathlib.Omega.{arith}
use lib.Seq.{sets}
use Rattle.base.specs.Utf8.{decoded_size}
use Rattle.base.proofs.Parts.{part_all}
use Rattle.base.proofs.utf8.Laws.{whole_well, well_none, decode_well}
use Rattle.base.proofs.utf8.decode_mixed.Goals as goal

pub returns-then-short_valid : goal.returns-then-short_valid
unfolding decoded_size
returns-then-short_valid c =
    let p = part_all c.args.text.now in
    let w = whole_well _ (rw p at (c.short_valid.ensures c.if-short_valid.true)) in
    let d = decode_well _ w in
    (rw d (omega (arith, c.well_formed)), rw (← well_none _ w) refl, c.copy.ensures ∙ ap (sets c.args.out.now c.args.at) (p ∙ sym d))
