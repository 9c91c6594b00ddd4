-- `row::cut` meets its contract. The loop's invariant: what is refused of the widths that are left, from here, is what is refused of all.
-- Assumes nothing.
use mathlib.Core.Path.{◌≡◌}
use mathlib.Core.List.{map}
use lib.ListN.{drop}
use Rattle.bflan.specs.inner.Row.{width_of, cut_in}
use Rattle.bflan.proofs.reader.row.cut.Given as goal

abbrev pub invariant-loop-width : goal.invariant-loop-width
invariant-loop-width l = cut_in (map width_of (drop l.width-index l.widths)) l.s l.p ≡ cut_in (map width_of l.widths) l.s l.at
