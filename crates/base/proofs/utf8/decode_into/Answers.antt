-- `utf8::decode_into` meets its contract.
-- Assumes nothing.
use mathlib.Core.Path.{◌≡◌, sym, ap, ◌∙◌}
use mathlib.Core.List.{List}
use Prim.Native.Nat.{ℕ, ◌<◌}
use native.Mathlib.Omega.{arith}
use lib.ListN.{length}
use lib.Seq.{sets}
use Rattle.base.specs.Utf8.{replacements}
use Rattle.base.specs.inner.Scan.{added}
use Rattle.base.proofs.utf8.Laws.{count-le}
use Rattle.base.proofs.utf8.Turns.{seen_ascii, ascii_decode, ascii_size, ascii_none, added_is}
use Rattle.base.proofs.utf8.decode_into.Goals as goal

-- counted from 0
added_none : (t : List ℕ) → length t < 18446744073709551616 → added 0 (replacements t) ≡ replacements t
added_none t h = let m = count-le t in sym (added_is 0 (replacements t) (omega arith)) ∙ omega arith

pub returns-then-is_ascii : goal.returns-then-is_ascii
returns-then-is_ascii c =
    let f = seen_ascii _ (sym c.is_ascii.ensures ∙ c.if-is_ascii.true) in
    (ascii_size _ (omega (arith, c.well_formed)) f, ascii_none _ f, c.copy.ensures ∙ ap (λ (l : List ℕ). sets c.args.out.now c.args.at l) (sym (ascii_decode _ f)))

pub returns : goal.returns
returns c = let e = c.decode_mixed.ensures in (e.0, e.1 ∙ added_none _ (omega (arith, c.well_formed)), e.2)
