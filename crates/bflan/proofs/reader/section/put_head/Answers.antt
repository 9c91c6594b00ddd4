-- `section::put_head` meets its contract.
-- Assumes nothing.
use Prim.Native.Nat.{ℕ}
use mathlib.Core.Path.{ap, ◌∙◌}
use mathlib.Core.List.{[], ◌∷◌}
use native.Mathlib.Omega.{arith}
use Rattle.bflan.specs.Reader.{word}
use Rattle.bflan.specs.inner.Walk.{after}
use Rattle.bflan.proofs.reader.Walks.{after_both}
use Rattle.bflan.proofs.reader.section.put_head.Goals as goal

pub returns : goal.returns
returns c = λ s.
    let t = c.args.into.now in
    after_both s t _ _ (omega arith, omega arith) (c.put2.ensures s ∙ ap (λ (k : ℕ). after s t (word c.args.h.frames ∷ word k ∷ [])) c.flag_of-looping.ensures) (c.put2-2.ensures s)
