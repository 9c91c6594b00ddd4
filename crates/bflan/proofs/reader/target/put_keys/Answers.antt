-- `target::put_keys` meets its contract: a store of two words, then the keys.
-- Assumes nothing.
use Prim.Native.Nat.{ℕ}
use mathlib.Core.Path.{ap, sym, ◌∙◌}
use mathlib.Core.List.{[], ◌∷◌}
use native.Mathlib.Omega.{arith}
use Rattle.bflan.specs.Reader.{word}
use Rattle.bflan.specs.pai1.Curves.{curve_number}
use Rattle.bflan.specs.inner.Walk.{after}
use Rattle.bflan.proofs.reader.Walks.{put-before, walk_behind}
use Rattle.bflan.proofs.reader.target.put_keys.Goals as goal

pub returns : goal.returns
returns c =
    let s = c.args.s.now in
    let t = c.args.into.now in
    let items = word (curve_number c.args.curve) ∷ word c.args.n ∷ [] in
    c.keys.ensures ∙ walk_behind s t items _ (omega arith, omega arith) (c.put2.ensures s ∙ ap (λ (k : ℕ). after s t (word k ∷ word c.args.n ∷ [])) c.from.ensures) (sym (put-before items _ s))
