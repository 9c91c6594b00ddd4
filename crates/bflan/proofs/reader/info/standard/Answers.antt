-- `info::standard` meets its contract.
-- Assumes nothing.
use Prim.Native.Nat.{ℕ}
use mathlib.Core.Path.{ap, sym, ◌∙◌}
use mathlib.Core.List.{[], ◌∷◌}
use native.Mathlib.Omega.{arith}
use Rattle.bflan.specs.Reader.{word}
use Rattle.bflan.specs.inner.Walk.{after}
use Rattle.bflan.proofs.reader.InfoParts.{info_standard}
use Rattle.bflan.proofs.reader.Walks.{walk_behind}
use Rattle.bflan.proofs.reader.info.standard.Goals as goal

pub returns : goal.returns
returns c = λ i.
    let s = c.args.s.bytes.now in
    let d = info_standard c.args.base s i c.args.letters c.args.n _ c.requires.0 c.requires.1 c.requires.2 c.requires.3 (sym c.in_ok-q.ensures) in
    c.visit.ensures
    ∙ walk_behind s c.args.into.now _ _ (omega arith, omega arith) (c.put2.ensures s ∙ ap (λ (k : ℕ). after s c.args.into.now (word k ∷ word c.args.n ∷ [])) c.letters_of.ensures) (sym d)
