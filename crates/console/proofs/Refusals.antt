-- An answer's number is the first of its numbers. Assumes nothing.
use Rattle.std.proofs.Common.{◌≡◌, ℕ, ap, List, get_or}
use Rattle.base.specs.Outcome.{Outcome, flat, in_order}
use Rattle.base.specs.declared.outcome.Numbers.{Numbers}

pub first_number : (n : Numbers) (o : Outcome) → in_order n ≡ flat 5 o → n.0 ≡ o.number
unfolding flat
first_number n o e = ap (λ (l : List ℕ). get_or l 0 0) e
