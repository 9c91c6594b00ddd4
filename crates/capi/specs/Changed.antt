-- What an edit of a place by its new values leaves: the section, the journal, and the answer's list, of which the first three numbers are the answer's.
use Rattle.std.specs.Prelude.{ℕ, List}
use Rattle.std.proofs.lemmas.List.Edits.{sets}
use Rattle.base.specs.Outcome.{flat}
use Rattle.bflan.specs.declared.place.Place.{Place}
use Rattle.edit.specs.Editing.{editing}
use Rattle.edit.specs.Format.{pai1}

unfoldable pub changed : List ℕ → List ℕ → ℕ → Place → List ℕ → List ℕ → List ℕ × List ℕ × List ℕ
changed s j count p vs answer =
    let e = editing pai1 s j count p vs in
    (e.1, e.2, sets answer 0 (flat 3 e.0))
