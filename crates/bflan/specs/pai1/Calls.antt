-- The public calls of the pai1 section: reading, finding a text and writing, by its reader, its judge and its layout.
use Rattle.std.specs.Prelude.{ℕ, List}
use Rattle.base.specs.Outcome.{Outcome}
use Rattle.bflan.specs.Answer.{reading_by, finding_by}
use Rattle.bflan.specs.Writing.{writing_by}
use Rattle.bflan.specs.pai1.Judge.{section as judge}
use Rattle.bflan.specs.pai1.Layout.{section_lay}
use Rattle.bflan.specs.pai1.Reading.{section}

-- a section, the words and the text bytes
abbrev pub reading : List ℕ → List ℕ → List ℕ → Outcome × List ℕ × List ℕ
reading s w x = reading_by section s w x

-- a section, the number of a text, and the scratch
abbrev pub finding : List ℕ → ℕ → List ℕ → Outcome × List ℕ
finding s t x = finding_by section s t x

-- a record's words and texts, and the output
abbrev pub writing : List ℕ → List ℕ → List ℕ → Outcome × List ℕ
writing words texts out = writing_by section_lay judge words texts out
