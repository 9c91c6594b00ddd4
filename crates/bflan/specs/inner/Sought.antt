-- What the parts of a pai1 section give that are looked for before a walk goes on: a name, and the info table of a content.
use Rattle.std.specs.Prelude.{Result, Ok, Err, ℕ, ◌+◌, ◌-◌, ◌≡◌, true, List, [], ◌∷◌, ltb}
use Rattle.std.proofs.Math.Seq.{slice}
use Rattle.base.specs.Choice.{pick}
use Rattle.base.specs.Number.{get}
use Rattle.bflan.specs.declared.fault.Fault.{Fault}
use Rattle.bflan.specs.declared.reader.texture.Name.{Name}
use Rattle.bflan.specs.Reader.{Res, ok, stop, Item, text}
use Rattle.bflan.specs.Items.{shown_at}

-- an info table that was looked for
abbrev pub as_table : Result ℕ Fault → Res ℕ
as_table (Ok p) = ok p p
as_table (Err f) = stop f

-- a name that was looked for, and where it ends
abbrev pub as_name : Result Name Fault → Res (List Item)
as_name (Ok name) = ok (text name.start name.len ∷ []) name.next
as_name (Err f) = stop f

abbrev pub name_end : Result Name Fault → ℕ
name_end (Ok name) = name.start + name.len
name_end (Err f) = 0

-- the length that the next entry of an offset table suggests for a name whose own entry, the first of `left` ones, stands at `at`: names stand
-- one behind another, each with its zero. The last one has no suggestion. No answer depends on it
unfoldable pub guess_of : List ℕ → ℕ → ℕ → ℕ → ℕ
guess_of s at left off = pick (ltb left 2) 0 (get 4 s (at + 4) - off - 1)

-- a name that is said to be plain is shown as it is
abbrev pub AsIs : List ℕ → Result Name Fault → Type 0
AsIs s (Ok name) = name.plain ≡ true → shown_at s name.start name.len ≡ slice name.start (name.start + name.len) s
AsIs s (Err f) = Unit {0}
