-- A datum in parts, as the code reads it: the head, the values with the key text, and the key text (document 01, 'The section';
-- `datum` of Reading is the definition that these parts make up).
use Rattle.std.specs.Prelude.{Result, Ok, Err, ℕ, ◌+◌, List, [], ◌∷◌, ◌++◌, map}
use Rattle.bflan.specs.declared.fault.Fault.{Fault}
use Rattle.bflan.specs.declared.reader.datum.Fields.{Fields}
use Rattle.bflan.specs.Reader.{Res, ok, stop, P, ◌>>=◌, ret, here, Item, word, num, numbers}
use Rattle.bflan.specs.pai1.Reading.{texture}

-- the five numbers before the values
unfoldable pub head : P Fields
head = do
  size ← num 4
  one ← num 2
  two ← num 2
  base ← num 4
  three ← num 4
  ret (record { size = size; one = one; two = two; base = base; three = three })

-- a head as the code answers it
abbrev pub as_head : Result (Fields × ℕ) Fault → Res Fields
as_head (Ok on) = ok on.0 on.1
as_head (Err f) = stop f

-- its words, in the record's order
abbrev pub fields_of : Fields → List ℕ
fields_of h = h.size ∷ h.one ∷ h.two ∷ h.base ∷ h.three ∷ []

-- the offset to the key text counts from its own position
unfoldable pub key_text : P (List Item)
key_text = do
  at ← here
  offset ← num 4
  texture (at + offset)

-- n values, then the key text
unfoldable pub values_and_key_text : ℕ → P (List Item)
values_and_key_text n = do
  vs ← numbers n
  key ← key_text
  ret (map word vs ++ key)
