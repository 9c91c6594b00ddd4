-- What the programs say of a section that does not read, in ASCII: document 01's number, its values, and a sentence.
use Rattle.std.specs.Prelude.{ℕ, ◌==◌, List, [], ◌∷◌, ◌++◌, codes, decimal, nat_le, flat_map}
use Rattle.base.specs.Choice.{pick}
use Rattle.base.specs.Number.{le}
use Rattle.bflan.specs.declared.fault.Fault.{Fault}
use Rattle.bflan.specs.declared.fault.Fault.TheVariants.{PastEnd, NoZero, OtherLetters}
use Rattle.bflan.specs.Answer.{of_fault, too_long}
use Rattle.console.specs.Hex.{escaped}

-- a refusal's values: one, or two with a comma between them
unfoldable pub values_text : Fault → List ℕ
values_text (OtherLetters letters) = decimal letters
values_text (PastEnd offset requested) = decimal offset ++ (codes ", " ++ decimal requested)
values_text (NoZero start) = decimal start

-- the number, and the values in parentheses: `refused 3 (4, 4)`
unfoldable pub refused_text : Fault → List ℕ
refused_text f = codes "refused " ++ (decimal (of_fault f).number ++ (codes " (" ++ (values_text f ++ codes ")")))

-- ---- what is wrong, up to the line's end

-- a letter within quotes: a quote and a backslash have a backslash before them, and a byte that is no printable ASCII is escaped
unfoldable pub letter_text : ℕ → List ℕ
letter_text b =
    pick (b == 34) (codes "\\\"")
    (pick (b == 92) (codes "\\\\")
    (pick (nat_le 32 b) (pick (nat_le b 126) (b ∷ []) (escaped b))
    (escaped b)))

-- the four letters: the first is the number's lowest byte
unfoldable pub letters_text : ℕ → List ℕ
letters_text letters = flat_map letter_text (le 4 letters)

-- a count of bytes
unfoldable pub bytes_text : ℕ → List ℕ
bytes_text n = pick (n == 1) (codes "1 byte") (decimal n ++ codes " bytes")

unfoldable pub why_text : Fault → List ℕ
why_text (OtherLetters letters) = codes ": the section's letters are \"" ++ (letters_text letters ++ codes "\" and not \"pai1\"")
why_text (PastEnd offset requested) = codes ": the section asks for " ++ (bytes_text requested ++ (codes " at offset " ++ (decimal offset ++ codes ", past its end")))
why_text (NoZero start) = codes ": the text at offset " ++ (decimal start ++ codes " has no zero byte at its end")

-- the longest input of a program
abbrev pub longest_input : ℕ
longest_input = 65536

-- an input that is longer: the number of a section over the limit, whatever the length
unfoldable pub too_long_text : List ℕ
too_long_text = codes "refused " ++ (decimal (too_long longest_input).number ++ (codes ": the input is longer than " ++ (decimal longest_input ++ codes " bytes")))
