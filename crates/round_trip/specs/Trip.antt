-- The round-trip program: for a section, the two tables and the output, what it answers and what the output holds afterwards (document 01,
-- 'The round-trip program').
use Rattle.std.specs.Prelude.{ℕ, zero, suc, ◌+◌, ◌/◌, ◌%◌, List, [], ◌∷◌, ◌++◌, eqb, leb, ltb, length, take, get_or, Result, Ok, Err}
use Rattle.std.proofs.lemmas.List.Edits.{sets}
use Rattle.base.specs.Choice.{pick}
use Rattle.base.specs.Outcome.{Outcome, accepted, refused}
use Rattle.base.specs.Part.{part_of}
use Rattle.bflan.specs.pai1.Calls.{reading, writing}
use Rattle.bflan.specs.Answer.{of_read_error}
use Rattle.bflan.specs.Writing.{of_write_error}
use Rattle.round_trip.specs.declared.Refused.{Refused}
use Rattle.round_trip.specs.declared.Refused.TheVariants.{Unread, TooLong, Reading, Writing}

-- ---- the number, and the length of a section that was written

-- a refusal's number: a failed read has that of a read past the end, an input over the longest that of a section over the limit, and a
-- reading or a writing has its own
unfoldable pub number_of : Refused → ℕ
number_of Unread = 3
number_of TooLong = 2
number_of (Reading e) = (of_read_error e).number
number_of (Writing e) = (of_write_error e).number

unfoldable pub of_trip : Result ℕ Refused → Outcome
of_trip (Ok len) = accepted (len ∷ [])
of_trip (Err r) = refused (number_of r) []

-- of a refusal only the number is said
unfoldable pub said : Outcome → Outcome
said a = pick (eqb a.number 0) a (refused a.number [])

-- ---- the answer, and the output

-- the longest input
abbrev pub most : ℕ
most = 65536

unfoldable pub written_again : (words texts out : List ℕ) → Outcome × List ℕ
written_again words texts out = (said (writing words texts out).0, (writing words texts out).1)

-- a reading's answer, with the tables as it left them: one that is accepted says how many words and text bytes it filled
unfoldable pub after_reading : Outcome × List ℕ × List ℕ → List ℕ → Outcome × List ℕ
after_reading r out =
    pick (eqb r.0.number 0) (written_again (take (get_or r.0.values 0 0) r.1) (take (get_or r.0.values 1 0) r.2) out)
    (said r.0, out)

-- an input over the longest gives 2
unfoldable pub trip : (section words texts out : List ℕ) → Outcome × List ℕ
trip section words texts out = pick (leb (length section) most) (after_reading (reading section words texts) out) (refused 2 [], out)

-- ---- what is printed

-- the decimal digits of a number in ASCII, the first one first: the last of them behind those of a tenth of it; k or fewer of them
unfoldable pub decimal_in : ℕ → ℕ → List ℕ
decimal_in zero n = []
decimal_in (suc k) n = pick (ltb n 10) [] (decimal_in k (n / 10)) ++ ((48 + n % 10) ∷ [])

-- all of them: a number n has no more than n + 1
unfoldable pub decimal : ℕ → List ℕ
decimal n = decimal_in (suc n) n

-- `refused N` and a newline
unfoldable pub refusal : ℕ → List ℕ
refusal number = 114 ∷ 101 ∷ 102 ∷ 117 ∷ 115 ∷ 101 ∷ 100 ∷ 32 ∷ decimal number ++ (10 ∷ [])

-- the length of what is printed, and the output, at whose start it stands: a section is there already, and a refusal has no length
unfoldable pub replied_with : ℕ → List ℕ → List ℕ → ℕ × List ℕ
replied_with number [] out = (length (refusal number), sets out 0 (refusal number))
replied_with number (len ∷ vs) out = (len, out)

unfoldable pub replied : Outcome × List ℕ → ℕ × List ℕ
replied r = replied_with r.0.number r.0.values r.1

-- the answer to what was read of standard input: so many bytes at the room's start; or a read failed, which is answered as a read past the
-- end is, by 3, whatever came before (the program has only document 01's two outcomes)
unfoldable pub answered : {E : Type 0} → Result ℕ E → (room words texts out : List ℕ) → ℕ × List ℕ
answered (Ok n) room words texts out = replied (trip (part_of room 0 n) words texts out)
answered (Err e) room words texts out = replied (refused 3 [], out)

-- the bytes that the program writes to standard output
unfoldable pub printed : (section words texts out : List ℕ) → List ℕ
printed section words texts out = part_of (replied (trip section words texts out)).1 0 (replied (trip section words texts out)).0
