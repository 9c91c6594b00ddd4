-- The number and the values of an answer (document 01: the refusals' table, and 'Form by location' on an answer that is an enum).
-- An accepted answer has the number 0.
use Rattle.std.specs.Prelude.{◌==◌, Result, Ok, Err}
use Rattle.std.specs.Prelude.{ℕ, List, [], ◌∷◌, ◌++◌, length, take, replicate}
use Rattle.base.specs.Choice.{pick}
use Rattle.base.specs.Float.{pattern_of, patterns_of}
use Rattle.base.specs.declared.outcome.Numbers.{Numbers}
use Rattle.base.specs.declared.error.PastEnd.{PastEnd}
use Rattle.base.specs.declared.error.TextError.{TextError}
use Rattle.base.specs.declared.error.TextError.TheVariants.{PastEnd as TextPast, NoZero}
use Rattle.base.specs.declared.float.Binary32.{Binary32}
use Rattle.base.specs.declared.float.Hermite.{Hermite}

pub record Outcome : Type 0 where
  pub number : ℕ
  pub values : List ℕ

-- ---- an answer as a list of numbers

-- n of them: the answer's number, its values, and zeros
unfoldable pub flat : ℕ → Outcome → List ℕ
flat n o = take n (o.number ∷ o.values ++ replicate n 0)

-- those that the code hands on
abbrev pub in_order : Numbers → List ℕ
in_order n = n.0 ∷ n.1 ∷ n.2 ∷ n.3 ∷ n.4 ∷ []

-- ---- the answers

-- an accepted answer with its values
abbrev pub accepted : List ℕ → Outcome
accepted vs = record { number = 0; values = vs }

-- a refusal by its number, with its values
abbrev pub refused : ℕ → List ℕ → Outcome
refused n vs = record { number = n; values = vs }

-- of an accepted answer, how many values there are before the values
unfoldable pub counted : Outcome → Outcome
counted o = pick (o.number == 0) (accepted (length o.values ∷ o.values)) o

-- a read or a seek past the end: the offset and what was requested
abbrev pub refused_past : ℕ → ℕ → Outcome
refused_past offset requested = refused 3 (offset ∷ requested ∷ [])

-- a text without a zero: its start
abbrev pub refused_no_zero : ℕ → Outcome
refused_no_zero start = refused 4 (start ∷ [])

-- the same of the code's error
abbrev pub of_past_end : PastEnd → Outcome
of_past_end e = refused_past e.offset e.requested

-- of a call that can be refused: the value's, or the error's
abbrev pub outcome_of : {T E : Type 0} → (T → Outcome) → (E → Outcome) → Result T E → Outcome
outcome_of value error (Ok v) = value v
outcome_of value error (Err e) = error e

-- a length or a count, accepted
abbrev pub of_count : ℕ → Outcome
of_count n = accepted (n ∷ [])

-- a read: the number and the position after it
unfoldable pub of_read : Result (ℕ × ℕ) PastEnd → Outcome
of_read (Ok (n, next)) = accepted (n ∷ next ∷ [])
of_read (Err e) = of_past_end e

-- a seek: the position
unfoldable pub of_sought : Result ℕ PastEnd → Outcome
of_sought (Ok position) = accepted (position ∷ [])
of_sought (Err e) = of_past_end e

-- a text: its length and the position after it
unfoldable pub of_text : Result (ℕ × ℕ) TextError → Outcome
of_text (Ok (len, next)) = accepted (len ∷ next ∷ [])
of_text (Err (TextPast e)) = of_past_end e
of_text (Err (NoZero start)) = refused_no_zero start

-- a run: the position after it
unfoldable pub of_run : Result ℕ PastEnd → Outcome
of_run (Ok next) = accepted (next ∷ [])
of_run (Err e) = of_past_end e

-- a binary32: its pattern and the position after it
unfoldable pub of_float : Result (Binary32 × ℕ) PastEnd → Outcome
of_float (Ok (x, next)) = accepted (pattern_of x ∷ next ∷ [])
of_float (Err e) = of_past_end e

-- a Hermite key: the patterns of its frame, its value and its slope, and the position after it
unfoldable pub of_hermite : Result (Hermite × ℕ) PastEnd → Outcome
of_hermite (Ok (h, next)) = accepted ((patterns_of h).0 ∷ (patterns_of h).1 ∷ (patterns_of h).2 ∷ next ∷ [])
of_hermite (Err e) = of_past_end e
