-- What the walk that judges a record answers of a part: where it stands behind it, and the part's bytes in the section.
use Rattle.std.specs.Prelude.{ℕ, zero, suc, ◌+◌, Bool, ◌&&◌, List, Result, Ok, Err, ltb, length, get_or}
use Rattle.base.specs.Choice.{pick}
use Rattle.base.specs.Fill.{padding_of}
use Rattle.bflan.specs.declared.curve.Curve.{Curve}
use Rattle.bflan.specs.declared.judge.Mark.{Mark}
use Rattle.bflan.specs.declared.judge.Misfit.{Misfit}
use Rattle.bflan.specs.declared.judge.Rest.{Rest}
use Rattle.bflan.specs.declared.judge.Misfit.TheVariants.{Word, Text}
use Rattle.bflan.specs.Judge.{Judged, fine, bad_word, bad_text, J}
use Rattle.bflan.specs.Layout.{Layout, size}
use Rattle.bflan.specs.pai1.Curves.{curve_number}
use Rattle.bflan.specs.inner.Walk.{sat}

-- with the size that a value has
unfoldable pub verdict_of : {A : Type 0} → (A → ℕ) → Judged A → Result Mark Misfit
verdict_of size (fine a i j) = Ok (record { at = record { word = i; byte = j }; size = sat (size a) })
verdict_of size (bad_word i) = Err (Word i)
verdict_of size (bad_text j) = Err (Text j)

-- what comes next, as it is judged
abbrev pub next : {A : Type 0} → J A → Rest → Judged A
next p r = p r.words.now r.texts.now r.at.word r.at.byte

-- with the bytes that it has in the section
abbrev pub measured : {A : Type 0} → (A → Layout) → J A → Rest → Result Mark Misfit
measured lay p r = verdict_of (λ a. size (lay a)) (next p r)

-- a word is there and the test holds of it
unfoldable pub fits : (ℕ → Bool) → List ℕ → ℕ → Bool
fits test w i = ltb i (length w) && test (get_or w i 0)

-- that word
unfoldable pub word_if : (ℕ → Bool) → List ℕ → ℕ → Result ℕ Misfit
word_if test w i = pick (fits test w i) (Ok (get_or w i 0)) (Err (Word i))

-- a curve as its number
abbrev pub numbered : Result Curve Misfit → Result ℕ Misfit
numbered (Ok curve) = Ok (curve_number curve)
numbered (Err e) = Err e

-- a record behind its next n words
abbrev pub past : ℕ → Rest → Rest
past n r = record r { at = record { word = r.at.word + n; byte = r.at.byte } }

-- behind a part
abbrev pub behind : Mark → Rest → Rest
behind m r = record r { at = m.at }

-- n bytes more
abbrev pub mark_grown : ℕ → Mark → Mark
mark_grown n m = record { at = m.at; size = sat (n + m.size) }

unfoldable pub grown : ℕ → Result Mark Misfit → Result Mark Misfit
grown n (Ok m) = Ok (mark_grown n m)
grown n (Err e) = Err e

-- a size with its zeros up to a multiple of 4
unfoldable pub filled_up : ℕ → ℕ
filled_up n = n + padding_of n

abbrev pub mark_padded : Mark → Mark
mark_padded m = record { at = m.at; size = sat (filled_up m.size) }

unfoldable pub padded : Result Mark Misfit → Result Mark Misfit
padded (Ok m) = Ok (mark_padded m)
padded (Err e) = Err e

-- a part, and what is behind it
unfoldable pub onward : Result Mark Misfit → (Mark → Result Mark Misfit) → Result Mark Misfit
onward (Ok m) rest = grown m.size (rest m)
onward (Err e) rest = Err e

-- n parts one after another, by what is answered of each
unfoldable pub each : (Rest → Result Mark Misfit) → ℕ → Rest → Result Mark Misfit
each part zero r = Ok (record { at = r.at; size = 0 })
each part (suc n) r = onward (part r) (λ m. each part n (behind m r))
