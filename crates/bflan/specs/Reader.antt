-- Reading as a function of a section's bytes and a position: a value and the position after it, or the fault that stopped it.
-- The numbers, seeks and texts are base's (document 01, 'Bytes and text').
use Rattle.std.specs.Prelude.{Result, Ok, Err, ℕ, zero, suc, ◌+◌, Bool, true, false, List, [], ◌∷◌, ◌++◌}
use Rattle.base.specs.Number.{read_of}
use Rattle.base.specs.Seek.{seek_of}
use Rattle.base.specs.Text.{fixed_of, ended_of}
use Rattle.base.specs.declared.error.PastEnd.{PastEnd as Past}
use Rattle.base.specs.declared.error.TextError.{TextError}
use Rattle.base.specs.declared.error.TextError.TheVariants.{PastEnd as TextPast, NoZero as TextNoZero}
use Rattle.bflan.specs.declared.fault.Fault.{Fault}
use Rattle.bflan.specs.declared.fault.Fault.TheVariants.{PastEnd, NoZero}

pub data Res (A : Type 0) : Type 0 where
  ok : A → ℕ → Res A
  stop : Fault → Res A

abbrev pub P : Type 0 → Type 0
P A = List ℕ → ℕ → Res A

module _ {A B : Type 0} where
  abbrev pub and_then : Res A → (A → P B) → List ℕ → Res B
  and_then (ok a j) q s = q a s j
  and_then (stop f) q s = stop f

  abbrev pub ◌>>=◌ : P A → (A → P B) → P B
  ◌>>=◌ p q = λ s i. and_then (p s i) q s

module _ {A : Type 0} where
  abbrev pub ret : A → P A
  ret a = λ s i. ok a i

  abbrev pub given : Bool → P A → P A → P A
  given true p q = p
  given false p q = q

  abbrev pub fail : Fault → P A
  fail f = λ s i. stop f

abbrev pub here : P ℕ
here = λ s i. ok i i

-- ---- what a record is made of, in order: a word, or a text by its place and its length in the section
pub data Item : Type 0 where
  word : ℕ → Item
  text : ℕ → ℕ → Item

-- ---- single reads

-- what stops a read, as a fault
abbrev pub past_fault : Past → Fault
past_fault e = PastEnd e.offset e.requested

abbrev pub text_fault : TextError → Fault
text_fault (TextPast e) = past_fault e
text_fault (TextNoZero start) = NoZero start

abbrev pub as_number : Result (ℕ × ℕ) Past → Res ℕ
as_number (Ok (v, next)) = ok v next
as_number (Err e) = stop (past_fault e)

abbrev pub as_position : Result ℕ Past → Res ℕ
as_position (Ok position) = ok position position
as_position (Err e) = stop (past_fault e)

abbrev pub as_text : ℕ → Result (ℕ × ℕ) TextError → Res Item
as_text i (Ok (len, next)) = ok (text i len) next
as_text i (Err e) = stop (text_fault e)

-- a number of k bytes
unfoldable pub num : ℕ → P ℕ
num k = λ s i. as_number (read_of k s i)

unfoldable pub seek_to : ℕ → P ℕ
seek_to to = λ s i. as_position (seek_of s to)

-- k bytes that are not tested
unfoldable pub skip : ℕ → P ℕ
skip k = λ s i. ok k (i + k)

-- a text in a field of n bytes, and a text that ends at a zero
unfoldable pub fixed_text : ℕ → P Item
fixed_text n = λ s i. as_text i (fixed_of n s i)

unfoldable pub ended_text : P Item
ended_text = λ s i. as_text i (ended_of s i)

-- an ended text as the only item
unfoldable pub one_ended : P (List Item)
one_ended = do
  t ← ended_text
  ret (t ∷ [])

-- ---- lists

-- n numbers of four bytes, one after another
unfoldable pub numbers : ℕ → P (List ℕ)
numbers zero = ret []
numbers (suc n) = do
  v ← num 4
  vs ← numbers n
  ret (v ∷ vs)

-- n parts, one after another
unfoldable pub many : ℕ → P (List Item) → P (List Item)
many zero p = ret []
many (suc n) p = do
  x ← p
  xs ← many n p
  ret (x ++ xs)

-- a part at each of the offsets, which count from base
unfoldable pub visit : ℕ → (ℕ → P (List Item)) → List ℕ → P (List Item)
visit base p [] = ret []
visit base p (o ∷ os) = do
  x ← p (base + o)
  xs ← visit base p os
  ret (x ++ xs)
