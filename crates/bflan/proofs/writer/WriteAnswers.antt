-- What a call of writing answers, of any format, by what the judging walk under it says.
-- Assumes nothing.
use Prim.Native.Nat.{ℕ, ◌<◌, ◌≤◌}
use mathlib.Core.Path.{◌≡◌, ap, sym, ◌∙◌}
use mathlib.Core.List.{List}
use native.Mathlib.Omega.{arith}
use borrow.Author.Tests.{le-leb, lt-leb}
use lib.ListN.{length}
use Rattle.std.specs.Prelude.{Ok, Err}
use Rattle.bflan.specs.declared.judge.Mark.{Mark}
use Rattle.bflan.specs.declared.judge.Misfit.{Misfit}
use Rattle.bflan.specs.declared.judge.Misfit.TheVariants.{Word, Text}
use Rattle.bflan.specs.declared.write.WriteError.TheVariants.{OverLimit, OutputTooShort}
use Rattle.bflan.specs.Judge.{Judged, fine, bad_word, bad_text, J}
use Rattle.bflan.specs.Layout.{Layout, size}
use Rattle.bflan.specs.Limits.{limit}
use Rattle.bflan.specs.inner.Measure.{verdict_of}
use Rattle.bflan.specs.inner.Pen.{Ready, laid}
use Rattle.bflan.specs.Writing.{of_writing, write_error, into_output, judged, writing_by}
use Rattle.bflan.proofs.judge.Measures.{Was, was_fine}
use Rattle.bflan.proofs.writer.Pens.{laid-fine}

module _ {A : Type 0} (lay : A → Layout) (p : J A) (w x out : List ℕ) where
  pub answer-refused : (e : Misfit) → verdict_of (λ (a : A). size (lay a)) (p w x 0 0) ≡ Err e → (of_writing (Err (write_error e)), out) ≡ writing_by lay p w x out
  unfolding writing_by verdict_of judged write_error
  answer-refused e h = go (p w x 0 0) h
    where
      go : (r : Judged A) → verdict_of (λ (a : A). size (lay a)) r ≡ Err e → (of_writing (Err (write_error e)), out) ≡ judged lay out r
      go (fine a i j) h = cc
      go (bad_word i) h = ap (λ (d : Misfit). (of_writing (Err (write_error d)), out)) (let q : Word i ≡ e = cc in sym q)
      go (bad_text j) h = ap (λ (d : Misfit). (of_writing (Err (write_error d)), out)) (let q : Text j ≡ e = cc in sym q)

  -- of a section of n bytes
  module _ {r : A} {i j : ℕ} (f : p w x 0 0 ≡ fine r i j) (n : ℕ) (e : n ≡ size (lay r)) (l : n ≤ limit) where
    sized_short : length out < n → (of_writing (Err (OutputTooShort n)), out) ≡ writing_by lay p w x out
    unfolding writing_by judged into_output
    sized_short h = rw (f, ← e, le-leb n limit l, lt-leb n (length out) h)

    sized_written : n ≤ length out → {o : List ℕ} → o ≡ laid lay (p w x 0 0) 0 out → (of_writing (Ok n), o) ≡ writing_by lay p w x out
    unfolding writing_by judged into_output
    sized_written h d = rw (d ∙ laid-fine lay f 0 out, f, ← e, le-leb n limit l, le-leb n (length out) h)

  module _ (m : Mark) (e : verdict_of (λ (a : A). size (lay a)) (p w x 0 0) ≡ Ok m) where
    was : Was (λ (a : A). size (lay a)) (p w x 0 0) m
    was = was_fine (λ (a : A). size (lay a)) (p w x 0 0) m e

    pub answer_over : limit < m.size → (of_writing (Err OverLimit), out) ≡ writing_by lay p w x out
    unfolding writing_by judged into_output
    answer_over h = rw (was.is, lt-leb (size (lay was.value)) limit (omega (arith, h, was.sized)))

    -- a size within the limit is the section's
    module _ (l : m.size ≤ limit) where
      exact : m.size ≡ size (lay was.value)
      exact = omega (arith, l, was.sized)

      pub answer-short : length out < m.size → (of_writing (Err (OutputTooShort m.size)), out) ≡ writing_by lay p w x out
      answer-short h = sized_short was.is m.size exact l h

      pub answer_ready : m.size ≤ length out → Ready lay (p w x 0 0) 0 (length out)
      answer_ready h =
          record { value = was.value; word = m.at.word; byte = m.at.byte; judged = was.is; room = omega (arith, h, exact); short = omega (arith, l, exact) }

      pub answer-written : m.size ≤ length out → {o : List ℕ} → o ≡ laid lay (p w x 0 0) 0 out → (of_writing (Ok m.size), o) ≡ writing_by lay p w x out
      answer-written h e = sized_written was.is m.size exact l h e
