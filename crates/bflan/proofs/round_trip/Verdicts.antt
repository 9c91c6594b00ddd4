-- What the judging walk says of records, of any format: their two lists determine them, and a call of writing that is accepted writes one
-- within the limits.
-- Assumes nothing.
use Prim.Native.Nat.{ℕ, ◌≤◌}
use mathlib.Core.Path.{◌≡◌, refl, sym, subst, ◌∙◌}
use mathlib.Core.Bool.{Bool, true, false}
use mathlib.Core.List.{List, [], ◌∷◌}
use native.Mathlib.Omega.{arith}
use borrow.Author.Tests.{leb-true, le-leb}
use lib.Dec.{leb}
use lib.ListN.{length}
use lib.Seq.{sets}
use Rattle.base.specs.Choice.{pick}
use Rattle.base.specs.Outcome.{Outcome, accepted}
use Rattle.bflan.specs.Judge.{Judged, fine, bad_word, bad_text, J}
use Rattle.bflan.specs.Layout.{Layout, size, written}
use Rattle.bflan.specs.Limits.{limit, WithinBy}
use Rattle.bflan.specs.Cells.{Cell, words_in, bytes_in}
use Rattle.bflan.specs.Writing.{over_limit, output_short, into_output, judged, writing_by}
use Rattle.bflan.proofs.judge.Laws.{Judges}

module _ {A : Type 0} {p : J A} {cells_of : A → List Cell} {Fine : A → Type 0} (judges : Judges p cells_of Fine) where
  -- ---- the two lists determine the record

  fine-same : {r q : A} {i j k l : ℕ} → fine r i j ≡ fine q k l → r ≡ q
  fine-same e = cc

  pub fine-judged : (w x : List ℕ) (r : A) → Fine r → words_in (cells_of r) ≡ w → bytes_in (cells_of r) ≡ x → p w x 0 0 ≡ fine r (length w) (length x)
  fine-judged w x r f e d = rw (← e, ← d) (judges.flat r f)

  pub flat_once : (r q : A) → Fine r → Fine q → words_in (cells_of r) ≡ words_in (cells_of q) → bytes_in (cells_of r) ≡ bytes_in (cells_of q) → r ≡ q
  flat_once r q f g e d = fine-same (sym (judges.flat r f) ∙ fine-judged (words_in (cells_of r)) (bytes_in (cells_of r)) q g (sym e) (sym d))

  -- ---- writing

  module _ (lay : A → Layout) where
    pub written_there : (r : A) (out : List ℕ) → WithinBy Fine lay r → size (lay r) ≤ length out
        → writing_by lay p (words_in (cells_of r)) (bytes_in (cells_of r)) out ≡ (accepted (size (lay r) ∷ []), sets out 0 (written (lay r)))
    unfolding writing_by judged into_output
    written_there r out h l = rw (judges.flat r h.fine, le-leb (size (lay r)) limit h.short, le-leb (size (lay r)) (length out) l)

    -- by whether the output has room
    abbrev by_room : A → List ℕ → Bool → Outcome × List ℕ
    by_room r out b = pick b (accepted (size (lay r) ∷ []), sets out 0 (written (lay r))) (output_short (size (lay r)), out)

    -- what is refused with 6, 7 or 8 is no record within the limits
    pub refused_beyond : (w x out : List ℕ) → 6 ≤ (writing_by lay p w x out).0.number → (writing_by lay p w x out).0.number ≤ 8
        → (r : A) → words_in (cells_of r) ≡ w → bytes_in (cells_of r) ≡ x → WithinBy Fine lay r → ⊥
    unfolding writing_by judged into_output
    refused_beyond w x out l u r e d h =
        let a : writing_by lay p w x out ≡ by_room r out (leb (size (lay r)) (length out)) = rw (fine-judged w x r h.fine e d, le-leb (size (lay r)) limit h.short) in
        go (leb (size (lay r)) (length out)) (subst (λ z. 6 ≤ z.0.number) a l) (subst (λ z. z.0.number ≤ 8) a u)
      where
        go : (b : Bool) → 6 ≤ (by_room r out b).0.number → (by_room r out b).0.number ≤ 8 → ⊥
        go true a c = omega (arith, a)
        go false a c = omega (arith, c)

    -- a call that is accepted: the record, and what is answered and written
    pub record WrittenOf (w x out : List ℕ) : Type 0 where
      pub tree : A
      pub within : WithinBy Fine lay tree
      pub words : words_in (cells_of tree) ≡ w
      pub texts : bytes_in (cells_of tree) ≡ x
      pub room : size (lay tree) ≤ length out
      pub answer : writing_by lay p w x out ≡ (accepted (size (lay tree) ∷ []), sets out 0 (written (lay tree)))

    pub accepted-within : (w x out : List ℕ) → (writing_by lay p w x out).0.number ≡ 0 → WrittenOf w x out
    unfolding writing_by judged into_output
    accepted-within w x out e = go (p w x 0 0) refl e
      where
        sized : (r : A) (i j : ℕ) → p w x 0 0 ≡ fine r i j → (a b : Bool) → leb (size (lay r)) limit ≡ a → leb (size (lay r)) (length out) ≡ b
            → (pick a (by_room r out b) (over_limit, out)).0.number ≡ 0
            → WrittenOf w x out
        sized r i j h true true a b e =
            let c = judges.accepts w x r i j h in
            record {
              tree = r;
              within = record { fine = c.fine; short = leb-true (size (lay r)) limit a };
              words = c.words;
              texts = c.texts;
              room = leb-true (size (lay r)) (length out) b;
              answer = rw (h, a, b);
            }
        sized r i j h true false a b e = absurd (omega arith)
        sized r i j h false b a c e = absurd (omega arith)

        go : (v : Judged A) → p w x 0 0 ≡ v → (judged lay out v).0.number ≡ 0 → WrittenOf w x out
        go (fine r i j) h e = sized r i j h (leb (size (lay r)) limit) (leb (size (lay r)) (length out)) refl refl e
        go (bad_word n) h e = absurd (omega arith)
        go (bad_text n) h e = absurd (omega arith)
