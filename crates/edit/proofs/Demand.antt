-- Demand 3, over any format that meets a few laws: every list of edits and undos agrees with the plain machine. Assumes nothing.
use Prim.Native.Nat.{ℕ, suc, ◌+◌, ◌-◌, ◌*◌, ◌<◌, ◌≤◌}
use mathlib.Core.Path.{◌≡◌, refl, sym, ap, ◌∙◌}
use mathlib.Core.Bool.{Bool, true, false}
use mathlib.Core.List.{List, [], ◌∷◌}
use native.Mathlib.Numerals.{add-one}
use native.Mathlib.Omega.{arith}
use borrow.Author.Tests.{le-leb, ltb-true}
use lib.Dec.{eqb, ltb, eqb-suc-zero}
use lib.ListN.{length}
use lib.Seq.{sets, length-sets}
use Rattle.base.specs.Outcome.{Outcome, accepted}
use Rattle.base.proofs.Numbers.{Bytes}
use Rattle.bflan.specs.Answer.{no_place}
use Rattle.bflan.specs.Layout.{written, row}
use Rattle.bflan.specs.Limits.{limit}
use Rattle.bflan.specs.pai1.Places.{nowhere, spot, missing, found, fit, widths, total}
use Rattle.bflan.specs.Reader.{ok}
use Rattle.bflan.specs.declared.place.Field.{Field}
use Rattle.bflan.proofs.place.Replacing.{length-row}
use Rattle.edit.specs.Editing.{unfit, journal_full, nothing_to_undo, old_at, at_spot, on_reading, editing, restored, undoing}
use Rattle.edit.specs.Format.{Format}
use Rattle.edit.specs.Journal.{entry_words, capacity, entry_at, entry_of, restorable}
use Rattle.edit.specs.Machine.{Call, edit, undo, Machine, started, edit_field, pop, turn, State, handed_on, called, Part, none, part_of, own_part, changes, parts_after, SameBut, AgreesOnce, Agrees}
use Rattle.edit.proofs.Entries.{part_sets, drop-sets, room, capacity-sets, entry_new, entry_below, entry-restorable, entry_restores}

-- ---- what a format must meet; `Good r` says that the record is within the format's limits, `Reads s r` that reading s gives r, `Writes s r`
-- that writing r gives s

-- it is read
pub record Readable (F : Format) (s : List ℕ) : Type 0 where
  pub items : F.Items
  pub end : ℕ
  pub reads : F.read s ≡ ok items end

module _ (F : Format) (Good : F.Rec → Type 0) where
  -- an edit of the field f at `at` is the record's with the field replaced
  pub record Replaces (r : F.Rec) (p : F.Place) (at : ℕ) (f : Field) (vs : List ℕ) : Type 0 where
    pub same : sets (F.bytes r) at (written (row (widths f) vs)) ≡ F.bytes (F.replaced r p vs)
    pub good : Good (F.replaced r p vs)

  -- a place is in the section's bytes as it is in the record
  pub data Finding (r : F.Rec) (p : F.Place) : Type 0 where
    absent : F.field_of r p ≡ missing → F.locate (F.bytes r) p ≡ nowhere → Finding r p
    present : (at : ℕ) (f : Field) → F.field_of r p ≡ found f → F.locate (F.bytes r) p ≡ spot at f → at + total (widths f) ≤ length (F.bytes r)
        → ((vs : List ℕ) → fit f vs ≡ true → Replaces r p at f vs) → Finding r p

pub record Laws (F : Format) (Good : F.Rec → Type 0) (Reads Writes : List ℕ → F.Rec → Type 0) : Type 0 where
  pub short : (r : F.Rec) → Good r → length (F.bytes r) ≤ limit
  pub bytes : (r : F.Rec) → Good r → Bytes (F.bytes r)
  pub reads : (r : F.Rec) → Good r → Readable F (F.bytes r)
  pub gives : (r : F.Rec) → Good r → Reads (F.bytes r) r
  pub writes : (r : F.Rec) → Good r → Writes (F.bytes r) r
  pub finds : (r : F.Rec) → Good r → (p : F.Place) → Finding F Good r p

module _ (F : Format) where
  -- the state that a journal and a machine make
  abbrev beside : List ℕ → Machine F → State F
  beside j m = record { section = F.bytes m.rec; journal = j; count = length m.stack }

  -- ---- what a call leaves

  same_own : (x : Part F) (s : List ℕ) → SameBut F x s s
  same_own x s = record { long = refl; before = refl; behind = refl }

  same_sym : {x : Part F} {s t : List ℕ} → SameBut F x s t → SameBut F x t s
  same_sym h = record { long = sym h.long; before = sym h.before; behind = sym h.behind }

  same-sets : (s : List ℕ) (at n : ℕ) (v : List ℕ) → length v ≡ n → SameBut F (record { at = at; size = n }) s (sets s at v)
  same-sets s at n v e =
      record { long = length-sets s at v; before = part_sets at 0 s at v (omega arith); behind = drop-sets (at + n) s at v (omega arith) }

  -- ---- the calls by their answers

  called-edit : (z : State F) (p : F.Place) (vs : List ℕ) (a : Outcome) (s j : List ℕ) → editing F z.section z.journal z.count p vs ≡ (a, s, j)
      → called F (edit p vs) z ≡ (a, record { section = s; journal = j; count = handed_on F z.count a })
  unfolding called
  called-edit z p vs a s j e =
      ap (λ (r : Outcome × List ℕ × List ℕ). (r.0, record { section = r.1; journal = r.2; count = handed_on F z.count r.0 })) e

  called-undo : (z : State F) (a : Outcome) (s : List ℕ) → undoing z.section z.journal z.count ≡ (a, s)
      → called F undo z ≡ (a, record { section = s; journal = z.journal; count = handed_on F z.count a })
  unfolding called
  called-undo z a s e = ap (λ (r : Outcome × List ℕ). (r.0, record { section = r.1; journal = z.journal; count = handed_on F z.count r.0 })) e

-- ---- an undo by the journal

module _ (s j : List ℕ) (short : length s ≤ limit) where
  nothing_left : undoing s j 0 ≡ (nothing_to_undo, s)
  unfolding undoing
  nothing_left = rw (le-leb (length s) limit short)

  undone : (n : ℕ) (t : List ℕ) → n < capacity j → restorable (length s) (entry_at j n) ≡ true → restored s (entry_at j n) ≡ t → undoing s j (suc n) ≡ (accepted (n ∷ []), t)
  unfolding undoing
  undone n t l g e =
      let one : suc n - 1 ≡ n = omega arith in
      rw (le-leb (length s) limit short, eqb-suc-zero n, one, le-leb (suc n) (capacity j) l, g, e)

module _ (F : Format) (Good : F.Rec → Type 0) where
  -- ---- the journal beside the machine's stack

  -- entry n takes the bytes of r back to those of q, which differ in the part x
  record Takes (j : List ℕ) (n : ℕ) (x : Part F) (r q : F.Rec) : Type 0 where
    good : Good q
    restorable : restorable (length (F.bytes r)) (entry_at j n) ≡ true
    back : restored (F.bytes r) (entry_at j n) ≡ F.bytes q
    kept : SameBut F x (F.bytes r) (F.bytes q)

  -- from the top of the stack: the record before it, the stack and the parts
  abbrev Chain : List ℕ → F.Rec → List F.Rec → List (Part F) → Type 0
  Chain j r [] [] = Unit {0}
  Chain j r [] (x ∷ xs) = ⊥
  Chain j r (q ∷ qs) [] = ⊥
  Chain j r (q ∷ qs) (x ∷ xs) = Takes j (length qs) x r q × Chain j q qs xs

  record Linked (most : ℕ) (j : List ℕ) (m : Machine F) (parts : List (Part F)) : Type 0 where
    good : Good m.rec
    holds : capacity j ≡ most
    room : length m.stack ≤ most
    chain : Chain j m.rec m.stack parts

  -- a call's step: the same answer on both sides, and the link goes on
  record Step (most : ℕ) (c : Call F) (j : List ℕ) (m : Machine F) (parts : List (Part F)) : Type 0 where
    answer : Outcome
    journal : List ℕ
    machine : Machine F
    calls : called F c (beside F j m) ≡ (answer, beside F journal machine)
    turns : turn F most c m ≡ (answer, machine)
    kept : SameBut F (changes F c (beside F j m) parts answer) (F.bytes m.rec) (F.bytes machine.rec)
    linked : Linked most journal machine (parts_after F c (beside F j m) parts answer)

  -- an entry at n leaves those below it
  chain_below : (j e : List ℕ) (n : ℕ) (r : F.Rec) (st : List F.Rec) (xs : List (Part F)) → length st ≤ n → Chain j r st xs
      → Chain (sets j (entry_words * n) e) r st xs
  chain_below j e n r [] [] l h = h
  chain_below j e n r [] (x ∷ xs) l h = h
  chain_below j e n r (q ∷ qs) [] l h = h
  chain_below j e n r (q ∷ qs) (x ∷ xs) l h =
      let t : Takes j (length qs) x r q = h.0 in
      let b : entry_at (sets j (entry_words * n) e) (length qs) ≡ entry_at j (length qs) = entry_below j e n (length qs) (omega arith) in
      (record { good = t.good; restorable = rw b t.restorable; back = rw b t.back; kept = t.kept }, chain_below j e n q qs xs (omega arith) h.1)

  module _ (most : ℕ) (j : List ℕ) (m : Machine F) (parts : List (Part F)) (k : Linked most j m parts) where
    -- ---- a refused call

    stays_edit : (p : F.Place) (vs : List ℕ) (a : Outcome) → eqb a.number 0 ≡ false
        → editing F (F.bytes m.rec) j (length m.stack) p vs ≡ (a, F.bytes m.rec, j) → turn F most (edit p vs) m ≡ (a, m) → Step most (edit p vs) j m parts
    unfolding handed_on changes parts_after
    stays_edit p vs a n e t =
        record {
          answer = a;
          journal = j;
          machine = m;
          calls = called-edit F (beside F j m) p vs a (F.bytes m.rec) j e ∙ rw n;
          turns = t;
          kept = same_own F (changes F (edit p vs) (beside F j m) parts a) (F.bytes m.rec);
          linked = rw n k;
        }

    -- ---- an edit

    module _ (Reads Writes : List ℕ → F.Rec → Type 0) (laws : Laws F Good Reads Writes) (p : F.Place) (vs : List ℕ) where
      -- the section is short enough and is read
      at_place : editing F (F.bytes m.rec) j (length m.stack) p vs ≡ at_spot (F.bytes m.rec) j (length m.stack) vs (F.locate (F.bytes m.rec) p)
      unfolding editing on_reading
      at_place = rw (le-leb (length (F.bytes m.rec)) limit (laws.short m.rec k.good), (laws.reads m.rec k.good).reads)

      no_place_lem : F.field_of m.rec p ≡ missing → F.locate (F.bytes m.rec) p ≡ nowhere → Step most (edit p vs) j m parts
      unfolding at_spot turn edit_field
      no_place_lem e l = stays_edit p vs no_place refl (at_place ∙ rw l) (rw e)

      module _ (at : ℕ) (f : Field) (e : F.field_of m.rec p ≡ found f) (l : F.locate (F.bytes m.rec) p ≡ spot at f) where
        no_fit : fit f vs ≡ false → Step most (edit p vs) j m parts
        unfolding at_spot turn edit_field
        no_fit n = stays_edit p vs unfit refl (at_place ∙ rw (l, n)) (rw (e, n))

        no_room : fit f vs ≡ true → ltb (length m.stack) most ≡ false → Step most (edit p vs) j m parts
        unfolding at_spot turn edit_field
        no_room y n = stays_edit p vs (journal_full most) refl (at_place ∙ rw (l, y, k.holds, n)) (rw (e, y, n))

        module _ (i : at + total (widths f) ≤ length (F.bytes m.rec)) (x : Replaces F Good m.rec p at f vs) (y : fit f vs ≡ true) (n : ltb (length m.stack) most ≡ true) where
          -- the journal afterwards
          abbrev entered : List ℕ
          entered = sets j (entry_words * length m.stack) (entry_of at (old_at (F.bytes m.rec) at (total (widths f))))

          edited : editing F (F.bytes m.rec) j (length m.stack) p vs ≡ (accepted ((length m.stack + 1) ∷ []), F.bytes (F.replaced m.rec p vs), entered)
          unfolding at_spot
          edited = at_place ∙ rw (l, y, k.holds, n, x.same)

          -- its field alone
          kept-edit : SameBut F (part_of F (F.locate (F.bytes m.rec) p)) (F.bytes m.rec) (F.bytes (F.replaced m.rec p vs))
          unfolding part_of
          kept-edit = rw (l, ← x.same) (same-sets F (F.bytes m.rec) at (total (widths f)) (written (row (widths f) vs)) (length-row (widths f) vs))

          takes_edit : Takes entered (length m.stack) (part_of F (F.locate (F.bytes m.rec) p)) (F.replaced m.rec p vs) m.rec
          takes_edit =
              let s : List ℕ = F.bytes m.rec in
              let t : List ℕ = F.bytes (F.replaced m.rec p vs) in
              let h : ℕ = length m.stack in
              let new : List ℕ = written (row (widths f) vs) in
              let en : List ℕ = entry_of at (old_at s at (total (widths f))) in
              let w : entry_words * h + entry_words ≤ length j = room j h (rw k.holds (ltb-true h most n)) in
              let a : entry_at entered h ≡ en = entry_new j en h (unfold entry_of in refl) w in
              let z : length t ≡ length s = ap length (sym x.same) ∙ length-sets s at new in
              let b : Bytes s = laws.bytes m.rec k.good in
              record {
                good = k.good;
                restorable = rw (a, z) (entry-restorable s at f b i);
                back = rw (a, ← x.same) (entry_restores s at f b i new (length-row (widths f) vs));
                kept = same_sym F kept-edit;
              }

          edits : Step most (edit p vs) j m parts
          unfolding turn edit_field handed_on changes own_part parts_after
          edits =
              let h : ℕ = length m.stack in
              record {
                answer = accepted ((h + 1) ∷ []);
                journal = entered;
                machine = record { rec = F.replaced m.rec p vs; stack = m.rec ∷ m.stack };
                calls = called-edit F (beside F j m) p vs (accepted ((h + 1) ∷ [])) (F.bytes (F.replaced m.rec p vs)) entered edited ∙ rw (add-one h);
                turns = rw (e, y, n);
                kept = kept-edit;
                linked =
                    record {
                      good = x.good;
                      holds = capacity-sets j (entry_of at (old_at (F.bytes m.rec) at (total (widths f)))) h ∙ k.holds;
                      room = ltb-true h most n;
                      chain = (takes_edit, chain_below j (entry_of at (old_at (F.bytes m.rec) at (total (widths f)))) h m.rec m.stack parts (omega arith) k.chain);
                    };
              }

        by_room_lem : (i : at + total (widths f) ≤ length (F.bytes m.rec)) → Replaces F Good m.rec p at f vs → fit f vs ≡ true → (b : Bool) → ltb (length m.stack) most ≡ b
            → Step most (edit p vs) j m parts
        by_room_lem i x y true n = edits i x y n
        by_room_lem i x y false n = no_room y n

        by_fit : at + total (widths f) ≤ length (F.bytes m.rec) → ((us : List ℕ) → fit f us ≡ true → Replaces F Good m.rec p at f us) → (b : Bool) → fit f vs ≡ b
            → Step most (edit p vs) j m parts
        by_fit i x true y = by_room_lem i (x vs y) y (ltb (length m.stack) most) refl
        by_fit i x false n = no_fit n

      step_edit : Finding F Good m.rec p → Step most (edit p vs) j m parts
      step_edit (absent e l) = no_place_lem e l
      step_edit (present at f e l i x) = by_fit at f e l i x (fit f vs) refl

  -- ---- an undo

  step_undo : (most : ℕ) (j : List ℕ) (r : F.Rec) (st : List F.Rec) (parts : List (Part F)) → length (F.bytes r) ≤ limit
      → Linked most j (record { rec = r; stack = st }) parts → Step most undo j (record { rec = r; stack = st }) parts
  unfolding turn pop handed_on changes own_part parts_after
  step_undo most j r [] parts l k =
      record {
        answer = nothing_to_undo;
        journal = j;
        machine = record { rec = r; stack = [] };
        calls = called-undo F (beside F j (record { rec = r; stack = [] })) nothing_to_undo (F.bytes r) (nothing_left (F.bytes r) j l);
        turns = refl;
        kept = same_own F (none F) (F.bytes r);
        linked = k;
      }
  step_undo most j r (q ∷ st) [] l k = absurd k.chain
  step_undo most j r (q ∷ st) (x ∷ xs) l k =
      let t : Takes j (length st) x r q = k.chain.0 in
      let n : length st < capacity j = omega (arith, k.room, k.holds) in
      record {
        answer = accepted (length st ∷ []);
        journal = j;
        machine = record { rec = q; stack = st };
        calls =
            called-undo F (beside F j (record { rec = r; stack = q ∷ st })) (accepted (length st ∷ [])) (F.bytes q)
            (undone (F.bytes r) j l (length st) (F.bytes q) n t.restorable t.back);
        turns = refl;
        kept = t.kept;
        linked = record { good = t.good; holds = k.holds; room = omega (arith, k.room); chain = k.chain.1 };
      }

-- ---- the whole list

module _ (F : Format) (Good : F.Rec → Type 0) (Reads Writes : List ℕ → F.Rec → Type 0) (laws : Laws F Good Reads Writes) where
  step : (most : ℕ) (c : Call F) (j : List ℕ) (m : Machine F) (parts : List (Part F)) → Linked F Good most j m parts → Step F Good most c j m parts
  step most (edit p vs) j m parts k = step_edit F Good most j m parts k Reads Writes laws p vs (laws.finds m.rec k.good p)
  step most undo j m parts k = step_undo F Good most j m.rec m.stack parts (laws.short m.rec k.good) k

  once : (most : ℕ) (c : Call F) (j : List ℕ) (m : Machine F) (parts : List (Part F)) → Step F Good most c j m parts
      → AgreesOnce F Reads Writes most c (beside F j m) m parts
  once most c j m parts t =
      record {
        answer = rw (t.calls, t.turns);
        count = rw (t.calls, t.turns);
        section = rw (t.calls, t.turns);
        writes = rw (t.calls, t.turns) (laws.writes t.machine.rec t.linked.good);
        reads = rw (t.calls, t.turns) (laws.gives t.machine.rec t.linked.good);
        kept = rw t.calls t.kept;
      }

  agrees : (most : ℕ) (cs : List (Call F)) (j : List ℕ) (m : Machine F) (parts : List (Part F)) → Linked F Good most j m parts
      → Agrees F Reads Writes most cs (beside F j m) m parts
  agrees most [] j m parts k = (refl, laws.writes m.rec k.good, laws.gives m.rec k.good)
  agrees most (c ∷ cs) j m parts k =
      let t : Step F Good most c j m parts = step most c j m parts k in
      (once most c j m parts t, rw (t.calls, t.turns) (agrees most cs t.journal t.machine (parts_after F c (beside F j m) parts t.answer) t.linked))

-- every list of edits and undos, from a record's bytes and any journal
pub demand_3 : (F : Format) (Good : F.Rec → Type 0) (Reads Writes : List ℕ → F.Rec → Type 0) → Laws F Good Reads Writes → (r : F.Rec) → Good r → (j : List ℕ) (cs : List (Call F))
    → Agrees F Reads Writes (capacity j) cs (record { section = F.bytes r; journal = j; count = 0 }) (started F r) []
unfolding started
demand_3 F Good Reads Writes laws r g j cs =
    agrees F Good Reads Writes laws (capacity j) cs j (record { rec = r; stack = [] }) [] (record { good = g; holds = refl; room = omega arith; chain = tt })
