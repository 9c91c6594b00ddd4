-- The pai1 section is a format that meets the laws of demand 3. Assumes nothing.
use Prim.Native.Nat.{ℕ, ◌+◌, ◌≤◌}
use native.Mathlib.Omega.{arith}
use mathlib.Core.Path.{◌≡◌, subst, sym, ap, ◌∙◌}
use mathlib.Core.List.{List, []}
use lib.ListN.{length, take}
use Rattle.base.specs.Outcome.{Outcome}
use Rattle.base.proofs.Numbers.{sets-read}
use Rattle.bflan.proofs.round_trip.Pai1.{judges}
use Rattle.bflan.proofs.round_trip.Verdicts.{written_there, accepted-within}
use Rattle.bflan.specs.Layout.{written, size}
use Rattle.bflan.specs.pai1.Calls.{writing}
use Rattle.bflan.specs.pai1.Layout.{section_lay}
use Rattle.bflan.specs.Limits.{limit}
use Rattle.bflan.specs.pai1.Limits.{Within}
use Rattle.bflan.specs.pai1.Record.{PaneAnimInfo, words as words_of, texts as texts_of}
use Rattle.bflan.specs.declared.place.Place.{Place}
use Rattle.bflan.proofs.place.Fields.{Finding as Found, absent as gone, present as there, finding}
use Rattle.bflan.proofs.Layouts.{size-written}
use Rattle.bflan.proofs.round_trip.RoundTrip.{reads_back, read-written}
use Rattle.bflan.proofs.round_trip.WrittenBytes.{written-bytes}
use Rattle.edit.specs.Format.{pai1, Reads, Writes}
use Rattle.edit.specs.Journal.{capacity}
use Rattle.edit.specs.Machine.{Call, started, Agrees}
use Rattle.edit.proofs.Demand.{Readable, Finding, absent, present, Laws, demand_3}

-- it is read whole
pub readable : (r : PaneAnimInfo) → Within r → Readable pai1 (written (section_lay r))
readable r w = let b = reads_back r w in record { items = b.items; end = size (section_lay r); reads = b.reads }

-- where a place is found
finds : (r : PaneAnimInfo) → Within r → (p : Place) → Finding pai1 Within r p
finds r w p = go (finding r w p)
  where
    go : Found r p → Finding pai1 Within r p
    go (gone e l) = absent e l
    go (there at f l x) =
        present at f x.field l (rw (size-written (section_lay r)) x.inside) (λ vs y. record { same = x.writes vs y; good = x.within vs y })

-- and written
afresh : (r : PaneAnimInfo) → Within r → Writes (written (section_lay r)) r
afresh r w out l =
    let n : length (written (section_lay r)) ≡ size (section_lay r) = size-written (section_lay r) in
    rw n (written_there judges section_lay r out w (rw (← n) l))

laws : Laws pai1 Within Reads Writes
laws =
    record {
      short = λ r w. subst (λ (n : ℕ). n ≤ limit) (sym (size-written (section_lay r))) w.short;
      bytes = written-bytes;
      reads = readable;
      gives = read-written;
      writes = afresh;
      finds = finds;
    }

-- demand 3, of every section that is written from a record within the limits
pub edits_agree : (r : PaneAnimInfo) → Within r → (j : List ℕ) (cs : List (Call pai1))
    → Agrees pai1 Reads Writes (capacity j) cs (record { section = written (section_lay r); journal = j; count = 0 }) (started pai1 r) []
edits_agree r w j cs = demand_3 pai1 Within Reads Writes laws r w j cs

-- the same from the call of writing on: where it is accepted, its bytes are a section of which all of that holds
pub record Starts (w x out : List ℕ) : Type 0 where
  pub rec : PaneAnimInfo
  pub within : Within rec
  pub words : words_of rec ≡ w
  pub texts : texts_of rec ≡ x
  pub bytes : take (size (section_lay rec)) (writing w x out).1 ≡ written (section_lay rec)
  pub agree : (j : List ℕ) (cs : List (Call pai1))
      → Agrees pai1 Reads Writes (capacity j) cs (record { section = take (size (section_lay rec)) (writing w x out).1; journal = j; count = 0 }) (started pai1 rec) []

pub written_agrees : (w x out : List ℕ) → (writing w x out).0.number ≡ 0 → Starts w x out
written_agrees w x out e =
    let a = accepted-within judges section_lay w x out e in
    let s : List ℕ = written (section_lay a.tree) in
    let n : length s ≡ size (section_lay a.tree) = size-written (section_lay a.tree) in
    let fits : 0 + length s ≤ length out = omega (arith, n, a.room) in
    let b : take (size (section_lay a.tree)) (writing w x out).1 ≡ s =
    ap (λ (z : Outcome × List ℕ). take (size (section_lay a.tree)) z.1) a.answer ∙ rw (← n) (sets-read out 0 s fits) in
    record {
      rec = a.tree;
      within = a.within;
      words = a.words;
      texts = a.texts;
      bytes = b;
      agree = λ j cs. rw b (edits_agree a.tree a.within j cs);
    }
