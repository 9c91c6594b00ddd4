-- What a walk over a section leaves behind: the two tables, and what was counted, by the items that it met.
use Rattle.std.specs.Prelude.{Result, Ok, Err, Option, Some, None, ℕ, min, ◌+◌, ◌-◌, List, [], ◌∷◌, map, eqb, length}
use Rattle.std.proofs.Math.Seq.{slice}
use Rattle.std.proofs.lemmas.List.Edits.{sets}
use Rattle.base.specs.Choice.{pick}
use Rattle.base.specs.Utf8.{replacements}
use Rattle.bflan.specs.declared.fault.Fault.{Fault}
use Rattle.bflan.specs.declared.reader.tally.Tables.{Tables}
use Rattle.bflan.specs.declared.reader.tally.Tally.{Tally}
use Rattle.bflan.specs.Reader.{Res, ok, stop, Item, word, text}
use Rattle.bflan.specs.Items.{shown_at, words_of, texts_of}

-- numbers as items: a word each
abbrev pub as_items : Res (List ℕ) → Res (List Item)
as_items (ok vs p) = ok (map word vs) p
as_items (stop f) = stop f

-- ---- the tally

-- a count as a usize
abbrev pub sat : ℕ → ℕ
sat n = min n 18446744073709551615

-- before anything was met; text k is wanted
abbrev pub empty_tally : ℕ → Tally
empty_tally k = record { words = 0; bytes = 0; replaced = 0; left = k; start = 0; len = 0 }

unfoldable pub with_words : Tally → ℕ → Tally
with_words t n =
    record { words = sat (t.words + n); bytes = t.bytes; replaced = t.replaced; left = t.left; start = t.start; len = t.len }

-- a text of n bytes at a, whose decoding has so many bytes; the last number is the sum with its U+FFFD. Where no text was left before the one that is
-- wanted, this is the one
unfoldable pub with_text : Tally → ℕ → ℕ → ℕ → ℕ → Tally
with_text t a n size replaced =
    record {
      words = sat (t.words + 1);
      bytes = sat (t.bytes + size);
      replaced = replaced;
      left = pick (eqb t.left 0) 18446744073709551615 (t.left - 1);
      start = pick (eqb t.left 0) a t.start;
      len = pick (eqb t.left 0) n t.len;
    }

-- as the section has it
abbrev pub with_text_of : List ℕ → Tally → ℕ → ℕ → Tally
with_text_of s t a n = with_text t a n (length (shown_at s a n)) (sat (t.replaced + replacements (slice a (a + n) s)))

unfoldable pub tallied : List ℕ → Tally → List Item → Tally
tallied s t [] = t
tallied s t (word v ∷ is) = tallied s (with_words t 1) is
tallied s t (text a n ∷ is) = tallied s (with_text_of s t a n) is

-- ---- the tables

-- with these items behind what they have
abbrev pub after : List ℕ → Tables → List Item → Tables
after s t is =
    record t {
      words = record t.words { now = sets t.words.now t.tally.words (words_of s is) };
      texts = record t.texts { now = sets t.texts.now t.tally.bytes (texts_of s is) };
      tally = tallied s t.tally is;
    }

-- ---- a walk: its answer and, where it goes on, the tables then

-- it goes on at a position, or is stopped
abbrev pub Walk : Type 0
Walk = Result ℕ Fault

unfoldable pub walk_of : List ℕ → Tables → Res (List Item) → Walk × Option Tables
walk_of s t (ok is p) = (Ok p, Some (after s t is))
walk_of s t (stop f) = (Err f, None)

-- the same as the code has it: of a walk that was stopped the tables don't count
unfoldable pub walked : Walk → Tables → Walk × Option Tables
walked (Ok p) t = (Ok p, Some t)
walked (Err f) t = (Err f, None)

-- ---- a walk over a whole reading into two lists: what it counted and, where it went through, the lists then. Text k is wanted

unfoldable pub read_into : List ℕ → ℕ → List ℕ → List ℕ → Res (List Item) → Result Tally Fault × Option (List ℕ × List ℕ)
read_into s k w x (ok is p) = (Ok (tallied s (empty_tally k) is), Some (sets w 0 (words_of s is), sets x 0 (texts_of s is)))
read_into s k w x (stop f) = (Err f, None)

-- the same as the code has it
unfoldable pub told : Result Tally Fault → List ℕ → List ℕ → Result Tally Fault × Option (List ℕ × List ℕ)
told (Ok t) w x = (Ok t, Some (w, x))
told (Err f) w x = (Err f, None)
