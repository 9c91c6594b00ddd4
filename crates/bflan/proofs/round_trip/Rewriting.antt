-- Writing what was read: a call of writing finds no fault in the words and the texts that a call of reading filled, unless decoding made a
-- name longer than 28 bytes.
-- Assumes nothing.
use Prim.Native.Nat.{ℕ, ◌≤◌}
use mathlib.Core.Path.{◌≡◌, refl, sym, ap₂, ◌∙◌}
use mathlib.Core.Bool.{Bool, true, false}
use mathlib.Core.List.{List, [], ◌∷◌}
use native.Mathlib.Omega.{arith}
use lib.ListN.{length, take, replicate}
use lib.Seq.{sets}
use Rattle.base.specs.Number.{val, get, read_of}
use Rattle.base.specs.Outcome.{accepted, refused}
use Rattle.base.specs.Seek.{seek_of}
use Rattle.base.specs.Text.{before_zero, fixed_of}
use Rattle.base.specs.Utf8.{rows, within, class_of, later_of, matched, more, good, piece_of, pieces_after, pieces, shown, decoded, decode, ill_count, replacements}
use Rattle.base.proofs.Numbers.{Bytes, sets-read}
use Rattle.bflan.specs.Answer.{filled, reading_by}
use Rattle.bflan.specs.pai1.Calls.{reading, writing}
use Rattle.bflan.specs.pai1.Judge.{pane, section as judge, content as judgeContent}
use Rattle.bflan.specs.Judge.{next_word as judgeWord, next_text as judgeText, times, whole}
use Rattle.bflan.specs.pai1.Layout.{section_lay}
use Rattle.bflan.specs.pai1.Limits.{Readable}
use Rattle.bflan.specs.Reader.{ok, Item, num, seek_to, fixed_text, numbers, visit}
use Rattle.bflan.specs.pai1.Reading.{type_of, info_table, content, contents, flag_of, body, section, own_letters}
use Rattle.bflan.specs.pai1.Record.{PaneAnimInfo, words, texts}
use Rattle.bflan.specs.pai1.Rewriting.{read_words, read_texts, names_fit, rewritten}
use Rattle.bflan.specs.Items.{words_of, texts_of, replacements_of}
use Rattle.bflan.specs.Writing.{judged, writing_by}
use Rattle.bflan.proofs.read.Answers.{accepted-filled}
use Rattle.bflan.proofs.judge.Judging.{names_within, judge_flat, judge_long}
use Rattle.bflan.proofs.round_trip.ReadTree.{read_tree}

-- ---- how writing judges what was read

-- the two lists of a record within the limits but for the length of names: it is stored where they fit, else refused at the first that does not
pub write_readable : (r : PaneAnimInfo) → Readable r → (out : List ℕ) → writing (words r) (texts r) out ≡ rewritten out r
unfolding writing_by judged rewritten
write_readable r q out = go (names_fit r.contents) refl
  where
    go : (t : Bool) → names_fit r.contents ≡ t → judged section_lay out (judge (words r) (texts r) 0 0) ≡ rewritten out r
    go true e = rw (e, judge_flat r (names_within 84 r q e))
    go false e = rw (e, judge_long 84 r q e)

-- the record that a call of reading gave: the three values of its answer, the words and texts that it filled, and what a call of writing with
-- any output answers for them
pub record ReadJudged (s w x : List ℕ) : Type 0 where
  pub items : List Item
  pub end : ℕ
  pub reads : section s 0 ≡ ok items end
  pub tree : PaneAnimInfo
  pub readable : Readable tree
  pub answer : (reading s w x).0 ≡ accepted (length (words tree) ∷ length (texts tree) ∷ replacements_of s items ∷ [])
  pub words : read_words s w x ≡ words tree
  pub texts : read_texts s w x ≡ texts tree
  pub judged : (out : List ℕ) → writing (read_words s w x) (read_texts s w x) out ≡ rewritten out tree

-- what was stored from the start on stands there
front : (l v : List ℕ) → length v ≤ length l → take (length v) (sets l 0 v) ≡ v
front l v h = sets-read l 0 v (omega arith)

-- of every slice of bytes that is read
pub read-judged : (s w x : List ℕ) → Bytes s → (reading s w x).0.number ≡ 0 → ReadJudged s w x
unfolding read_words read_texts
read-judged s w x b e =
    let f = accepted-filled section s w x e in
    let t = read_tree s b f.short f.items f.end f.reads in
    let ew : read_words s w x ≡ words t.tree = rw f.answer (front w (words_of s f.items) f.room_words ∙ sym t.words) in
    let ex : read_texts s w x ≡ texts t.tree = rw f.answer (front x (texts_of s f.items) f.room_texts ∙ sym t.texts) in
    record {
      items = f.items;
      end = f.end;
      reads = f.reads;
      tree = t.tree;
      readable = t.readable;
      answer = rw (f.answer, t.words, t.texts);
      words = ew;
      texts = ex;
      judged = λ out. ap₂ (λ (u v : List ℕ). writing u v out) ew ex ∙ write_readable t.tree t.readable out;
    }

-- ---- an example

-- a content whose name is ten bytes FF, each of which is shown as three
abbrev pub ill_named : List ℕ
ill_named =
    0x70 ∷ 0x61 ∷ 0x69 ∷ 0x31 ∷ 0x38 ∷ 0x00 ∷ 0x00 ∷ 0x00 ∷ 0x00 ∷ 0x00 ∷ 0x00 ∷ 0x00 ∷ 0x00 ∷ 0x00 ∷ 0x01 ∷ 0x00 ∷ 0x14 ∷ 0x00 ∷ 0x00 ∷ 0x00 ∷ 0x18 ∷ 0x00 ∷ 0x00 ∷ 0x00
    ∷ 0xFF ∷ 0xFF ∷ 0xFF ∷ 0xFF ∷ 0xFF ∷ 0xFF ∷ 0xFF ∷ 0xFF ∷ 0xFF ∷ 0xFF ∷ replicate 22 0

-- it is read into 7 words and 30 text bytes, with ten characters replaced; these are refused at the name's length, and the output stays
pub ill_named_lem : (out : List ℕ)
    → ((reading ill_named (replicate 7 0) (replicate 30 0)).0 ≡ accepted (7 ∷ 30 ∷ 10 ∷ []))
    × (writing (read_words ill_named (replicate 7 0) (replicate 30 0)) (read_texts ill_named (replicate 7 0) (replicate 30 0)) out ≡ (refused 6 (4 ∷ []), out))
unfolding read_words read_texts reading_by filled words_of texts_of replacements_of writing_by judged judge pane whole judgeWord judgeText judgeContent times section body contents content visit numbers num seek_to fixed_text info_table type_of flag_of own_letters read_of get val seek_of fixed_of before_zero rows within class_of later_of matched more good piece_of pieces_after pieces shown decoded decode ill_count replacements
ill_named_lem out = (refl, refl)
