-- What the walk that writes leaves of a part that was judged fine, and where it stands then.
use Rattle.std.specs.Prelude.{ℕ, ◌+◌, ◌≤◌, ◌≡◌, List, length}
use Rattle.std.proofs.lemmas.List.Edits.{sets}
use Rattle.bflan.specs.declared.writer.Writer.{Writer}
use Rattle.bflan.specs.Judge.{Judged, fine, bad_word, bad_text, J}
use Rattle.bflan.specs.Layout.{Layout, ◌⨾◌, size, written, parts, table}
use Rattle.bflan.specs.Limits.{limit}

-- where the writing stands: the next word, the next text byte, and the next byte of the section
pub record Pen : Type 0 where
  pub word : ℕ
  pub byte : ℕ
  pub at : ℕ

-- a writer with another pen, and other bytes in its section
abbrev pub moved : Writer → Pen → List ℕ → Writer
moved w q out = record w { word = q.word; byte = q.byte; at = q.at; out = record w.out { now = out } }

-- what comes next in a writer's record, as it is judged
abbrev pub next : {A : Type 0} → J A → Writer → Judged A
next p w = p w.words.now w.texts.now w.word w.byte

module _ {A : Type 0} (lay : A → Layout) where
  -- a part that was judged fine and has room from `at` on in a list of `most` bytes
  pub record Ready (r : Judged A) (at most : ℕ) : Type 0 where
    pub value : A
    pub word : ℕ
    pub byte : ℕ
    pub judged : r ≡ fine value word byte
    pub room : at + size (lay value) ≤ most
    pub short : at + size (lay value) ≤ limit

  -- the bytes from `at` on
  unfoldable pub laid : Judged A → ℕ → List ℕ → List ℕ
  laid (fine a i j) at out = sets out at (written (lay a))
  laid (bad_word i) at out = out
  laid (bad_text j) at out = out

  -- the places behind the part
  unfoldable pub pen_behind : Judged A → ℕ → Pen
  pen_behind (fine a i j) at = record { word = i; byte = j; at = at + size (lay a) }
  pen_behind (bad_word i) at = record { word = 0; byte = 0; at = at }
  pen_behind (bad_text j) at = record { word = 0; byte = 0; at = at }

  -- the next part was judged fine, and has room
  abbrev pub HasNext : J A → Writer → Type 0
  HasNext p w = Ready (next p w) w.at (length w.out.now)

  -- the writer behind that part
  abbrev pub behind : J A → Writer → Writer
  behind p w = moved w (pen_behind (next p w) w.at) (laid (next p w) w.at w.out.now)

-- parts behind the table of their offsets, the first of which is `from`
unfoldable pub listed : {X : Type 0} → (X → Layout) → ℕ → List X → Layout
listed lay from xs = table lay from xs ⨾ parts lay xs
