-- The walk that judges and measures a record in parts, as the code goes (`Judge` and `Layout` have the definitions that these parts make up).
use Rattle.std.specs.Prelude.{ℕ, List, leb}
use Rattle.bflan.specs.Judge.{J, ◌>>=◌, ret, next_word, next_text, times, wide}
use Rattle.bflan.specs.pai1.Judge.{info, content}
use Rattle.bflan.specs.pai1.Record.{AnimContent, PaneAnimInfo}

-- the values of a datum and its key
pub record ValuesAndKey : Type 0 where
  pub values : List ℕ
  pub key : List ℕ

unfoldable pub values_and_key : ℕ → J ValuesAndKey
values_and_key n = do
  vs ← times n (next_word (wide 4))
  key ← next_text (wide 4)
  ret (record { values = vs; key = key })

-- what is behind a content's name
unfoldable pub after_name : List ℕ → J AnimContent
after_name name = do
  type ← next_word (λ t. leb t 4)
  n ← next_word (wide 1)
  is ← times n info
  ret (record { name = name; type = type; infos = is })

-- what is behind a record's first four words
unfoldable pub after_head : ℕ → ℕ → ℕ → ℕ → J PaneAnimInfo
after_head frames looping nt nc = do
  ts ← times nt (next_text (wide 4))
  cs ← times nc content
  ret (record { frames = frames; looping = looping; textures = ts; contents = cs })
