-- A table of places that are still to be patched (document 01, 'Kept from the Rust'; anim_info.rs of the Rust keeps a list of them).
use Rattle.std.specs.Prelude.{nat_lt}
use Rattle.std.specs.Prelude.{ℕ, ◌+◌, ◌*◌, min}
use Rattle.base.specs.Choice.{pick}

-- where entry i of a table stands that has n places of four bytes from `at` on. A position is a usize, and stays at the largest one, which is
-- also that of an entry that the table does not have: no slice has a byte there
unfoldable pub entry_at : ℕ → ℕ → ℕ → ℕ
entry_at at n i = pick (nat_lt i n) (min (at + 4 * i) 18446744073709551615) 18446744073709551615
