-- A table of places that are still to be patched: where its entries stand, and the zeros that hold them.
-- Assumes nothing.
use Prim.Native.Nat.{ℕ, ◌+◌, ◌*◌, ◌-◌, ◌<◌, ◌≤◌, min}
use mathlib.Core.Path.{◌≡◌, refl, ap, sym, ◌∙◌}
use mathlib.Core.List.{List}
use native.Mathlib.Omega.{arith}
use borrow.Author.Tests.{lt-ltb, le-ltb}
use lib.ListN.{length, replicate, length-replicate, replicate-append-replicate}
use lib.Seq.{sets, length-sets}
use Rattle.base.specs.Number.{le, put}
use Rattle.base.specs.Placeholder.{entry_at}
use Rattle.base.proofs.Filling.{fill_none}
use Rattle.base.proofs.Stores.{sets-append}

-- an entry that the table has, and one that it does not have
pub entry_within : (at n i : ℕ) → i < n → entry_at at n i ≡ min (at + 4 * i) 18446744073709551615
unfolding entry_at
entry_within at n i h = rw (lt-ltb i n h)

pub entry_none : (at n i : ℕ) → n ≤ i → entry_at at n i ≡ 18446744073709551615
unfolding entry_at
entry_none at n i h = rw (le-ltb i n h)

-- its place, where a usize holds it
pub entry_there : (at n i : ℕ) → i < n → at + 4 * i ≤ 18446744073709551615 → entry_at at n i ≡ at + 4 * i
entry_there at n i h k = omega (arith, entry_within at n i h, k)

-- no list has more places than a usize counts, so zeros up to that many store as much
pub zeros_most : (l : List ℕ) (o n m : ℕ) → length l ≤ 18446744073709551615 → m ≡ min (0 + n) 18446744073709551615
    → sets l o (replicate m 0) ≡ sets l o (replicate n 0)
zeros_most l o n m h e =
    let a = length-replicate {A = ℕ} m 0 in
    let b = length-replicate {A = ℕ} (n - m) 0 in
    let c = length-sets l o (replicate m 0) in
    let d : m + (n - m) ≡ n = omega (arith, e) in
    let g : min (length (replicate {A = ℕ} (n - m) 0)) (length (sets l o (replicate m 0)) - (o + length (replicate {A = ℕ} m 0))) ≡ 0 = omega (arith, a, b, c, e, h) in
    sym (fill_none (sets l o (replicate m 0)) (o + length (replicate {A = ℕ} m 0)) (replicate (n - m) 0) g)
    ∙ sym (sets-append l o (replicate m 0) (replicate (n - m) 0))
    ∙ ap (sets l o) (replicate-append-replicate m (n - m) 0 ∙ ap (λ (k : ℕ). replicate k 0) d)

-- the zeros of one place
pub gaps_one : (l : List ℕ) (at n : ℕ) → n ≡ 1 → put 4 l at 0 ≡ sets l at (replicate (4 * n) 0)
unfolding put le
gaps_one l at n e = rw e refl
