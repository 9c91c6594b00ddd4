-- What a seek gives, and what its answer says. Assumes nothing.
use Rattle.std.specs.Prelude.{Ok, Err}
use Rattle.base.specs.Number.{past_end}
use mathlib.Core.Path.{◌≡◌, refl, sym}
use mathlib.Core.Bool.{Bool, true, false}
use mathlib.Core.List.{List}
use Prim.Native.Nat.{ℕ, ◌-◌, ◌<◌, ◌≤◌}
use native.Mathlib.Omega.{arith}
use borrow.Author.Tests.{leb-true, leb-false, le-leb, lt-leb}
use lib.Dec.{leb}
use lib.ListN.{length}
use Rattle.base.specs.Choice.{pick}
use Rattle.base.specs.Seek.{seek_of}
use Rattle.base.proofs.Numbers.{err_past}

pub seek_there : (s : List ℕ) (to : ℕ) → to ≤ length s → seek_of s to ≡ Ok to
unfolding seek_of
seek_there s to h = rw (le-leb to (length s) h)

pub seek_over : (s : List ℕ) (to : ℕ) → length s < to → seek_of s to ≡ Err (past_end (length s) (to - length s))
unfolding seek_of
seek_over s to h = rw (lt-leb to (length s) h)

-- what a seek that succeeded says
pub record Found (s : List ℕ) (to p : ℕ) : Type 0 where
  pub within : to ≤ length s
  pub place : p ≡ to

-- what a seek that was refused says
pub record Beyond (s : List ℕ) (to p m : ℕ) : Type 0 where
  pub over : length s < to
  pub place : p ≡ length s
  pub excess : m ≡ to - length s

pub seek_at : (s : List ℕ) (to p : ℕ) → seek_of s to ≡ Ok p → Found s to p
unfolding seek_of
seek_at s to p = go (leb to (length s)) refl
  where
    go : (b : Bool) → leb to (length s) ≡ b → pick b (Ok to) (Err (past_end (length s) (to - length s))) ≡ Ok p → Found s to p
    go true t e = record { within = leb-true to (length s) t; place = cc }
    go false t e = let z : ◌≡◌ {A = ℕ} 0 1 = cc in absurd (omega arith)

pub seek_past : (s : List ℕ) (to p m : ℕ) → seek_of s to ≡ Err (past_end p m) → Beyond s to p m
unfolding seek_of
seek_past s to p m = go (leb to (length s)) refl
  where
    go : (b : Bool) → leb to (length s) ≡ b → pick b (Ok to) (Err (past_end (length s) (to - length s))) ≡ Err (past_end p m) → Beyond s to p m
    go true t e = let z : ◌≡◌ {A = ℕ} 0 1 = cc in absurd (omega arith)
    go false t e = record { over = leb-false to (length s) t; place = sym (err_past e).0; excess = sym (err_past e).1 }
