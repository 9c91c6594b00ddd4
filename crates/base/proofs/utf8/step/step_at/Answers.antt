-- `utf8::step::step_at` meets its contract: one arm for each row of Table 3-7.
-- Assumes nothing.
use mathlib.Core.Path.{refl}
use mathlib.Core.Logic.{⊎_elim}
use native.Mathlib.Omega.{arith}
use Rattle.base.specs.Utf8.{rows, later_of}
use Rattle.base.proofs.utf8.Steps.{step_by}
use Rattle.base.proofs.utf8.step.step_at.Goals as goal

pub returns-in-2 : goal.returns-in-2
unfolding later_of rows
returns-in-2 c = step_by _ _ 1 _ _ _ _ refl c.class-c.ensures c.in-2.is (omega arith) c.match1.ensures.0 c.judged.ensures

pub returns-in-3 : goal.returns-in-3
unfolding later_of rows
returns-in-3 c = step_by _ _ 2 _ _ _ _ refl c.class-c.ensures c.in-3.is (omega arith) c.match2.ensures.0 c.judged-in-3.ensures

pub returns-in-4 : goal.returns-in-4
unfolding later_of rows
returns-in-4 c =
    ⊎_elim (λ e. step_by _ _ 3 _ _ _ _ refl c.class-c.ensures e (omega arith) c.match2-in-4.ensures.0 c.judged-in-4.ensures)
    (λ e. step_by _ _ 5 _ _ _ _ refl c.class-c.ensures e (omega arith) c.match2-in-4.ensures.0 c.judged-in-4.ensures)
    c.in-4.is

pub returns-in-5 : goal.returns-in-5
unfolding later_of rows
returns-in-5 c = step_by _ _ 4 _ _ _ _ refl c.class-c.ensures c.in-5.is (omega arith) c.match2-in-5.ensures.0 c.judged-in-5.ensures

pub returns-in-7 : goal.returns-in-7
unfolding later_of rows
returns-in-7 c = step_by _ _ 6 _ _ _ _ refl c.class-c.ensures c.in-7.is (omega arith) c.match3.ensures.0 c.judged-in-7.ensures

pub returns-in-8 : goal.returns-in-8
unfolding later_of rows
returns-in-8 c = step_by _ _ 7 _ _ _ _ refl c.class-c.ensures c.in-8.is (omega arith) c.match3-in-8.ensures.0 c.judged-in-8.ensures

pub returns-in-9 : goal.returns-in-9
unfolding later_of rows
returns-in-9 c = step_by _ _ 8 _ _ _ _ refl c.class-c.ensures c.in-9.is (omega arith) c.match3-in-9.ensures.0 c.judged-in-9.ensures
