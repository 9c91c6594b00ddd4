-- `edit::write_field` meets its contract.
-- Assumes nothing.
use native.Mathlib.Omega.{arith}
use Rattle.edit.proofs.Changes.{constant_put, step_put, hermite_put}
use Rattle.edit.proofs.edit.write_field.Goals as goal

pub returns-in-Key : goal.returns-in-Key
returns-in-Key c = constant_put _ _ _ _ c.requires.1 _ _ _ c.in-One.is c.in-Key.is (omega arith) c.from_bits.ensures c.write_f32.ensures

pub returns-in-Two : goal.returns-in-Two
returns-in-Two c = step_put _ _ _ _ c.requires.1 _ _ _ c.in-Two.is (omega arith) c.from_bits-in-Two.ensures c.write_f32-in-Two.ensures c.write.ensures

pub returns-in-Three : goal.returns-in-Three
returns-in-Three c = hermite_put _ _ _ _ c.requires.1 _ _ _ _ c.in-Three.is (omega arith) (omega arith) (omega arith) c.from_bits-in-Three.ensures c.write_hermite.ensures
