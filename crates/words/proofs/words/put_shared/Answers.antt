-- `words::words::put_shared` meets its contract. Assumes nothing.
use native.Mathlib.Omega.{arith}
use lib.ListN.{length-set}
use Rattle.words.proofs.words.put_shared.Goals as goal

pub bounds-words-1 : goal.bounds-words-1
bounds-words-1 c = simp length-set (omega arith)

pub bounds-words-2 : goal.bounds-words-2
bounds-words-2 c = simp length-set (omega arith)

pub bounds-words-3 : goal.bounds-words-3
bounds-words-3 c = simp length-set (omega arith)

pub bounds-words-4 : goal.bounds-words-4
bounds-words-4 c = simp length-set (omega arith)

pub bounds-words-5 : goal.bounds-words-5
bounds-words-5 c = simp length-set (omega arith)

pub bounds-words-6 : goal.bounds-words-6
bounds-words-6 c = simp length-set (omega arith)

pub bounds-words-7 : goal.bounds-words-7
bounds-words-7 c = simp length-set (omega arith)

pub bounds-words-8 : goal.bounds-words-8
bounds-words-8 c = simp length-set (omega arith)

pub bounds-words-9 : goal.bounds-words-9
bounds-words-9 c = simp length-set (omega arith)

pub bounds-words-10 : goal.bounds-words-10
bounds-words-10 c = simp length-set (omega arith)

pub shape_of-words : goal.shape_of-words
shape_of-words c = simp length-set

pub returns : goal.returns
returns c =
    simp (
      c.bit_number.ensures,
      c.opt_u16_number.ensures,
      c.opt_u8_number-2.ensures,
      c.opt_u8_number.ensures,
      c.greatest_number8.ensures,
      c.least_number8.ensures,
      c.resolution_number.ensures,
      c.state_number.ensures,
    )
