-- `words::words::put_direction` meets its contract. Assumes nothing.
use native.Mathlib.Omega.{arith}
use lib.ListN.{length-set}
use native.Mathlib.Nat.{add-zero}
use Rattle.words.proofs.words.put_direction.Goals as goal

pub bounds-words-at-2 : goal.bounds-words-at-2
bounds-words-at-2 c = simp length-set (omega arith)

pub bounds-words-at-3 : goal.bounds-words-at-3
bounds-words-at-3 c = simp length-set (omega arith)

pub bounds-words-at-4 : goal.bounds-words-at-4
bounds-words-at-4 c = simp length-set (omega arith)

pub bounds-words-at-5 : goal.bounds-words-at-5
bounds-words-at-5 c = simp length-set (omega arith)

pub bounds-words-at-6 : goal.bounds-words-at-6
bounds-words-at-6 c = simp length-set (omega arith)

pub bounds-words-at-7 : goal.bounds-words-at-7
bounds-words-at-7 c = simp length-set (omega arith)

pub bounds-words-at-8 : goal.bounds-words-at-8
bounds-words-at-8 c = simp length-set (omega arith)

pub bounds-words-at-9 : goal.bounds-words-at-9
bounds-words-at-9 c = simp length-set (omega arith)

pub bounds-words-at-10 : goal.bounds-words-at-10
bounds-words-at-10 c = simp length-set (omega arith)

pub bounds-words-at-11 : goal.bounds-words-at-11
bounds-words-at-11 c = simp length-set (omega arith)

pub bounds-words-at-12 : goal.bounds-words-at-12
bounds-words-at-12 c = simp length-set (omega arith)

pub bounds-words-at-13 : goal.bounds-words-at-13
bounds-words-at-13 c = simp length-set (omega arith)

pub shape_of-words : goal.shape_of-words
shape_of-words c = simp length-set

pub returns : goal.returns
returns c = simp (add-zero, c.greatest_number32.ensures, c.least_number32.ensures)
