-- `index::forget` meets its contract. Assumes nothing.
use native.Mathlib.Omega.{arith}
use lib.ListN.{length-set}
use Rattle.index.proofs.Shift.{shift_begins, shift_stays, shift_moves, shift_ends, shift_ends_last}
use borrow.Author.Rules.{rules}
use Rattle.index.proofs.forget.Goals as goal

pub loop-place-init : goal.loop-place-init
loop-place-init c = search (shift_begins, rules)

pub shape_of-index-then-entry-eq0 : goal.shape_of-index-then-entry-eq0
shape_of-index-then-entry-eq0 c = simp length-set (omega arith)

pub returns-then-entry-eq0 : goal.returns-then-entry-eq0
returns-then-entry-eq0 c = search (shift_ends, rules)

pub loop-place-preserved-then-hole-home_in : goal.loop-place-preserved-then-hole-home_in
loop-place-preserved-then-hole-home_in c = search (shift_stays, rules)

pub loop-place-preserved : goal.loop-place-preserved
loop-place-preserved c = search (shift_moves, rules)

pub shape_of-index : goal.shape_of-index
shape_of-index c = simp length-set (omega arith)

pub returns : goal.returns
returns c = search (shift_ends_last, rules)
