-- `braidpuddle::calls::braidpuddle_open_flows` meets its contract. Assumes nothing.
use native.Mathlib.Omega.{arith}
use Rattle.braidpuddle.proofs.Counted.{header_there, free_few, free_within, counted_open, counted_damaged}
use borrow.Author.Rules.{rules}
use Rattle.braidpuddle.proofs.calls.braidpuddle_open_flows.Goals as goal

pub load_header-header-requires : goal.load_header-header-requires
load_header-header-requires c = search (header_there, rules)

pub overflow_cast-result : goal.overflow_cast-result
overflow_cast-result c = omega (arith, free_few _ _ _ _ c.check.ensures c.if-check.true)

pub overflow_sub-result : goal.overflow_sub-result
overflow_sub-result c = search (free_within, rules)

pub returns-then-check : goal.returns-then-check
returns-then-check c = search (counted_open, rules)

pub returns : goal.returns
returns c = search (counted_damaged, rules)
