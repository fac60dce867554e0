-- `state::header::header_is_sound` meets its contract. Assumes nothing.
use Rattle.state.specs.HeaderTest.{capacity_refused, capacity_small, rest_told}
use native.Mathlib.Omega.{arith}
use Rattle.state.proofs.header.header_is_sound.Goals as goal

pub returns-then-header : goal.returns-then-header
returns-then-header c = capacity_refused _ _ c.if-header.true

pub overflow_mul-result : goal.overflow_mul-result
overflow_mul-result c = omega (arith, capacity_small c.args.header.capacity c.if-header.false)

pub overflow_add-result : goal.overflow_add-result
overflow_add-result c = omega (arith, capacity_small c.args.header.capacity c.if-header.false)

pub returns : goal.returns
returns c = rest_told _ _ _ c.times_are_given.ensures c.if-header.false
