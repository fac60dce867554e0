-- `braidpuddle::calls::braidpuddle_state_bytes` meets its contract. Assumes nothing.
use Rattle.braidpuddle.proofs.Answers.{bytes_refused, bytes_told}
use native.Mathlib.Omega.{arith}
use Rattle.state.specs.HeaderTest.{capacity_small}
use Rattle.braidpuddle.proofs.calls.braidpuddle_state_bytes.Goals as goal

pub returns-then-capacity : goal.returns-then-capacity
returns-then-capacity c = bytes_refused c.args.capacity c.if-capacity.true

pub overflow_mul-result : goal.overflow_mul-result
overflow_mul-result c = omega (arith, capacity_small c.args.capacity c.if-capacity.false)

pub overflow_add-result : goal.overflow_add-result
overflow_add-result c = omega (arith, capacity_small c.args.capacity c.if-capacity.false)

pub returns : goal.returns
returns c = bytes_told c.args.capacity c.if-capacity.false
