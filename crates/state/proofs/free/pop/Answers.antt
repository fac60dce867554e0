-- `state::free::pop` meets its contract. Assumes nothing.
use lib.ListN.{get_or}
use native.Mathlib.Omega.{arith}
use Rattle.state.proofs.free.pop.Goals as goal

pub overflow_cast-i : goal.overflow_cast-i
overflow_cast-i c = omega (arith, c.slice_known-2-1.given (get_or c.args.free.now 0 0))
