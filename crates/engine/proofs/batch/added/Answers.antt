-- `engine::batch::added` meets its contract. Assumes nothing.
use Rattle.engine.specs.FeedLoop.{sum_opened}
use native.Mathlib.Omega.{arith}
use Rattle.engine.proofs.batch.added.Goals as goal

pub overflow_add-result-2 : goal.overflow_add-result-2
overflow_add-result-2 c = omega (arith, sum_opened c.args.before.opened c.count_of.result c.args.taken.step.opened c.count_of.ensures c.requires.opened)

pub returns : goal.returns
returns c = simp c.count_of.ensures
