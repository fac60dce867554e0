-- `table::clear_queue` meets its contract. Assumes nothing.
use Rattle.table.proofs.QueueLaws.{cleared_back}
use borrow.Author.Rules.{rules}
use Rattle.table.proofs.clear_queue.Goals as goal

pub returns : goal.returns
returns c = search (cleared_back, rules)
