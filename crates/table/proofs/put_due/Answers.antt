-- `table::put_due` meets its contract. Assumes nothing.
use Rattle.table.proofs.Laws.{due_back}
use borrow.Author.Rules.{rules}
use Rattle.table.proofs.put_due.Goals as goal

pub returns : goal.returns
returns c = search (due_back, rules)
