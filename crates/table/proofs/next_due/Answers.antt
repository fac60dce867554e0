-- `table::next_due` meets its contract. Assumes nothing.
use Rattle.table.proofs.Laws.{next_told}
use Rattle.table.proofs.next_due.Goals as goal

pub returns : goal.returns
returns c = next_told _ _ _ _ c.first_due.ensures
