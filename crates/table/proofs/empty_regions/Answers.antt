-- `table::empty_regions` meets its contract. Assumes nothing.
use Rattle.table.proofs.Laws.{emptied_back}
use borrow.Author.Rules.{rules}
use Rattle.table.proofs.empty_regions.Goals as goal

pub returns : goal.returns
returns c = search (emptied_back, rules)
