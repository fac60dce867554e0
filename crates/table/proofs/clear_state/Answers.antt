-- `table::clear_state` meets its contract. Assumes nothing.
use Rattle.table.proofs.HeaderLaws.{clear_ends}
use borrow.Author.Rules.{rules}
use Rattle.table.proofs.clear_state.Goals as goal

pub returns : goal.returns
returns c = search (clear_ends, rules)
