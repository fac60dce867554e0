-- `table::tree_is_sound` meets its contract. Assumes nothing.
use Rattle.table.proofs.Laws.{tree_told}
use borrow.Author.Rules.{rules}
use Rattle.table.proofs.tree_is_sound.Goals as goal

pub returns : goal.returns
returns c = search (tree_told, rules)
