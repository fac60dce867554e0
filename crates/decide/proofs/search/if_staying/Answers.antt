-- `decide::search::if_staying` meets its contract. Assumes nothing.
use Rattle.decide.proofs.Staying.{staying_gone, staying_there}
use borrow.Author.Rules.{rules}
use Rattle.decide.proofs.search.if_staying.Goals as goal

pub leaves-requires : goal.leaves-requires
leaves-requires c = c.requires _ (search rules)

pub returns-then-leaves : goal.returns-then-leaves
returns-then-leaves c = search (staying_gone, rules)

pub returns-else-leaves : goal.returns-else-leaves
returns-else-leaves c = search (staying_there, rules)
