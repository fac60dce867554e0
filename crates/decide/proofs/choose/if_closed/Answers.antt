-- `decide::choose::if_closed` meets its contract. Assumes nothing.
use Rattle.decide.proofs.Ways.{closed_there, closed_not}
use borrow.Author.Rules.{rules}
use Rattle.decide.proofs.choose.if_closed.Goals as goal

pub closed_at-requires : goal.closed_at-requires
closed_at-requires c = c.requires _ (search rules)

pub returns-then-closed_at : goal.returns-then-closed_at
returns-then-closed_at c = search (closed_there, rules)

pub returns-else-closed_at : goal.returns-else-closed_at
returns-else-closed_at c = search (closed_not, rules)
