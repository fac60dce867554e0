use borrow.Author.Rules.{rules}
use Rattle.decide.proofs.Settling.{after_counted, after_kept}
use Rattle.decide.proofs.decide.record_after.Goals as goal

pub counted_on-requires : goal.counted_on-requires
counted_on-requires c = c.requires (rw c.in-None.is)

pub returns-in-None : goal.returns-in-None
returns-in-None c = search (after_counted, rules)

pub returns-in-Some : goal.returns-in-Some
returns-in-Some c = search (after_kept, rules)
