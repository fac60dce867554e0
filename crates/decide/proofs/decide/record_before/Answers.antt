-- `decide::decide::record_before` meets its contract. Assumes nothing.
use Rattle.decide.proofs.Settling.{has_record, before_slot, before_new}
use borrow.Author.Rules.{rules}
use Rattle.decide.proofs.decide.record_before.Goals as goal

pub record_at-requires : goal.record_at-requires
record_at-requires c = has_record _ _ (c.requires _ (search rules))

pub returns-in-Some : goal.returns-in-Some
returns-in-Some c = search (before_slot, rules)

pub returns-in-None : goal.returns-in-None
returns-in-None c = search (before_new, rules)
