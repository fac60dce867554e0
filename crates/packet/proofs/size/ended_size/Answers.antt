-- `packet::size::ended_size` meets its contract. Assumes nothing.
use Rattle.packet.proofs.Sizes.{ended_measured, nothing_ended}
use borrow.Author.Rules.{rules}
use Rattle.packet.proofs.size.ended_size.Goals as goal

pub finished_at-requires : goal.finished_at-requires
finished_at-requires c = c.requires _ c.in-Some.is

pub returns-in-Some : goal.returns-in-Some
returns-in-Some c = search (ended_measured, rules)

pub returns-in-None : goal.returns-in-None
returns-in-None c = search (nothing_ended, rules)
