use Rattle.packet.proofs.Carrying.{carry_verdict, carry_performs, carried_taken, carry_puts, carried_refused}
use borrow.Author.Rules.{rules}
use Rattle.packet.proofs.perform.carry_out.Goals as goal

pub verdict-requires : goal.verdict-requires
verdict-requires c = search (carry_verdict, rules)

pub put_back-requires : goal.put_back-requires
put_back-requires c = carry_puts _ _ _ _ _ _ _ _ _ _ _ c.requires

pub returns-in-Some : goal.returns-in-Some
returns-in-Some c = search (carried_refused, rules)

pub perform-requires : goal.perform-requires
perform-requires c = carry_performs _ _ _ _ _ _ _ _ _ _ _ c.requires _ _ c.verdict.ensures c.in-None.is

pub returns-in-None : goal.returns-in-None
returns-in-None c = search (carried_taken, rules)
