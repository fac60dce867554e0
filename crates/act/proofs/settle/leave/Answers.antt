-- `act::settle::leave` meets its contract. Assumes nothing.
use Rattle.act.proofs.Leaving.{leave_low, leave_asked, leave_acted, stay_acted}
use borrow.Author.Rules.{rules}
use Rattle.act.proofs.settle.leave.Goals as goal

pub put_due-requires : goal.put_due-requires
put_due-requires c = record { capacity_in_bounds = search rules; i_lt_capacity = search (leave_low, rules); sound = search rules }

pub close_slot-requires : goal.close_slot-requires
close_slot-requires c = search (leave_asked, rules)

pub returns-in-Some : goal.returns-in-Some
returns-in-Some c = search (leave_acted, rules)

pub returns-in-None : goal.returns-in-None
returns-in-None c = search (stay_acted, rules)
