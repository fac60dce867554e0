-- `act::settle::end_ended` meets its contract. Assumes nothing.
use Rattle.act.proofs.Leaving.{end_low, one_asked, end_acted, end_filled, none_acted, none_filled}
use borrow.Author.Rules.{rules}
use Rattle.act.proofs.settle.end_ended.Goals as goal

pub put_due-requires : goal.put_due-requires
put_due-requires c = record { capacity_in_bounds = search rules; i_lt_capacity = search (end_low, rules); sound = search rules }

pub hand_one-requires : goal.hand_one-requires
hand_one-requires c = search (one_asked, rules)

pub returns-in-Some : goal.returns-in-Some
returns-in-Some c = record { acted = search (end_acted, rules); filled = search (end_filled, rules) }

pub returns-in-None : goal.returns-in-None
returns-in-None c = record { acted = search (none_acted, rules); filled = search (none_filled, rules) }
