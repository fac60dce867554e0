-- `hand::out::close_slot` meets its contract. Assumes nothing.
use Rattle.hand.proofs.Closing.{entry_there, slot_closed}
use borrow.Author.Rules.{rules}
use Rattle.hand.proofs.out.close_slot.Goals as goal

pub forget-requires : goal.forget-requires
forget-requires c = record { tight = search rules; x_bound = search rules; has = search (entry_there, rules) }

pub returns : goal.returns
returns c = search (slot_closed, rules)
