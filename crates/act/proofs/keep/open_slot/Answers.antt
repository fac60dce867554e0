-- `act::keep::open_slot` meets its contract. Assumes nothing.
use Rattle.act.proofs.Opening.{open_low, index_low, open_short, index_room, slot_opened}
use borrow.Author.Rules.{rules}
use Rattle.act.proofs.keep.open_slot.Goals as goal

pub put_key-requires : goal.put_key-requires
put_key-requires c = record { capacity_in_bounds = search rules; i_lt_capacity = search (open_low, rules); key_len_bound = search (open_short, rules) }

pub insert-requires : goal.insert-requires
insert-requires c = record { index_len = search rules; index_bound = search (index_room, rules); i_bound = search (index_low, rules) }

pub returns : goal.returns
returns c = search (slot_opened, rules)
