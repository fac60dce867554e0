-- `act::keep::keep` meets its contract. Assumes nothing.
use Rattle.words.specs.Kept.{length_words}
use Rattle.act.proofs.Keeping.{seat_asked, keep_low, entry_asked, keep_acted}
use borrow.Author.Rules.{rules}
use Rattle.act.proofs.keep.keep.Goals as goal

pub seat-i-requires : goal.seat-i-requires
seat-i-requires c = search (seat_asked, rules)

pub store_record_words-requires : goal.store_record_words-requires
store_record_words-requires c = record { capacity_in_bounds = search rules; i_lt_capacity = search (keep_low, rules); ws_len = search (length_words, rules) }

pub enter-requires : goal.enter-requires
enter-requires c = search (entry_asked, rules)

pub returns : goal.returns
returns c = search (keep_acted, rules)
