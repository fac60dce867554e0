use Rattle.words.specs.WordLaws.{network_fits, icmp_fits, forward_fits, reverse_fits, record_made}
-- `words::words::record_of` meets its contract. Assumes nothing.
use borrow.Author.Rules.{rules}
use Rattle.words.proofs.words.record_of.Goals as goal

pub direction_at-requires : goal.direction_at-requires
direction_at-requires c = search (forward_fits, rules)

pub direction_at-requires-2 : goal.direction_at-requires-2
direction_at-requires-2 c = search (reverse_fits, rules)

pub network_at-requires : goal.network_at-requires
network_at-requires c = search (network_fits, rules)

pub opt_u16_at-requires : goal.opt_u16_at-requires
opt_u16_at-requires c = search (icmp_fits, rules)

pub returns : goal.returns
returns c = search (record_made, rules)
