-- `braidpuddle_forms::facts::facts_from` meets its contract. Assumes nothing.
use Rattle.braidpuddle_forms.specs.FactLaws.{frame_fits, captured_fits, ttl_fits_lem, flags_fit, icmp_fits, dscp_fits, ecn_fits, facts_made}
use borrow.Author.Rules.{rules}
use Rattle.braidpuddle_forms.proofs.facts.facts_from.Goals as goal

pub overflow_cast-result : goal.overflow_cast-result
overflow_cast-result c = search (frame_fits, rules)

pub overflow_cast-result-2 : goal.overflow_cast-result-2
overflow_cast-result-2 c = search (captured_fits, rules)

pub opt_u8_at-requires : goal.opt_u8_at-requires
opt_u8_at-requires c = search (ttl_fits_lem, rules)

pub opt_u16_at-requires : goal.opt_u16_at-requires
opt_u16_at-requires c = search (flags_fit, rules)

pub opt_u16_at-requires-2 : goal.opt_u16_at-requires-2
opt_u16_at-requires-2 c = search (icmp_fits, rules)

pub opt_u8_at-requires-2 : goal.opt_u8_at-requires-2
opt_u8_at-requires-2 c = search (dscp_fits, rules)

pub opt_u8_at-requires-3 : goal.opt_u8_at-requires-3
opt_u8_at-requires-3 c = search (ecn_fits, rules)

pub returns : goal.returns
returns c = search (facts_made, rules)
