use Rattle.braidpuddle_forms.specs.FactLaws.{facts_judged}
use Rattle.braidpuddle_forms.proofs.FormAnswers.{packet_no_key, packet_unfit, packet_reported}
use borrow.Author.Rules.{rules}
use Rattle.braidpuddle_forms.proofs.form.braidpuddle_write_packet.Goals as goal

pub returns-in_default : goal.returns-in_default
returns-in_default c = search (packet_no_key, rules)

pub facts_from-facts-requires : goal.facts_from-facts-requires
facts_from-facts-requires c = search (facts_judged, rules)

pub returns-then-not-facts_fit : goal.returns-then-not-facts_fit
returns-then-not-facts_fit c = search (packet_unfit, rules)

pub returns : goal.returns
returns c = search (packet_reported, rules)
