-- `braidpuddle_forms::host::braidpuddle_count` meets its contract. Assumes nothing.
use Rattle.braidpuddle_forms.specs.FactLaws.{facts_judged}
use Rattle.braidpuddle_forms.proofs.HostAnswers.{words_judged, count_unfit, count_packet, count_damaged, counted, count_refused}
use borrow.Author.Rules.{rules}
use Rattle.braidpuddle_forms.proofs.host.braidpuddle_count.Goals as goal

pub record_of-before-requires : goal.record_of-before-requires
record_of-before-requires c = search (words_judged, rules)

pub facts_from-facts-requires : goal.facts_from-facts-requires
facts_from-facts-requires c = search (facts_judged, rules)

pub returns-in-Ok : goal.returns-in-Ok
returns-in-Ok c = search (counted, rules)

pub returns-in-Err : goal.returns-in-Err
returns-in-Err c = search (count_refused, rules)

pub returns-then-sound_aside : goal.returns-then-sound_aside
returns-then-sound_aside c = search (count_packet, rules)

pub returns-then-words_fit : goal.returns-then-words_fit
returns-then-words_fit c = search (count_damaged, rules)

pub returns : goal.returns
returns c = search (count_unfit, rules)
