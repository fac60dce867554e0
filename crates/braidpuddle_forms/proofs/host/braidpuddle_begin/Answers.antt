-- `braidpuddle_forms::host::braidpuddle_begin` meets its contract. Assumes nothing.
use Rattle.braidpuddle_forms.proofs.HostAnswers.{begin_fits, begin_unfit, begin_record, begin_refused, protocol_fits}
use borrow.Author.Rules.{rules}
use Rattle.braidpuddle_forms.proofs.host.braidpuddle_begin.Goals as goal

pub facts_from-facts-requires : goal.facts_from-facts-requires
facts_from-facts-requires c = search (begin_fits, rules)

pub overflow_cast-protocol : goal.overflow_cast-protocol
overflow_cast-protocol c = search (protocol_fits, rules)

pub returns-in-Ok : goal.returns-in-Ok
returns-in-Ok c = search (begin_record, rules)

pub returns-in-Err : goal.returns-in-Err
returns-in-Err c = search (begin_refused, rules)

pub returns : goal.returns
returns c = search (begin_unfit, rules)
