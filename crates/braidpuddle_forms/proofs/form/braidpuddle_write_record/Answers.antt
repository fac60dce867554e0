use Rattle.braidpuddle_forms.proofs.FormAnswers.{record_fits, record_no_key, record_unfit, record_reported}
use borrow.Author.Rules.{rules}
use Rattle.braidpuddle_forms.proofs.form.braidpuddle_write_record.Goals as goal

pub returns-in_default : goal.returns-in_default
returns-in_default c = search (record_no_key, rules)

pub closed_record-requires : goal.closed_record-requires
closed_record-requires c = search (record_fits, rules)

pub returns-then-words_fit-reason : goal.returns-then-words_fit-reason
returns-then-words_fit-reason c = search (record_reported, rules)

pub returns : goal.returns
returns c = search (record_unfit, rules)
