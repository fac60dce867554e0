use Rattle.braidpuddle_forms.proofs.FormAnswers.{record_inside, record_value, record_stopped}
use borrow.Author.Rules.{rules}
use Rattle.braidpuddle_forms.proofs.form.braidpuddle_read_record.Goals as goal

pub overflow_sub-begins : goal.overflow_sub-begins
overflow_sub-begins c = search (record_inside, rules)

pub returns-in-Ok : goal.returns-in-Ok
returns-in-Ok c = search (record_value, rules)

pub returns-in-Err : goal.returns-in-Err
returns-in-Err c = search (record_stopped, rules)
