use Rattle.braidpuddle_forms.proofs.FormAnswers.{number_value, number_stopped}
use borrow.Author.Rules.{rules}
use Rattle.braidpuddle_forms.proofs.form.braidpuddle_read_number.Goals as goal

pub returns-in-Ok : goal.returns-in-Ok
returns-in-Ok c = search (number_value, rules)

pub returns-in-Err : goal.returns-in-Err
returns-in-Err c = search (number_stopped, rules)
