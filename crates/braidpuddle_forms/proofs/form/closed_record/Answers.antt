-- `braidpuddle_forms::form::closed_record` meets its contract. Assumes nothing.
use Rattle.braidpuddle_forms.proofs.FormAnswers.{closed_made}
use borrow.Author.Rules.{rules}
use Rattle.braidpuddle_forms.proofs.form.closed_record.Goals as goal

pub returns : goal.returns
returns c = search (closed_made, rules)
