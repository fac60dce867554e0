use Rattle.braidpuddle_forms.proofs.FormAnswers.{number_reported}
use borrow.Author.Rules.{rules}
use Rattle.braidpuddle_forms.proofs.form.braidpuddle_write_number.Goals as goal

pub returns : goal.returns
returns c = number_reported _ _ _ _ _ _ c.write_lone_number.ensures c.report.ensures
