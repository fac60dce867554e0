use Rattle.braidpuddle_forms.proofs.KeyAnswers.{made_none, made_reported}
use borrow.Author.Rules.{rules}
use Rattle.braidpuddle_forms.proofs.keys.braidpuddle_reversed.Goals as goal

pub returns-in_default : goal.returns-in_default
returns-in_default c = search (made_none, rules)

pub returns : goal.returns
returns c = search (made_reported, rules)
