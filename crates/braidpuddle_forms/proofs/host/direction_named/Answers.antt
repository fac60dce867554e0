-- `braidpuddle_forms::host::direction_named` meets its contract. Assumes nothing.
use Rattle.braidpuddle_forms.proofs.HostAnswers.{reverse_named}
use borrow.Author.Rules.{rules}
use Rattle.braidpuddle_forms.proofs.host.direction_named.Goals as goal

pub returns-in_default : goal.returns-in_default
returns-in_default c = search (reverse_named, rules)
