-- `braidpuddle_forms::keys::braidpuddle_ip_version` meets its contract. Assumes nothing.
use Rattle.braidpuddle_forms.proofs.KeyAnswers.{asked_none, asked_absent, asked_present}
use borrow.Author.Rules.{rules}
use Rattle.braidpuddle_forms.proofs.keys.braidpuddle_ip_version.Goals as goal

pub returns-in_default : goal.returns-in_default
returns-in_default c = search (asked_none, rules)

pub returns-in-None : goal.returns-in-None
returns-in-None c = search (asked_absent, rules)

pub returns-in-Some-ip_version : goal.returns-in-Some-ip_version
returns-in-Some-ip_version c = search (asked_present, rules)
