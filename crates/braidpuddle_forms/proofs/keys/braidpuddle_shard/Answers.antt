-- `braidpuddle_forms::keys::braidpuddle_shard` meets its contract. Assumes nothing.
use Rattle.braidpuddle_forms.proofs.KeyAnswers.{asked_none, asked_key}
use borrow.Author.Rules.{rules}
use Rattle.braidpuddle_forms.proofs.keys.braidpuddle_shard.Goals as goal

pub returns-in_default : goal.returns-in_default
returns-in_default c = search (asked_none, rules)

pub returns : goal.returns
returns c = search (asked_key, rules)
