-- `words::words::words_of` meets its contract. Assumes nothing.
use Rattle.words.specs.WordLaws.{words_made}
use borrow.Author.Rules.{rules}
use Rattle.words.proofs.words.words_of.Goals as goal

pub returns : goal.returns
returns c = search (words_made, rules)
