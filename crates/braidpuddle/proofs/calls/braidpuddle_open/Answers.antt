use Rattle.braidpuddle.proofs.Answers.{says_opened, says_refused}
use borrow.Author.Rules.{rules}
use Rattle.braidpuddle.proofs.calls.braidpuddle_open.Goals as goal

pub returns-in-Ok : goal.returns-in-Ok
returns-in-Ok c = search (says_opened, rules)

pub returns-in-Err : goal.returns-in-Err
returns-in-Err c = search (says_refused, rules)
