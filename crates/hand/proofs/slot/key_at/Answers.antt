use Rattle.hand.proofs.SlotLaws.{key_value, key_stopped}
use borrow.Author.Rules.{rules}
use Rattle.hand.proofs.slot.key_at.Goals as goal

pub returns-in-Ok : goal.returns-in-Ok
returns-in-Ok c = search (key_value, rules)

pub returns-in-Err : goal.returns-in-Err
returns-in-Err c = search (key_stopped, rules)
