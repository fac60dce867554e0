-- `hand::slot::finished_at` meets its contract. Assumes nothing.
use Rattle.hand.proofs.SlotLaws.{finished_slot}
use borrow.Author.Rules.{rules}
use Rattle.hand.proofs.slot.finished_at.Goals as goal

pub returns : goal.returns
returns c = search (finished_slot, rules)
