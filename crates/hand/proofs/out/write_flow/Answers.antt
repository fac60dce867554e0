-- `hand::out::write_flow` meets its contract. Assumes nothing.
use Rattle.hand.proofs.Writing.{wrote_flow}
use borrow.Author.Rules.{rules}
use Rattle.hand.proofs.out.write_flow.Goals as goal

pub returns : goal.returns
returns c = search (wrote_flow, rules)
