-- `state::keys::write_reversed` meets its contract. Assumes nothing.
use Rattle.state.specs.SlotTest.{reversed_placed, reversed_written}
use borrow.Author.Rules.{rules}
use Rattle.state.proofs.keys.write_reversed.Goals as goal

pub returns-in-Some : goal.returns-in-Some
returns-in-Some c = search (reversed_placed, rules)

pub returns-in-None : goal.returns-in-None
returns-in-None c = search (reversed_written, rules)
