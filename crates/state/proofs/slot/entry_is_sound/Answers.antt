-- `state::slot::entry_is_sound` meets its contract. Assumes nothing.
use Rattle.state.specs.SlotTest.{still_told, free_told, used_told}
use borrow.Author.Rules.{rules}
use Rattle.state.proofs.slot.entry_is_sound.Goals as goal

pub returns-then-timeout-eq0 : goal.returns-then-timeout-eq0
returns-then-timeout-eq0 c = search (still_told, rules)

pub returns-then-state-i-ne1 : goal.returns-then-state-i-ne1
returns-then-state-i-ne1 c = search (free_told, rules)

pub returns : goal.returns
returns c = search (used_told, rules)
