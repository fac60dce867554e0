-- `decide::choose::choose_plain` meets its contract. Assumes nothing.
use Rattle.decide.proofs.Choosing.{turned_sits}
use Rattle.decide.proofs.Ways.{sits_in}
use Rattle.decide.proofs.PlainKeys.{key_starts, key_ends, plain_own, plain_turned, plain_chosen}
use borrow.Author.Rules.{rules}
use Rattle.decide.proofs.choose.choose_plain.Goals as goal

pub slice_bounds-find_staying-count : goal.slice_bounds-find_staying-count
slice_bounds-find_staying-count c = search (key_starts, rules)

pub slice_bounds-find_staying-start : goal.slice_bounds-find_staying-start
slice_bounds-find_staying-start c = search (key_starts, rules)

pub slice_bounds-find_staying-end : goal.slice_bounds-find_staying-end
slice_bounds-find_staying-end c = search (key_ends, rules)

pub find_staying-own-requires : goal.find_staying-own-requires
find_staying-own-requires c = search (plain_own, rules)

pub turned_plain_if-turned-requires : goal.turned_plain_if-turned-requires
turned_plain_if-turned-requires c = search (plain_turned, rules)

pub choice_of-requires : goal.choice_of-requires
choice_of-requires c =
    let size = c.requires.size in
    let turned = turned_sits _ _ _ _ _ _ _ _ c.turned_plain_if-turned.ensures in
    record { in_state = sits_in _ _ _ _ _ _ size c.find_staying-own.ensures.sits; in_state_2 = sits_in _ _ _ _ _ _ size turned }

pub returns : goal.returns
returns c = search (plain_chosen, rules)
