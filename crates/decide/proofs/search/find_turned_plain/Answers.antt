-- `decide::search::find_turned_plain` meets its contract. Assumes nothing.
use Rattle.decide.proofs.PlainKeys.{turned_starts, turned_fits, plain_turned_asked, plain_turned_told}
use borrow.Author.Rules.{rules}
use Rattle.decide.proofs.search.find_turned_plain.Goals as goal

pub overflow_sub-key : goal.overflow_sub-key
overflow_sub-key c = search (turned_starts, rules)

pub front-requires : goal.front-requires
front-requires c =
    turned_fits _ _ _ _ _ _ c.requires _ _ c.write_turned.ensures

pub find_staying-requires : goal.find_staying-requires
find_staying-requires c = search (plain_turned_asked, rules)

pub returns : goal.returns
returns c = search (plain_turned_told, rules)
