-- `decide::search::find_staying` meets its contract. Assumes nothing.
use Rattle.decide.proofs.Staying.{found_in, staying_told}
use borrow.Author.Rules.{rules}
use Rattle.decide.proofs.search.find_staying.Goals as goal

pub if_staying-requires : goal.if_staying-requires
if_staying-requires c = search (found_in, rules)

pub returns : goal.returns
returns c = search (staying_told, rules)
