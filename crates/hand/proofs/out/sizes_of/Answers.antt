-- `hand::out::sizes_of` meets its contract. Assumes nothing.
use Rattle.hand.proofs.Sizes.{sum_begins, sum_flow, sum_goes, sum_ends}
use borrow.Author.Rules.{rules}
use Rattle.hand.proofs.out.sizes_of.Goals as goal

pub loop-slot-init : goal.loop-slot-init
loop-slot-init c = search (sum_begins, rules)

pub finished_at-requires : goal.finished_at-requires
finished_at-requires c = search (sum_flow, rules)

pub loop-slot-preserved : goal.loop-slot-preserved
loop-slot-preserved c = search (sum_goes, rules)

pub returns : goal.returns
returns c = search (sum_ends, rules)
