-- `hand::out::put_back` meets its contract. Assumes nothing.
use Rattle.hand.proofs.Back.{back_begins, back_low, back_fits, back_goes, back_ends}
use borrow.Author.Rules.{rules}
use Rattle.hand.proofs.out.put_back.Goals as goal

pub loop-slot-init : goal.loop-slot-init
loop-slot-init c = search (back_begins, rules)

pub real_due-due-requires : goal.real_due-due-requires
real_due-due-requires c = search (back_fits, rules)

pub put_due-requires : goal.put_due-requires
put_due-requires c = search (back_low, rules)

pub loop-slot-preserved : goal.loop-slot-preserved
loop-slot-preserved c = search (back_goes, rules)

pub returns : goal.returns
returns c = search (back_ends, rules)
