-- `hand::out::hand_one` meets its contract. Assumes nothing.
use Rattle.hand.proofs.Closing.{flow_there, record_fits, close_asked, one_wrote}
use borrow.Author.Rules.{rules}
use Rattle.hand.proofs.out.hand_one.Goals as goal

pub finished_at-flow-requires : goal.finished_at-flow-requires
finished_at-flow-requires c = search (flow_there, rules)

pub write_flow-n-requires : goal.write_flow-n-requires
write_flow-n-requires c = search (record_fits, rules)

pub close_slot-requires : goal.close_slot-requires
close_slot-requires c = search (close_asked, rules)

pub returns : goal.returns
returns c = search (one_wrote, rules)
