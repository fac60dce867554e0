-- `sweeps::drain::hand_drained` meets its contract. Assumes nothing.
use Rattle.sweeps.specs.DrainLaws.{drain_listed, drain_refused, drain_hands, drain_done}
use borrow.Author.Rules.{rules}
use Rattle.sweeps.proofs.drain.hand_drained.Goals as goal

pub sizes_of-size-requires : goal.sizes_of-size-requires
sizes_of-size-requires c = search (drain_listed, rules)

pub returns-then-out-size : goal.returns-then-out-size
returns-then-out-size c = search (drain_refused, rules)

pub hand_out-bytes-requires : goal.hand_out-bytes-requires
hand_out-bytes-requires c =
    drain_hands _ _ _ _ _ _ c.requires _ _ c.sizes_of-size.ensures c.if-out-size.false _ (search rules) c.clear_queue.ensures

pub returns : goal.returns
returns c =
    drain_done _ _ _ _ _ _ c.requires _ _ c.sizes_of-size.ensures c.if-out-size.false _ (search rules) c.clear_queue.ensures _ _ _ _ _ c.hand_out-bytes.ensures.handed c.hand_out-bytes.ensures.ready (search rules)
