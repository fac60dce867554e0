-- `sweeps::sweep::hand_swept` meets its contract. Assumes nothing.
use Rattle.sweeps.specs.SweepLaws.{sweep_listed, sweep_asked, sweep_refused, sweep_hands, sweep_done}
use borrow.Author.Rules.{rules}
use Rattle.sweeps.proofs.sweep.hand_swept.Goals as goal

pub sizes_of-size-requires : goal.sizes_of-size-requires
sizes_of-size-requires c = search (sweep_listed, rules)

pub put_back-requires : goal.put_back-requires
put_back-requires c = search (sweep_asked, rules)

pub returns-then-out-size : goal.returns-then-out-size
returns-then-out-size c = search (sweep_refused, rules)

pub hand_out-bytes-requires : goal.hand_out-bytes-requires
hand_out-bytes-requires c = search (sweep_hands, rules)

pub returns : goal.returns
returns c =
    let small = c.well_formed.1.1.1.0 in
    sweep_done _ _ _ _ _ _ _ _ c.requires _ _ c.sizes_of-size.ensures c.if-out-size.false _ _ _ _ _ c.hand_out-bytes.ensures.handed c.hand_out-bytes.ensures.ready _ (search rules) (search (small, rules)) c.store_clock.ensures
