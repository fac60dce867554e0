-- `act::settle::settle` meets its contract. Assumes nothing.
use Rattle.act.proofs.Leaving.{keep_asked, settled_kept, kept_filled, leaves_asked, settled_left, flow_fits, left_filled}
use borrow.Author.Rules.{rules}
use Rattle.act.proofs.settle.settle.Goals as goal

pub keep-requires : goal.keep-requires
keep-requires c = search (keep_asked, rules)

pub write_flow-n-requires : goal.write_flow-n-requires
write_flow-n-requires c = search (flow_fits, rules)

pub leave-requires : goal.leave-requires
leave-requires c = search (leaves_asked, rules)

pub returns-in-None : goal.returns-in-None
returns-in-None c = record { acted = search (settled_kept, rules); filled = search (kept_filled, rules) }

pub shape_of-out : goal.shape_of-out
shape_of-out c = search rules

-- what was asked, and why the flow ends, lie too far back for a search

pub returns-in-Some : goal.returns-in-Some
returns-in-Some c =
    let asked = c.requires in
    let ends = c.in-Some.is in
    record { acted = search (settled_left, rules); filled = search (left_filled, rules) }
