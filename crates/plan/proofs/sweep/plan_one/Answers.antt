-- `plan::sweep::plan_one` meets its contract. Assumes nothing.
use Rattle.plan.proofs.Turns.{place_within, one_place, one_back, one_out}
use borrow.Author.Rules.{rules}
use Rattle.plan.proofs.sweep.plan_one.Goals as goal

pub returns-then-due-real : goal.returns-then-due-real
returns-then-due-real c = search (one_back, rules)

pub place_for-k-requires : goal.place_for-k-requires
place_for-k-requires c = search (one_place, rules)

pub put_in-requires : goal.put_in-requires
put_in-requires c = record { n_in_bounds = search rules; k_le_n = search (place_within, rules) }

pub returns : goal.returns
returns c = search (one_out, rules)
