-- `plan::drain::gather_one` meets its contract. Assumes nothing.
use Rattle.plan.proofs.Turns.{place_within, one_free, one_used}
use borrow.Author.Rules.{rules}
use Rattle.plan.proofs.drain.gather_one.Goals as goal

pub returns-then-state-i-ne-USED : goal.returns-then-state-i-ne-USED
returns-then-state-i-ne-USED c = search (one_free, rules)

pub put_in-requires : goal.put_in-requires
put_in-requires c = search (place_within, rules)

pub returns : goal.returns
returns c = search (one_used, rules)
