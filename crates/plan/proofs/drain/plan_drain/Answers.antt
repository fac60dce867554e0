-- `plan::drain::plan_drain` meets its contract. Assumes nothing.
use Rattle.plan.proofs.Draining.{gather_begins, gather_asks, gather_goes, gather_ends}
use borrow.Author.Rules.{rules}
use Rattle.plan.proofs.drain.plan_drain.Goals as goal

pub loop-i-init : goal.loop-i-init
loop-i-init c = search (gather_begins, rules)

pub gather_one-n-requires : goal.gather_one-n-requires
gather_one-n-requires c = search (gather_asks, rules)

pub loop-i-preserved : goal.loop-i-preserved
loop-i-preserved c = search (gather_goes, rules)

pub returns : goal.returns
returns c = search (gather_ends, rules)
