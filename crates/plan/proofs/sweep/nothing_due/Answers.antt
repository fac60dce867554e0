-- `plan::sweep::nothing_due` meets its contract. Assumes nothing.
use Rattle.plan.proofs.Clock.{none_due, next_tells}
use borrow.Author.Rules.{rules}
use Rattle.plan.proofs.sweep.nothing_due.Goals as goal

pub returns-then-idle-eq0 : goal.returns-then-idle-eq0
returns-then-idle-eq0 c = none_due _ _ _ _ _ c.then-idle-eq0.either

pub returns : goal.returns
returns c = search (next_tells, rules)
