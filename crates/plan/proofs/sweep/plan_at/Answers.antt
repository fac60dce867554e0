-- `plan::sweep::plan_at` meets its contract. Assumes nothing.
use Rattle.plan.proofs.Clock.{none_leaves, by_limit, by_clock}
use borrow.Author.Rules.{rules}
use Rattle.plan.proofs.sweep.plan_at.Goals as goal

pub returns-then-idle-eq0 : goal.returns-then-idle-eq0
returns-then-idle-eq0 c = none_leaves _ _ _ _ _ _ c.requires c.then-idle-eq0.either

pub plan_sweep-requires : goal.plan_sweep-requires
plan_sweep-requires c = by_limit _ _ _ _ _ _ c.requires c.if-idle-eq0.false c.if-clock-idle.false (search rules)

pub returns : goal.returns
returns c = search (by_clock, rules)
