use Rattle.plan.proofs.Sweeping.{loop_begins, loop_asks, loop_sound, loop_goes, loop_falls, loop_ends}
use borrow.Author.Rules.{rules}
use Rattle.plan.proofs.sweep.plan_sweep.Goals as goal

pub loop-next-init : goal.loop-next-init
loop-next-init c = search (loop_begins, rules)

pub plan_one-n-requires : goal.plan_one-n-requires
plan_one-n-requires c = search (loop_asks, rules)

pub next_due-next-requires-in-Some-clause-sound : goal.next_due-next-requires-in-Some-clause-sound
next_due-next-requires-in-Some-clause-sound c = loop_sound _ _ _ _ _ c.requires _ _ _ _ c.loop-next.invariant _ c.in-Some.is _ _ _ c.plan_one-n.ensures

pub loop-next-smaller : goal.loop-next-smaller
loop-next-smaller c = search (loop_falls, rules)

pub loop-next-preserved : goal.loop-next-preserved
loop-next-preserved c = search (loop_goes, rules)

pub returns : goal.returns
returns c = search (loop_ends, rules)
