use Rattle.table.specs.View.{view}
use Rattle.plan.proofs.Planning.{to_do}
use Rattle.plan.proofs.Sweeping.{Looping}
use Rattle.plan.proofs.sweep.plan_sweep.Given as goal

abbrev pub invariant-loop-next : goal.invariant-loop-next
invariant-loop-next l = Looping l.capacity l.timeout l.limit l.initial.state l.initial.leaving l.state l.leaving l.n l.next

abbrev pub decreases-loop-next : goal.decreases-loop-next
decreases-loop-next l = to_do l.capacity l.timeout l.limit (view l.capacity l.initial.state).table (view l.capacity l.state).tree
