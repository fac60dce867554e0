use Rattle.queue.specs.Turns.{turns}
use Rattle.queue.proofs.Laws.{Climb}
use Rattle.queue.proofs.set_due.Given as goal

abbrev pub invariant-loop-k : goal.invariant-loop-k
invariant-loop-k l = Climb l.initial.tree l.capacity l.k l.tree

abbrev pub decreases-loop-k : goal.decreases-loop-k
decreases-loop-k l = turns l.k
