use mathlib.Core.Path.{◌≡◌}
use Prim.Native.Nat.{◌*◌, ◌-◌, ◌≤◌, ◌<◌}
use Rattle.queue.specs.Tree.{node}
use Rattle.queue.specs.Turns.{turns}
use Rattle.queue.proofs.first_due.Given as goal

abbrev pub invariant-loop-k : goal.invariant-loop-k
invariant-loop-k l = (1 ≤ l.k) × (l.k < 2 * l.capacity) × (node l.tree l.k ≡ l.least)

abbrev pub decreases-loop-k : goal.decreases-loop-k
decreases-loop-k l = turns (2 * l.capacity) - turns l.k
