use mathlib.Core.Path.{◌≡◌}
use lib.ListN.{drop}
use Rattle.plan.specs.Steps.{before}
use Rattle.plan.proofs.order.bytes_before.Given as goal

abbrev pub invariant-loop-k : goal.invariant-loop-k
invariant-loop-k l = before l.a l.b ≡ before (drop l.k l.a) (drop l.k l.b)
