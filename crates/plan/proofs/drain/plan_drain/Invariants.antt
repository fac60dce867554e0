use mathlib.Core.Path.{◌≡◌}
use lib.ListN.{length, take}
use Rattle.plan.proofs.Draining.{Gathering}
use Rattle.plan.proofs.drain.plan_drain.Given as goal

abbrev pub invariant-loop-i : goal.invariant-loop-i
invariant-loop-i l = (length l.leaving ≡ length l.initial.leaving) × Gathering l.capacity l.state (take l.n l.leaving) l.n l.i
