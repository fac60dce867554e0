use Prim.Native.Nat.{◌-◌}
use Rattle.state.specs.Check.{Checking}
use Rattle.state.proofs.check.check_slots.Given as goal

abbrev pub invariant-loop-i : goal.invariant-loop-i
invariant-loop-i l = Checking l.state l.capacity l.timeout.0 l.initial.index l.initial.free l.index l.free l.i

abbrev pub decreases-loop-i : goal.decreases-loop-i
decreases-loop-i l = l.capacity - l.i
