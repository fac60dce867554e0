use Prim.Native.Nat.{◌≤◌, ◌-◌}
use Rattle.forms.specs.Raw.{RawAt}
use Rattle.forms.proofs.raw.raw_at.Given as goal

abbrev pub invariant-loop-i : goal.invariant-loop-i
invariant-loop-i l = (1 ≤ l.i) × (l.i ≤ l.n) × RawAt l.s l.at l.i l.value

abbrev pub decreases-loop-i : goal.decreases-loop-i
decreases-loop-i l = l.n - l.i
