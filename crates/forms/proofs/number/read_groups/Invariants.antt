use Prim.Native.Nat.{◌-◌}
use lib.ListN.{length}
use Rattle.forms.specs.Loop.{Reading}
use Rattle.forms.proofs.number.read_groups.Given as goal

abbrev pub invariant-loop-i : goal.invariant-loop-i
invariant-loop-i l = Reading l.s l.at l.most l.i l.least l.room l.scale l.value

abbrev pub decreases-loop-i : goal.decreases-loop-i
decreases-loop-i l = length l.s - l.i
