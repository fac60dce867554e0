use Rattle.hand.proofs.Hand.{Handing}
use Rattle.hand.proofs.out.hand_out.Given as goal

abbrev pub invariant-loop-slot : goal.invariant-loop-slot
invariant-loop-slot l = Handing l.capacity l.other l.initial.state l.leaving l.n l.initial.out l.state l.index l.free l.out l.used l.slot-index
