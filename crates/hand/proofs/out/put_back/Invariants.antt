use Rattle.hand.proofs.Back.{Putting}
use Rattle.hand.proofs.out.put_back.Given as goal

abbrev pub invariant-loop-slot : goal.invariant-loop-slot
invariant-loop-slot l = Putting l.capacity l.timeout l.initial.state l.leaving l.n l.state l.slot-index
