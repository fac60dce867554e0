use Rattle.hand.proofs.Sizes.{Summing}
use Rattle.hand.proofs.out.sizes_of.Given as goal

abbrev pub invariant-loop-slot : goal.invariant-loop-slot
invariant-loop-slot l = Summing l.capacity l.state l.leaving l.n l.other l.sum l.slot-index
