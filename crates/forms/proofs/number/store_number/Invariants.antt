use Rattle.forms.proofs.Writing.{Writing}
use Rattle.forms.proofs.number.store_number.Given as goal

abbrev pub invariant-loop-rest : goal.invariant-loop-rest
invariant-loop-rest l = Writing l.fn.at l.value l.fn.out l.at l.rest l.out

abbrev pub decreases-loop-rest : goal.decreases-loop-rest
decreases-loop-rest l = l.rest
