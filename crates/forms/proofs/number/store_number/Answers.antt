use Rattle.std.proofs.Common.{arith}
use Rattle.forms.proofs.Writing.{writing_inside, writing_next, writing_last}
use Rattle.forms.proofs.number.store_number.Goals as goal

pub bounds-out-at : goal.bounds-out-at
bounds-out-at c = writing_inside c.loop-rest.invariant

pub loop-rest-preserved : goal.loop-rest-preserved
loop-rest-preserved c = writing_next c.loop-rest.invariant (omega arith)

pub bounds-out-at-2 : goal.bounds-out-at-2
bounds-out-at-2 c = writing_inside c.loop-rest.invariant

pub returns : goal.returns
returns c = writing_last c.loop-rest.invariant (omega arith) c.requires
