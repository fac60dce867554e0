use Rattle.index.proofs.Look.{Sought}
use Rattle.index.proofs.place_of.Given as goal

abbrev pub invariant-loop-place : goal.invariant-loop-place
invariant-loop-place l = Sought l.index l.from l.entry l.place
