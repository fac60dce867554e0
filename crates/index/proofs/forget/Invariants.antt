use Rattle.index.specs.Index.{entry_of}
use Rattle.index.proofs.Shift.{Shifting}
use Rattle.index.proofs.forget.Given as goal

abbrev pub invariant-loop-place : goal.invariant-loop-place
invariant-loop-place l = Shifting l.initial.index (entry_of l.hash l.x) l.index l.hole l.place
