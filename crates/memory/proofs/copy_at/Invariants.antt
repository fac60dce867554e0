use mathlib.Core.Path.{◌≡◌}
use lib.ListN.{length}
use Rattle.memory.proofs.Laws.{Copied}
use Rattle.memory.proofs.copy_at.Given as goal

abbrev pub invariant-loop-k : goal.invariant-loop-k
invariant-loop-k l = (l.k-end ≡ length l.src) × Copied l.initial.dst l.at l.src l.k l.dst
