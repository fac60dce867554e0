use Prim.Native.Nat.{ℕ, ◌≤◌, ◌<◌}
use Rattle.queue.specs.Tree.{Lesser}
use Rattle.queue.proofs.is_sound.Given as goal

abbrev pub invariant-loop-k : goal.invariant-loop-k
invariant-loop-k l = (j : ℕ) → 1 ≤ j → j < l.k → Lesser l.tree j
