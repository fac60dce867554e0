use mathlib.Core.Path.{◌≡◌}
use Prim.Native.Nat.{◌%◌}
use Rattle.index.proofs.Look.{Looked}
use Rattle.index.proofs.insert.Given as goal

abbrev pub invariant-loop-place : goal.invariant-loop-place
invariant-loop-place l = (l.index ≡ l.initial.index) × Looked l.initial.index (l.hash % 8192) l.place
