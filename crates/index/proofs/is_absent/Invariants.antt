use Prim.Native.Nat.{◌%◌}
use Rattle.index.proofs.Look.{Scanned}
use Rattle.index.proofs.is_absent.Given as goal

abbrev pub invariant-loop-place : goal.invariant-loop-place
invariant-loop-place l = Scanned l.index (l.hash % 524288) (l.hash % 8192) l.place
