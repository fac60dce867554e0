-- A state whose tree has all its bytes is long enough. Assumes nothing.
use Rattle.std.specs.Prelude.{ℕ, ◌+◌, ◌*◌, ◌≤◌, ◌<◌, ◌≡◌, List, length, drop}
use Rattle.std.proofs.Common.{arith, length-take, length-drop}
use Rattle.memory.specs.Bytes.{part}
use Rattle.table.specs.View.{view}

pub long_enough : (s : List ℕ) (c : ℕ) → 0 < c → length (view c s).tree ≡ 16 * c → 256 + 640 * c ≤ length s
unfolding part
long_enough s c some whole =
    omega (arith, length-take (16 * c) (drop (256 + 624 * c) s), length-drop (256 + 624 * c) s)
