-- `state::keys::front` meets its contract. Assumes nothing.
use mathlib.Core.Path.{◌≡◌}
use Prim.Native.Nat.{◌-◌}
use lib.ListN.{take}
use native.Mathlib.Omega.{arith}
use mathlib.Core.Path.{ap}
use Rattle.state.proofs.keys.front.Goals as goal

pub returns : goal.returns
returns c = let e : c.args.n - 0 ≡ c.args.n = omega arith in ap (λ n. take n c.args.bytes.now) e
