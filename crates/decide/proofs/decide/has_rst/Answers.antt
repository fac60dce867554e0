-- `decide::decide::has_rst` meets its contract. Assumes nothing.
use lib.Dec.{eqb}
use Prim.Native.Nat.{◌/◌, ◌%◌}
use mathlib.Core.Path.{ap}
use Rattle.decide.proofs.decide.has_rst.Goals as goal

pub returns : goal.returns
returns c = ap (λ m. eqb (m / 4 % 2) 1) c.mask_of.ensures
