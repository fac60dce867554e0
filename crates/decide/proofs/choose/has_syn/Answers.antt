-- `decide::choose::has_syn` meets its contract. Assumes nothing.
use lib.Dec.{eqb}
use Prim.Native.Nat.{◌/◌, ◌%◌}
use mathlib.Core.Path.{ap}
use Rattle.decide.proofs.choose.has_syn.Goals as goal

pub returns : goal.returns
returns c = ap (λ m. eqb (m / 2 % 2) 1) c.mask_of.ensures
