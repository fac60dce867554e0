-- `state::check::plain_hash` meets its contract. Assumes nothing.
use Rattle.state.specs.SlotTest.{plain_spelt}
use native.Mathlib.Omega.{arith}
use mathlib.Core.Path.{sym, refl, ◌∙◌}
use Prim.Native.Nat.{◌+◌, ◌*◌}
use Rattle.state.proofs.check.plain_hash.Goals as goal

pub overflow_cast-state : goal.overflow_cast-state
overflow_cast-state c =
    omega (arith, c.shared_slice_known-1.given (256 + 624 * c.args.i + 1))

pub overflow_add-from-in-Some : goal.overflow_add-from-in-Some
overflow_add-from-in-Some c =
    omega (arith, c.shared_slice_known-1.given (256 + 624 * c.args.i + 1))

pub returns-then-key-from : goal.returns-then-key-from
returns-then-key-from c =
    plain_spelt _ _ _ _ c.requires (omega (arith, c.shared_slice_known-1.given (256 + 624 * c.args.i + 1))) refl
    (sym c.in-Some.is ∙ c.plain_at.ensures)
    c.if-key-from.true
