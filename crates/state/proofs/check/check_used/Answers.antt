-- `state::check::check_used` meets its contract. Assumes nothing.
use Rattle.state.specs.SlotTest.{hash_told}
use mathlib.Core.Path.{sym, ◌∙◌}
use Rattle.state.proofs.check.check_used.Goals as goal

pub check_new-requires : goal.check_new-requires
check_new-requires c =
    let own = hash_told _ _ _ c.plain_hash.ensures c.in-Some.is in
    let absent = sym c.is_absent.ensures ∙ c.if-is_absent.true in
    record { used_asked = c.requires; hash_spelt = own; hash_value = absent }
