-- `state::check::check_slot` meets its contract. Assumes nothing.
use Rattle.state.specs.Check.{slot_asks, check_goes, entry_damaged}
use Rattle.state.proofs.check.check_slot.Goals as goal

pub check_place-requires : goal.check_place-requires
check_place-requires c = slot_asks _ _ _ _ _ _ c.requires

pub returns-then-entry_is_sound : goal.returns-then-entry_is_sound
returns-then-entry_is_sound c = check_goes _ _ _ _ c.requires.low _ c.entry_is_sound.ensures _ _ _ _ c.requires.before c.if-entry_is_sound.true _ c.check_place.ensures

pub returns : goal.returns
returns c = entry_damaged _ _ _ _ c.requires.low _ c.entry_is_sound.ensures _ _ c.if-entry_is_sound.false
