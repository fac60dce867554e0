-- `state::slot::record_is_sound` meets its contract. Assumes nothing.
use Rattle.state.specs.SlotTest.{slot_tested}
use Rattle.state.proofs.slot.record_is_sound.Goals as goal

pub returns : goal.returns
returns c = slot_tested _ _ _ c.load_record_words.ensures c.words_are_sound.ensures
