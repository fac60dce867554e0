-- `decide::decide::settle` meets its contract. Assumes nothing.
use Rattle.decide.proofs.Settling.{room_unless, settled}
use Rattle.decide.proofs.decide.settle.Goals as goal

pub record_after-requires : goal.record_after-requires
record_after-requires c = let a = c.args in room_unless a.state.now a.room a.choice.ended a.choice.slot a.resolution a.packet c.requires c.record_before-before.ensures c.has_room.ensures c.refusal_of-refusal.ensures

pub returns : goal.returns
returns c = let a = c.args in settled a.state.now a.room a.resolution a.packet a.choice c.record_before-before.ensures c.has_rst.ensures c.both_fins.ensures c.ending.ensures c.has_room.ensures c.refusal_of-refusal.ensures c.name_of.ensures c.record_after.ensures
