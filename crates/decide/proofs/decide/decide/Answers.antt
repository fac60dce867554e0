-- `decide::decide::decide` meets its contract. Assumes nothing.
use Rattle.decide.proofs.Deciding.{settle_asked, decided}
use Rattle.decide.proofs.decide.decide.Goals as goal

pub settle-requires : goal.settle-requires
settle-requires c = settle_asked _ _ _ _ _ _ _ _ _ c.requires.decide_asked c.requires.room_len c.choose-choice.ensures

pub returns : goal.returns
returns c = decided _ _ _ _ _ _ _ c.choose-choice.ensures c.requires.decide_asked.flows c.requires.decide_asked.in_range c.requires.room_len c.settle.ensures
