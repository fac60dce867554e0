-- `decide::choose::choose` meets its contract. Assumes nothing.
use Rattle.decide.proofs.Choosing.{turned_sits, choice_told}
use Rattle.decide.proofs.Ways.{own_asked, key_asked, sits_in}
use Rattle.decide.proofs.choose.choose.Goals as goal

pub find_staying-own-requires : goal.find_staying-own-requires
find_staying-own-requires c = own_asked _ _ _ _ _ c.requires _ c.shard-hash.ensures

pub turned_if-turned-requires : goal.turned_if-turned-requires
turned_if-turned-requires c =
    let asked = key_asked _ _ _ _ _ c.requires _ c.shard-hash.ensures in
    record { search_asked = asked.0; key_in_range = asked.1 }

pub choice_of-requires : goal.choice_of-requires
choice_of-requires c = let size = c.requires.size in record { in_state = sits_in _ _ _ _ _ _ size c.find_staying-own.ensures.sits; in_state_2 = sits_in _ _ _ _ _ _ size (turned_sits _ _ _ _ _ _ _ _ c.turned_if-turned.ensures) }

pub returns : goal.returns
returns c = choice_told _ _ _ _ _ _ _ _ c.requires _ _ _ _ _ c.has_syn-syn.ensures c.has_reverse_direction-two_way.ensures c.find_staying-own.ensures c.is_some.ensures c.turned_if-turned.ensures _ c.choice_of.ensures
