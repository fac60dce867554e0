-- `state::keys::reverse_stands` meets its contract. Assumes nothing.
use Rattle.state.specs.SlotTest.{front_fits, reversed_asked, reversed_told}
use Rattle.state.proofs.keys.reverse_stands.Goals as goal

pub front-requires : goal.front-requires
front-requires c = front_fits _ _ _ _ c.write_reversed-n.ensures

pub find-requires : goal.find-requires
find-requires c = let r = reversed_asked _ _ _ _ _ c.requires _ _ _ c.write_reversed-n.ensures _ c.front.ensures in record { capacity_in_bounds = r.0; indexed = r.1; no_key_twice = r.2; hash_value = r.3 }

pub returns : goal.returns
returns c = reversed_told _ _ _ _ _ c.requires _ _ _ c.write_reversed-n.ensures _ c.front.ensures _ _ c.find.ensures c.is_some.ensures
