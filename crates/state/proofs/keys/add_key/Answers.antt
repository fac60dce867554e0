-- `state::keys::add_key` meets its contract. Assumes nothing.
use Rattle.state.specs.SlotTest.{adding_searched, adding_room, added_absent, added_not, added_behind}
use Rattle.state.proofs.keys.add_key.Goals as goal

pub insert-requires : goal.insert-requires
insert-requires c = let r = adding_room _ _ _ _ c.requires _ c.shard-hash.ensures in record { index_len = r.0; index_bound = r.1; i_bound = r.2 }

pub returns-then-is_absent : goal.returns-then-is_absent
returns-then-is_absent c = added_absent _ _ _ _ c.requires _ c.shard-hash.ensures _ c.is_absent.ensures c.if-is_absent.true _ c.insert.ensures

pub key_stands-requires : goal.key_stands-requires
key_stands-requires c = record { searched = adding_searched _ _ _ _ c.requires _ c.shard-hash.ensures; key_value = c.requires.own; i_in_bounds = c.requires.slot_size }

pub returns-then-key_stands : goal.returns-then-key_stands
returns-then-key_stands c = added_not _ _ _ _ c.requires _ c.shard-hash.ensures _ c.key_stands.ensures c.if-key_stands.true

pub insert-requires-2 : goal.insert-requires-2
insert-requires-2 c = let r = adding_room _ _ _ _ c.requires _ c.shard-hash.ensures in record { index_len = r.0; index_bound = r.1; i_bound = r.2 }

pub returns : goal.returns
returns c = added_behind _ _ _ _ c.requires _ c.shard-hash.ensures _ c.key_stands.ensures c.if-key_stands.false _ c.insert-2.ensures
