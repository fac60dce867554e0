-- `state::keys::key_stands` meets its contract. Assumes nothing.
use Rattle.state.specs.SlotTest.{own_asked, own_told, own_stands, reverse_told, one_way_told}
use Rattle.state.proofs.keys.key_stands.Goals as goal

pub find-requires : goal.find-requires
find-requires c = let r = own_asked _ _ _ _ _ c.requires.searched _ c.requires.key_value c.key_of.ensures in record { capacity_in_bounds = r.0; indexed = r.1; no_key_twice = r.2; hash_value = r.3 }

pub returns-then-is_some : goal.returns-then-is_some
returns-then-is_some c = own_stands _ _ _ _ (own_told _ _ _ _ _ c.requires.searched _ c.requires.key_value c.key_of.ensures _ _ c.find.ensures c.is_some.ensures) c.requires.searched.in_range c.if-is_some.true

pub returns-then-has_reverse_direction : goal.returns-then-has_reverse_direction
returns-then-has_reverse_direction c = reverse_told _ _ _ _ (own_told _ _ _ _ _ c.requires.searched _ c.requires.key_value c.key_of.ensures _ _ c.find.ensures c.is_some.ensures) c.requires.searched.in_range c.if-is_some.false _ _ c.has_reverse_direction.ensures c.if-has_reverse_direction.true c.reverse_stands.ensures

pub returns : goal.returns
returns c = one_way_told _ _ _ _ (own_told _ _ _ _ _ c.requires.searched _ c.requires.key_value c.key_of.ensures _ _ c.find.ensures c.is_some.ensures) c.requires.searched.in_range c.if-is_some.false _ c.has_reverse_direction.ensures c.if-has_reverse_direction.false
