-- `state::check::check` meets its contract. Assumes nothing.
use mathlib.Core.Path.{refl}
use Rattle.state.specs.Check.{too_short, header_damaged, header_good, tree_damaged, checked_all, slots_asked}
use borrow.Author.Rules.{rules}
use Rattle.state.proofs.check.check.Goals as goal

pub returns-then-state-lt256 : goal.returns-then-state-lt256
returns-then-state-lt256 c = too_short _ _ _ (search rules)

pub tree_is_sound-requires : goal.tree_is_sound-requires
tree_is_sound-requires c = let g = header_good _ _ c.load_header-header.ensures _ c.header_is_sound.ensures (search rules) c.if-header_is_sound.true in g.long

pub check_slots-requires : goal.check_slots-requires
check_slots-requires c = slots_asked _ _ _ _ _ (header_good _ _ c.load_header-header.ensures _ c.header_is_sound.ensures (search rules) c.if-header_is_sound.true) refl c.requires

pub returns-then-tree_is_sound : goal.returns-then-tree_is_sound
returns-then-tree_is_sound c = checked_all _ _ c.load_header-header.ensures _ c.header_is_sound.ensures (search rules) c.if-header_is_sound.true _ refl _ c.tree_is_sound.ensures c.if-tree_is_sound.true _ _ _ c.check_slots.ensures

pub returns-else-tree_is_sound : goal.returns-else-tree_is_sound
returns-else-tree_is_sound c = tree_damaged _ _ c.load_header-header.ensures _ c.header_is_sound.ensures (search rules) c.if-header_is_sound.true _ refl _ c.tree_is_sound.ensures _ _ c.if-tree_is_sound.false

pub returns-else-header_is_sound : goal.returns-else-header_is_sound
returns-else-header_is_sound c = header_damaged _ _ c.load_header-header.ensures _ c.header_is_sound.ensures _ _ c.if-header_is_sound.false
