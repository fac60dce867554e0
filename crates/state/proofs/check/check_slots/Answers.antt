-- `state::check::check_slots` meets its contract. Assumes nothing.
use borrow.Author.Rules.{rules}
use mathlib.Core.Path.{◌∙◌}
use Rattle.state.specs.Check.{checking_begins, checking_asks, checking_goes, checking_stops, checking_ends}
use Rattle.state.proofs.check.check_slots.Goals as goal

pub loop-i-init : goal.loop-i-init
loop-i-init c = checking_begins _ _ _ _ _ c.requires

pub check_slot-requires : goal.check_slot-requires
check_slot-requires c = checking_asks _ _ _ _ _ c.requires _ _ _ c.loop-i.invariant (search rules)

pub loop-i-preserved : goal.loop-i-preserved
loop-i-preserved c = checking_goes _ _ _ _ _ c.requires _ _ _ c.loop-i.invariant (search rules) _ _ _ c.check_slot.auto.index c.check_slot.auto.free c.if-check_slot.true c.check_slot.ensures

pub shape_of-index-in-loop-i : goal.shape_of-index-in-loop-i
shape_of-index-in-loop-i c = c.check_slot.auto.index ∙ c.loop-i.invariant.index_long

pub shape_of-free-in-loop-i : goal.shape_of-free-in-loop-i
shape_of-free-in-loop-i c = c.check_slot.auto.free ∙ c.loop-i.invariant.free_long

pub returns-in-loop-i : goal.returns-in-loop-i
returns-in-loop-i c = checking_stops _ _ _ _ _ c.requires _ _ _ c.loop-i.invariant (search rules) _ _ _ c.if-check_slot.false c.check_slot.ensures

pub shape_of-index : goal.shape_of-index
shape_of-index c = c.loop-i.invariant.index_long

pub shape_of-free : goal.shape_of-free
shape_of-free c = c.loop-i.invariant.free_long

pub returns : goal.returns
returns c = checking_ends _ _ _ _ _ c.requires _ _ _ c.loop-i.invariant (search rules)
