-- `state::check::check_any` meets its contract. Assumes nothing.
use Rattle.state.specs.Check.{used_adding, no_key, no_record, key_checked}
use mathlib.Core.Path.{sym, ap, ◌∙◌}
use Rattle.state.proofs.check.check_any.Goals as goal

pub returns-in_default : goal.returns-in_default
returns-in_default c = no_key _ _ _ c.key_of.ensures _ (sym c.whole_key.ensures ∙ c.in_default.is)

pub add_key-requires : goal.add_key-requires
add_key-requires c = used_adding _ _ _ _ _ c.requires c.key_of.ensures (sym c.whole_key.ensures ∙ c.in-Some.is)

pub returns-then-record_is_sound : goal.returns-then-record_is_sound
returns-then-record_is_sound c = key_checked _ _ _ c.key_of.ensures _ _ (sym c.whole_key.ensures ∙ c.in-Some.is) _ c.record_is_sound.ensures c.if-record_is_sound.true _ _ c.add_key.ensures

pub returns : goal.returns
returns c = no_record _ _ _ c.key_of.ensures _ _ (sym c.whole_key.ensures ∙ c.in-Some.is) _ c.record_is_sound.ensures c.if-record_is_sound.false
