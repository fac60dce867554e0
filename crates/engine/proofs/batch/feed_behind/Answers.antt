-- `engine::batch::feed_behind` meets its contract. Assumes nothing.
use Rattle.forms.specs.Refusals.{stop_number}
use Rattle.engine.specs.declared.batch.Taken.{Taken}
use Rattle.engine.specs.FeedOne.{key_starts, key_ends, one_asked, one_fed, one_key_stopped}
use mathlib.Core.Path.{refl, ap}
use Rattle.engine.proofs.batch.feed_behind.Goals as goal

pub slice_bounds-one_packet-count : goal.slice_bounds-one_packet-count
slice_bounds-one_packet-count c =
    key_starts _ _ _ _ _ _ _ _ _ c.requires.one_asked _ _ c.requires.at_value _ c.read_key_at.ensures _ _ c.in-Ok.is

pub slice_bounds-one_packet-start : goal.slice_bounds-one_packet-start
slice_bounds-one_packet-start c =
    key_starts _ _ _ _ _ _ _ _ _ c.requires.one_asked _ _ c.requires.at_value _ c.read_key_at.ensures _ _ c.in-Ok.is

pub slice_bounds-one_packet-end : goal.slice_bounds-one_packet-end
slice_bounds-one_packet-end c =
    key_ends _ _ _ _ _ _ _ _ _ c.requires.one_asked _ _ c.requires.at_value _ c.read_key_at.ensures _ _ c.in-Ok.is

pub one_packet-step-requires : goal.one_packet-step-requires
one_packet-step-requires c =
    one_asked _ _ _ _ _ _ _ _ _ c.requires.one_asked _ _ c.requires.at_value _ c.read_key_at.ensures _ _ c.in-Ok.is

pub returns-in-Ok : goal.returns-in-Ok
returns-in-Ok c =
    one_fed _ _ _ _ _ _ _ _ _ c.requires.one_asked _ _ c.requires.at_value _ c.read_key_at.ensures _ _ c.in-Ok.is
    _ _ _ _ _ _ refl c.one_packet-step.ensures

pub returns-in-Err : goal.returns-in-Err
returns-in-Err c =
    one_key_stopped _ _ _ _ _ _ _ _ _ c.requires.one_asked _ _ c.requires.at_value _ c.read_key_at.ensures
    _ c.in-Err.is _ _ (ap (λ (t : Taken). stop_number t.step.refusal) c.unread.ensures)
