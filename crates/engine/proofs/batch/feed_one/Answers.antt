-- `engine::batch::feed_one` meets its contract. Assumes nothing.
use Rattle.forms.specs.Refusals.{stop_number}
use Rattle.engine.specs.declared.batch.Taken.{Taken}
use Rattle.engine.specs.FeedOne.{one_facts_stopped, one_facts, steady_asked, steady_fed, left_asked, left_fed}
use mathlib.Core.Path.{◌≡◌, refl, ap, ◌∙◌}
use native.Mathlib.Omega.{arith}
use lib.ListN.{length}
use Rattle.engine.proofs.batch.feed_one.Goals as goal
use Rattle.engine.proofs.batch.feed_one.Goals.{in-Some+else-take_steady, in_default}

pub take_steady-requires : goal.take_steady-requires
take_steady-requires c =
    steady_asked _ _ _ _ _ _ _ _ _ c.requires _ _
    (one_facts _ _ _ _ _ _ _ _ _ c.requires _ c.read_facts_at.ensures _ _ c.in-Ok.is)
    _ c.plain_at.ensures _ c.in-Some.is

pub returns-then-take_steady : goal.returns-then-take_steady
returns-then-take_steady c =
    steady_fed _ _ _ _ _ _ _ _ _ c.requires _ _
    (one_facts _ _ _ _ _ _ _ _ _ c.requires _ c.read_facts_at.ensures _ _ c.in-Ok.is)
    _ c.plain_at.ensures _ c.in-Some.is _ _ c.take_steady.ensures
    c.if-take_steady.true _ _ c.nothing_done.ensures refl

pub feed_behind-requires : goal.feed_behind-requires
feed_behind-requires c =
    let same : c.match-plain_at.state ≡ c.args.state.now =
    elim c.match-plain_at.branch [
      | in-Some+else-take_steady w ↦ w.state-is ∙ w.take_steady.ensures.left w.if-take_steady.false
      | in_default w ↦ w.state-is
    ] in
    let read = one_facts _ _ _ _ _ _ _ _ _ c.requires _ c.read_facts_at.ensures _ _ c.in-Ok.is in
    record { one_asked = left_asked _ _ _ _ _ _ _ _ _ c.requires _ same; at_value = read }

pub shape_of-state : goal.shape_of-state
shape_of-state c =
    let same : c.match-plain_at.state ≡ c.args.state.now =
    elim c.match-plain_at.branch [
      | in-Some+else-take_steady w ↦ w.state-is ∙ w.take_steady.ensures.left w.if-take_steady.false
      | in_default w ↦ w.state-is
    ] in
    omega (arith, c.state-in-Ok-1.given, ap length same)

pub returns-after-plain_at : goal.returns-after-plain_at
returns-after-plain_at c =
    let same : c.match-plain_at.state ≡ c.args.state.now =
    elim c.match-plain_at.branch [
      | in-Some+else-take_steady w ↦ w.state-is ∙ w.take_steady.ensures.left w.if-take_steady.false
      | in_default w ↦ w.state-is
    ] in
    left_fed _ _ _ _ _ _ _ _ _ c.requires _ same _ _ _ _ _ _ c.feed_behind.ensures

pub returns-in-Err : goal.returns-in-Err
returns-in-Err c =
    one_facts_stopped _ _ _ _ _ _ _ _ _ c.requires _ c.read_facts_at.ensures
    _ c.in-Err.is _ _ (ap (λ (t : Taken). stop_number t.step.refusal) c.unread.ensures)
