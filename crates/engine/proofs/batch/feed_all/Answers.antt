-- `engine::batch::feed_all` meets its contract. Assumes nothing.
use mathlib.Core.Path.{sym, ap, ◌∙◌}
use Rattle.std.specs.Prelude.{Option}
use Rattle.forms.specs.declared.refusal.Refusal.{Refusal}
use Rattle.forms.specs.Refusals.{stop_number}
use Rattle.packet.proofs.Sizes.{some_number}
use Rattle.engine.specs.FeedLoop.{stopped_by}
use borrow.Author.Rules.{rules}
use Rattle.engine.specs.FeedLoop.{loop_begins, loop_ends, bytes_within, loop_asks, loop_stopped, loop_goes, loop_again as goes-again, loop_less as goes-less, rest_long}
use Rattle.engine.proofs.batch.feed_all.Goals as goal

pub loop-answer-init : goal.loop-answer-init
loop-answer-init c = loop_begins _ _ _ _ _ _ _ _ _ c.requires _ c.nothing_yet-answer.ensures

pub slice_bounds-feed_one-count : goal.slice_bounds-feed_one-count
slice_bounds-feed_one-count c = bytes_within _ _ _ _ _ _ _ _ _ _ _ _ _ _ _ c.loop-answer.invariant

pub slice_bounds-feed_one-start : goal.slice_bounds-feed_one-start
slice_bounds-feed_one-start c = search (bytes_within _ _ _ _ _ _ _ _ _ _ _ _ _ _ _ c.loop-answer.invariant, rules)

pub feed_one-taken-requires : goal.feed_one-taken-requires
feed_one-taken-requires c = loop_asks _ _ _ _ _ _ _ _ _ _ _ _ _ _ _ c.loop-answer.invariant c.loop-answer-test.true

pub shape_of-state-in-Some : goal.shape_of-state-in-Some
shape_of-state-in-Some c = search (c.loop-answer.invariant.state_long, rules)

pub shape_of-index-in-Some : goal.shape_of-index-in-Some
shape_of-index-in-Some c = search (c.loop-answer.invariant.index_long, rules)

pub shape_of-free-in-Some : goal.shape_of-free-in-Some
shape_of-free-in-Some c = search (c.loop-answer.invariant.free_long, rules)

pub shape_of-leaving-in-Some : goal.shape_of-leaving-in-Some
shape_of-leaving-in-Some c = search (c.loop-answer.invariant.leaving_long, rules)

pub shape_of-out-in-Some : goal.shape_of-out-in-Some
shape_of-out-in-Some c = rest_long c.loop-answer.out c.feed_one-taken.new.out c.loop-answer.answer.bytes (bytes_within _ _ _ _ _ _ _ _ _ _ _ _ _ _ _ c.loop-answer.invariant) c.feed_one-taken.auto.out ∙ c.loop-answer.invariant.out_long

pub returns-in-Some : goal.returns-in-Some
returns-in-Some c = loop_stopped _ _ _ _ _ _ _ _ _ _ _ _ _ _ _ c.loop-answer.invariant c.loop-answer-test.true _ _ _ _ _ c.feed_one-taken.ensures (λ z. some_number _ (sym (ap stop_number c.in-Some.is) ∙ z)) _ (c.stopped.ensures ∙ ap (λ (x : Option Refusal). stopped_by x c.loop-answer.answer) (sym c.in-Some.is))

pub added-answer-requires : goal.added-answer-requires
added-answer-requires c = (loop_goes _ _ _ _ _ _ _ _ _ _ _ _ _ _ _ c.loop-answer.invariant c.loop-answer-test.true _ _ _ _ _ c.feed_one-taken.ensures (ap stop_number c.in_default.is) c.feed_one-taken.new.leaving c.feed_one-taken.auto.state c.feed_one-taken.auto.index c.feed_one-taken.auto.free c.feed_one-taken.auto.leaving c.feed_one-taken.auto.out).sums c.well_formed.1.1.1.1.0.0 c.well_formed.1.1.1.1.1.1.1.1.0.0

pub loop-answer-smaller : goal.loop-answer-smaller
loop-answer-smaller c = goes-less _ _ _ _ _ _ _ _ _ _ _ _ _ _ _ c.loop-answer.invariant c.loop-answer-test.true _ _ _ _ _ c.feed_one-taken.ensures c.feed_one-taken.new.leaving (loop_goes _ _ _ _ _ _ _ _ _ _ _ _ _ _ _ c.loop-answer.invariant c.loop-answer-test.true _ _ _ _ _ c.feed_one-taken.ensures (ap stop_number c.in_default.is) c.feed_one-taken.new.leaving c.feed_one-taken.auto.state c.feed_one-taken.auto.index c.feed_one-taken.auto.free c.feed_one-taken.auto.leaving c.feed_one-taken.auto.out) _ c.added-answer.ensures

pub loop-answer-preserved : goal.loop-answer-preserved
loop-answer-preserved c = goes-again _ _ _ _ _ _ _ _ _ _ _ _ _ _ _ c.loop-answer.invariant c.loop-answer-test.true _ _ _ _ _ c.feed_one-taken.ensures c.feed_one-taken.new.leaving (loop_goes _ _ _ _ _ _ _ _ _ _ _ _ _ _ _ c.loop-answer.invariant c.loop-answer-test.true _ _ _ _ _ c.feed_one-taken.ensures (ap stop_number c.in_default.is) c.feed_one-taken.new.leaving c.feed_one-taken.auto.state c.feed_one-taken.auto.index c.feed_one-taken.auto.free c.feed_one-taken.auto.leaving c.feed_one-taken.auto.out) _ c.added-answer.ensures

pub shape_of-state : goal.shape_of-state
shape_of-state c = c.loop-answer.invariant.state_long

pub shape_of-index : goal.shape_of-index
shape_of-index c = c.loop-answer.invariant.index_long

pub shape_of-free : goal.shape_of-free
shape_of-free c = c.loop-answer.invariant.free_long

pub shape_of-leaving : goal.shape_of-leaving
shape_of-leaving c = c.loop-answer.invariant.leaving_long

pub shape_of-out : goal.shape_of-out
shape_of-out c = c.loop-answer.invariant.out_long

pub returns : goal.returns
returns c = loop_ends _ _ _ _ _ _ _ _ _ _ _ _ _ _ _ c.loop-answer.invariant (search rules)
