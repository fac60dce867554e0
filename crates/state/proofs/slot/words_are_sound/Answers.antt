-- `state::slot::words_are_sound` meets its contract. Assumes nothing.
use Rattle.state.specs.SlotTest.{words_sound, words_unfit}
use mathlib.Core.Path.{sym, ◌∙◌}
use native.Mathlib.Omega.{arith}
use borrow.Author.Rules.{rules}
use Rattle.state.proofs.slot.words_are_sound.Goals as goal

pub record_of-requires : goal.record_of-requires
record_of-requires c = record { ws_len = search rules; ws_value = sym c.words_fit.ensures ∙ c.if-words_fit.true }

pub returns-then-words_fit : goal.returns-then-words_fit
returns-then-words_fit c = words_sound _ (λ k h. omega (arith, c.shared_slice_known-1.given k)) _ c.words_fit.ensures _ c.if-words_fit.true c.record_of.ensures _ c.sound_aside.ensures

pub returns : goal.returns
returns c = words_unfit _ (λ k h. omega (arith, c.shared_slice_known-1.given k)) _ c.words_fit.ensures c.if-words_fit.false
