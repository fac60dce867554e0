-- How feeding goes on behind an answer of the engine.
use Rattle.std.specs.Prelude.{ℕ, ◌≡◌, refl, Bool, true, false, ◌⊎◌, List, Option, None, Some}
use Rattle.std.proofs.Common.{◌∙◌, inl, inr}
use Rattle.forms.specs.declared.refusal.Refusal.{Refusal}
use Rattle.replay.specs.Input.{Inside, Kept, kept_as_it_is}
use Rattle.replay.specs.declared.input.Input.{Input}
use Rattle.replay.specs.declared.input.Source.{Source}
use Rattle.replay.specs.declared.output.Totals.{Totals}
use Rattle.replay.specs.declared.feed.Stage.{Stage}
use Rattle.replay.specs.declared.feed.Run.{Run}

-- there is more to feed
abbrev pub is_feeding : Stage → Bool
is_feeding Stage.Feeding = true
is_feeding Stage.Over = false
is_feeding (Stage.Refused refusal) = false
is_feeding Stage.Unread = false

-- the input is over: a cut packet is refused
abbrev pub over_with : Option Refusal → Stage
over_with None = Stage.Over
over_with (Some refusal) = Stage.Refused refusal

-- all packets so far are taken, or the last one is cut off: what the input then gave decides
abbrev pub stage_after : Option Refusal → Source → Stage
stage_after refusal Source.Going = Stage.Feeding
stage_after refusal Source.Over = over_with refusal
stage_after refusal Source.Failed = Stage.Unread

-- behind an answer: none and Short take more input, Room feeds again, any other is final
unfoldable pub next_stage : Option Refusal → Source → Stage
next_stage None source = stage_after None source
next_stage (Some Refusal.Short) source = stage_after (Some Refusal.Short) source
next_stage (Some Refusal.Room) source = Stage.Feeding
next_stage (Some refusal) source = Stage.Refused refusal

-- no byte that is not used is lost, the counts stay, and what the input gave decides by `next`
pub record GoneOn (before : Input) (window : List ℕ) (totals : Totals) (next : Source → Stage) (r : Run) (after : List ℕ) : Type 0 where
  pub kept : Kept before window r.input after
  pub counts : r.totals ≡ totals
  pub stage_is : r.stage ≡ next r.input.source

-- what is refused is no end
pub over_refused : (refusal : Refusal) → Stage.Refused refusal ≡ over_with (Some refusal)
over_refused refusal = refl

-- any refusal but Short and Room is final
pub final_refused : (why : Refusal) (source : Source) → (why ≡ Refusal.Short → ⊥) → (why ≡ Refusal.Room → ⊥) → Stage.Refused why ≡ next_stage (Some why) source
unfolding next_stage
final_refused Refusal.Short source a b = absurd (a refl)
final_refused Refusal.Room source a b = absurd (b refl)
final_refused why source a b = refl

-- the ways on
module _ (i : Input) (window : List ℕ) (totals : Totals) where
  pub on_with_input : (refusal : Option Refusal) (r : Run) (after : List ℕ) → (refusal ≡ None) ⊎ (refusal ≡ Some Refusal.Short)
      → GoneOn i window totals (stage_after refusal) r after → GoneOn i window totals (next_stage refusal) r after
  unfolding next_stage
  on_with_input refusal r after (inl e) g = record { kept = g.kept; counts = g.counts; stage_is = g.stage_is ∙ rw e }
  on_with_input refusal r after (inr e) g = record { kept = g.kept; counts = g.counts; stage_is = g.stage_is ∙ rw e }

  pub on_with_room : (refusal : Option Refusal) → Inside i window → refusal ≡ Some Refusal.Room
      → GoneOn i window totals (next_stage refusal) (record { input = i; totals = totals; stage = Stage.Feeding }) window
  unfolding next_stage
  on_with_room refusal h e = record { kept = kept_as_it_is i window h; counts = refl; stage_is = rw e }

  pub on_refused : (refusal : Refusal) → Inside i window → (refusal ≡ Refusal.Short → ⊥) → (refusal ≡ Refusal.Room → ⊥)
      → GoneOn i window totals (next_stage (Some refusal)) (record { input = i; totals = totals; stage = Stage.Refused refusal }) window
  unfolding next_stage
  on_refused refusal h a b = record { kept = kept_as_it_is i window h; counts = refl; stage_is = final_refused refusal i.source a b }
