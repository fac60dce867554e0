-- What each call of the engine promises: one answer, one meaning of the state, one output; what lies beyond is as it was. A promise holds for
-- memory of any bytes: where the state is not sound the call refuses with 3 and does nothing. Assumes nothing.
use Rattle.std.specs.Prelude.{ℕ, ◌≡◌, List, map, ◌++◌, length, drop, Result, Ok, Err}
use Rattle.forms.specs.Refusals.{refusal_number}
use Rattle.forms.specs.declared.refusal.Refusal.{Refusal}
use Rattle.sweeps.specs.declared.sweep.HandedOut.{HandedOut}
use Rattle.memory.specs.Bytes.{part}
use Rattle.queue.specs.Tree.{node}
use Rattle.table.specs.View.{View, view}
use Rattle.rules.specs.Rules.{Told, number_of, sweep_at, drain_all}
use Rattle.rules.specs.Engine.{engine, written}
use Rattle.state.specs.State.{Sound, capacity_in, settings_in, meaning}

-- what a call leaves as it was: the layout's number and the settings in the header, the spare bytes of header, slots and queue, and the
-- caller's bytes behind the state
pub record Left (v v' : View) : Type 0 where
  pub settings : part v'.header 0 40 ≡ part v.header 0 40
  pub spare_header : drop 48 v'.header ≡ drop 48 v.header
  pub spare_slots : map (drop 376) v'.table ≡ map (drop 376) v.table
  pub spare_node : node v'.tree 0 ≡ node v.tree 0
  pub rest : v'.rest ≡ v.rest

-- what a sweep or a drain answers, in numbers: the refusal's, or 0, and the records handed out, with the bytes that they fill
abbrev pub number_in : Result HandedOut Refusal → ℕ
number_in (Ok handed) = 0
number_in (Err why) = refusal_number why

abbrev pub records_in : Result HandedOut Refusal → ℕ
records_in (Ok handed) = handed.records
records_in (Err why) = 0

abbrev pub bytes_in : Result HandedOut Refusal → ℕ
bytes_in (Ok handed) = handed.bytes
bytes_in (Err why) = 0

-- a call did what the plain rules tell
pub record Did (told : Told engine) (before room : List ℕ) (refusal records bytes : ℕ) (after out : List ℕ) : Type 0 where
  pub answer : refusal ≡ number_of told.refusal
  pub count : records ≡ length told.finished
  pub filled : bytes ≡ length (written told.finished)
  pub sound : Sound after
  pub means : meaning after ≡ told.engine
  pub settings : settings_in after ≡ settings_in before
  pub output : out ≡ written told.finished ++ drop bytes room
  pub untouched : Left (view (capacity_in before) before) (view (capacity_in before) after)

-- 3 Damaged: "the state .. is not sound"; "Refusals 1, 2, 3 write nothing."
pub record NothingDone (before room : List ℕ) (refusal records bytes : ℕ) (after out : List ℕ) : Type 0 where
  pub answer : refusal ≡ 3
  pub count : records ≡ 0
  pub filled : bytes ≡ 0
  pub state : after ≡ before
  pub output : out ≡ room

pub record Swept (time : ℕ) (before room : List ℕ) (refusal records bytes : ℕ) (after out : List ℕ) : Type 0 where
  pub damaged : (Sound before → ⊥) → NothingDone before room refusal records bytes after out
  pub told : Sound before → Did (sweep_at engine (settings_in before) (length room) time (meaning before)) before room refusal records bytes after out

pub record Drained (before room : List ℕ) (refusal records bytes : ℕ) (after out : List ℕ) : Type 0 where
  pub damaged : (Sound before → ⊥) → NothingDone before room refusal records bytes after out
  pub told : Sound before → Did (drain_all engine (length room) (meaning before)) before room refusal records bytes after out
