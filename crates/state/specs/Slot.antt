-- What a slot's bytes say: the flow that sits there, and when they are bytes that a sound flow has. Assumes nothing.
use Rattle.std.specs.Prelude.{ℕ, ◌^◌, ◌<◌, ◌≡◌, true, cond, List, get_or, None, Option, Some}
use Rattle.memory.specs.Bytes.{words_at}
use Rattle.slots.specs.Table.{key_of, is_used}
use Rattle.words.specs.Words.{record_of, words_fit}
use Rattle.index.specs.Hash.{key_from}
use Rattle.key.specs.KeyTheorems.{KeyInRange}
use Rattle.key.specs.declared.key.FlowKey.{FlowKey}
use Rattle.flow.specs.Sound.{sound_aside}
use Rattle.flow.specs.declared.record.FlowRecord.{FlowRecord}
use Rattle.rules.specs.Rules.{Flow}
use Rattle.rules.specs.Engine.{engine, key_bytes}

-- the key that the slot's key bytes spell
unfoldable pub key_in : List ℕ → FlowKey
key_in b = key_from (key_of b)

unfoldable pub words_in : List ℕ → List ℕ
words_in b = words_at b 80 37

unfoldable pub record_in : List ℕ → FlowRecord
record_in b = record_of (words_in b)

unfoldable pub flow_in : List ℕ → Flow engine
flow_in b = record { name = key_in b; held = record_in b }

-- the flow of a slot that is used
unfoldable pub slot_flow : List ℕ → Option (Flow engine)
slot_flow b = cond (is_used b) (Some (flow_in b)) None

-- the bytes are those of a flow, and "every flow's record sound, end reason aside". A direction's FIN mark is its fin count above 0, and
-- has no bytes of its own.
pub record SoundSlot (b : List ℕ) : Type 0 where
  pub in_range : KeyInRange (key_in b)
  pub key : key_bytes (key_in b) ≡ key_of b
  pub words : (k : ℕ) → k < 37 → get_or (words_in b) k 0 < 2 ^ 64
  pub fit : words_fit (words_in b) ≡ true
  pub sound : sound_aside (record_in b) ≡ true
