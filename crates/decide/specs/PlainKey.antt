-- What is asked where a packet's key is plain and lies in the batch.
use Rattle.std.specs.Prelude.{ℕ, ◌+◌, ◌*◌, ◌≤◌, ◌≡◌, List, length, Some}
use Rattle.index.specs.Hash.{hash_of}
use Rattle.index.specs.Index.{Indexed}
use Rattle.key.specs.KeyTheorems.{KeyInRange}
use Rattle.flow.specs.declared.record.PacketFacts.{PacketFacts}
use Rattle.wire.specs.PacketTheorems.{PacketInRange}
use Rattle.plain.specs.Plain.{plain_at, key_read}
use Rattle.plain.specs.declared.Plain.{Plain}
use Rattle.rules.specs.Engine.{key_bytes}
use Rattle.state.specs.State.{SoundFlows}
use Rattle.decide.specs.Search.{SearchAsked}

-- to look for the reversed key: sound flows, their index, and the plain key that stands in the batch
pub record TurnedAsked (s : List ℕ) (c : ℕ) (index batch : List ℕ) (from : ℕ) (key : Plain) : Type 0 where
  pub search : SearchAsked s c index (key_bytes (key_read batch from)) key.hash
  pub in_range : KeyInRange (key_read batch from)
  pub plain : Some key ≡ plain_at batch from

-- a ready state, its index, a packet in range, and the plain key that stands in the batch
pub record PlainAsked (s : List ℕ) (c : ℕ) (index : List ℕ) (facts : PacketFacts) (batch : List ℕ) (from : ℕ) (key : Plain) : Type 0 where
  pub size : 256 + 640 * c ≤ length s
  pub indexed : Indexed hash_of index s c
  pub flows : SoundFlows s c
  pub in_range : PacketInRange (record { facts = facts; key = key_read batch from })
  pub plain : Some key ≡ plain_at batch from
