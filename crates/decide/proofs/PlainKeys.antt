-- A packet whose key is plain: what its searches ask, and what is chosen. Assumes nothing.
use Rattle.std.specs.Prelude.{Option, is_some}
use mathlib.Core.Path.{◌≡◌, sym}
use mathlib.Core.Bool.{Bool, true, not, ◌||◌}
use mathlib.Core.List.{List}
use Prim.Native.Nat.{ℕ, ◌-◌, ◌≤◌}
use lib.ListN.{length, take, drop}
use Rattle.memory.specs.Bytes.{patch}
use Rattle.key.specs.Key.{reversed_key}
use Rattle.flow.specs.declared.record.PacketFacts.{PacketFacts}
use Rattle.wire.specs.declared.packet.Packet.{Packet}
use Rattle.plain.specs.Plain.{key_read}
use Rattle.plain.specs.PlainLaws.{plain_hash_lem, plain_two_way, plain_inside, plain_order, plain_bytes_lem, turned_length}
use Rattle.plain.specs.declared.Plain.{Plain}
use Rattle.rules.specs.Engine.{engine, key_bytes}
use Rattle.state.specs.SlotTest.{FrontWritten, front_fits}
use Rattle.decide.specs.declared.choose.Choice.{Choice}
use Rattle.decide.specs.Search.{SearchAsked, FoundStaying}
use Rattle.decide.specs.Choose.{choice_at, TurnedIf}
use Rattle.decide.specs.Decide.{DecideAsked, Chosen}
use Rattle.decide.specs.PlainKey.{TurnedAsked, PlainAsked}
use Rattle.decide.proofs.Staying.{turned_asked, turned_told}
use Rattle.decide.proofs.Ways.{own_asked, key_asked}
use Rattle.decide.proofs.Choosing.{choice_told}

-- ## The search under the reversed key

module _ (s : List ℕ) (c : ℕ) (index batch : List ℕ) (from : ℕ) (key : Plain) (ask : TurnedAsked s c index batch from key) where
  pub turned_starts : from ≤ key.next
  turned_starts = plain_order batch from (sym ask.plain)

  module _ (before buffer : List ℕ) (put : buffer ≡ patch before 0 (key_bytes (reversed_key (key_read batch from)))) where
    -- the reversed key's bytes are at the front of the buffer
    turned_front : FrontWritten (key_bytes (reversed_key (key_read batch from))) before buffer (key.next - from)
    unfolding patch
    turned_front = record { length_is = sym (turned_length batch from (sym ask.plain)); front = put }

    pub turned_fits : key.next - from ≤ length buffer
    turned_fits = front_fits (key_bytes (reversed_key (key_read batch from))) before buffer (key.next - from) turned_front

    module _ (bytes : List ℕ) (lies : bytes ≡ take (key.next - from) buffer) where
      pub plain_turned_asked : SearchAsked s c index bytes key.hash
      plain_turned_asked =
          turned_asked s c index (key_read batch from) key.hash before buffer (key.next - from) bytes turned_front lies ask.search
          ask.in_range

      pub plain_turned_told : (T L w : ℕ) (r : Option ℕ) → FoundStaying s c T L w bytes r
          → FoundStaying s c T L w (key_bytes (reversed_key (key_read batch from))) r
      plain_turned_told =
          turned_told s c index (key_read batch from) key.hash before buffer (key.next - from) bytes turned_front lies

-- ## Steps 1 and 2

module _ (s : List ℕ) (c : ℕ) (index : List ℕ) (facts : PacketFacts) (batch : List ℕ) (from : ℕ) (key : Plain)
    (ask : PlainAsked s c index facts batch from key) where
  abbrev p : Packet
  p = record { facts = facts; key = key_read batch from }

  -- the bytes of its key
  abbrev bytes : List ℕ
  bytes = take (key.next - from) (drop from batch)

  pub key_starts : from ≤ key.next
  key_starts = plain_order batch from (sym ask.plain)

  pub key_ends : key.next ≤ length batch
  key_ends = plain_inside batch from (sym ask.plain)

  decides : DecideAsked s c index p bytes
  decides = record {
    size = ask.size;
    indexed = ask.indexed;
    flows = ask.flows;
    in_range = ask.in_range;
    key = plain_bytes_lem batch from (sym ask.plain);
  }

  pub plain_own : SearchAsked s c index bytes key.hash
  plain_own = own_asked s c index p bytes decides key.hash (plain_hash_lem batch from (sym ask.plain))

  pub plain_turned : TurnedAsked s c index batch from key
  plain_turned = record {
    search = (key_asked s c index p bytes decides key.hash (plain_hash_lem batch from (sym ask.plain))).0;
    in_range = ask.in_range.key;
    plain = ask.plain;
  }

  pub plain_chosen : (T L w : ℕ) (own turned : Option ℕ) (syn there : Bool) → syn ≡ engine.syn p → FoundStaying s c T L w bytes own
      → there ≡ is_some own → TurnedIf (syn || not there) s c T L w (key_bytes (reversed_key (key_read batch from))) turned
      → (r : Choice) → r ≡ choice_at s syn own true turned → Chosen s c T L w p r.ended r.slot r.direction
  plain_chosen T L w own turned syn there syn-is first there-is second =
      choice_told s c T L w index p bytes decides own turned syn true there syn-is (sym (plain_two_way batch from (sym ask.plain)))
      first there-is second
