-- What is said of the engine's own terms: the octets and flags of a packet, a sound record, and one that calls can make. That the
-- terms meet what the third demand and soundness ask stands in proofs/EngineTermsLaws.antt. Assumes nothing.
use Rattle.std.specs.Prelude.{◌≡◌, true, ℕ, ◌^◌, ◌<◌, ◌≤◌}
use Rattle.forms.specs.Optional.{number8, number16}
use Rattle.key.specs.KeyTheorems.{KeyInRange}
use Rattle.key.specs.declared.key.FlowKey.{FlowKey}
use Rattle.flow.specs.Counting.{mask_of, nothing_yet}
use Rattle.flow.specs.Summary.{Flag, bit_of}
use Rattle.flow.specs.Sound.{sound_aside}
use Rattle.flow.specs.declared.record.FlowRecord.{FlowRecord}
use Rattle.wire.specs.declared.packet.Packet.{Packet}
use Rattle.wire.specs.RecordForm.{LengthsInRange, TtlInRange}
use Rattle.rules.specs.Engine.{is_association}

-- ## Times and counts

abbrev pub octets_in : Packet → ℕ
octets_in p = p.facts.frame_octets

-- 1 if the packet has the flag set, else 0
abbrev pub flag_in : Flag → Packet → ℕ
flag_in k p = bit_of k (mask_of p.facts.tcp_flags)

-- ## Records

-- an open flow: its key in range, its record "sound, end reason aside", and what that leaves to the fields' types
pub record SoundFlow (k : FlowKey) (r : FlowRecord) : Type 0 where
  pub key : KeyInRange k
  pub sound : sound_aside r ≡ true
  pub start : r.time.start.0 < 2 ^ 64
  pub end : r.time.end.0 < 2 ^ 64
  pub forward : LengthsInRange r.forward.packet_length
  pub reverse : LengthsInRange r.reverse.packet_length
  pub ttl : TtlInRange r.network.ttl
  pub dscp : number8 r.network.dscp ≤ 2 ^ 8
  pub ecn : number8 r.network.ecn ≤ 2 ^ 8
  pub icmp : number16 r.transport.icmp ≤ 2 ^ 16
  pub captured : r.capture.captured_octets < 2 ^ 64

-- ## An association takes forward packets only

-- a flow that calls from a fresh engine made: sound, and if it is an association, nothing is counted in reverse on it
pub record MadeFlow (k : FlowKey) (r : FlowRecord) : Type 0 where
  pub flow : SoundFlow k r
  pub one_way : is_association k ≡ true → r.reverse ≡ nothing_yet
