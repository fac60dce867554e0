-- Document 01's P10, of the plain rules: ACK opens at 500; a SYN at 500 gives SynObserved, at 501 MidStream. Assumes nothing.
use Rattle.std.specs.Prelude.{ℕ, ◌≡◌, refl, [], ◌∷◌, None, Some}
use Rattle.flow.specs.declared.time.TimeResolution.{TimeResolution}
use Rattle.flow.specs.declared.time.StartState.{StartState}
use Rattle.flow.specs.declared.record.Direction.{Direction}
use Rattle.flow.specs.declared.record.PacketFacts.{PacketFacts}
use Rattle.flow.specs.Counting.{opened_of, counted_rest, taken, counted_of}
use Rattle.flow.specs.Summary.{summary_of}

-- a TCP packet of 60 octets with these flags, at this time
abbrev pub packet_at : ℕ → ℕ → PacketFacts
packet_at time mask = record {
  time = record { 0 = time };
  frame_octets = 60;
  captured_octets = 60;
  ttl = None;
  tcp_flags = Some mask;
  icmp = None;
  dscp = None;
  ecn = None;
}

-- the start state of a flow that an ACK at 500 opens and that then sees a SYN
abbrev pub after_syn : ℕ → StartState
after_syn time = (summary_of TimeResolution.Microseconds 6 (packet_at 500 16) ((Direction.Forward, packet_at time 2) ∷ [])).time.start_state

pub p10 : (after_syn 500 ≡ StartState.SynObserved) × (after_syn 501 ≡ StartState.MidStream)
unfolding summary_of opened_of counted_of counted_rest taken
p10 = (refl, refl)
