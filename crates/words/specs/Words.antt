-- A flow's record as 37 words, and back. Assumes nothing.
use Rattle.std.specs.Prelude.{ℕ, suc, ◌+◌, ◌^◌, ◌≤◌, Bool, ◌&&◌, List, [], ◌∷◌, ◌++◌, leb, eqb, get_or, set, None, Option}
use Rattle.forms.specs.Optional.{number8, number16, number32}
use Rattle.stats.specs.declared.counts.TcpFlagCounts.{TcpFlagCounts}
use Rattle.stats.specs.declared.counts.DirectionStats.{DirectionStats}
use Rattle.stats.specs.declared.counts.NetworkStats.{NetworkStats}
use Rattle.stats.specs.declared.counts.CaptureStats.{CaptureStats}
use Rattle.flow.specs.declared.time.FlowTime.{FlowTime}
use Rattle.flow.specs.declared.record.FlowRecord.{FlowRecord}
use Rattle.wire.specs.RecordForm.{state_number, state_from, resolution_number, resolution_from, bit_number, least_of8, greatest_of8, least_of32, greatest_of32}
use Rattle.words.specs.Fields.{opt8_at, opt16_at, range8_at, range32_at, bounds_fit, BoundsFit}
use Rattle.flow.specs.declared.time.EndReason.{EndReason}

-- ---- the words of a record

-- what belongs to no direction: 11 words
abbrev pub shared_parts : FlowTime → NetworkStats → Option ℕ → CaptureStats → List ℕ
shared_parts time network icmp capture =
    time.start.0 ∷ time.end.0 ∷ state_number time.start_state ∷ resolution_number time.resolution
    ∷ number8 (least_of8 network.ttl) ∷ number8 (greatest_of8 network.ttl) ∷ number8 network.dscp ∷ number8 network.ecn
    ∷ number16 icmp ∷ capture.captured_octets ∷ bit_number capture.truncated ∷ []

abbrev pub shared_words : FlowRecord → List ℕ
shared_words r = shared_parts r.time r.network r.transport.icmp r.capture

-- the flag counts: 9 words
abbrev pub flag_words : TcpFlagCounts → List ℕ
flag_words c = c.fin ∷ c.syn ∷ c.rst ∷ c.psh ∷ c.ack ∷ c.urg ∷ c.ece ∷ c.cwr ∷ c.ns ∷ []

-- a direction: 13 words
abbrev pub direction_words : DirectionStats → List ℕ
direction_words d =
    d.packets ∷ d.frame_octets ∷ number32 (least_of32 d.packet_length) ∷ number32 (greatest_of32 d.packet_length)
    ∷ flag_words d.tcp_flags

-- the 37 words of a record; its end reason has none
unfoldable pub words_of : FlowRecord → List ℕ
words_of r = shared_words r ++ (direction_words r.forward ++ direction_words r.reverse)

-- ws with xs written over it, from place at + k on
abbrev pub written : List ℕ → ℕ → ℕ → List ℕ → List ℕ
written ws at k [] = ws
written ws at k (x ∷ xs) = written (set ws (at + k) x) at (suc k) xs

-- ---- the record of words

-- an open flow's times: no end reason
abbrev pub time_at : List ℕ → FlowTime
time_at ws = record {
  start = record { 0 = get_or ws 0 0 };
  end = record { 0 = get_or ws 1 0 };
  resolution = resolution_from (get_or ws 3 0);
  start_state = state_from (get_or ws 2 0);
  end_reason = None;
}

-- TTL, DSCP and ECN
abbrev pub network_at : List ℕ → NetworkStats
network_at ws = record { ttl = range8_at (get_or ws 4 0) (get_or ws 5 0); dscp = opt8_at (get_or ws 6 0); ecn = opt8_at (get_or ws 7 0) }

-- the direction whose 13 words begin at a place
unfoldable pub direction_at : List ℕ → ℕ → DirectionStats
direction_at ws at = record {
  packets = get_or ws at 0;
  frame_octets = get_or ws (at + 1) 0;
  packet_length = range32_at (get_or ws (at + 2) 0) (get_or ws (at + 3) 0);
  tcp_flags = record {
    fin = get_or ws (at + 4) 0;
    syn = get_or ws (at + 5) 0;
    rst = get_or ws (at + 6) 0;
    psh = get_or ws (at + 7) 0;
    ack = get_or ws (at + 8) 0;
    urg = get_or ws (at + 9) 0;
    ece = get_or ws (at + 10) 0;
    cwr = get_or ws (at + 11) 0;
    ns = get_or ws (at + 12) 0;
  };
}

-- the record that words stand for, where they fit
unfoldable pub record_of : List ℕ → FlowRecord
record_of ws = record {
  time = time_at ws;
  forward = direction_at ws 11;
  reverse = direction_at ws 24;
  network = network_at ws;
  transport = record { icmp = opt16_at (get_or ws 8 0) };
  capture = record { captured_octets = get_or ws 9 0; truncated = eqb (get_or ws 10 0) 1 };
}

-- ---- words that some record has

-- each narrow field's word is one that the field can have
unfoldable pub words_fit : List ℕ → Bool
words_fit ws =
    leb (get_or ws 2 0) 2
    && leb (get_or ws 3 0) 1
    && bounds_fit (2 ^ 8) (get_or ws 4 0) (get_or ws 5 0)
    && leb (get_or ws 6 0) (2 ^ 8)
    && leb (get_or ws 7 0) (2 ^ 8)
    && leb (get_or ws 8 0) (2 ^ 16)
    && leb (get_or ws 10 0) 1
    && bounds_fit (2 ^ 32) (get_or ws 13 0) (get_or ws 14 0)
    && bounds_fit (2 ^ 32) (get_or ws 26 0) (get_or ws 27 0)

-- the same of TTL, DSCP and ECN, as facts
pub record NetworkFits (ws : List ℕ) : Type 0 where
  pub ttl : BoundsFit (2 ^ 8) (get_or ws 4 0) (get_or ws 5 0)
  pub dscp : get_or ws 6 0 ≤ 2 ^ 8
  pub ecn : get_or ws 7 0 ≤ 2 ^ 8
