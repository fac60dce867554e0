-- Document 01's "Examples on each side", P1 to P11, as a table, `examples`; and rows of ours, `further`. Each row opens an engine,
-- makes calls, and says after each call what was answered and which flows are open. That all pass stands in proofs/TableLaws.antt.
-- Assumes nothing.
use Rattle.std.specs.Prelude.{Bool, true, false, ◌&&◌, List, [], ◌∷◌, ℕ, zero, suc, ◌+◌, ◌-◌, ◌^◌, eqb, length, None, Option, Some}
use Rattle.key.specs.declared.key.Address.{Address}
use Rattle.key.specs.declared.key.Endpoints.{Endpoints}
use Rattle.key.specs.declared.key.FlowKey.{FlowKey}
use Rattle.key.specs.declared.vlan.VlanTags.{VlanTags}
use Rattle.flow.specs.Counting.{opening_time}
use Rattle.flow.specs.Idle.{timeout_of}
use Rattle.flow.specs.declared.time.EndReason.{EndReason}
use Rattle.flow.specs.declared.time.EndReason.TheVariants.{IdleTimeout, Fin, Rst, CaptureEnd}
use Rattle.flow.specs.declared.time.StartState.{StartState}
use Rattle.flow.specs.declared.time.StartState.TheVariants.{SynObserved, MidStream, NotApplicable}
use Rattle.flow.specs.declared.time.TimeResolution.{TimeResolution}
use Rattle.flow.specs.declared.record.FlowRecord.{FlowRecord}
use Rattle.wire.specs.declared.packet.Packet.{Packet}
use Rattle.wire.specs.RecordForm as RecordForm
use Rattle.rules.specs.Order.{equal}
use Rattle.rules.specs.Rules.{Terms, Refusal, Accepted, BadPacket, Short, Full, Spent, Room, number_of, Settings, settings}
use Rattle.rules.specs.Rules.{Flow, Finished, Engine, fresh, Told, feed_all, sweep_at, drain_all}
use Rattle.rules.specs.Engine.{engine_by, key_bytes, record_size}
use Rattle.key.specs.declared.encapsulation.Encapsulation.{Encapsulation}
use Rattle.stats.specs.declared.range.Range.{Range}

-- ## What a row says

-- a call, with the output's bytes
pub data Call : Type 0 where
  feed : (room : ℕ) → List Packet → (ends : Refusal) → Call
  sweep : (room t : ℕ) → Call
  drain : (room : ℕ) → Call

-- one finished record, as `replay` prints it, behind how it began: reason, start, end, forward and reverse packets, forward and reverse
-- octets
pub record Out : Type 0 where
  pub state : StartState
  pub reason : EndReason
  pub start : ℕ
  pub end : ℕ
  pub packets : ℕ × ℕ
  pub octets : ℕ × ℕ

-- a call, its answer (refusal, packets taken, flows opened, records), the packets of each open flow after it, and the clock
pub record Step : Type 0 where
  pub call : Call
  pub refusal : Refusal
  pub taken : ℕ
  pub opened : ℕ
  pub outs : List Out
  pub left : List ℕ
  pub clock : ℕ

pub data Row : Type 0 where
  -- opened with a timeout in milliseconds and a capacity, the calls are answered so
  plays : (ms capacity : ℕ) → List Step → Row
  -- the same from a state that calls need not have made: a clock, and open flows in order of key bytes
  from : (ms capacity clock : ℕ) → List (FlowKey × FlowRecord) → List Step → Row
  -- the timeout in milliseconds is held as so many nanoseconds
  holds : (ms T : ℕ) → Row

-- ## The test

abbrev pub expected : List Out → List ℕ
expected [] = []
expected (o ∷ os) =
    RecordForm.state_number o.state ∷ RecordForm.reason_number o.reason ∷ o.start ∷ o.end ∷ o.packets.0 ∷ o.packets.1 ∷ o.octets.0
    ∷ o.octets.1 ∷ expected os

-- whatever the keys' bytes and the records' sizes are
module _ (bytes : FlowKey → List ℕ) (size : FlowKey → EndReason → FlowRecord → ℕ) where
  abbrev E : Terms
  E = engine_by bytes size

  abbrev pub given : List (Finished E) → List ℕ
  given [] = []
  given (f ∷ fs) =
      RecordForm.state_number f.held.time.start_state ∷ RecordForm.reason_number f.reason ∷ f.held.time.start.0 ∷ f.held.time.end.0
      ∷ f.held.forward.packets ∷ f.held.reverse.packets ∷ f.held.forward.frame_octets ∷ f.held.reverse.frame_octets ∷ given fs

  abbrev pub packets_of : List (Flow E) → List ℕ
  packets_of [] = []
  packets_of (f ∷ fs) = (f.held.forward.packets + f.held.reverse.packets) ∷ packets_of fs

  abbrev pub answer : Settings → Call → Engine E → Told E
  answer s (feed room ps ends) e = feed_all E s room ps ends e
  answer s (sweep room t) e = sweep_at E s room t e
  answer s (drain room) e = drain_all E room e

  abbrev pub agrees : Step → Told E → Bool
  agrees x t =
      eqb (number_of x.refusal) (number_of t.refusal) && eqb x.taken t.taken && eqb x.opened t.opens
      && equal (expected x.outs) (given t.finished) && equal x.left (packets_of t.engine.flows) && eqb x.clock t.engine.clock

  abbrev pub plays_out : Settings → List Step → Engine E → Bool
  plays_out s [] e = true
  plays_out s (x ∷ xs) e = agrees x (answer s x.call e) && plays_out s xs (answer s x.call e).engine

  abbrev pub flows_of : List (FlowKey × FlowRecord) → List (Flow E)
  flows_of [] = []
  flows_of ((k, r) ∷ l) = record { name = k; held = r } ∷ flows_of l

  abbrev pub opened_with : ℕ → ℕ → Settings
  opened_with ms capacity = settings (record { 0 = ms }) TimeResolution.Microseconds capacity

  abbrev passes_by : Row → Bool
  passes_by (plays ms capacity steps) = plays_out (opened_with ms capacity) steps (fresh E)
  passes_by (from ms capacity clock flows steps) = plays_out (opened_with ms capacity) steps (record { clock = clock; flows = flows_of flows })
  passes_by (holds ms t) = eqb (timeout_of (record { 0 = ms })) t

  abbrev pub all_by : List Row → Bool
  all_by [] = true
  all_by (r ∷ rs) = passes_by r && all_by rs

-- the row plays out on the engine as it says
abbrev pub passes : Row → Bool
passes = passes_by key_bytes record_size

abbrev pub all_pass : List Row → Bool
all_pass = all_by key_bytes record_size

-- ## The words of the table

-- a key between two hosts, each with its number as address and port
abbrev key_with : ℕ → Endpoints → ℕ → ℕ → FlowKey
key_with protocol ends a b = record {
  source = Address.V4 a;
  destination = Address.V4 b;
  endpoints = ends;
  protocol = protocol;
  ethertype = None;
  source_mac = record { high = 0; low = a };
  destination_mac = record { high = 0; low = b };
  vlan = VlanTags.Untagged;
  encapsulation = None;
}

abbrev tcp : ℕ → ℕ → FlowKey
tcp a b = key_with 6 (Endpoints.Ports a b) a b

abbrev esp : ℕ → ℕ → FlowKey
esp a b = key_with 50 (Endpoints.SecurityAssociation 7) a b

-- a packet of so many octets with this mask of flags
abbrev packet_of : ℕ → ℕ → ℕ → FlowKey → Packet
packet_of t octets mask k = record {
  facts = record {
    time = record { 0 = t };
    frame_octets = octets;
    captured_octets = octets;
    ttl = None;
    tcp_flags = Some mask;
    icmp = None;
    dscp = None;
    ecn = None;
  };
  key = k;
}

-- at time t from a to b, 60 octets
abbrev ack : ℕ → ℕ → ℕ → Packet
ack t a b = packet_of t 60 16 (tcp a b)

abbrev fin : ℕ → ℕ → ℕ → Packet
fin t a b = packet_of t 60 1 (tcp a b)

abbrev syn : ℕ → ℕ → ℕ → Packet
syn t a b = packet_of t 60 2 (tcp a b)

abbrev rst : ℕ → ℕ → ℕ → Packet
rst t a b = packet_of t 60 4 (tcp a b)

abbrev synrst : ℕ → ℕ → ℕ → Packet
synrst t a b = packet_of t 60 6 (tcp a b)

-- room enough for every record of a row
abbrev ample : ℕ
ample = 100000

abbrev out : StartState → EndReason → ℕ → ℕ → ℕ → ℕ → ℕ → ℕ → Out
out state reason start end f r fo ro = record { state = state; reason = reason; start = start; end = end; packets = (f, r); octets = (fo, ro) }

-- a batch, all of it taken: so many packets, so many flows opened
abbrev fed : List Packet → ℕ → List Out → List ℕ → ℕ → Step
fed ps n outs left w =
    record { call = feed ample ps Accepted; refusal = Accepted; taken = length ps; opened = n; outs = outs; left = left; clock = w }

-- a batch that is stopped
abbrev stops : ℕ → List Packet → Refusal → Refusal → ℕ → ℕ → List Out → List ℕ → ℕ → Step
stops room ps ends r k n outs left w =
    record { call = feed room ps ends; refusal = r; taken = k; opened = n; outs = outs; left = left; clock = w }

abbrev swept : ℕ → List Out → List ℕ → ℕ → Step
swept t outs left w = record { call = sweep ample t; refusal = Accepted; taken = 0; opened = 0; outs = outs; left = left; clock = w }

-- a sweep or a drain that is refused for want of room changes nothing
abbrev unfit : Call → List ℕ → ℕ → Step
unfit c left w = record { call = c; refusal = Room; taken = 0; opened = 0; outs = []; left = left; clock = w }

abbrev drained : List Out → ℕ → Step
drained outs w = record { call = drain ample; refusal = Accepted; taken = 0; opened = 0; outs = outs; left = []; clock = w }

-- "a length range exactly if it has packets"
abbrev lengths_of : ℕ → Option (Range ℕ)
lengths_of zero = None
lengths_of (suc packets) = Some (record { min = 0; max = 60 })

-- a record of a flow that began at 0 with SYN not seen: forward packets, octets and FINs, reverse FINs in as many packets, captured octets
abbrev held : ℕ → ℕ → ℕ → ℕ → ℕ → FlowRecord
held packets octets fins back captured = record {
  time = opening_time (record { 0 = 0 }) TimeResolution.Microseconds MidStream;
  forward = record {
    packets = packets;
    frame_octets = octets;
    packet_length = lengths_of packets;
    tcp_flags = record { fin = fins; syn = 0; rst = 0; psh = 0; ack = 0; urg = 0; ece = 0; cwr = 0; ns = 0 };
  };
  reverse = record {
    packets = back;
    frame_octets = 0;
    packet_length = lengths_of back;
    tcp_flags = record { fin = back; syn = 0; rst = 0; psh = 0; ack = 0; urg = 0; ece = 0; cwr = 0; ns = 0 };
  };
  network = record { ttl = None; dscp = None; ecn = None };
  transport = record { icmp = None };
  capture = record { captured_octets = captured; truncated = false };
}

-- ## Document 01's examples

unfoldable pub examples : List Row
examples =
    -- P1 timeout 0, sweep at 2^64 − 1: none leaves.
    plays 0 8 (fed (ack 0 1 2 ∷ []) 1 [] (1 ∷ []) 0 ∷ swept (2 ^ 64 - 1) [] (1 ∷ []) 0 ∷ [])
    -- P2 1 ms, end 0: stays at 1,499,999, leaves at 1,500,000.
    ∷ plays 1 8
    (fed (ack 0 1 2 ∷ []) 1 [] (1 ∷ []) 0
    ∷ swept 1499999 [] (1 ∷ []) 1499999
    ∷ swept 1500000 (out MidStream IdleTimeout 0 0 1 0 60 0 ∷ []) [] 1500000
    ∷ [])
    -- P3 10,000 ms, end 0: stays at 10,999,999,999, leaves at 11,000,000,000.
    ∷ plays 10000 8
    (fed (ack 0 1 2 ∷ []) 1 [] (1 ∷ []) 0
    ∷ swept 10999999999 [] (1 ∷ []) 10999999999
    ∷ swept 11000000000 (out MidStream IdleTimeout 0 0 1 0 60 0 ∷ []) [] 11000000000
    ∷ [])
    -- P4 18,446,744,073,709 ms is exact; 18,446,744,073,710 is held at the top.
    ∷ holds 18446744073709 18446744073709000000
    ∷ holds 18446744073710 (2 ^ 64 - 1)
    -- P5 1000 ms, W 20 s: a packet at 1 s on a new key opens a flow, and the next sweep at 1 s hands it out.
    ∷ plays 1000 8
    (swept 20000000000 [] [] 20000000000
    ∷ fed (ack 1000000000 1 2 ∷ []) 1 [] (1 ∷ []) 20000000000
    ∷ swept 1000000000 (out MidStream IdleTimeout 1000000000 1000000000 1 0 60 0 ∷ []) [] 20000000000
    ∷ [])
    -- P6 SYN+RST, fresh key: opened, and ended Rst, one packet.
    ∷ plays 1000 8 (fed (synrst 5 1 2 ∷ []) 1 (out SynObserved Rst 5 5 1 0 60 0 ∷ []) [] 5 ∷ [])
    -- P7 SYN+RST after both FINs: the old ends Fin, the new stays open.
    ∷ plays 1000 8
    (fed (fin 1 1 2 ∷ fin 2 2 1 ∷ []) 1 [] (2 ∷ []) 2
    ∷ fed (synrst 3 1 2 ∷ []) 1 (out MidStream Fin 1 2 1 1 60 60 ∷ []) (1 ∷ []) 3
    ∷ [])
    -- P8 RST without SYN after both FINs: counted, ends Rst.
    ∷ plays 1000 8 (fed (fin 1 1 2 ∷ fin 2 2 1 ∷ rst 3 1 2 ∷ []) 1 (out MidStream Rst 1 3 2 1 120 60 ∷ []) [] 3 ∷ [])
    -- P9 key equal to its reverse, two FINs: still open.
    ∷ plays 1000 8 (fed (fin 1 7 7 ∷ fin 2 7 7 ∷ []) 1 [] (2 ∷ []) 2 ∷ [])
    -- P10 ACK opens at 500: a SYN at 500 gives SynObserved, at 501 MidStream.
    ∷ plays 1000 8
    (fed (ack 500 1 2 ∷ syn 500 1 2 ∷ []) 1 [] (2 ∷ []) 500 ∷ drained (out SynObserved CaptureEnd 500 500 2 0 120 0 ∷ []) 500 ∷ [])
    ∷ plays 1000 8
    (fed (ack 500 1 2 ∷ syn 501 1 2 ∷ []) 1 [] (2 ∷ []) 501 ∷ drained (out MidStream CaptureEnd 500 501 2 0 120 0 ∷ []) 501 ∷ [])
    -- P11 capacity 1, one open flow that stays: another conversation is Full; a SYN after its two FINs is accepted.
    ∷ plays 1000 1 (stops ample (ack 0 1 2 ∷ ack 1 3 4 ∷ []) Accepted Full 1 1 [] (1 ∷ []) 0 ∷ [])
    ∷ plays 1000 1 (fed (fin 0 1 2 ∷ fin 1 2 1 ∷ syn 2 1 2 ∷ []) 2 (out MidStream Fin 0 1 1 1 60 60 ∷ []) (1 ∷ []) 2 ∷ [])
    ∷ []

-- ## Rows of ours

unfoldable pub further : List Row
further =
    -- the document's `replay`: Fin 0 400 3 2 168 114
    plays 1000 32
    (fed
    (packet_of 0 60 2 (tcp 1 2) ∷ packet_of 100 60 18 (tcp 2 1) ∷ packet_of 200 54 17 (tcp 1 2) ∷ packet_of 300 54 17 (tcp 2 1) ∷ packet_of 400 54 16 (tcp 1 2) ∷ [])
    1 (out SynObserved Fin 0 400 3 2 168 114 ∷ []) [] 400
    ∷ drained [] 400
    ∷ [])
    -- timeout 0: a packet moves no clock
    ∷ plays 0 8 (fed (ack 7 1 2 ∷ []) 1 [] (1 ∷ []) 0 ∷ [])
    -- packets out of order inside a flow: start and end widen, and end is not the last delivery
    ∷ plays 1000 8
    (fed (ack 5000000000 1 2 ∷ ack 4900000000 2 1 ∷ []) 1 [] (2 ∷ []) 5000000000
    ∷ swept 6499999999 [] (2 ∷ []) 6499999999
    ∷ swept 6500000000 (out MidStream IdleTimeout 4900000000 5000000000 1 1 60 60 ∷ []) [] 6500000000
    ∷ [])
    -- a sweep by end, then key bytes; a drain by key bytes
    ∷ plays 1000 8
    (fed (ack 5 1 2 ∷ ack 5 3 4 ∷ ack 4 3 4 ∷ ack 0 5 6 ∷ []) 3 [] (1 ∷ 2 ∷ 1 ∷ []) 5
    ∷ swept 1500000005
    (out MidStream IdleTimeout 0 0 1 0 60 0 ∷ out MidStream IdleTimeout 5 5 1 0 60 0 ∷ out MidStream IdleTimeout 4 5 2 0 120 0 ∷ []) [] 1500000005
    ∷ [])
    ∷ plays 1000 8
    (fed (ack 5 1 2 ∷ ack 5 3 4 ∷ ack 4 3 4 ∷ ack 0 5 6 ∷ []) 3 [] (1 ∷ 2 ∷ 1 ∷ []) 5
    ∷ drained (out MidStream CaptureEnd 5 5 1 0 60 0 ∷ out MidStream CaptureEnd 4 5 2 0 120 0 ∷ out MidStream CaptureEnd 0 0 1 0 60 0 ∷ []) 5
    ∷ [])
    -- a sweep or a drain after both FINs: Fin
    ∷ plays 1000 8
    (fed (fin 0 1 2 ∷ fin 0 2 1 ∷ []) 1 [] (2 ∷ []) 0 ∷ swept 1500000000 (out MidStream Fin 0 0 1 1 60 60 ∷ []) [] 1500000000 ∷ [])
    ∷ plays 1000 8 (fed (fin 0 1 2 ∷ fin 0 2 1 ∷ []) 1 [] (2 ∷ []) 0 ∷ drained (out MidStream Fin 0 0 1 1 60 60 ∷ []) 0 ∷ [])
    -- swept records come first, then the one that ended: a packet's own sweep
    ∷ plays 1000 8
    (fed (ack 0 3 4 ∷ []) 1 [] (1 ∷ []) 0
    ∷ fed (rst 1500000000 1 2 ∷ []) 1
    (out MidStream IdleTimeout 0 0 1 0 60 0 ∷ out MidStream Rst 1500000000 1500000000 1 0 60 0 ∷ []) [] 1500000000
    ∷ [])
    -- the packet's own sweep comes before Full; a packet that an open flow takes is never Full
    ∷ plays 1000 1
    (fed (ack 0 1 2 ∷ ack 1 2 1 ∷ []) 1 [] (2 ∷ []) 1
    ∷ fed (ack 1500000001 3 4 ∷ []) 1 (out MidStream IdleTimeout 0 1 1 1 60 60 ∷ []) (1 ∷ []) 1500000001
    ∷ [])
    -- step 1 under the reversed key: a SYN from the other end after both FINs opens a flow the other way round
    ∷ plays 1000 8
    (fed (fin 1 1 2 ∷ fin 2 2 1 ∷ syn 3 2 1 ∷ []) 2 (out MidStream Fin 1 2 1 1 60 60 ∷ []) (1 ∷ []) 3
    ∷ drained (out SynObserved CaptureEnd 3 3 1 0 60 0 ∷ []) 3
    ∷ [])
    -- after one FIN, or two of one direction, a SYN ends nothing, and an ACK neither
    ∷ plays 1000 8 (fed (fin 1 1 2 ∷ fin 2 1 2 ∷ syn 3 1 2 ∷ ack 4 2 1 ∷ []) 1 [] (4 ∷ []) 4 ∷ [])
    -- an association: each direction is its own flow, and no flags of both close either
    ∷ plays 1000 8
    (fed (packet_of 1 60 1 (esp 1 2) ∷ packet_of 2 60 1 (esp 2 1) ∷ packet_of 3 60 2 (esp 1 2) ∷ packet_of 4 60 16 (esp 2 1) ∷ []) 2 [] (2 ∷ 2 ∷ []) 4
    ∷ drained (out NotApplicable CaptureEnd 1 3 2 0 120 0 ∷ out NotApplicable CaptureEnd 2 4 2 0 120 0 ∷ []) 4
    ∷ [])
    -- step 1 to the letter: a closed association, which no calls make, under the reversed key
    ∷ from 1000 8 0 ((esp 1 2, held 1 60 1 1 60) ∷ [])
    (fed (packet_of 3 60 2 (esp 2 1) ∷ []) 1 (out MidStream Fin 0 0 1 1 60 0 ∷ []) (1 ∷ []) 3 ∷ [])
    -- Spent, on each side: packets, octets, captured octets
    ∷ from 1000 8 0 ((tcp 1 2, held (2 ^ 64 - 3) 0 0 1 0) ∷ [])
    (fed (ack 1 1 2 ∷ []) 0 [] ((2 ^ 64 - 1) ∷ []) 1 ∷ stops ample (ack 2 2 1 ∷ []) Accepted Spent 0 0 [] ((2 ^ 64 - 1) ∷ []) 1 ∷ [])
    ∷ from 1000 8 0 ((tcp 1 2, held 1 (2 ^ 64 - 61) 0 0 0) ∷ [])
    (fed (ack 1 1 2 ∷ []) 0 [] (2 ∷ []) 1 ∷ stops ample (ack 2 2 1 ∷ []) Accepted Spent 0 0 [] (2 ∷ []) 1 ∷ [])
    ∷ from 1000 8 0 ((tcp 1 2, held 1 0 0 0 (2 ^ 64 - 61)) ∷ [])
    (fed (ack 1 1 2 ∷ []) 0 [] (2 ∷ []) 1 ∷ stops ample (ack 2 2 1 ∷ []) Accepted Spent 0 0 [] (2 ∷ []) 1 ∷ [])
    -- Room, on each side: the record takes 68 bytes. What is refused changes nothing, and its time is not seen.
    ∷ plays 1000 8
    (fed (ack 0 1 2 ∷ []) 1 [] (1 ∷ []) 0
    ∷ unfit (drain 67) (1 ∷ []) 0
    ∷ unfit (sweep 67 1500000000) (1 ∷ []) 0
    ∷ stops 67 (ack 1500000000 3 4 ∷ []) Accepted Room 0 0 [] (1 ∷ []) 0
    ∷ stops 68 (ack 1500000000 3 4 ∷ []) Accepted Accepted 1 1 (out MidStream IdleTimeout 0 0 1 0 60 0 ∷ []) (1 ∷ []) 1500000000
    ∷ [])
    -- the room of a batch is used up record by record
    ∷ plays 1000 8
    (stops 136 (rst 0 1 2 ∷ rst 0 3 4 ∷ rst 0 5 6 ∷ ack 0 7 8 ∷ []) Accepted Room 2 2
    (out MidStream Rst 0 0 1 0 60 0 ∷ out MidStream Rst 0 0 1 0 60 0 ∷ []) [] 0
    ∷ [])
    -- 4 and 9: what stands behind the packets, which are all taken
    ∷ plays 1000 8 (stops ample (ack 0 1 2 ∷ ack 1 2 1 ∷ []) BadPacket BadPacket 2 1 [] (2 ∷ []) 1 ∷ [])
    ∷ plays 1000 8 (stops ample (ack 0 1 2 ∷ []) Short Short 1 1 [] (1 ∷ []) 0 ∷ stops ample [] Accepted Accepted 0 0 [] (1 ∷ []) 0 ∷ [])
    ∷ []
