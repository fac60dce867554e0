-- The summary of a list of packets: a record that is opened by the first and counts each in its direction. Assumes nothing.
use Rattle.std.specs.Prelude.{ℕ, min, max, ◌+◌, ◌/◌, ◌%◌, List, [], ◌∷◌}
use Rattle.stats.specs.declared.counts.TcpFlagCounts.{TcpFlagCounts}
use Rattle.stats.specs.declared.counts.DirectionStats.{DirectionStats}
use Rattle.flow.specs.declared.time.TimeResolution.{TimeResolution}
use Rattle.flow.specs.declared.record.Direction.{Direction}
use Rattle.flow.specs.declared.record.PacketFacts.{PacketFacts}
use Rattle.flow.specs.declared.record.FlowRecord.{FlowRecord}
use Rattle.flow.specs.Counting.{opened_of, counted_of}

-- a packet, with the direction that it is counted in
abbrev pub Taken : Type 0
Taken = Direction × PacketFacts

-- each packet of the list, counted in its direction
abbrev pub folded_of : FlowRecord → List Taken → FlowRecord
folded_of r [] = r
folded_of r (t ∷ ts) = folded_of (counted_of r t.0 t.1) ts

-- the first packet is counted forward
unfoldable pub summary_of : TimeResolution → ℕ → PacketFacts → List Taken → FlowRecord
summary_of resolution protocol p ts = folded_of (opened_of resolution protocol p) ((Direction.Forward, p) ∷ ts)

-- a number for each packet, added up
abbrev pub sum_of : (Taken → ℕ) → List Taken → ℕ
sum_of w [] = 0
sum_of w (t ∷ ts) = w t + sum_of w ts

-- ---- what is counted, of both directions together, and what a packet adds to it
abbrev pub packets_of : FlowRecord → ℕ
packets_of r = r.forward.packets + r.reverse.packets

abbrev pub octets_of : FlowRecord → ℕ
octets_of r = r.forward.frame_octets + r.reverse.frame_octets

-- the nine flags
pub data Flag : Type 0 where
  fin : Flag
  syn : Flag
  rst : Flag
  psh : Flag
  ack : Flag
  urg : Flag
  ece : Flag
  cwr : Flag
  ns : Flag

abbrev pub count_of : Flag → TcpFlagCounts → ℕ
count_of fin c = c.fin
count_of syn c = c.syn
count_of rst c = c.rst
count_of psh c = c.psh
count_of ack c = c.ack
count_of urg c = c.urg
count_of ece c = c.ece
count_of cwr c = c.cwr
count_of ns c = c.ns

-- 1 if the mask has the flag set, else 0
abbrev pub bit_of : Flag → ℕ → ℕ
bit_of fin mask = mask % 2
bit_of syn mask = mask / 2 % 2
bit_of rst mask = mask / 4 % 2
bit_of psh mask = mask / 8 % 2
bit_of ack mask = mask / 16 % 2
bit_of urg mask = mask / 32 % 2
bit_of ece mask = mask / 64 % 2
bit_of cwr mask = mask / 128 % 2
bit_of ns mask = mask / 256 % 2

abbrev pub flags_of : Flag → FlowRecord → ℕ
flags_of k r = count_of k r.forward.tcp_flags + count_of k r.reverse.tcp_flags

-- ---- one direction: what the record has of it, and what a packet adds to it
abbrev pub side_of : Direction → FlowRecord → DirectionStats
side_of Direction.Forward r = r.forward
side_of Direction.Reverse r = r.reverse

-- n where the two directions are the same, else 0
abbrev pub if_same : Direction → Direction → ℕ → ℕ
if_same Direction.Forward Direction.Forward n = n
if_same Direction.Forward Direction.Reverse n = 0
if_same Direction.Reverse Direction.Forward n = 0
if_same Direction.Reverse Direction.Reverse n = n

-- the packet's number where it is counted in the direction, else 0
abbrev pub in_direction : Direction → (PacketFacts → ℕ) → Taken → ℕ
in_direction d w t = if_same d t.0 (w t.1)

-- ---- times
abbrev pub time_of : Taken → ℕ
time_of t = t.1.time.0

-- the least of n and the packets' times, and the greatest
abbrev pub least_of : ℕ → List Taken → ℕ
least_of n [] = n
least_of n (t ∷ ts) = min (time_of t) (least_of n ts)

abbrev pub greatest_of : ℕ → List Taken → ℕ
greatest_of n [] = n
greatest_of n (t ∷ ts) = max (time_of t) (greatest_of n ts)
