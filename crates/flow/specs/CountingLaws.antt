-- What one packet changes of a record and what it keeps, with the counting itself left shut. Assumes nothing.
use Rattle.std.specs.Prelude.{ℕ, zero, suc, min, max, ◌+◌, ◌%◌, ◌<◌, ◌≡◌, refl, ◌↔◌, ◌⊎◌, Some}
use Rattle.std.proofs.Common.{inl, inr, ⊎_elim, arith}
use Rattle.stats.specs.declared.counts.TcpFlagCounts.{TcpFlagCounts}
use Rattle.stats.specs.declared.counts.DirectionStats.{DirectionStats}
use Rattle.stats.specs.Counting.{counted_flags}
use Rattle.flow.specs.declared.time.TimeResolution.{TimeResolution}
use Rattle.flow.specs.declared.time.EndReason.{EndReason}
use Rattle.flow.specs.declared.record.Direction.{Direction}
use Rattle.flow.specs.declared.record.PacketFacts.{PacketFacts}
use Rattle.flow.specs.declared.record.FlowRecord.{FlowRecord}
use Rattle.flow.specs.Counting.{mask_of, opened_of, counted_rest, taken, counted_of, closed}
use Rattle.flow.specs.Summary.{packets_of, octets_of, Flag, fin, syn, rst, psh, ack, urg, ece, cwr, ns, count_of, bit_of, flags_of, side_of, if_same}

-- ---- times

-- "start and end widen": the start to an earlier time
pub counted_start : (r : FlowRecord) (d : Direction) (p : PacketFacts) → (counted_of r d p).time.start.0 ≡ min r.time.start.0 p.time.0
unfolding counted_of counted_rest
counted_start r Direction.Forward p = refl
counted_start r Direction.Reverse p = refl

-- .. and the end to a later one
pub counted_end : (r : FlowRecord) (d : Direction) (p : PacketFacts) → (counted_of r d p).time.end.0 ≡ max r.time.end.0 p.time.0
unfolding counted_of counted_rest
counted_end r Direction.Forward p = refl
counted_end r Direction.Reverse p = refl

-- "start and end are the packet's time", also once the first packet is counted: the start
pub begun_start : (resolution : TimeResolution) (protocol : ℕ) (d : Direction) (p : PacketFacts) → (counted_of (opened_of resolution protocol p) d p).time.start.0 ≡ p.time.0
unfolding opened_of
begun_start resolution protocol d p = let h = counted_start (opened_of resolution protocol p) d p in omega arith

-- .. and the end
pub begun_end : (resolution : TimeResolution) (protocol : ℕ) (d : Direction) (p : PacketFacts) → (counted_of (opened_of resolution protocol p) d p).time.end.0 ≡ p.time.0
unfolding opened_of
begun_end resolution protocol d p = let h = counted_end (opened_of resolution protocol p) d p in omega arith

-- ---- what no packet changes: resolution, DSCP, ECN and the end reason

pub record Keeps (r s : FlowRecord) : Type 0 where
  pub resolution : s.time.resolution ≡ r.time.resolution
  pub reason : s.time.end_reason ≡ r.time.end_reason
  pub dscp : s.network.dscp ≡ r.network.dscp
  pub ecn : s.network.ecn ≡ r.network.ecn

-- resolution, DSCP and ECN are those of the opening; the end reason is not counting's to set
pub counting_keeps : (r : FlowRecord) (d : Direction) (p : PacketFacts) → Keeps r (counted_of r d p)
unfolding counted_of counted_rest
counting_keeps r Direction.Forward p = record { resolution = refl; reason = refl; dscp = refl; ecn = refl }
counting_keeps r Direction.Reverse p = record { resolution = refl; reason = refl; dscp = refl; ecn = refl }

-- ---- closing sets the end reason, and changes nothing else

pub record Closes (r : FlowRecord) (reason : EndReason) (s : FlowRecord) : Type 0 where
  pub start : s.time.start ≡ r.time.start
  pub end : s.time.end ≡ r.time.end
  pub resolution : s.time.resolution ≡ r.time.resolution
  pub state : s.time.start_state ≡ r.time.start_state
  pub reason_set : s.time.end_reason ≡ Some reason
  pub forward : s.forward ≡ r.forward
  pub reverse : s.reverse ≡ r.reverse
  pub network : s.network ≡ r.network
  pub transport : s.transport ≡ r.transport
  pub capture : s.capture ≡ r.capture

-- a record that is closed
pub closing : (r : FlowRecord) (reason : EndReason) → Closes r reason (closed r reason)
unfolding closed
closing r reason = record {
  start = refl;
  end = refl;
  resolution = refl;
  state = refl;
  reason_set = refl;
  forward = refl;
  reverse = refl;
  network = refl;
  transport = refl;
  capture = refl;
}

-- ---- both directions together: "add packet, frame octets and set flags"; "captured octets add"

-- one packet
pub packets_one : (r : FlowRecord) (d : Direction) (p : PacketFacts) → packets_of (counted_of r d p) ≡ packets_of r + 1
unfolding counted_of counted_rest taken
packets_one r Direction.Forward p = omega arith
packets_one r Direction.Reverse p = omega arith

-- its frame octets
pub octets_one : (r : FlowRecord) (d : Direction) (p : PacketFacts) → octets_of (counted_of r d p) ≡ octets_of r + p.frame_octets
unfolding counted_of counted_rest taken
octets_one r Direction.Forward p = omega arith
octets_one r Direction.Reverse p = omega arith

-- its captured octets
pub captured_one : (r : FlowRecord) (d : Direction) (p : PacketFacts) → (counted_of r d p).capture.captured_octets ≡ r.capture.captured_octets + p.captured_octets
unfolding counted_of counted_rest
captured_one r Direction.Forward p = refl
captured_one r Direction.Reverse p = refl

flag_counted : (k : Flag) (c : TcpFlagCounts) (mask : ℕ) → count_of k (counted_flags c mask) ≡ count_of k c + bit_of k mask
flag_counted fin c mask = refl
flag_counted syn c mask = refl
flag_counted rst c mask = refl
flag_counted psh c mask = refl
flag_counted ack c mask = refl
flag_counted urg c mask = refl
flag_counted ece c mask = refl
flag_counted cwr c mask = refl
flag_counted ns c mask = refl

-- its set flags
pub flags_one : (k : Flag) (r : FlowRecord) (d : Direction) (p : PacketFacts) → flags_of k (counted_of r d p) ≡ flags_of k r + bit_of k (mask_of p.tcp_flags)
unfolding counted_of counted_rest taken
flags_one k r Direction.Forward p = let h = flag_counted k r.forward.tcp_flags (mask_of p.tcp_flags) in omega arith
flags_one k r Direction.Reverse p = let h = flag_counted k r.reverse.tcp_flags (mask_of p.tcp_flags) in omega arith

-- ---- one direction: ".. to its direction", and nothing to the other

-- what a packet adds to a direction that takes it, it adds to its own direction only
pub side_one : (m : DirectionStats → ℕ) (w : PacketFacts → ℕ) → ((s : DirectionStats) (p : PacketFacts) → m (taken s p) ≡ m s + w p)
    → (e : Direction) (r : FlowRecord) (d : Direction) (p : PacketFacts) → m (side_of e (counted_of r d p)) ≡ m (side_of e r) + if_same e d (w p)
unfolding counted_of counted_rest
side_one m w one Direction.Forward r Direction.Forward p = one r.forward p
side_one m w one Direction.Forward r Direction.Reverse p = omega arith
side_one m w one Direction.Reverse r Direction.Forward p = omega arith
side_one m w one Direction.Reverse r Direction.Reverse p = one r.reverse p

-- the direction that takes a packet has one more
pub taken_packets : (s : DirectionStats) (p : PacketFacts) → (taken s p).packets ≡ s.packets + 1
unfolding taken
taken_packets s p = refl

-- .. its frame octets
pub taken_octets : (s : DirectionStats) (p : PacketFacts) → (taken s p).frame_octets ≡ s.frame_octets + p.frame_octets
unfolding taken
taken_octets s p = refl

-- .. and its set flags
pub taken_flags : (k : Flag) (s : DirectionStats) (p : PacketFacts) → count_of k (taken s p).tcp_flags ≡ count_of k s.tcp_flags + bit_of k (mask_of p.tcp_flags)
unfolding taken
taken_flags k s p = flag_counted k s.tcp_flags (mask_of p.tcp_flags)

-- a direction has seen a FIN: its fin count is above 0
abbrev pub FinSeen : Direction → FlowRecord → Type 0
FinSeen d r = 0 < (side_of d r).tcp_flags.fin

-- "FIN marks its direction"
pub fin_marks : (r : FlowRecord) (d : Direction) (p : PacketFacts) → FinSeen d (counted_of r d p) ↔ (FinSeen d r ⊎ (mask_of p.tcp_flags % 2 ≡ 1))
fin_marks r d p =
    let h = side_one (λ s. s.tcp_flags.fin) (λ q. mask_of q.tcp_flags % 2) (taken_flags fin) d r d p in
    let g = own d (mask_of p.tcp_flags % 2) in
    (λ seen. above (side_of d r).tcp_flags.fin (mask_of p.tcp_flags) (omega arith), ⊎_elim (λ seen. omega arith) (λ set. omega arith))
  where
    own : (d : Direction) (n : ℕ) → if_same d d n ≡ n
    own Direction.Forward n = refl
    own Direction.Reverse n = refl

    above : (a mask : ℕ) → 0 < a + mask % 2 → (0 < a) ⊎ (mask % 2 ≡ 1)
    above zero mask h = inr (omega arith)
    above (suc a) mask h = inl (omega arith)

-- the other direction stays as it was
pub other_kept : (r : FlowRecord) (p : PacketFacts) → ((counted_of r Direction.Forward p).reverse ≡ r.reverse) × ((counted_of r Direction.Reverse p).forward ≡ r.forward)
unfolding counted_of counted_rest
other_kept r p = (refl, refl)
