-- What a summary has of its packets: counts are sums over the list. One law, `adds_up`, and a case for each thing that is counted. Assumes nothing.
use Rattle.std.specs.Prelude.{ℕ, ◌+◌, ◌≡◌, refl, List, [], ◌∷◌, length}
use Rattle.std.proofs.Common.{◌∙◌, zero-add, arith}
use Rattle.stats.specs.declared.counts.DirectionStats.{DirectionStats}
use Rattle.flow.specs.declared.time.TimeResolution.{TimeResolution}
use Rattle.flow.specs.declared.record.Direction.{Direction}
use Rattle.flow.specs.declared.record.PacketFacts.{PacketFacts}
use Rattle.flow.specs.declared.record.FlowRecord.{FlowRecord}
use Rattle.flow.specs.Counting.{mask_of, opened_of, taken, counted_of}
use Rattle.flow.specs.Summary.{Taken, folded_of, summary_of, sum_of, packets_of, octets_of, Flag, fin, syn, rst, psh, ack, urg, ece, cwr, ns, count_of, bit_of, flags_of, side_of, in_direction}
use Rattle.flow.specs.CountingLaws.{Keeps, counting_keeps, packets_one, octets_one, captured_one, flags_one, side_one, taken_packets, taken_octets, taken_flags}

-- the law: what each packet adds to adds up over the list
pub adds_up : (m : FlowRecord → ℕ) (w : Taken → ℕ) → ((r : FlowRecord) (d : Direction) (p : PacketFacts) → m (counted_of r d p) ≡ m r + w (d, p))
    → (r : FlowRecord) (ts : List Taken) → m (folded_of r ts) ≡ m r + sum_of w ts
adds_up m w one r [] = omega arith
adds_up m w one r (t ∷ ts) = let h = adds_up m w one (counted_of r t.0 t.1) ts in let g = one r t.0 t.1 in omega arith

sum_of_ones : (ts : List Taken) → sum_of (λ t. 1) ts ≡ length ts
sum_of_ones [] = refl
sum_of_ones (t ∷ ts) = let h = sum_of_ones ts in omega arith

-- ---- a record that counted a list of packets has its own counts, and theirs

-- packets: one for each of the list
pub packets_add_up : (r : FlowRecord) (ts : List Taken) → packets_of (folded_of r ts) ≡ packets_of r + length ts
packets_add_up r ts = rw (← sum_of_ones ts) (adds_up packets_of (λ t. 1) packets_one r ts)

-- frame octets of both directions together
pub octets_add_up : (r : FlowRecord) (ts : List Taken) → octets_of (folded_of r ts) ≡ octets_of r + sum_of (λ t. t.1.frame_octets) ts
octets_add_up = adds_up octets_of (λ t. t.1.frame_octets) octets_one

-- captured octets
pub captured_add_up : (r : FlowRecord) (ts : List Taken) → (folded_of r ts).capture.captured_octets ≡ r.capture.captured_octets + sum_of (λ t. t.1.captured_octets) ts
captured_add_up = adds_up (λ r. r.capture.captured_octets) (λ t. t.1.captured_octets) captured_one

-- each of the nine flag counts, of both directions together
pub flags_add_up : (k : Flag) (r : FlowRecord) (ts : List Taken) → flags_of k (folded_of r ts) ≡ flags_of k r + sum_of (λ t. bit_of k (mask_of t.1.tcp_flags)) ts
flags_add_up k = adds_up (flags_of k) (λ t. bit_of k (mask_of t.1.tcp_flags)) (flags_one k)

-- ---- each direction has the counts of its own packets

pub direction_adds_up : (m : DirectionStats → ℕ) (w : PacketFacts → ℕ) → ((s : DirectionStats) (p : PacketFacts) → m (taken s p) ≡ m s + w p)
    → (d : Direction) (r : FlowRecord) (ts : List Taken) → m (side_of d (folded_of r ts)) ≡ m (side_of d r) + sum_of (in_direction d w) ts
direction_adds_up m w one d = adds_up (λ r. m (side_of d r)) (in_direction d w) (side_one m w one d)

-- "add packet .. to its direction"
pub direction_packets : (d : Direction) (r : FlowRecord) (ts : List Taken) → (side_of d (folded_of r ts)).packets ≡ (side_of d r).packets + sum_of (in_direction d (λ p. 1)) ts
direction_packets = direction_adds_up (λ s. s.packets) (λ p. 1) taken_packets

-- "add .. frame octets .. to its direction"
pub direction_octets : (d : Direction) (r : FlowRecord) (ts : List Taken) → (side_of d (folded_of r ts)).frame_octets ≡ (side_of d r).frame_octets + sum_of (in_direction d (λ p. p.frame_octets)) ts
direction_octets = direction_adds_up (λ s. s.frame_octets) (λ p. p.frame_octets) taken_octets

-- "add .. set flags to its direction"
pub direction_flags : (k : Flag) (d : Direction) (r : FlowRecord) (ts : List Taken)
    → count_of k (side_of d (folded_of r ts)).tcp_flags ≡ count_of k (side_of d r).tcp_flags + sum_of (in_direction d (λ p. bit_of k (mask_of p.tcp_flags))) ts
direction_flags k = direction_adds_up (λ s. count_of k s.tcp_flags) (λ p. bit_of k (mask_of p.tcp_flags)) (taken_flags k)

-- ---- a summary has the sums over its packets, the first among them

-- packets of both directions together: as many as the list has
pub summary_packets : (resolution : TimeResolution) (protocol : ℕ) (p : PacketFacts) (ts : List Taken) → packets_of (summary_of resolution protocol p ts) ≡ 1 + length ts
unfolding summary_of opened_of
summary_packets resolution protocol p ts = let h = packets_add_up (opened_of resolution protocol p) ((Direction.Forward, p) ∷ ts) in omega arith

-- octets of both directions together
pub summary_octets : (resolution : TimeResolution) (protocol : ℕ) (p : PacketFacts) (ts : List Taken)
    → octets_of (summary_of resolution protocol p ts) ≡ sum_of (λ t. t.1.frame_octets) ((Direction.Forward, p) ∷ ts)
unfolding summary_of opened_of
summary_octets resolution protocol p ts = octets_add_up (opened_of resolution protocol p) ((Direction.Forward, p) ∷ ts) ∙ zero-add _

-- captured octets
pub summary_captured : (resolution : TimeResolution) (protocol : ℕ) (p : PacketFacts) (ts : List Taken)
    → (summary_of resolution protocol p ts).capture.captured_octets ≡ sum_of (λ t. t.1.captured_octets) ((Direction.Forward, p) ∷ ts)
unfolding summary_of opened_of
summary_captured resolution protocol p ts = captured_add_up (opened_of resolution protocol p) ((Direction.Forward, p) ∷ ts) ∙ zero-add _

-- each of the nine flags
pub summary_flags : (k : Flag) (resolution : TimeResolution) (protocol : ℕ) (p : PacketFacts) (ts : List Taken)
    → flags_of k (summary_of resolution protocol p ts) ≡ sum_of (λ t. bit_of k (mask_of t.1.tcp_flags)) ((Direction.Forward, p) ∷ ts)
unfolding summary_of opened_of
summary_flags k resolution protocol p ts = flags_add_up k (opened_of resolution protocol p) ((Direction.Forward, p) ∷ ts) ∙ rw (none k) (zero-add _)
  where
    none : (k : Flag) → flags_of k (opened_of resolution protocol p) ≡ 0
    none fin = refl
    none syn = refl
    none rst = refl
    none psh = refl
    none ack = refl
    none urg = refl
    none ece = refl
    none cwr = refl
    none ns = refl

-- ---- what a list of packets does not change

pub folding_keeps : (r : FlowRecord) (ts : List Taken) → Keeps r (folded_of r ts)
folding_keeps r [] = record { resolution = refl; reason = refl; dscp = refl; ecn = refl }
folding_keeps r (t ∷ ts) =
    let h = folding_keeps (counted_of r t.0 t.1) ts in
    let g = counting_keeps r t.0 t.1 in
    record { resolution = h.resolution ∙ g.resolution; reason = h.reason ∙ g.reason; dscp = h.dscp ∙ g.dscp; ecn = h.ecn ∙ g.ecn }

-- "resolution is the engine's setting, or in a host's own record the one it gives"; "DSCP and ECN are the first packet's, absent included"; no end reason yet
pub summary_keeps : (resolution : TimeResolution) (protocol : ℕ) (p : PacketFacts) (ts : List Taken) → Keeps (opened_of resolution protocol p) (summary_of resolution protocol p ts)
unfolding summary_of
summary_keeps resolution protocol p ts = folding_keeps (opened_of resolution protocol p) ((Direction.Forward, p) ∷ ts)
