-- What the tests of "sound record" and of room say of the numbers, and back. Assumes nothing.
use Rattle.std.specs.Prelude.{ℕ, ◌+◌, ◌-◌, ◌^◌, ◌<◌, ◌≤◌, min, ◌≡◌, refl, Bool, true, false, ◌&&◌, ◌||◌, ltb, eqb, None, Option, Some}
use Rattle.std.proofs.lemmas.Bool.{false≢true}
use Rattle.std.proofs.Common.{arith, leb-true, ltb-true, lt-ltb, le-leb}
use Rattle.stats.specs.declared.counts.TcpFlagCounts.{TcpFlagCounts}
use Rattle.stats.specs.declared.counts.DirectionStats.{DirectionStats}
use Rattle.stats.specs.Counting.{FlagsUpTo}
use Rattle.flow.specs.declared.time.EndReason.{EndReason}
use Rattle.flow.specs.declared.record.FlowRecord.{FlowRecord}
use Rattle.flow.specs.declared.record.PacketFacts.{PacketFacts}
use Rattle.flow.specs.Counting.{has_room}
use Rattle.flow.specs.Sound.{sound_flags, sound_length, sound_ttl, sound_direction, sound_aside, has_reason, sound_record}
use Rattle.flow.specs.Summary.{packets_of, octets_of}

-- both sides of a test that passed
pub both : (a b : Bool) → (a && b) ≡ true → (a ≡ true) × (b ≡ true)
both true b e = (refl, e)
both false b e = absurd (false≢true e)

-- ---- each flag count at most its packets

pub flags_up_to : (n : ℕ) (c : TcpFlagCounts) → sound_flags n c ≡ true → FlagsUpTo n c
unfolding sound_flags
flags_up_to n c e =
    let h8 = both _ _ e in
    let h7 = both _ _ h8.0 in
    let h6 = both _ _ h7.0 in
    let h5 = both _ _ h6.0 in
    let h4 = both _ _ h5.0 in
    let h3 = both _ _ h4.0 in
    let h2 = both _ _ h3.0 in
    let h1 = both _ _ h2.0 in
    record {
      fin = leb-true _ _ h1.0;
      syn = leb-true _ _ h1.1;
      rst = leb-true _ _ h2.1;
      psh = leb-true _ _ h3.1;
      ack = leb-true _ _ h4.1;
      urg = leb-true _ _ h5.1;
      ece = leb-true _ _ h6.1;
      cwr = leb-true _ _ h7.1;
      ns = leb-true _ _ h8.1;
    }

pub flags_made : (n : ℕ) (c : TcpFlagCounts) → FlagsUpTo n c → sound_flags n c ≡ true
unfolding sound_flags
flags_made n c f =
    simp (
      le-leb c.fin n f.fin,
      le-leb c.syn n f.syn,
      le-leb c.rst n f.rst,
      le-leb c.psh n f.psh,
      le-leb c.ack n f.ack,
      le-leb c.urg n f.urg,
      le-leb c.ece n f.ece,
      le-leb c.cwr n f.cwr,
      le-leb c.ns n f.ns,
    )

-- ---- a sound direction

pub record DirectionFacts (d : DirectionStats) : Type 0 where
  pub length : sound_length d.packets d.packet_length ≡ true
  pub octets : (ltb 0 d.packets || eqb d.frame_octets 0) ≡ true
  pub flags : FlagsUpTo d.packets d.tcp_flags

pub direction_facts : (d : DirectionStats) → sound_direction d ≡ true → DirectionFacts d
unfolding sound_direction
direction_facts d e =
    let h2 = both _ _ e in
    let h1 = both _ _ h2.0 in
    record { length = h1.0; octets = h1.1; flags = flags_up_to _ _ h2.1 }

pub direction_made : (d : DirectionStats) → DirectionFacts d → sound_direction d ≡ true
unfolding sound_direction
direction_made d f = simp (f.length, f.octets, flags_made d.packets d.tcp_flags f.flags)

-- ---- a record that is sound, end reason aside

pub record SoundFacts (r : FlowRecord) : Type 0 where
  pub ordered : r.time.start.0 ≤ r.time.end.0
  pub some_packet : (ltb 0 r.forward.packets || ltb 0 r.reverse.packets) ≡ true
  pub forward : DirectionFacts r.forward
  pub reverse : DirectionFacts r.reverse
  pub ttl : sound_ttl r.network.ttl ≡ true
  pub packets : packets_of r < 2 ^ 64
  pub octets : octets_of r < 2 ^ 64

pub sound_facts : (r : FlowRecord) → sound_aside r ≡ true → SoundFacts r
unfolding sound_aside
sound_facts r e =
    let h6 = both _ _ e in
    let h5 = both _ _ h6.0 in
    let h4 = both _ _ h5.0 in
    let h3 = both _ _ h4.0 in
    let h2 = both _ _ h3.0 in
    let h1 = both _ _ h2.0 in
    record {
      ordered = leb-true _ _ h1.0;
      some_packet = h1.1;
      forward = direction_facts _ h2.1;
      reverse = direction_facts _ h3.1;
      ttl = h4.1;
      packets = ltb-true _ _ h5.1;
      octets = ltb-true _ _ h6.1;
    }

pub sound_made : (r : FlowRecord) → SoundFacts r → sound_aside r ≡ true
unfolding sound_aside
sound_made r f =
    simp (
      le-leb r.time.start.0 r.time.end.0 f.ordered,
      f.some_packet,
      direction_made r.forward f.forward,
      direction_made r.reverse f.reverse,
      f.ttl,
      lt-ltb (r.forward.packets + r.reverse.packets) (2 ^ 64) f.packets,
      lt-ltb (r.forward.frame_octets + r.reverse.frame_octets) (2 ^ 64) f.octets,
    )

-- the answer of `packets` on a sound record is the plain sum: "both directions' packets together .. below 2^64"
pub packets_is_sum : (r : FlowRecord) → sound_aside r ≡ true → min (r.forward.packets + r.reverse.packets) (2 ^ 64 - 1) ≡ packets_of r
packets_is_sum r e = let s = sound_facts r e in omega arith

-- the answer of `frame_octets` likewise: ".. and octets together, below 2^64"
pub octets_is_sum : (r : FlowRecord) → sound_aside r ≡ true → min (r.forward.frame_octets + r.reverse.frame_octets) (2 ^ 64 - 1) ≡ octets_of r
octets_is_sum r e = let s = sound_facts r e in omega arith

-- ---- a sound record has an end reason

-- "sound record" with its end reason
pub sound_record_facts : (r : FlowRecord) → sound_record r ≡ true → (sound_aside r ≡ true) × ((reason : EndReason) × (r.time.end_reason ≡ Some reason))
unfolding sound_record
sound_record_facts r e = let h = both _ _ e in (h.0, the_reason r.time.end_reason h.1)
  where
    the_reason : (o : Option EndReason) → has_reason o ≡ true → (reason : EndReason) × (o ≡ Some reason)
    the_reason None h = absurd (false≢true h)
    the_reason (Some reason) h = (reason, refl)

-- ---- room for a packet

pub record RoomFacts (r : FlowRecord) (p : PacketFacts) : Type 0 where
  pub packets : packets_of r + 1 < 2 ^ 64
  pub octets : octets_of r + p.frame_octets < 2 ^ 64
  pub captured : r.capture.captured_octets + p.captured_octets < 2 ^ 64

pub room_facts : (r : FlowRecord) (p : PacketFacts) → has_room r p ≡ true → RoomFacts r p
unfolding has_room
room_facts r p e =
    let h2 = both _ _ e in
    let h1 = both _ _ h2.0 in
    record { packets = ltb-true _ _ h1.0; octets = ltb-true _ _ h1.1; captured = ltb-true _ _ h2.1 }
