-- The engine's own terms meet what the third demand and soundness ask of terms. Assumes nothing.
use Rattle.std.specs.Prelude.{◌≡◌, refl, Bool, true, false, not, ◌&&◌, List, [], ◌∷◌, ◌++◌, ℕ, ◌^◌, ◌<◌, ◌≤◌, None, Option, Some}
use Rattle.std.proofs.Common.{sym, ap, ◌∙◌, append_assoc, arith}
use Rattle.forms.specs.Optional.{number8, number16}
use Rattle.key.specs.Key.{reversed_key, reversed_twice, reversal_both}
use Rattle.key.specs.KeyTheorems.{KeyInRange, EndpointsInRange, equal_bytes}
use Rattle.key.specs.Endpoints.{reversed_endpoints}
use Rattle.key.specs.declared.key.Endpoints.{Endpoints}
use Rattle.key.specs.declared.key.Endpoints.TheVariants.{Ports, SecurityAssociation, GreProtocol, None}
use Rattle.key.specs.declared.key.FlowKey.{FlowKey}
use Rattle.stats.specs.Counting.{FlagsUpTo}
use Rattle.stats.specs.Range.{widened}
use Rattle.stats.specs.declared.counts.TcpFlagCounts.{TcpFlagCounts}
use Rattle.stats.specs.declared.counts.DirectionStats.{DirectionStats}
use Rattle.flow.specs.Counting.{nothing_yet, opened_of, counted_rest, taken, counted_of, closed, has_room, widened_by, first_of}
use Rattle.flow.specs.CountingLaws.{begun_end, counted_end, packets_one, octets_one, flags_one, other_kept}
use Rattle.flow.specs.Summary.{Flag, fin, syn, rst, psh, ack, urg, ece, cwr, ns, packets_of, octets_of, flags_of}
use Rattle.flow.specs.Sound.{sound_aside}
use Rattle.flow.specs.SoundLaws.{sound_facts, DirectionFacts, room_facts}
use Rattle.flow.specs.SoundKept.{counted_is_sound, opening_is_sound}
use Rattle.flow.specs.declared.time.TimeResolution.{TimeResolution}
use Rattle.flow.specs.declared.time.EndReason.{EndReason}
use Rattle.flow.specs.declared.record.Direction.{Direction}
use Rattle.flow.specs.declared.record.Direction.TheVariants.{Forward, Reverse}
use Rattle.flow.specs.declared.record.FlowRecord.{FlowRecord}
use Rattle.wire.specs.declared.packet.Packet.{Packet}
use Rattle.wire.specs.PacketTheorems.{PacketInRange}
use Rattle.wire.specs.RecordForm.{LengthsInRange, TtlInRange, direction_fields, fields_of}
use Rattle.wire.specs.RecordTheorems.{FlagsInRange, DirectionInRange, FlowInRange, record_at_most}
use Rattle.rules.specs.Rules.{Finished}
use Rattle.rules.specs.Engine.{engine, key_bytes, is_association, begun_with, fin_seen, both_fins, finished_flow, record_form, record_size, written}
use Rattle.rules.specs.Demand.{Timed, Tally}
use Rattle.rules.specs.Sound.{KeyLaws, HeldLaws, TwoWay}
use Rattle.rules.specs.EngineLaws.{octets_in, flag_in, SoundFlow, MadeFlow}
use Rattle.stats.specs.declared.range.Range.{Range}

-- ## Times and counts

-- a record's end is the latest time of its packets
pub engine_timed : Timed engine
engine_timed = record {
  begins = λ r p. begun_end r p.key.protocol Forward p.facts;
  widens = λ d p h. counted_end h d p.facts;
}

pub begun_packets : (r : TimeResolution) (p : Packet) → packets_of (begun_with r p) ≡ 1
unfolding opened_of
begun_packets r p = packets_one (opened_of r p.key.protocol p.facts) Forward p.facts

-- packets of both directions together: one for each
unfoldable pub packet_tally : Tally engine
packet_tally = record {
  of = packets_of;
  each = λ p. 1;
  begins = begun_packets;
  adds = λ d p h. packets_one h d p.facts;
}

pub begun_octets : (r : TimeResolution) (p : Packet) → octets_of (begun_with r p) ≡ octets_in p
unfolding opened_of
begun_octets r p = omega (arith, octets_one (opened_of r p.key.protocol p.facts) Forward p.facts)

-- octets of both directions together: each packet's frame octets
unfoldable pub octet_tally : Tally engine
octet_tally = record {
  of = octets_of;
  each = octets_in;
  begins = begun_octets;
  adds = λ d p h. octets_one h d p.facts;
}

none_yet : (j : Flag) (r : TimeResolution) (p : Packet) → flags_of j (opened_of r p.key.protocol p.facts) ≡ 0
unfolding opened_of
none_yet fin r p = refl
none_yet syn r p = refl
none_yet rst r p = refl
none_yet psh r p = refl
none_yet ack r p = refl
none_yet urg r p = refl
none_yet ece r p = refl
none_yet cwr r p = refl
none_yet ns r p = refl

pub begun_flags : (j : Flag) (r : TimeResolution) (p : Packet) → flags_of j (begun_with r p) ≡ flag_in j p
begun_flags j r p = omega (arith, flags_one j (opened_of r p.key.protocol p.facts) Forward p.facts, none_yet j r p)

-- each of the nine flag counts, of both directions together
unfoldable pub flag_tally : Flag → Tally engine
flag_tally k = record {
  of = flags_of k;
  each = flag_in k;
  begins = begun_flags k;
  adds = λ d p h. flags_one k h d p.facts;
}

-- ## Keys

ends_in_range : (e : Endpoints) → EndpointsInRange e → EndpointsInRange (reversed_endpoints e)
ends_in_range None h = tt
ends_in_range (Ports s d) h = (h.1, h.0)
ends_in_range (SecurityAssociation i) h = h
ends_in_range (GreProtocol p) h = h

pub reversed_in_range : (k : FlowKey) → KeyInRange k → KeyInRange (reversed_key k)
reversed_in_range k h = record {
  protocol = h.protocol;
  ethertype = h.ethertype;
  endpoints = ends_in_range k.endpoints h.endpoints;
  source = h.destination;
  destination = h.source;
  source_mac_lem = h.destination_mac_lem;
  destination_mac_lem = h.source_mac_lem;
  vlan = h.vlan;
  encapsulation = h.encapsulation;
}

-- the key whose bytes are those of a's reverse is a's reverse
is_reverse : (a b : FlowKey) → KeyInRange a → KeyInRange b → key_bytes (reversed_key a) ≡ key_bytes b → reversed_key a ≡ b
is_reverse a b ra rb e = equal_bytes (reversed_key a) b (reversed_in_range a ra) rb e

pub engine_keys : KeyLaws engine KeyInRange
engine_keys = record {
  turn = λ a b ra rb e. ap key_bytes (ap reversed_key (sym (is_reverse a b ra rb e)) ∙ reversed_twice a);
  kind = λ a b ra rb e. ap not (sym (reversal_both a)) ∙ ap is_association (is_reverse a b ra rb e);
}

-- ## Records

lengths_kept : (o : Option (Range ℕ)) (n : ℕ) → n < 2 ^ 32 → LengthsInRange o → LengthsInRange (widened o n)
lengths_kept None n h a = (omega arith, omega arith)
lengths_kept (Some r) n h a = (omega (arith, a.0), omega (arith, a.1))

ttl_kept : (o : Option (Range ℕ)) (v : Option ℕ) → number8 v ≤ 2 ^ 8 → TtlInRange o → TtlInRange (widened_by o v)
ttl_kept o None h a = a
ttl_kept None (Some v) h a = (omega arith, omega arith)
ttl_kept (Some r) (Some v) h a = (omega (arith, a.0), omega (arith, a.1))

first_kept : (o v : Option ℕ) → number16 o ≤ 2 ^ 16 → number16 v ≤ 2 ^ 16 → number16 (first_of o v) ≤ 2 ^ 16
first_kept None v a b = b
first_kept (Some x) v a b = a

not-false : (b : Bool) → not b ≡ false → b ≡ true
not-false true e = refl
not-false false e = sym e

begun_parts : (r : TimeResolution) (p : Packet) → PacketInRange p → sound_aside (begun_with r p) ≡ true → SoundFlow p.key (begun_with r p)
unfolding opened_of counted_of counted_rest taken
begun_parts r p h e = record {
  key = h.key;
  sound = e;
  start = omega (arith, h.facts.time);
  end = omega (arith, h.facts.time);
  forward = lengths_kept None (octets_in p) h.facts.frame (omega arith, omega arith);
  reverse = (omega arith, omega arith);
  ttl = ttl_kept None p.facts.ttl h.facts.ttl (omega arith, omega arith);
  dscp = h.facts.dscp;
  ecn = h.facts.ecn;
  icmp = h.facts.icmp;
  captured = omega (arith, h.facts.captured);
}

-- a flow that opens is sound
begun_sound : (r : TimeResolution) (p : Packet) → PacketInRange p → SoundFlow p.key (begun_with r p)
begun_sound r p h = begun_parts r p h (opening_is_sound r p.key.protocol p.facts h.facts.frame)

counted_parts : (d : Direction) (p : Packet) (k : FlowKey) (r : FlowRecord) → PacketInRange p → SoundFlow k r → has_room r p.facts ≡ true
    → sound_aside (counted_of r d p.facts) ≡ true → SoundFlow k (counted_of r d p.facts)
unfolding counted_of counted_rest taken
counted_parts Forward p k r h a room e = record {
  key = a.key;
  sound = e;
  start = omega (arith, a.start);
  end = omega (arith, a.end, h.facts.time);
  forward = lengths_kept r.forward.packet_length (octets_in p) h.facts.frame a.forward;
  reverse = a.reverse;
  ttl = ttl_kept r.network.ttl p.facts.ttl h.facts.ttl a.ttl;
  dscp = a.dscp;
  ecn = a.ecn;
  icmp = first_kept r.transport.icmp p.facts.icmp a.icmp h.facts.icmp;
  captured = (room_facts r p.facts room).captured;
}
counted_parts Reverse p k r h a room e = record {
  key = a.key;
  sound = e;
  start = omega (arith, a.start);
  end = omega (arith, a.end, h.facts.time);
  forward = a.forward;
  reverse = lengths_kept r.reverse.packet_length (octets_in p) h.facts.frame a.reverse;
  ttl = ttl_kept r.network.ttl p.facts.ttl h.facts.ttl a.ttl;
  dscp = a.dscp;
  ecn = a.ecn;
  icmp = first_kept r.transport.icmp p.facts.icmp a.icmp h.facts.icmp;
  captured = (room_facts r p.facts room).captured;
}

-- and stays so as it counts a packet that does not spend it
counted_sound : (d : Direction) (p : Packet) (k : FlowKey) (r : FlowRecord) → PacketInRange p → SoundFlow k r → has_room r p.facts ≡ true
    → SoundFlow k (counted_of r d p.facts)
counted_sound d p k r h a room = counted_parts d p k r h a room (counted_is_sound r d p.facts a.sound room)

pub engine_held : HeldLaws engine KeyInRange PacketInRange SoundFlow
engine_held = record {
  ranged = λ p h. h.key;
  named = λ k r a. a.key;
  begins = begun_sound;
  counts = λ d p k r h a way spent. counted_sound d p k r h a (not-false (has_room r p.facts) spent);
}

-- ## An association takes forward packets only

clash : {A : Type 0} {b : Bool} → b ≡ true → b ≡ false → A
clash {b} p q = absurd (let z : ◌≡◌ {A = ℕ} 0 1 = cc in omega arith)

begun_one_way : (r : TimeResolution) (p : Packet) → (begun_with r p).reverse ≡ nothing_yet
unfolding opened_of
begun_one_way r p = (other_kept (opened_of r p.key.protocol p.facts) p.facts).0

counted_one_way : (d : Direction) (p : Packet) (k : FlowKey) (r : FlowRecord) → TwoWay d (is_association k) → (is_association k ≡ true → r.reverse ≡ nothing_yet)
    → is_association k ≡ true → (counted_of r d p.facts).reverse ≡ nothing_yet
counted_one_way Forward p k r way a e = (other_kept r p.facts).0 ∙ a e
counted_one_way Reverse p k r way a e = clash e way

pub engine_made : HeldLaws engine KeyInRange PacketInRange MadeFlow
engine_made = record {
  ranged = λ p h. h.key;
  named = λ k r a. a.flow.key;
  begins = λ r p h. record { flow = begun_sound r p h; one_way = λ e. begun_one_way r p };
  counts = λ d p k r h a way spent. record {
    flow = counted_sound d p k r h a.flow (not-false (has_room r p.facts) spent);
    one_way = counted_one_way d p k r way a.one_way;
  };
}

-- .. so it never has seen both FINs
pub never_closed : (k : FlowKey) (r : FlowRecord) → MadeFlow k r → is_association k ≡ true → both_fins r ≡ false
never_closed k r a e = rw (a.one_way e) (and_no (fin_seen r.forward))
  where
    and_no : (b : Bool) → (b && false) ≡ false
    and_no true = refl
    and_no false = refl

-- ## "At most 358 bytes"

flags_in_range_lem : (n : ℕ) (c : TcpFlagCounts) → n < 2 ^ 64 → FlagsUpTo n c → FlagsInRange c
flags_in_range_lem n c h f = record {
  fin = omega (arith, f.fin);
  syn = omega (arith, f.syn);
  rst = omega (arith, f.rst);
  psh = omega (arith, f.psh);
  ack = omega (arith, f.ack);
  urg = omega (arith, f.urg);
  ece = omega (arith, f.ece);
  cwr = omega (arith, f.cwr);
  ns = omega (arith, f.ns);
}

direction_in_range : (d : DirectionStats) → d.packets < 2 ^ 64 → d.frame_octets < 2 ^ 64 → LengthsInRange d.packet_length → DirectionFacts d
    → DirectionInRange (direction_fields d)
direction_in_range d p o l f = record {
  packets = p;
  octets = o;
  least = l.0;
  greatest = l.1;
  flags = flags_in_range_lem d.packets d.tcp_flags p f.flags;
}

-- a finished flow has a record form, whatever its reason
pub flow_in_range : (k : FlowKey) (reason : EndReason) (r : FlowRecord) → SoundFlow k r → FlowInRange (finished_flow k reason r)
unfolding fields_of closed
flow_in_range k reason r a =
    let s = sound_facts r a.sound in
    record {
      start = a.start;
      end = a.end;
      forward = direction_in_range r.forward (omega (arith, s.packets)) (omega (arith, s.octets)) a.forward s.forward;
      reverse = direction_in_range r.reverse (omega (arith, s.packets)) (omega (arith, s.octets)) a.reverse s.reverse;
      tail = record { least = a.ttl.0; greatest = a.ttl.1; dscp = a.dscp; ecn = a.ecn; icmp = a.icmp; captured = a.captured };
      key = a.key;
    }

pub size_at_most : (k : FlowKey) (reason : EndReason) (r : FlowRecord) → SoundFlow k r → record_size k reason r ≤ 358
size_at_most k reason r a = record_at_most (finished_flow k reason r) (flow_in_range k reason r a)

-- ## The records of one call behind those of another

pub written_both : (a b : List (Finished engine)) → written (a ++ b) ≡ written a ++ written b
written_both [] b = refl
written_both (f ∷ a) b =
    ap (λ (l : List ℕ). record_form f.name f.reason f.held ++ l) (written_both a b)
    ∙ sym (append_assoc (record_form f.name f.reason f.held) (written a) (written b))
