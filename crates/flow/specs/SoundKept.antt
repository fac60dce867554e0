-- Counting a packet that is not refused keeps a record sound, and so does a list of them; a record that is begun is sound; closing makes a sound record.
-- All end reason aside until it is closed. Assumes nothing.
use Rattle.std.specs.Prelude.{ℕ, ◌+◌, ◌^◌, ◌<◌, min, max, ◌≡◌, refl, Bool, true, false, cond, List, [], ◌∷◌, leb, ltb, None, Option, Some, Result, Ok, Err}
use Rattle.std.proofs.Common.{sym, ap, ◌∙◌, arith, leb-true, lt-ltb, le-leb}
use Rattle.std.proofs.Math.Bool.{or-true}
use Rattle.stats.specs.declared.counts.TcpFlagCounts.{TcpFlagCounts}
use Rattle.stats.specs.declared.counts.DirectionStats.{DirectionStats}
use Rattle.stats.specs.Range.{widened}
use Rattle.stats.specs.Counting.{counted_flags, FlagsUpTo}
use Rattle.flow.specs.declared.record.Direction.{Direction}
use Rattle.flow.specs.declared.record.PacketFacts.{PacketFacts}
use Rattle.flow.specs.declared.record.FlowRecord.{FlowRecord}
use Rattle.flow.specs.declared.time.TimeResolution.{TimeResolution}
use Rattle.flow.specs.declared.time.EndReason.{EndReason}
use Rattle.forms.specs.declared.refusal.Refusal.{Refusal}
use Rattle.flow.specs.Counting.{mask_of, widened_by, nothing_yet, opened_of, counted_rest, taken, counted_of, closed, has_room}
use Rattle.flow.specs.Sound.{sound_length, sound_ttl, sound_aside, sound_record}
use Rattle.flow.specs.Observed.{packet_in_range, refusal_of, answer_of, observed_of, left_by, begun_of}
use Rattle.flow.specs.Summary.{Taken, folded_of}
use Rattle.flow.specs.SoundLaws.{both, DirectionFacts, SoundFacts, sound_facts, sound_made, RoomFacts, room_facts}
use Rattle.flow.specs.RefusalLaws.{accepted}
use Rattle.stats.specs.declared.range.Range.{Range}

-- ---- each part of what counting changes
flags_kept : (n : ℕ) (c : TcpFlagCounts) (mask : ℕ) → FlagsUpTo n c → FlagsUpTo (n + 1) (counted_flags c mask)
flags_kept n c mask f = record {
  fin = omega arith;
  syn = omega arith;
  rst = omega arith;
  psh = omega arith;
  ack = omega arith;
  urg = omega arith;
  ece = omega arith;
  cwr = omega arith;
  ns = omega arith;
}

length_kept : (n : ℕ) (range : Option (Range ℕ)) (octets : ℕ) → sound_length n range ≡ true → sound_length (n + 1) (widened range octets) ≡ true
length_kept n None octets s = simp (lt-ltb 0 (n + 1) (omega arith), le-leb octets octets (omega arith))
length_kept n (Some r) octets s =
    let h = leb-true r.min r.max (both (ltb 0 n) (leb r.min r.max) s).1 in
    simp (lt-ltb 0 (n + 1) (omega arith), le-leb (min r.min octets) (max r.max octets) (omega arith))

ttl_kept : (range : Option (Range ℕ)) (value : Option ℕ) → sound_ttl range ≡ true → sound_ttl (widened_by range value) ≡ true
ttl_kept range None s = s
ttl_kept None (Some x) s = le-leb x x (omega arith)
ttl_kept (Some r) (Some x) s = let h = leb-true r.min r.max s in le-leb (min r.min x) (max r.max x) (omega arith)

taken_facts : (d : DirectionStats) (p : PacketFacts) → DirectionFacts d → DirectionFacts (taken d p)
unfolding taken
taken_facts d p f = record {
  length = length_kept d.packets d.packet_length p.frame_octets f.length;
  octets = simp (lt-ltb 0 (d.packets + 1) (omega arith));
  flags = flags_kept d.packets d.tcp_flags (mask_of p.tcp_flags) f.flags;
}

counted_facts : (r : FlowRecord) (d : Direction) (p : PacketFacts) → SoundFacts r → RoomFacts r p → SoundFacts (counted_of r d p)
unfolding counted_of counted_rest taken
counted_facts r Direction.Forward p s h = record {
  ordered = omega arith;
  some_packet = simp (lt-ltb 0 (r.forward.packets + 1) (omega arith));
  forward = taken_facts r.forward p s.forward;
  reverse = s.reverse;
  ttl = ttl_kept r.network.ttl p.ttl s.ttl;
  packets = omega arith;
  octets = omega arith;
}
counted_facts r Direction.Reverse p s h = record {
  ordered = omega arith;
  some_packet = simp (lt-ltb 0 (r.reverse.packets + 1) (omega arith), or-true);
  forward = s.forward;
  reverse = taken_facts r.reverse p s.reverse;
  ttl = ttl_kept r.network.ttl p.ttl s.ttl;
  packets = omega arith;
  octets = omega arith;
}

-- a packet for which there is room keeps the record sound
pub counted_is_sound : (r : FlowRecord) (d : Direction) (p : PacketFacts) → sound_aside r ≡ true → has_room r p ≡ true → sound_aside (counted_of r d p) ≡ true
counted_is_sound r d p s h = sound_made (counted_of r d p) (counted_facts r d p (sound_facts r s) (room_facts r p h))

-- so a packet that is not refused keeps the record sound
pub counting_keeps_sound : (r : FlowRecord) (d : Direction) (p : PacketFacts) → refusal_of r p ≡ None → sound_aside (counted_of r d p) ≡ true
counting_keeps_sound r d p e = let a = accepted r p e in counted_is_sound r d p a.sound a.room

-- a record that a host holds stays sound, whatever is answered: refused it is unchanged
pub observing_keeps_sound : (r : FlowRecord) (d : Direction) (p : PacketFacts) → sound_aside r ≡ true → sound_aside (left_by r (observed_of r d p)) ≡ true
unfolding observed_of
observing_keeps_sound r d p s = by_answer (refusal_of r p) refl
  where
    by_answer : (x : Option Refusal) → refusal_of r p ≡ x → sound_aside (left_by r (answer_of x (counted_of r d p))) ≡ true
    by_answer None e = counting_keeps_sound r d p e
    by_answer (Some why) e = s

-- no packet of the list is refused where its turn comes
abbrev pub TakesAll : FlowRecord → List Taken → Type 0
TakesAll r [] = Unit {0}
TakesAll r (t ∷ ts) = (refusal_of r t.1 ≡ None) × TakesAll (counted_of r t.0 t.1) ts

-- and so does a list of packets, of which none is refused
pub folding_keeps_sound : (r : FlowRecord) (ts : List Taken) → sound_aside r ≡ true → TakesAll r ts → sound_aside (folded_of r ts) ≡ true
folding_keeps_sound r [] s all = s
folding_keeps_sound r (t ∷ ts) s all = folding_keeps_sound (counted_of r t.0 t.1) ts (counting_keeps_sound r t.0 t.1 all.0) all.1

nothing_facts : DirectionFacts nothing_yet
nothing_facts = record {
  length = refl;
  octets = refl;
  flags = record { fin = omega arith; syn = omega arith; rst = omega arith; psh = omega arith; ack = omega arith; urg = omega arith; ece = omega arith; cwr = omega arith; ns = omega arith };
}

-- "begun with its first packet counted forward": such a record is sound (frame octets are a u32)
pub opening_is_sound : (resolution : TimeResolution) (protocol : ℕ) (p : PacketFacts) → p.frame_octets < 2 ^ 32 → sound_aside (counted_of (opened_of resolution protocol p) Direction.Forward p) ≡ true
unfolding opened_of counted_of counted_rest taken
opening_is_sound resolution protocol p h = sound_made _ (record {
  ordered = omega arith;
  some_packet = refl;
  forward = taken_facts nothing_yet p nothing_facts;
  reverse = nothing_facts;
  ttl = ttl_kept None p.ttl refl;
  packets = omega arith;
  octets = omega arith;
})

-- the record that `begin` answers is sound, end reason aside
pub begun_is_sound : (resolution : TimeResolution) (protocol : ℕ) (p : PacketFacts) (r : FlowRecord) → begun_of resolution protocol p ≡ Ok r → p.frame_octets < 2 ^ 32 → sound_aside r ≡ true
unfolding begun_of
begun_is_sound resolution protocol p r e h = sym (ap sound_aside (the_record (packet_in_range p) _ e)) ∙ opening_is_sound resolution protocol p h
  where
    the_record : (b : Bool) (s : FlowRecord) → ◌≡◌ {A = Result FlowRecord Refusal} (cond b (Ok s) (Err Refusal.Packet)) (Ok r) → s ≡ r
    the_record true s e = cc
    the_record false s e = let z : ◌≡◌ {A = ℕ} 0 1 = cc in absurd (omega arith)

-- ---- closing

-- closing changes nothing that "sound record, end reason aside" looks at
pub closing_keeps_sound_aside : (r : FlowRecord) (reason : EndReason) → sound_aside (closed r reason) ≡ sound_aside r
unfolding sound_aside closed
closing_keeps_sound_aside r reason = refl

-- a record that is sound, end reason aside, is a sound record once it is closed
pub closing_is_sound : (r : FlowRecord) (reason : EndReason) → sound_aside r ≡ true → sound_record (closed r reason) ≡ true
unfolding sound_record closed
closing_is_sound r reason e = simp (closing_keeps_sound_aside r reason ∙ e)
