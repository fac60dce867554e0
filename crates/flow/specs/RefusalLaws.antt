-- The refusals of a packet on a host's own record: exactly when each is given, and what it leaves. Assumes nothing.
use Rattle.std.specs.Prelude.{ℕ, ◌+◌, ◌^◌, ◌<◌, ◌≤◌, ◌≡◌, refl, Bool, true, false, cond, ◌&&◌, ◌↔◌, ◌⊎◌, Option, None, Some, Ok, Err}
use Rattle.std.proofs.Common.{ap, ◌∙◌, inl, inr, ⊎_elim, arith, ltb-false}
use Rattle.stats.specs.Counting.{FlagsUpTo}
use Rattle.flow.specs.declared.record.FlowRecord.{FlowRecord}
use Rattle.flow.specs.declared.record.PacketFacts.{PacketFacts}
use Rattle.flow.specs.declared.record.Direction.{Direction}
use Rattle.flow.specs.declared.time.TimeResolution.{TimeResolution}
use Rattle.forms.specs.declared.refusal.Refusal.{Refusal}
use Rattle.forms.specs.Refusals.{stop_number}
use Rattle.flow.specs.Counting.{no_flags, opened_of, counted_of, has_room, RoomToCount}
use Rattle.flow.specs.Sound.{sound_aside}
use Rattle.flow.specs.Observed.{packet_in_range, refusal_of, refusal_number, answer_of, observed_of, refusal_in, left_by, begun_of}
use Rattle.flow.specs.Summary.{packets_of, octets_of}
use Rattle.flow.specs.SoundLaws.{sound_facts, room_facts}

-- ---- the four answers

-- no refusal: a sound record, a packet in range, and room
pub accepts : (r : FlowRecord) (p : PacketFacts) → sound_aside r ≡ true → packet_in_range p ≡ true → has_room r p ≡ true → refusal_of r p ≡ None
unfolding refusal_of
accepts r p s i h = simp (s, i, h)

-- Damaged comes first
pub damaged : (r : FlowRecord) (p : PacketFacts) → sound_aside r ≡ false → refusal_of r p ≡ Some Refusal.Damaged
unfolding refusal_of
damaged r p s = simp s

-- then Packet
pub out_of_range : (r : FlowRecord) (p : PacketFacts) → sound_aside r ≡ true → packet_in_range p ≡ false → refusal_of r p ≡ Some Refusal.Packet
unfolding refusal_of
out_of_range r p s i = simp (s, i)

-- then Spent
pub spent : (r : FlowRecord) (p : PacketFacts) → sound_aside r ≡ true → packet_in_range p ≡ true → has_room r p ≡ false → refusal_of r p ≡ Some Refusal.Spent
unfolding refusal_of
spent r p s i h = simp (s, i, h)

-- what led to each answer
abbrev Led : Bool → Bool → Bool → Option Refusal → Type 0
Led a b c None = (a ≡ true) × (b ≡ true) × (c ≡ true)
Led a b c (Some Refusal.Damaged) = a ≡ false
Led a b c (Some Refusal.Packet) = (a ≡ true) × (b ≡ false)
Led a b c (Some Refusal.Spent) = (a ≡ true) × (b ≡ true) × (c ≡ false)
Led a b c (Some other) = ⊥

led : (a b c : Bool) → Led a b c (cond a (cond b (cond c None (Some Refusal.Spent)) (Some Refusal.Packet)) (Some Refusal.Damaged))
led true true true = (refl, refl, refl)
led true true false = (refl, refl, refl)
led true false c = (refl, refl)
led false b c = refl

led_to : (r : FlowRecord) (p : PacketFacts) → Led (sound_aside r) (packet_in_range p) (has_room r p) (refusal_of r p)
unfolding refusal_of
led_to r p = led (sound_aside r) (packet_in_range p) (has_room r p)

pub record Accepted (r : FlowRecord) (p : PacketFacts) : Type 0 where
  pub sound : sound_aside r ≡ true
  pub in_range : packet_in_range p ≡ true
  pub room : has_room r p ≡ true

-- no refusal only then
pub accepted : (r : FlowRecord) (p : PacketFacts) → refusal_of r p ≡ None → Accepted r p
accepted r p e = let h = rw e at (led_to r p) in record { sound = h.0; in_range = h.1; room = h.2 }

-- Damaged exactly when "a host's own record is not sound", end reason aside
pub damaged_exactly : (r : FlowRecord) (p : PacketFacts) → (refusal_of r p ≡ Some Refusal.Damaged) ↔ (sound_aside r ≡ false)
damaged_exactly r p = (λ e. rw e at (led_to r p), damaged r p)

-- Packet exactly when the record is sound and "a packet given for counting has a field out of range"
pub packet_exactly : (r : FlowRecord) (p : PacketFacts) → (refusal_of r p ≡ Some Refusal.Packet) ↔ ((sound_aside r ≡ true) × (packet_in_range p ≡ false))
packet_exactly r p = (λ e. rw e at (led_to r p), λ h. out_of_range r p h.0 h.1)

-- "would pass 2^64 − 1 in packets or octets of both directions together, or in captured octets"
abbrev pub WouldPass : FlowRecord → PacketFacts → Type 0
WouldPass r p =
    (2 ^ 64 ≤ packets_of r + 1) ⊎ (2 ^ 64 ≤ octets_of r + p.frame_octets) ⊎ (2 ^ 64 ≤ r.capture.captured_octets + p.captured_octets)

-- a test of three that fails
one_fails : (a b c : Bool) → (a && b && c) ≡ false → (a ≡ false) ⊎ (b ≡ false) ⊎ (c ≡ false)
one_fails true true c e = inr (inr e)
one_fails true false c e = inr (inl refl)
one_fails false b c e = inl refl

no_room : (r : FlowRecord) (p : PacketFacts) → has_room r p ≡ false → WouldPass r p
unfolding has_room
no_room r p e =
    ⊎_elim (λ a. inl (ltb-false (packets_of r + 1) (2 ^ 64) a))
    (⊎_elim (λ b. inr (inl (ltb-false (octets_of r + p.frame_octets) (2 ^ 64) b)))
    (λ c. inr (inr (ltb-false (r.capture.captured_octets + p.captured_octets) (2 ^ 64) c))))
    (one_fails _ _ _ e)

not_so : (b : Bool) → (b ≡ true → ⊥) → b ≡ false
not_so true h = absurd (h refl)
not_so false h = refl

passing : (r : FlowRecord) (p : PacketFacts) → WouldPass r p → has_room r p ≡ false
passing r p w = not_so (has_room r p) (λ e. let h = room_facts r p e in ⊎_elim (λ a. omega arith) (⊎_elim (λ b. omega arith) (λ c. omega arith)) w)

-- Spent exactly when "the record that takes the packet would pass 2^64 − 1", and neither Damaged nor Packet comes first
pub spent_exactly : (r : FlowRecord) (p : PacketFacts) → (refusal_of r p ≡ Some Refusal.Spent) ↔ ((sound_aside r ≡ true) × (packet_in_range p ≡ true) × WouldPass r p)
spent_exactly r p = (
  λ e. let h = rw e at (led_to r p) in (h.0, h.1, no_room r p h.2),
  λ h. spent r p h.0 h.1 (passing r p h.2),
)

-- ---- what it leaves

-- a sound record with room can count the packet: no sum wraps
pub sound_with_room : (r : FlowRecord) (p : PacketFacts) → sound_aside r ≡ true → has_room r p ≡ true → RoomToCount r p
sound_with_room r p e f =
    let s = sound_facts r e in
    let h = room_facts r p f in
    record {
      forward = record { one_more = omega arith; room = omega arith; flags = s.forward.flags };
      reverse = record { one_more = omega arith; room = omega arith; flags = s.reverse.flags };
      captured = h.captured;
    }

-- an accepted packet can be counted: no sum wraps
pub room_to_count : (r : FlowRecord) (p : PacketFacts) → refusal_of r p ≡ None → RoomToCount r p
room_to_count r p e = let a = accepted r p e in sound_with_room r p a.sound a.room

-- a record that is opened has room for its packet (frame and captured octets are u32)
pub opened_has_room : (resolution : TimeResolution) (protocol : ℕ) (p : PacketFacts) → p.frame_octets < 2 ^ 32 → p.captured_octets < 2 ^ 32
    → RoomToCount (opened_of resolution protocol p) p
unfolding opened_of
opened_has_room resolution protocol p frame captured = record {
  forward = record { one_more = omega arith; room = omega arith; flags = none_set };
  reverse = record { one_more = omega arith; room = omega arith; flags = none_set };
  captured = omega arith;
}
  where
    none_set : FlagsUpTo 0 no_flags
    none_set = record {
      fin = omega arith;
      syn = omega arith;
      rst = omega arith;
      psh = omega arith;
      ack = omega arith;
      urg = omega arith;
      ece = omega arith;
      cwr = omega arith;
      ns = omega arith;
    }

-- the answer has the refusal
pub answers_refusal : (r : FlowRecord) (d : Direction) (p : PacketFacts) → refusal_in (observed_of r d p) ≡ refusal_of r p
unfolding observed_of
answers_refusal r d p = the_refusal (refusal_of r p) (counted_of r d p)
  where
    the_refusal : (x : Option Refusal) (new : FlowRecord) → refusal_in (answer_of x new) ≡ x
    the_refusal None new = refl
    the_refusal (Some why) new = refl

-- "Damaged .., Packet or Spent, in that order, leaves it unchanged"
pub refused_is_unchanged : (r : FlowRecord) (d : Direction) (p : PacketFacts) → (refusal_of r p ≡ None → ⊥) → left_by r (observed_of r d p) ≡ r
unfolding observed_of
refused_is_unchanged r d p refused = kept (refusal_of r p) r (counted_of r d p) refused
  where
    kept : (x : Option Refusal) (old new : FlowRecord) → (x ≡ None → ⊥) → left_by old (answer_of x new) ≡ old
    kept None old new refused = absurd (refused refl)
    kept (Some why) old new refused = refl

-- an accepted packet is counted
pub accepted_is_counted : (r : FlowRecord) (d : Direction) (p : PacketFacts) → refusal_of r p ≡ None → left_by r (observed_of r d p) ≡ counted_of r d p
unfolding observed_of
accepted_is_counted r d p e = simp e

-- the answer's number is the rules'
pub refusal_number_lem : (r : FlowRecord) (d : Direction) (p : PacketFacts) → stop_number (refusal_in (observed_of r d p)) ≡ refusal_number r p
unfolding refusal_of
refusal_number_lem r d p = ap stop_number (answers_refusal r d p) ∙ by_tests (sound_aside r) (packet_in_range p) (has_room r p)
  where
    by_tests : (a b c : Bool)
        → stop_number (cond a (cond b (cond c None (Some Refusal.Spent)) (Some Refusal.Packet)) (Some Refusal.Damaged)) ≡ cond a (cond b (cond c 0 6) 4) 3
    by_tests true true true = refl
    by_tests true true false = refl
    by_tests true false c = refl
    by_tests false b c = refl

pub begun_number_lem : (resolution : TimeResolution) (protocol : ℕ) (p : PacketFacts)
    → stop_number (refusal_in (begun_of resolution protocol p)) ≡ cond (packet_in_range p) 0 4
unfolding begun_of
begun_number_lem resolution protocol p = by_test (packet_in_range p)
  where
    by_test : (a : Bool) → stop_number (refusal_in (cond a (Ok (counted_of (opened_of resolution protocol p) Direction.Forward p)) (Err Refusal.Packet))) ≡ cond a 0 4
    by_test true = refl
    by_test false = refl
