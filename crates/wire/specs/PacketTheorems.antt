-- The packet form in document 01's words: 35 to 103 bytes; what was written is read back; Short and refused exactly when.
use Rattle.std.specs.Prelude.{ℕ, ◌^◌, ◌≤◌, ◌<◌, ◌≡◌, refl, List, [], ◌++◌, true, length, None, Option, Some}
use Rattle.std.proofs.Common.{arith, ltb-true, lt-ltb, length-append}
use Rattle.forms.specs.Form.{over_is_valid, over_fits, over_ends, pair_ends, pair_first, pair_second, pair_valid}
use Rattle.forms.specs.Number.{number, number_ends, number_below, below_number}
use Rattle.forms.specs.Length.{number_at_most, number_at_least}
use Rattle.forms.specs.Optional.{number8, number16, optional8_valid, optional16_valid, optional8_below, optional16_below}
use Rattle.forms.specs.Lone.{value, refusal, read_one}
use Rattle.forms.specs.Theorems.{Begun, Beginning, read_back, was_written, short_only, is_short, other_only, is_other}
use Rattle.key.specs.KeyForm.{key}
use Rattle.key.specs.KeyTheorems.{KeyInRange, key_valid, key_in_range, key_at_most, key_at_least}
use Rattle.flow.specs.declared.record.PacketFacts.{PacketFacts}
use Rattle.wire.specs.PacketForm.{top64, top32, to_facts, from_facts, facts, to_packet, from_packet, packet, flags_in_range}
use Rattle.wire.specs.PacketLemmas.{facts_writes, packet_writes}
use Rattle.wire.specs.declared.packet.Packet.{Packet}
use Rattle.forms.specs.Form.{stop}
use Rattle.forms.specs.declared.stop.Stop.{Stop}

-- ---- exactly the packets in range have a form: a number within its field's width, the flags a mask of nine bits

pub record FactsInRange (p : PacketFacts) : Type 0 where
  pub time : p.time.0 < 2 ^ 64
  pub frame : p.frame_octets < 2 ^ 32
  pub captured : p.captured_octets < 2 ^ 32
  pub ttl : number8 p.ttl ≤ 2 ^ 8
  pub flags : number16 p.tcp_flags ≤ 2 ^ 9
  pub icmp : number16 p.icmp ≤ 2 ^ 16
  pub dscp : number8 p.dscp ≤ 2 ^ 8
  pub ecn : number8 p.ecn ≤ 2 ^ 8

pub record PacketInRange (p : Packet) : Type 0 where
  pub facts : FactsInRange p.facts
  pub key : KeyInRange p.key

-- the test that writing makes of the flags
pub flags_tested : (o : Option ℕ) → flags_in_range o ≡ true → number16 o ≤ 2 ^ 9
flags_tested None e = omega arith
flags_tested (Some m) e = omega (arith, ltb-true m 512 e)

pub tested_flags : (o : Option ℕ) → number16 o ≤ 2 ^ 9 → flags_in_range o ≡ true
tested_flags None h = refl
tested_flags (Some m) h = lt-ltb m 512 (omega arith)

facts_valid : (p : PacketFacts) → FactsInRange p → facts.valid p
unfolding facts
facts_valid p h =
    over_is_valid to_facts from_facts _ _ p
    (pair_valid _ _ _ _ (below_number top64 p.time.0 (omega (arith, h.time)))
    (pair_valid _ _ _ _ (below_number top32 p.frame_octets (omega (arith, h.frame)))
    (pair_valid _ _ _ _ (below_number top32 p.captured_octets (omega (arith, h.captured)))
    (pair_valid _ _ _ _ (optional8_valid p.ttl h.ttl)
    (pair_valid _ _ _ _ (optional16_valid 511 p.tcp_flags h.flags)
    (pair_valid _ _ _ _ (optional16_valid 65535 p.icmp h.icmp)
    (pair_valid _ _ _ _ (optional8_valid p.dscp h.dscp) (optional8_valid p.ecn h.ecn))))))))
    refl

facts_in_range : (p : PacketFacts) → facts.valid p → FactsInRange p
unfolding facts
facts_in_range p v =
    let v₀ = over_fits to_facts from_facts _ _ p v in
    let v₁ = pair_second _ _ _ v₀ in
    let v₂ = pair_second _ _ _ v₁ in
    let v₃ = pair_second _ _ _ v₂ in
    let v₄ = pair_second _ _ _ v₃ in
    let v₅ = pair_second _ _ _ v₄ in
    let v₆ = pair_second _ _ _ v₅ in
    let t = number_below top64 p.time.0 (pair_first _ _ _ v₀) in
    let f = number_below top32 p.frame_octets (pair_first _ _ _ v₁) in
    let c = number_below top32 p.captured_octets (pair_first _ _ _ v₂) in
    record {
      time = omega arith;
      frame = omega arith;
      captured = omega arith;
      ttl = optional8_below p.ttl (pair_first _ _ _ v₃);
      flags = optional16_below 511 p.tcp_flags (pair_first _ _ _ v₄);
      icmp = optional16_below 65535 p.icmp (pair_first _ _ _ v₅);
      dscp = optional8_below p.dscp (pair_first _ _ _ v₆);
      ecn = optional8_below p.ecn (pair_second _ _ _ v₆);
    }

pub packet_valid : (p : Packet) → PacketInRange p → packet.valid p
unfolding packet
packet_valid p h =
    over_is_valid to_packet from_packet _ _ p (pair_valid _ _ _ _ (facts_valid p.facts h.facts) (key_valid p.key h.key)) refl

pub packet_in_range_lem : (p : Packet) → packet.valid p → PacketInRange p
unfolding packet
packet_in_range_lem p v =
    let both = over_fits to_packet from_packet _ _ p v in
    record { facts = facts_in_range p.facts (pair_first _ _ _ both); key = key_in_range p.key (pair_second _ _ _ both) }

-- ---- "35 to 103 bytes"

pub packet_at_most : (p : Packet) → PacketInRange p → length (packet.write p) ≤ 103
packet_at_most p h =
    let f = p.facts in
    let r = h.facts in
    let t = number_at_most 9 f.time.0 (omega (arith, r.time)) in
    let o = number_at_most 4 f.frame_octets (omega (arith, r.frame)) in
    let c = number_at_most 4 f.captured_octets (omega (arith, r.captured)) in
    let l = number_at_most 1 (number8 f.ttl) (omega (arith, r.ttl)) in
    let g = number_at_most 1 (number16 f.tcp_flags) (omega (arith, r.flags)) in
    let i = number_at_most 2 (number16 f.icmp) (omega (arith, r.icmp)) in
    let d = number_at_most 1 (number8 f.dscp) (omega (arith, r.dscp)) in
    let e = number_at_most 1 (number8 f.ecn) (omega (arith, r.ecn)) in
    let k = key_at_most p.key h.key in
    rw (packet_writes, facts_writes) (simp length-append (omega arith))

pub packet_at_least : (p : Packet) → 35 ≤ length (packet.write p)
packet_at_least p =
    let f = p.facts in
    let t = number_at_least f.time.0 in
    let o = number_at_least f.frame_octets in
    let c = number_at_least f.captured_octets in
    let l = number_at_least (number8 f.ttl) in
    let g = number_at_least (number16 f.tcp_flags) in
    let i = number_at_least (number16 f.icmp) in
    let d = number_at_least (number8 f.dscp) in
    let e = number_at_least (number8 f.ecn) in
    let k = key_at_least p.key in
    rw (packet_writes, facts_writes) (simp length-append (omega arith))

-- ---- reading

facts_ends : facts.read [] ≡ stop Stop.Short
unfolding facts
facts_ends = over_ends to_facts from_facts _ (λ x v. refl) (pair_ends (number top64) _ (number_ends top64))

pub packet_ends : packet.read [] ≡ stop Stop.Short
unfolding packet
packet_ends = over_ends to_packet from_packet _ (λ x v. refl) (pair_ends facts key facts_ends)

-- what was written is read back, whatever stands behind it
pub packet_read_back : (p : Packet) (rest : List ℕ) → PacketInRange p → read_one 4 packet (packet.write p ++ rest) ≡ value p (length (packet.write p))
packet_read_back p rest h = read_back 4 packet packet_ends p rest (packet_valid p h)

-- what is read was written so, and is in range
pub packet_was_written : (s : List ℕ) (p : Packet) (n : ℕ) → read_one 4 packet s ≡ value p n
    → (rest : List ℕ) × PacketInRange p × (s ≡ packet.write p ++ rest) × (n ≡ length (packet.write p))
packet_was_written s p n e =
    let (rest, v, bytes, used) = was_written 4 packet packet_ends s p n e in
    (rest, packet_in_range_lem p v, bytes, used)

-- Short, 9, exactly where the bytes are a proper, non-empty beginning of some packet form
pub packet_short_only : (s : List ℕ) → read_one 4 packet s ≡ refusal 9 → Beginning packet s
packet_short_only = short_only 4 packet packet_ends (λ e. omega arith)

pub packet_is_short : (s : List ℕ) → Beginning packet s → read_one 4 packet s ≡ refusal 9
packet_is_short = is_short 4 packet packet_ends (λ e. omega arith)

-- Packet, 4, exactly where they are neither begun by a packet form nor Short
pub packet_refused_only : (s : List ℕ) → read_one 4 packet s ≡ refusal 4 → (Begun packet s → ⊥) × (Beginning packet s → ⊥)
packet_refused_only = other_only 4 packet packet_ends (λ e. omega arith)

pub packet_is_refused : (s : List ℕ) → (Begun packet s → ⊥) → (Beginning packet s → ⊥) → read_one 4 packet s ≡ refusal 4
packet_is_refused = is_other 4 packet packet_ends (λ e. omega arith)
