-- A packet's facts and its key, one behind the other.
use Rattle.std.specs.Prelude.{ℕ, ◌≡◌, List, ◌++◌, Bool, true, false, Err, Result}
use Rattle.std.proofs.Math.Path.{refl}
use Rattle.std.proofs.Common.{◌∙◌}
use Rattle.forms.specs.Form.{Read, got, and_then, pair, over_writes, pair_writes}
use Rattle.forms.specs.Number.{number_bytes, number_writes}
use Rattle.forms.specs.At.{read_at, at_over, at_pair}
use Rattle.forms.specs.Optional.{number8, number16, optional8_writes, optional16_writes}
use Rattle.forms.specs.Lone.{write_one, not_allowed}
use Rattle.key.specs.KeyForm.{key}
use Rattle.key.specs.declared.key.FlowKey.{FlowKey}
use Rattle.flow.specs.declared.record.PacketFacts.{PacketFacts}
use Rattle.wire.specs.PacketForm.{facts, packet, to_packet, from_packet, flags_in_range}
use Rattle.wire.specs.declared.packet.Packet.{Packet}
use Rattle.forms.specs.Answers.{written_of}
use Rattle.forms.specs.declared.refusal.Refusal.{Refusal}
use Rattle.forms.specs.declared.stop.Stop.{Stop}
use Rattle.forms.specs.Form.{stop}

-- ---- reading

-- a packet is its facts and then its key
module _ (s : List ℕ) (at : ℕ) where
  packet_parts : read_at packet s at ≡ and_then (read_at facts s at) (λ f n. and_then (read_at key s n) (λ k m. got (record { facts = f; key = k }) m))
  unfolding packet
  packet_parts = at_over to_packet from_packet (pair facts key) (λ x v. refl) s at ∙ rw at_pair (go (read_at facts s at))
    where
      inner : (f : PacketFacts) (r : Read FlowKey ℕ)
          → and_then (and_then r (λ k m. got (f, k) m)) (λ x m. got (to_packet x) m) ≡ and_then r (λ k m. got (record { facts = f; key = k }) m)
      inner f (got k m) = refl
      inner f (stop Stop.Short) = refl
      inner f (stop Stop.Refused) = refl

      go : (r : Read PacketFacts ℕ)
          → and_then (and_then r (λ f n. and_then (read_at key s n) (λ k m. got (f, k) m))) (λ x m. got (to_packet x) m)
          ≡ and_then r (λ f n. and_then (read_at key s n) (λ k m. got (record { facts = f; key = k }) m))
      go (got f n) = inner f (read_at key s n)
      go (stop Stop.Short) = refl
      go (stop Stop.Refused) = refl

  pub facts_short : read_at facts s at ≡ stop Stop.Short → read_at packet s at ≡ stop Stop.Short
  facts_short e = packet_parts ∙ rw e

  pub facts_refused : read_at facts s at ≡ stop Stop.Refused → read_at packet s at ≡ stop Stop.Refused
  facts_refused e = packet_parts ∙ rw e

  module _ (f : PacketFacts) (n : ℕ) (e : read_at facts s at ≡ got f n) where
    pub facts_key : (k : FlowKey) (m : ℕ) → read_at key s n ≡ got k m → read_at packet s at ≡ got (record { facts = f; key = k }) m
    facts_key k m h = packet_parts ∙ rw (e, h)

    pub facts_key_short : read_at key s n ≡ stop Stop.Short → read_at packet s at ≡ stop Stop.Short
    facts_key_short h = packet_parts ∙ rw (e, h)

    pub facts_key_refused : read_at key s n ≡ stop Stop.Refused → read_at packet s at ≡ stop Stop.Refused
    facts_key_refused h = packet_parts ∙ rw (e, h)

-- ---- the bytes of each part

pub facts_writes : (p : PacketFacts)
    → facts.write p
    ≡ number_bytes p.time.0
    ++ (number_bytes p.frame_octets
    ++ (number_bytes p.captured_octets
    ++ (number_bytes (number8 p.ttl)
    ++ (number_bytes (number16 p.tcp_flags)
    ++ (number_bytes (number16 p.icmp) ++ (number_bytes (number8 p.dscp) ++ number_bytes (number8 p.ecn)))))))
unfolding facts
facts_writes p = simp (over_writes, pair_writes, number_writes, optional8_writes, optional16_writes)

pub packet_writes : (p : Packet) → packet.write p ≡ facts.write p.facts ++ key.write p.key
unfolding packet
packet_writes p = simp (over_writes, pair_writes)

-- ---- writing

module _ (out : List ℕ) (p : Packet) where
  module _ (allowed : Bool) (e : allowed ≡ flags_in_range p.facts.tcp_flags) where
    pub lone_within : allowed ≡ true → (r : Result ℕ Refusal) (after : List ℕ) → (written_of r, after) ≡ write_one 4 true (packet.write p) out
        → (written_of r, after) ≡ write_one 4 (flags_in_range p.facts.tcp_flags) (packet.write p) out
    lone_within h r after q = q ∙ rw (← e, h)

    pub lone_above : allowed ≡ false → (written_of (Err Refusal.Packet), out) ≡ write_one 4 (flags_in_range p.facts.tcp_flags) (packet.write p) out
    lone_above h = rw (← e) (not_allowed 4 allowed (packet.write p) out h)
