-- The packet form (document 01, "Byte forms"): time in nanoseconds (64-bit); frame octets, captured octets (32-bit); TTL (optional
-- 8-bit); TCP flags (optional 9-bit mask); ICMP (optional 256 × type + code); DSCP, ECN (optional 8-bit); key.
use Rattle.std.specs.Prelude.{ℕ, ◌-◌, ◌^◌, refl, Bool, true, ltb, None, Option, Some}
use Rattle.forms.specs.Form.{Form, over, pair}
use Rattle.forms.specs.Number.{number}
use Rattle.forms.specs.Optional.{optional8, optional16}
use Rattle.key.specs.KeyForm.{key}
use Rattle.key.specs.declared.key.FlowKey.{FlowKey}
use Rattle.flow.specs.declared.record.PacketFacts.{PacketFacts}
use Rattle.wire.specs.declared.packet.Packet.{Packet}

-- the largest 64-bit and 32-bit numbers
abbrev pub top64 : ℕ
top64 = 2 ^ 64 - 1

abbrev pub top32 : ℕ
top32 = 2 ^ 32 - 1

-- ---- everything but the key

abbrev pub FactsFields : Type 0
FactsFields = ℕ × (ℕ × (ℕ × (Option ℕ × (Option ℕ × (Option ℕ × (Option ℕ × Option ℕ))))))

abbrev pub to_facts : FactsFields → PacketFacts
to_facts (t, (f, (c, (l, (g, (i, (d, e))))))) =
    record { time = record { 0 = t }; frame_octets = f; captured_octets = c; ttl = l; tcp_flags = g; icmp = i; dscp = d; ecn = e }

abbrev pub from_facts : PacketFacts → FactsFields
from_facts p = (p.time.0, (p.frame_octets, (p.captured_octets, (p.ttl, (p.tcp_flags, (p.icmp, (p.dscp, p.ecn)))))))

unfoldable pub facts : Form PacketFacts
facts =
    over to_facts from_facts
    (pair (number top64) (pair (number top32) (pair (number top32) (pair optional8 (pair (optional16 511) (pair (optional16 65535) (pair optional8 optional8)))))))
    (λ x v. refl)

-- ---- the packet

abbrev pub to_packet : PacketFacts × FlowKey → Packet
to_packet (f, k) = record { facts = f; key = k }

abbrev pub from_packet : Packet → PacketFacts × FlowKey
from_packet p = (p.facts, p.key)

unfoldable pub packet : Form Packet
packet = over to_packet from_packet (pair facts key) (λ x v. refl)

-- a packet's fields are in range: the flags are a 9-bit mask, and the types hold the others
abbrev pub flags_in_range : Option ℕ → Bool
flags_in_range None = true
flags_in_range (Some mask) = ltb mask 512
