-- A packet as eight numbers: time, frame octets, captured octets, TTL, TCP flags, ICMP, DSCP, ECN; an optional is 0 for absent, else its
-- value plus 1. Assumes nothing.
use Rattle.std.specs.Prelude.{ℕ, ◌^◌, Bool, ◌&&◌, List, [], ◌∷◌, leb, ltb, get_or}
use Rattle.forms.specs.Optional.{number8, number16}
use Rattle.flow.specs.declared.record.PacketFacts.{PacketFacts}
use Rattle.words.specs.Fields.{opt8_at, opt16_at}

-- the numbers of a packet
abbrev pub fact_numbers : PacketFacts → List ℕ
fact_numbers f =
    f.time.0 ∷ f.frame_octets ∷ f.captured_octets ∷ number8 f.ttl ∷ number16 f.tcp_flags ∷ number16 f.icmp
    ∷ number8 f.dscp ∷ number8 f.ecn ∷ []

-- each number is one that its field can have: 32-bit octets, optional 8-bit TTL, DSCP and ECN, an optional 9-bit mask, an optional 16-bit ICMP
unfoldable pub facts_fit : List ℕ → Bool
facts_fit ns =
    ltb (get_or ns 1 0) (2 ^ 32)
    && ltb (get_or ns 2 0) (2 ^ 32)
    && leb (get_or ns 3 0) (2 ^ 8)
    && leb (get_or ns 4 0) (2 ^ 9)
    && leb (get_or ns 5 0) (2 ^ 16)
    && leb (get_or ns 6 0) (2 ^ 8)
    && leb (get_or ns 7 0) (2 ^ 8)

-- the packet that numbers stand for, where they fit
unfoldable pub facts_from : List ℕ → PacketFacts
facts_from ns = record {
  time = record { 0 = get_or ns 0 0 };
  frame_octets = get_or ns 1 0;
  captured_octets = get_or ns 2 0;
  ttl = opt8_at (get_or ns 3 0);
  tcp_flags = opt16_at (get_or ns 4 0);
  icmp = opt16_at (get_or ns 5 0);
  dscp = opt8_at (get_or ns 6 0);
  ecn = opt8_at (get_or ns 7 0);
}
