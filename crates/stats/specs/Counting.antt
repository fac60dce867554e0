-- Counting (document 01): what one packet adds to its direction.
use Rattle.std.specs.Prelude.{ℕ, ◌+◌, ◌/◌, ◌%◌, ◌-◌, ◌^◌, ◌<◌, ◌≤◌}
use Rattle.stats.specs.declared.counts.TcpFlagCounts.{TcpFlagCounts}
use Rattle.stats.specs.declared.counts.DirectionStats.{DirectionStats}
use Rattle.stats.specs.Range.{widened}

-- The set flags are a mask: from bit 0 fin, syn, rst, psh, ack, urg, ece, cwr, ns.

-- "add .. set flags": one more for each flag of the mask
abbrev pub counted_flags : TcpFlagCounts → ℕ → TcpFlagCounts
counted_flags c mask = record {
  fin = c.fin + mask % 2;
  syn = c.syn + mask / 2 % 2;
  rst = c.rst + mask / 4 % 2;
  psh = c.psh + mask / 8 % 2;
  ack = c.ack + mask / 16 % 2;
  urg = c.urg + mask / 32 % 2;
  ece = c.ece + mask / 64 % 2;
  cwr = c.cwr + mask / 128 % 2;
  ns = c.ns + mask / 256 % 2;
}

-- "add packet, frame octets and set flags to its direction; widen that direction's length range"
abbrev pub counted_direction : DirectionStats → ℕ → ℕ → DirectionStats
counted_direction d octets mask = record {
  packets = d.packets + 1;
  frame_octets = d.frame_octets + octets;
  packet_length = widened d.packet_length octets;
  tcp_flags = counted_flags d.tcp_flags mask;
}

-- no flag count is above n
pub record FlagsUpTo (n : ℕ) (c : TcpFlagCounts) : Type 0 where
  pub fin : c.fin ≤ n
  pub syn : c.syn ≤ n
  pub rst : c.rst ≤ n
  pub psh : c.psh ≤ n
  pub ack : c.ack ≤ n
  pub urg : c.urg ≤ n
  pub ece : c.ece ≤ n
  pub cwr : c.cwr ≤ n
  pub ns : c.ns ≤ n

abbrev pub RoomForFlags : TcpFlagCounts → Type 0
RoomForFlags c = FlagsUpTo (2 ^ 64 - 2) c

-- one more packet of this many octets fits the direction's counts
pub record RoomForPacket (d : DirectionStats) (octets : ℕ) : Type 0 where
  pub one_more : d.packets + 1 < 2 ^ 64
  pub room : d.frame_octets + octets < 2 ^ 64
  pub flags : FlagsUpTo d.packets d.tcp_flags
