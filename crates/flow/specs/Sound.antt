-- Sound record (document 01), as a test. That a field is in range is its type's to say, and so is that the TTL bounds are both present or both
-- absent. Assumes nothing.
use Rattle.std.specs.Prelude.{ℕ, ◌+◌, ◌^◌, Bool, true, false, ◌&&◌, ◌||◌, leb, ltb, eqb, None, Option, Some}
use Rattle.stats.specs.declared.counts.TcpFlagCounts.{TcpFlagCounts}
use Rattle.stats.specs.declared.counts.DirectionStats.{DirectionStats}
use Rattle.flow.specs.declared.record.FlowRecord.{FlowRecord}
use Rattle.flow.specs.declared.time.EndReason.{EndReason}
use Rattle.stats.specs.declared.range.Range.{Range}

-- "each flag count at most its packets"
unfoldable pub sound_flags : ℕ → TcpFlagCounts → Bool
sound_flags packets c =
    leb c.fin packets && leb c.syn packets && leb c.rst packets && leb c.psh packets && leb c.ack packets
    && leb c.urg packets && leb c.ece packets && leb c.cwr packets && leb c.ns packets

-- "a length range exactly if it has packets", "minima at most maxima"
abbrev pub sound_length : ℕ → Option (Range ℕ) → Bool
sound_length packets None = eqb packets 0
sound_length packets (Some range) = ltb 0 packets && leb range.min range.max

abbrev pub sound_ttl : Option (Range ℕ) → Bool
sound_ttl None = true
sound_ttl (Some range) = leb range.min range.max

-- ".. without packets its octets .. are 0"
unfoldable pub sound_direction : DirectionStats → Bool
sound_direction d =
    sound_length d.packets d.packet_length
    && (ltb 0 d.packets || eqb d.frame_octets 0)
    && sound_flags d.packets d.tcp_flags

-- "sound record", end reason aside
unfoldable pub sound_aside : FlowRecord → Bool
sound_aside r =
    leb r.time.start.0 r.time.end.0
    && (ltb 0 r.forward.packets || ltb 0 r.reverse.packets)
    && sound_direction r.forward
    && sound_direction r.reverse
    && sound_ttl r.network.ttl
    && ltb (r.forward.packets + r.reverse.packets) (2 ^ 64)
    && ltb (r.forward.frame_octets + r.reverse.frame_octets) (2 ^ 64)

abbrev pub has_reason : Option EndReason → Bool
has_reason None = false
has_reason (Some reason) = true

-- "sound record": with an end reason
unfoldable pub sound_record : FlowRecord → Bool
sound_record r = sound_aside r && has_reason r.time.end_reason
