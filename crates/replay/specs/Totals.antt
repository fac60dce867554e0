-- The last line's numbers: packets taken, records finished, clean closes. Each is held at the largest 64-bit number.
use Rattle.std.specs.Prelude.{ℕ, ◌+◌, ◌-◌, ◌^◌, min, ◌≡◌, None, Option, Some}
use Rattle.flow.specs.declared.record.FlowRecord.{FlowRecord}
use Rattle.flow.specs.declared.time.EndReason.{EndReason}
use Rattle.replay.specs.declared.output.Totals.{Totals}

-- before the first packet
abbrev pub none_yet : Totals
none_yet = record { packets = 0; records = 0; clean = 0 }

-- so many packets more
abbrev pub with_packets : Totals → ℕ → Totals
with_packets t n = record { packets = min (t.packets + n) (2 ^ 64 - 1); records = t.records; clean = t.clean }

-- one record more, with its clean closes
abbrev pub with_record : Totals → ℕ → Totals
with_record t closes = record { packets = t.packets; records = min (t.records + 1) (2 ^ 64 - 1); clean = min (t.clean + closes) (2 ^ 64 - 1) }

-- clean closes: reason Fin
abbrev pub closes_by : Option EndReason → ℕ
closes_by (Some EndReason.Fin) = 1
closes_by (Some EndReason.IdleTimeout) = 0
closes_by (Some EndReason.Rst) = 0
closes_by (Some EndReason.CaptureEnd) = 0
closes_by None = 0

-- the clean closes that a record is: one, or none
abbrev pub clean_closes : FlowRecord → ℕ
clean_closes r = closes_by r.time.end_reason

-- the totals by their parts
pub packets_more : (t : Totals) (n sum : ℕ) → sum ≡ min (t.packets + n) (2 ^ 64 - 1) → record { packets = sum; records = t.records; clean = t.clean } ≡ with_packets t n
packets_more t n sum e = rw e

pub record_more : (t : Totals) (closes records clean : ℕ) → records ≡ min (t.records + 1) (2 ^ 64 - 1) → clean ≡ min (t.clean + closes) (2 ^ 64 - 1)
    → record { packets = t.packets; records = records; clean = clean } ≡ with_record t closes
record_more t closes records clean e k = rw (e, k)
