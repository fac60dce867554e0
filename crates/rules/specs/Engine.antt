-- The engine's own terms: the keys of `key`, the packets of `wire`, the records of `flow`. The plain rules at these are the
-- engine's. Assumes nothing.
use Rattle.std.specs.Prelude.{Bool, not, ◌&&◌, List, [], ◌∷◌, ◌++◌, ℕ, ltb, eqb, length}
use Rattle.key.specs.Endpoints.{has_reverse_direction}
use Rattle.key.specs.Key.{reversed_key}
use Rattle.key.specs.KeyForm as KeyForm
use Rattle.key.specs.declared.key.FlowKey.{FlowKey}
use Rattle.stats.specs.declared.counts.DirectionStats.{DirectionStats}
use Rattle.flow.specs.Counting.{mask_of, opened_of, counted_of, has_room, closed}
use Rattle.flow.specs.Summary.{Flag, syn, rst, bit_of}
use Rattle.flow.specs.declared.time.TimeResolution.{TimeResolution}
use Rattle.flow.specs.declared.time.EndReason.{EndReason}
use Rattle.flow.specs.declared.record.Direction.TheVariants.{Forward}
use Rattle.flow.specs.declared.record.FlowRecord.{FlowRecord}
use Rattle.wire.specs.declared.packet.Packet.{Packet}
use Rattle.wire.specs.declared.record.Flow.{Flow}
use Rattle.wire.specs.RecordForm.{record_bytes}
use Rattle.rules.specs.Rules.{Terms, Finished}

-- the key form
abbrev pub key_bytes : FlowKey → List ℕ
key_bytes k = (KeyForm.key).write k

-- "the endpoints are a security association"
abbrev pub is_association : FlowKey → Bool
is_association k = not (has_reverse_direction k.endpoints)

abbrev pub time_of : Packet → ℕ
time_of p = p.facts.time.0

-- "SYN is set", "RST": a bit of the mask
abbrev pub has_flag : Flag → Packet → Bool
has_flag k p = eqb (bit_of k (mask_of p.facts.tcp_flags)) 1

-- "begun with its first packet counted forward"
abbrev pub begun_with : TimeResolution → Packet → FlowRecord
begun_with resolution p = counted_of (opened_of resolution p.key.protocol p.facts) Forward p.facts

abbrev pub end_of : FlowRecord → ℕ
end_of r = r.time.end.0

-- "a direction's FIN mark set exactly if its fin count is above 0"
abbrev pub fin_seen : DirectionStats → Bool
fin_seen d = ltb 0 d.tcp_flags.fin

-- "both FINs were seen"
abbrev pub both_fins : FlowRecord → Bool
both_fins r = fin_seen r.forward && fin_seen r.reverse

-- a finished flow as it is written: its key, and its record closed with the reason
abbrev pub finished_flow : FlowKey → EndReason → FlowRecord → Flow
finished_flow k reason r = record { key = k; «record» = closed r reason }

abbrev pub record_form : FlowKey → EndReason → FlowRecord → List ℕ
record_form k reason r = record_bytes (finished_flow k reason r)

-- the bytes of the record form
abbrev pub record_size : FlowKey → EndReason → FlowRecord → ℕ
record_size k reason r = length (record_form k reason r)

-- the terms, whatever the keys' bytes and the records' sizes are
abbrev pub engine_by : (FlowKey → List ℕ) → (FlowKey → EndReason → FlowRecord → ℕ) → Terms
engine_by bytes size =
    record {
      Key = FlowKey;
      bytes = bytes;
      reversed = reversed_key;
      association = is_association;
      Packet = Packet;
      time = time_of;
      key = λ p. p.key;
      syn = has_flag syn;
      rst = has_flag rst;
      Held = FlowRecord;
      begun = begun_with;
      counted = λ d p r. counted_of r d p.facts;
      latest = end_of;
      closed = both_fins;
      spent = λ p r. not (has_room r p.facts);
      size = size;
    }

-- the engine's: the key form and the record form
abbrev pub engine : Terms
engine = engine_by key_bytes record_size

-- the bytes that a call writes: the record forms, one behind another
abbrev pub written : List (Finished engine) → List ℕ
written [] = []
written (f ∷ fs) = record_form f.name f.reason f.held ++ written fs
