-- What reading and writing one form answers, in numbers. Assumes nothing.
use Rattle.forms.specs.Refusals.{refusal_number}
use Rattle.forms.specs.declared.refusal.Refusal.{Refusal}
use Rattle.std.specs.Prelude.{ℕ, ◌-◌, ◌&&◌, List, [], ◌∷◌, leb, length, None, Option, Some, Result, Ok, Err}
use Rattle.forms.specs.Lone.{Answer, value, refusal, read_one, Written, wrote, unwritten, write_one}
use Rattle.key.specs.KeyForm.{key}
use Rattle.key.specs.declared.key.FlowKey.{FlowKey}
use Rattle.flow.specs.Counting.{closed}
use Rattle.flow.specs.Sound.{sound_record}
use Rattle.flow.specs.declared.record.FlowRecord.{FlowRecord}
use Rattle.wire.specs.PacketForm.{packet}
use Rattle.wire.specs.RecordForm.{reason_number, reason_from, reason_of, record_bytes, read_record}
use Rattle.wire.specs.declared.packet.Packet.{Packet}
use Rattle.wire.specs.declared.record.Flow.{Flow}
use Rattle.words.specs.Words.{words_of, record_of, words_fit}
use Rattle.braidpuddle_forms.specs.Facts.{fact_numbers, facts_fit, facts_from}
use Rattle.state.specs.SlotTest.{whole_key}

-- what reading answers and leaves in the lent numbers: refused, they stay as they were
abbrev pub told : {A B : Type 0} → Answer A → (A → ℕ → B) → B → ℕ × B
told (value a used) numbers before = (0, numbers a used)
told (refusal n) numbers before = (n, before)

-- what writing answers: the refusal's number, and how many bytes were written; refused, that stays as it was
abbrev pub wrote_as : Written × List ℕ → ℕ → (ℕ × ℕ) × List ℕ
wrote_as (wrote n, out) before = ((0, n), out)
wrote_as (unwritten k, out) before = ((k, before), out)

-- the same of a call's answer
abbrev pub reported : Result ℕ Refusal → ℕ → ℕ × ℕ
reported (Ok n) before = (0, n)
reported (Err why) before = (refusal_number why, before)

-- ---- packets

-- where a key form that ends at a place begins
abbrev pub key_begins : FlowKey → ℕ → ℕ
key_begins k end = end - length (key.write k)

-- a packet's numbers; where its key form begins, and where it ends
abbrev pub packet_numbers : Packet → ℕ → List ℕ × List ℕ
packet_numbers p used = (fact_numbers p.facts, key_begins p.key used ∷ used ∷ [])

abbrev pub packet_told : List ℕ → List ℕ × List ℕ → ℕ × (List ℕ × List ℕ)
packet_told bytes before = told (read_one 4 packet bytes) packet_numbers before

-- the packet of numbers and a key
abbrev pub packet_of : List ℕ → FlowKey → Packet
packet_of ns k = record { facts = facts_from ns; key = k }

-- its form, where the numbers fit and there is a key; else Packet, 4
abbrev pub packet_under : List ℕ → Option FlowKey → List ℕ → Written × List ℕ
packet_under ns (Some k) out = write_one 4 (facts_fit ns) (packet.write (packet_of ns k)) out
packet_under ns None out = (unwritten 4, out)

abbrev pub packet_written : List ℕ → List ℕ → List ℕ → Written × List ℕ
packet_written ns bytes out = packet_under ns (whole_key bytes) out

-- ---- records

-- a record's words; where its key form begins, where it ends, and its end reason
abbrev pub record_numbers : Flow → ℕ → List ℕ × List ℕ
record_numbers f used = (words_of f.«record», key_begins f.key used ∷ used ∷ reason_number (reason_of f.«record».time.end_reason) ∷ [])

abbrev pub record_told : List ℕ → List ℕ × List ℕ → ℕ × (List ℕ × List ℕ)
record_told bytes before = told (read_record bytes) record_numbers before

-- the record of words, closed with the reason of a number
abbrev pub closed_of : List ℕ → ℕ → FlowRecord
closed_of ws reason = closed (record_of ws) (reason_from reason)

-- its form, where the words fit, the number is a reason's, there is a key and the record is sound; else Damaged, 3
abbrev pub record_under : List ℕ → ℕ → Option FlowKey → List ℕ → Written × List ℕ
record_under ws reason (Some k) out =
    write_one 3 (words_fit ws && leb reason 3 && sound_record (closed_of ws reason)) (record_bytes (record { key = k; «record» = closed_of ws reason })) out
record_under ws reason None out = (unwritten 3, out)

abbrev pub record_written : List ℕ → ℕ → List ℕ → List ℕ → Written × List ℕ
record_written ws reason bytes out = record_under ws reason (whole_key bytes) out
