-- The record form (document 01, "Byte forms").
use Rattle.std.specs.Prelude.{ℕ, zero, suc, ◌^◌, ◌≤◌, ◌≡◌, refl, List, [], ◌∷◌, Bool, true, false, cond, ◌&&◌, eqb, ltb, leb, length, None, Option, Some, Err, Ok, Result}
use Rattle.std.proofs.Common.{sym, arith, eqb-true}
use Rattle.forms.specs.Form.{Form, Read, got, one, one_valid, over, pair}
use Rattle.forms.specs.Number.{number, number_below}
use Rattle.forms.specs.At.{read_at}
use Rattle.forms.specs.Optional.{number8, number32, optional8, optional16, optional32}
use Rattle.forms.specs.Lone.{Answer, value, refusal}
use Rattle.key.specs.KeyForm.{key}
use Rattle.key.specs.declared.key.FlowKey.{FlowKey}
use Rattle.stats.specs.declared.counts.TcpFlagCounts.{TcpFlagCounts}
use Rattle.stats.specs.declared.counts.DirectionStats.{DirectionStats}
use Rattle.flow.specs.declared.time.EndReason.{EndReason}
use Rattle.flow.specs.declared.time.StartState.{StartState}
use Rattle.flow.specs.declared.time.TimeResolution.{TimeResolution}
use Rattle.flow.specs.declared.time.FlowTime.{FlowTime}
use Rattle.stats.specs.declared.counts.NetworkStats.{NetworkStats}
use Rattle.stats.specs.declared.counts.TransportStats.{TransportStats}
use Rattle.stats.specs.declared.counts.CaptureStats.{CaptureStats}
use Rattle.flow.specs.Sound.{sound_record}
use Rattle.wire.specs.PacketForm.{top64}
use Rattle.wire.specs.declared.record.Flow.{Flow}
use Rattle.wire.specs.declared.record.HeadFields.{HeadFields}
use Rattle.wire.specs.declared.record.DirectionFields.{DirectionFields}
use Rattle.wire.specs.declared.record.TailFields.{TailFields}
use Rattle.wire.specs.declared.record.RecordFields.{RecordFields}
use Rattle.stats.specs.declared.range.Range.{Range}
use Rattle.forms.specs.declared.refusal.Refusal.{Refusal}
use Rattle.forms.specs.Form.{stop}
use Rattle.forms.specs.declared.stop.Stop.{Stop}

-- ---- "schema, always 1"

abbrev pub is_schema : ℕ → Bool
is_schema b = eqb b 1

pub schema_undo : (b : ℕ) → (one is_schema 1 refl).valid b → 1 ≡ b
schema_undo b v = sym (eqb-true b 1 (right (ltb b 256) (one_valid is_schema 1 refl b v)))
  where
    right : (p : Bool) → p && eqb b 1 ≡ true → eqb b 1 ≡ true
    right true h = h
    right false h = let z : ◌≡◌ {A = ℕ} 0 1 = cc in absurd (omega arith)

unfoldable pub schema : Form Unit
schema = over (λ b. tt) (λ u. 1) (one is_schema 1 refl) schema_undo

-- ---- "end reason (0 IdleTimeout, 1 Fin, 2 Rst, 3 CaptureEnd)"

abbrev pub reason_number : EndReason → ℕ
reason_number EndReason.IdleTimeout = 0
reason_number EndReason.Fin = 1
reason_number EndReason.Rst = 2
reason_number EndReason.CaptureEnd = 3

abbrev pub reason_from : ℕ → EndReason
reason_from zero = EndReason.IdleTimeout
reason_from (suc zero) = EndReason.Fin
reason_from (suc (suc zero)) = EndReason.Rst
reason_from (suc (suc (suc n))) = EndReason.CaptureEnd

pub reason_undo : (n : ℕ) → (number 3).valid n → reason_number (reason_from n) ≡ n
reason_undo zero v = refl
reason_undo (suc zero) v = refl
reason_undo (suc (suc zero)) v = refl
reason_undo (suc (suc (suc n))) v = let below = number_below 3 (suc (suc (suc n))) v in omega arith

unfoldable pub reason : Form EndReason
reason = over reason_from reason_number (number 3) reason_undo

-- ---- "start state (0 SynObserved, 1 MidStream, 2 NotApplicable)"

abbrev pub state_number : StartState → ℕ
state_number StartState.SynObserved = 0
state_number StartState.MidStream = 1
state_number StartState.NotApplicable = 2

abbrev pub state_from : ℕ → StartState
state_from zero = StartState.SynObserved
state_from (suc zero) = StartState.MidStream
state_from (suc (suc n)) = StartState.NotApplicable

pub state_undo : (n : ℕ) → (number 2).valid n → state_number (state_from n) ≡ n
state_undo zero v = refl
state_undo (suc zero) v = refl
state_undo (suc (suc n)) v = let below = number_below 2 (suc (suc n)) v in omega arith

unfoldable pub state : Form StartState
state = over state_from state_number (number 2) state_undo

-- ---- "resolution (0 Microseconds, 1 finer)"

abbrev pub resolution_number : TimeResolution → ℕ
resolution_number TimeResolution.Microseconds = 0
resolution_number TimeResolution.Nanoseconds = 1

abbrev pub resolution_from : ℕ → TimeResolution
resolution_from zero = TimeResolution.Microseconds
resolution_from (suc n) = TimeResolution.Nanoseconds

pub resolution_undo : (n : ℕ) → (number 1).valid n → resolution_number (resolution_from n) ≡ n
resolution_undo zero v = refl
resolution_undo (suc n) v = let below = number_below 1 (suc n) v in omega arith

unfoldable pub resolution : Form TimeResolution
resolution = over resolution_from resolution_number (number 1) resolution_undo

-- ---- "truncated 0 or 1"

abbrev pub bit_number : Bool → ℕ
bit_number false = 0
bit_number true = 1

abbrev pub bit_from : ℕ → Bool
bit_from zero = false
bit_from (suc n) = true

pub bit_undo : (n : ℕ) → (number 1).valid n → bit_number (bit_from n) ≡ n
bit_undo zero v = refl
bit_undo (suc n) v = let below = number_below 1 (suc n) v in omega arith

unfoldable pub truncated : Form Bool
truncated = over bit_from bit_number (number 1) bit_undo

-- ---- schema, end reason, start state, resolution, start, end

abbrev pub HeadTuple : Type 0
HeadTuple = Unit × (EndReason × (StartState × (TimeResolution × (ℕ × ℕ))))

abbrev pub to_head : HeadTuple → HeadFields
to_head (u, (r, (t, (p, (a, e))))) = record { reason = r; state = t; resolution = p; start = a; end = e }

abbrev pub from_head : HeadFields → HeadTuple
from_head h = (tt, (h.reason, (h.state, (h.resolution, (h.start, h.end)))))

unfoldable pub head : Form HeadFields
head = over to_head from_head (pair schema (pair reason (pair state (pair resolution (pair (number top64) (number top64)))))) (λ x v. refl)

-- ---- "nine flag counts"

abbrev pub FlagsTuple : Type 0
FlagsTuple = ℕ × (ℕ × (ℕ × (ℕ × (ℕ × (ℕ × (ℕ × (ℕ × ℕ)))))))

abbrev pub to_flags : FlagsTuple → TcpFlagCounts
to_flags (a, (b, (c, (d, (e, (f, (g, (h, i)))))))) = record { fin = a; syn = b; rst = c; psh = d; ack = e; urg = f; ece = g; cwr = h; ns = i }

abbrev pub from_flags : TcpFlagCounts → FlagsTuple
from_flags c = (c.fin, (c.syn, (c.rst, (c.psh, (c.ack, (c.urg, (c.ece, (c.cwr, c.ns))))))))

abbrev pub count : Form ℕ
count = number top64

unfoldable pub flags : Form TcpFlagCounts
flags = over to_flags from_flags (pair count (pair count (pair count (pair count (pair count (pair count (pair count (pair count count)))))))) (λ x v. refl)

-- ---- "for each direction ..: packets, frame octets, length minimum and maximum (optional 32-bit), nine flag counts"

abbrev pub DirectionTuple : Type 0
DirectionTuple = ℕ × (ℕ × (Option ℕ × (Option ℕ × TcpFlagCounts)))

abbrev pub to_direction : DirectionTuple → DirectionFields
to_direction (p, (o, (l, (g, c)))) = record { packets = p; frame_octets = o; least = l; greatest = g; flags = c }

abbrev pub from_direction : DirectionFields → DirectionTuple
from_direction d = (d.packets, (d.frame_octets, (d.least, (d.greatest, d.flags))))

unfoldable pub direction : Form DirectionFields
direction = over to_direction from_direction (pair count (pair count (pair optional32 (pair optional32 flags)))) (λ x v. refl)

-- ---- "TTL minimum and maximum (optional); DSCP, ECN, ICMP; captured octets; truncated 0 or 1"

abbrev pub TailTuple : Type 0
TailTuple = Option ℕ × (Option ℕ × (Option ℕ × (Option ℕ × (Option ℕ × (ℕ × Bool)))))

abbrev pub to_tail : TailTuple → TailFields
to_tail (l, (g, (d, (e, (i, (c, t)))))) =
    record { least_ttl = l; greatest_ttl = g; dscp = d; ecn = e; icmp = i; captured_octets = c; truncated = t }

abbrev pub from_tail : TailFields → TailTuple
from_tail t = (t.least_ttl, (t.greatest_ttl, (t.dscp, (t.ecn, (t.icmp, (t.captured_octets, t.truncated))))))

unfoldable pub tail : Form TailFields
tail = over to_tail from_tail (pair optional8 (pair optional8 (pair optional8 (pair optional8 (pair (optional16 65535) (pair count truncated)))))) (λ x v. refl)

-- ---- the whole, "forward first"; key last

abbrev pub FieldsTuple : Type 0
FieldsTuple = HeadFields × (DirectionFields × (DirectionFields × (TailFields × FlowKey)))

abbrev pub to_fields : FieldsTuple → RecordFields
to_fields (h, (f, (r, (t, k)))) = record { head = h; forward = f; reverse = r; tail = t; key = k }

abbrev pub from_fields : RecordFields → FieldsTuple
from_fields w = (w.head, (w.forward, (w.reverse, (w.tail, w.key))))

unfoldable pub fields : Form RecordFields
fields = over to_fields from_fields (pair head (pair direction (pair direction (pair tail key)))) (λ x v. refl)

-- ---- the fields of a flow, and the flow of fields

abbrev pub least_of : {A : Type 0} → Option (Range A) → Option A
least_of None = None
least_of (Some r) = Some r.min

abbrev pub greatest_of : {A : Type 0} → Option (Range A) → Option A
greatest_of None = None
greatest_of (Some r) = Some r.max

abbrev pub least_of32 : Option (Range ℕ) → Option ℕ
least_of32 = least_of

abbrev pub greatest_of32 : Option (Range ℕ) → Option ℕ
greatest_of32 = greatest_of

abbrev pub least_of8 : Option (Range ℕ) → Option ℕ
least_of8 = least_of

abbrev pub greatest_of8 : Option (Range ℕ) → Option ℕ
greatest_of8 = greatest_of

-- both bounds are numbers of 32 bits, where there are any
abbrev pub LengthsInRange : Option (Range ℕ) → Type 0
LengthsInRange o = (number32 (least_of32 o) ≤ 2 ^ 32) × (number32 (greatest_of32 o) ≤ 2 ^ 32)

-- both bounds are numbers of 8 bits, where there are any
abbrev pub TtlInRange : Option (Range ℕ) → Type 0
TtlInRange o = (number8 (least_of8 o) ≤ 2 ^ 8) × (number8 (greatest_of8 o) ≤ 2 ^ 8)

-- the range of two bounds, where both are there
abbrev pub range_from : {A : Type 0} → Option A → Option A → Option (Range A)
range_from None g = None
range_from (Some a) None = None
range_from (Some a) (Some b) = Some (record { min = a; max = b })

abbrev pub range32_from : Option ℕ → Option ℕ → Option (Range ℕ)
range32_from = range_from

abbrev pub range8_from : Option ℕ → Option ℕ → Option (Range ℕ)
range8_from = range_from

-- both bounds are there, or neither
abbrev pub paired : {A : Type 0} → Option A → Option A → Bool
paired None None = true
paired None (Some b) = false
paired (Some a) None = false
paired (Some a) (Some b) = true

abbrev pub paired32 : Option ℕ → Option ℕ → Bool
paired32 = paired

abbrev pub paired8 : Option ℕ → Option ℕ → Bool
paired8 = paired

abbrev pub direction_fields : DirectionStats → DirectionFields
direction_fields d = record {
  packets = d.packets;
  frame_octets = d.frame_octets;
  least = least_of32 d.packet_length;
  greatest = greatest_of32 d.packet_length;
  flags = d.tcp_flags;
}

abbrev pub direction_from : DirectionFields → DirectionStats
direction_from d = record {
  packets = d.packets;
  frame_octets = d.frame_octets;
  packet_length = range32_from d.least d.greatest;
  tcp_flags = d.flags;
}

-- an open flow has no end reason, is not sound, and is never written
abbrev pub reason_of : Option EndReason → EndReason
reason_of None = EndReason.IdleTimeout
reason_of (Some r) = r

abbrev pub head_fields : FlowTime → HeadFields
head_fields t = record {
  reason = reason_of t.end_reason;
  state = t.start_state;
  resolution = t.resolution;
  start = t.start.0;
  end = t.end.0;
}

abbrev pub tail_fields : NetworkStats → TransportStats → CaptureStats → TailFields
tail_fields n t c = record {
  least_ttl = least_of8 n.ttl;
  greatest_ttl = greatest_of8 n.ttl;
  dscp = n.dscp;
  ecn = n.ecn;
  icmp = t.icmp;
  captured_octets = c.captured_octets;
  truncated = c.truncated;
}

unfoldable pub fields_of : Flow → RecordFields
fields_of f = record {
  head = head_fields f.«record».time;
  forward = direction_fields f.«record».forward;
  reverse = direction_fields f.«record».reverse;
  tail = tail_fields f.«record».network f.«record».transport f.«record».capture;
  key = f.key;
}

unfoldable pub flow_from : RecordFields → Flow
flow_from w = record {
  key = w.key;
  «record» = record {
    time = record {
      start = record { 0 = w.head.start };
      end = record { 0 = w.head.end };
      resolution = w.head.resolution;
      start_state = w.head.state;
      end_reason = Some w.head.reason;
    };
    forward = direction_from w.forward;
    reverse = direction_from w.reverse;
    network = record { ttl = range8_from w.tail.least_ttl w.tail.greatest_ttl; dscp = w.tail.dscp; ecn = w.tail.ecn };
    transport = record { icmp = w.tail.icmp };
    capture = record { captured_octets = w.tail.captured_octets; truncated = w.tail.truncated };
  };
}

-- "TTL bounds both present or both absent", and so the lengths' bounds
unfoldable pub paired_fields : RecordFields → Bool
paired_fields w =
    paired32 w.forward.least w.forward.greatest
    && paired32 w.reverse.least w.reverse.greatest
    && paired8 w.tail.least_ttl w.tail.greatest_ttl

-- "A record also meets sound record"
unfoldable pub sound_fields : RecordFields → Bool
sound_fields w = paired_fields w && sound_record (flow_from w).«record»

-- ---- a record's bytes, and reading them

unfoldable pub record_bytes : Flow → List ℕ
record_bytes f = fields.write (fields_of f)

-- what the fields that were read answer: the flow where they are sound, else 8
abbrev pub record_answer : Read RecordFields ℕ → Answer Flow
record_answer (got w used) = cond (sound_fields w) (value (flow_from w) used) (refusal 8)
record_answer (stop Stop.Short) = refusal 9
record_answer (stop Stop.Refused) = refusal 8

-- "Reading one form from an empty buffer answers .. for a record 8"; Short is judged by the fields alone
abbrev pub read_record : List ℕ → Answer Flow
read_record [] = refusal 8
read_record (b ∷ s) = record_answer (read_at fields (b ∷ s) 0)

-- the bytes that were written; refused, none
abbrev pub bytes_written : Result ℕ Refusal → ℕ
bytes_written (Ok n) = n
bytes_written (Err why) = 0

-- the filled part of the output: the record's bytes where it is sound and there is room for them, else none
abbrev pub filled_record : Flow → List ℕ → List ℕ
filled_record f out = cond (sound_record f.«record») (cond (leb (length (record_bytes f)) (length out)) (record_bytes f) []) []
