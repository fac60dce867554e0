-- The record form in document 01's words: at most 358 bytes; a sound record is read back; Short and Record exactly when.
use Rattle.std.specs.Prelude.{ℕ, ◌-◌, ◌^◌, ◌≤◌, ◌<◌, ◌≡◌, refl, List, [], ◌∷◌, ◌++◌, Bool, true, false, cond, ◌&&◌, length, None, Option, Some}
use Rattle.std.proofs.Common.{sym, ap, ◌∙◌, subst, arith, length-append}
use Rattle.std.proofs.lemmas.Bool.{false≢true}
use Rattle.forms.specs.Form.{Read, got, and_then, over_is_valid, over_fits, over_ends, one_ends, one_is_valid, pair_ends, pair_first, pair_second, pair_valid, short_begins, begins_short}
use Rattle.forms.specs.Number.{number, number_bytes, number_below, below_number}
use Rattle.forms.specs.At.{placed_front}
use Rattle.forms.specs.Length.{number_at_most}
use Rattle.forms.specs.Optional.{number8, number16, number32, optional8_valid, optional16_valid, optional32_valid, optional8_below, optional16_below, optional32_below}
use Rattle.forms.specs.Lone.{value, refusal}
use Rattle.forms.specs.Theorems.{Beginning, filled}
use Rattle.key.specs.KeyTheorems.{KeyInRange, key_valid, key_in_range, key_at_most}
use Rattle.stats.specs.declared.counts.TcpFlagCounts.{TcpFlagCounts}
use Rattle.flow.specs.declared.time.EndReason.{EndReason}
use Rattle.flow.specs.declared.time.StartState.{StartState}
use Rattle.flow.specs.declared.time.TimeResolution.{TimeResolution}
use Rattle.flow.specs.declared.record.FlowRecord.{FlowRecord}
use Rattle.flow.specs.Sound.{sound_aside, sound_record, has_reason}
use Rattle.flow.specs.SoundLaws.{both}
use Rattle.wire.specs.PacketForm.{top64}
use Rattle.wire.specs.RecordForm.{is_schema, schema_undo, schema, reason_number, reason_from, reason_undo, state_number, state_from, state_undo, resolution_number, resolution_from, resolution_undo, bit_number, bit_from, bit_undo, reason, state, resolution, truncated, to_head, from_head, head, to_flags, from_flags, flags, to_direction, from_direction, direction, to_tail, from_tail, tail, to_fields, from_fields, fields, least_of8, greatest_of8, least_of32, greatest_of32, range8_from, range32_from, paired8, paired32, reason_of, direction_fields, head_fields, tail_fields, fields_of, flow_from, paired_fields, sound_fields, record_bytes, record_answer, read_record}
use Rattle.wire.specs.RecordWrite.{head_length, flags_writes, direction_writes, tail_writes, record_writes}
use Rattle.wire.specs.declared.record.Flow.{Flow}
use Rattle.wire.specs.declared.record.HeadFields.{HeadFields}
use Rattle.wire.specs.declared.record.DirectionFields.{DirectionFields}
use Rattle.wire.specs.declared.record.TailFields.{TailFields}
use Rattle.wire.specs.declared.record.RecordFields.{RecordFields}
use Rattle.stats.specs.declared.range.Range.{Range}
use Rattle.forms.specs.Form.{stop}
use Rattle.forms.specs.declared.stop.Stop.{Stop}

-- ---- the flow of a flow's fields, and the fields of their flow

range32_back : (o : Option (Range ℕ)) → range32_from (least_of32 o) (greatest_of32 o) ≡ o
range32_back None = refl
range32_back (Some r) = refl

range8_back : (o : Option (Range ℕ)) → range8_from (least_of8 o) (greatest_of8 o) ≡ o
range8_back None = refl
range8_back (Some r) = refl

paired32_of : (o : Option (Range ℕ)) → paired32 (least_of32 o) (greatest_of32 o) ≡ true
paired32_of None = refl
paired32_of (Some r) = refl

paired8_of : (o : Option (Range ℕ)) → paired8 (least_of8 o) (greatest_of8 o) ≡ true
paired8_of None = refl
paired8_of (Some r) = refl

reason_there : (o : Option EndReason) → has_reason o ≡ true → Some (reason_of o) ≡ o
reason_there None h = absurd (false≢true h)
reason_there (Some r) h = refl

-- a sound record has its end reason
sound_reason : (r : FlowRecord) → sound_record r ≡ true → has_reason r.time.end_reason ≡ true
unfolding sound_record
sound_reason r h = (both (sound_aside r) (has_reason r.time.end_reason) h).1

flow_back : (f : Flow) → sound_record f.«record» ≡ true → flow_from (fields_of f) ≡ f
unfolding flow_from fields_of
flow_back f h =
    simp (
      reason_there f.«record».time.end_reason (sound_reason f.«record» h),
      range32_back f.«record».forward.packet_length,
      range32_back f.«record».reverse.packet_length,
      range8_back f.«record».network.ttl,
    )

flow_paired : (f : Flow) → paired_fields (fields_of f) ≡ true
unfolding paired_fields fields_of
flow_paired f =
    simp (paired32_of f.«record».forward.packet_length, paired32_of f.«record».reverse.packet_length, paired8_of f.«record».network.ttl)

-- a sound record's fields are sound
flow_sound : (f : Flow) → sound_record f.«record» ≡ true → sound_fields (fields_of f) ≡ true
unfolding sound_fields
flow_sound f h = simp (flow_paired f, flow_back f h, h)

least32_back : (l g : Option ℕ) → paired32 l g ≡ true → (least_of32 (range32_from l g) ≡ l) × (greatest_of32 (range32_from l g) ≡ g)
least32_back None None h = (refl, refl)
least32_back None (Some b) h = absurd (false≢true h)
least32_back (Some a) None h = absurd (false≢true h)
least32_back (Some a) (Some b) h = (refl, refl)

least8_back : (l g : Option ℕ) → paired8 l g ≡ true → (least_of8 (range8_from l g) ≡ l) × (greatest_of8 (range8_from l g) ≡ g)
least8_back None None h = (refl, refl)
least8_back None (Some b) h = absurd (false≢true h)
least8_back (Some a) None h = absurd (false≢true h)
least8_back (Some a) (Some b) h = (refl, refl)

fields_back : (w : RecordFields) → paired_fields w ≡ true → fields_of (flow_from w) ≡ w
unfolding flow_from fields_of paired_fields
fields_back w h =
    let f = paired32 w.forward.least w.forward.greatest in
    let r = paired32 w.reverse.least w.reverse.greatest in
    let t = paired8 w.tail.least_ttl w.tail.greatest_ttl in
    let (ways, ttl) = both (f && r) t h in
    let (forward, reverse) = both f r ways in
    let (fl, fg) = least32_back w.forward.least w.forward.greatest forward in
    let (rl, rg) = least32_back w.reverse.least w.reverse.greatest reverse in
    let (tl, tg) = least8_back w.tail.least_ttl w.tail.greatest_ttl ttl in
    simp (fl, fg, rl, rg, tl, tg)

-- ---- exactly the fields in range have a form, each within its own bound

pub record FlagsInRange (c : TcpFlagCounts) : Type 0 where
  pub fin : c.fin < 2 ^ 64
  pub syn : c.syn < 2 ^ 64
  pub rst : c.rst < 2 ^ 64
  pub psh : c.psh < 2 ^ 64
  pub ack : c.ack < 2 ^ 64
  pub urg : c.urg < 2 ^ 64
  pub ece : c.ece < 2 ^ 64
  pub cwr : c.cwr < 2 ^ 64
  pub ns : c.ns < 2 ^ 64

pub record DirectionInRange (d : DirectionFields) : Type 0 where
  pub packets : d.packets < 2 ^ 64
  pub octets : d.frame_octets < 2 ^ 64
  pub least : number32 d.least ≤ 2 ^ 32
  pub greatest : number32 d.greatest ≤ 2 ^ 32
  pub flags : FlagsInRange d.flags

pub record TailInRange (t : TailFields) : Type 0 where
  pub least : number8 t.least_ttl ≤ 2 ^ 8
  pub greatest : number8 t.greatest_ttl ≤ 2 ^ 8
  pub dscp : number8 t.dscp ≤ 2 ^ 8
  pub ecn : number8 t.ecn ≤ 2 ^ 8
  pub icmp : number16 t.icmp ≤ 2 ^ 16
  pub captured : t.captured_octets < 2 ^ 64

pub record FieldsInRange (w : RecordFields) : Type 0 where
  pub start : w.head.start < 2 ^ 64
  pub end : w.head.end < 2 ^ 64
  pub forward : DirectionInRange w.forward
  pub reverse : DirectionInRange w.reverse
  pub tail : TailInRange w.tail
  pub key : KeyInRange w.key

-- a flow is in range if its fields are
abbrev pub FlowInRange : Flow → Type 0
FlowInRange f = FieldsInRange (fields_of f)

schema_valid : schema.valid tt
unfolding schema
schema_valid = over_is_valid _ _ _ schema_undo tt (one_is_valid is_schema 1 refl 1 refl) refl

reason_valid : (r : EndReason) → reason.valid r
unfolding reason
reason_valid EndReason.IdleTimeout = over_is_valid reason_from reason_number _ reason_undo EndReason.IdleTimeout (below_number 3 0 (omega arith)) refl
reason_valid EndReason.Fin = over_is_valid reason_from reason_number _ reason_undo EndReason.Fin (below_number 3 1 (omega arith)) refl
reason_valid EndReason.Rst = over_is_valid reason_from reason_number _ reason_undo EndReason.Rst (below_number 3 2 (omega arith)) refl
reason_valid EndReason.CaptureEnd = over_is_valid reason_from reason_number _ reason_undo EndReason.CaptureEnd (below_number 3 3 (omega arith)) refl

state_valid : (s : StartState) → state.valid s
unfolding state
state_valid StartState.SynObserved = over_is_valid state_from state_number _ state_undo StartState.SynObserved (below_number 2 0 (omega arith)) refl
state_valid StartState.MidStream = over_is_valid state_from state_number _ state_undo StartState.MidStream (below_number 2 1 (omega arith)) refl
state_valid StartState.NotApplicable = over_is_valid state_from state_number _ state_undo StartState.NotApplicable (below_number 2 2 (omega arith)) refl

resolution_valid : (p : TimeResolution) → resolution.valid p
unfolding resolution
resolution_valid TimeResolution.Microseconds = over_is_valid resolution_from resolution_number _ resolution_undo TimeResolution.Microseconds (below_number 1 0 (omega arith)) refl
resolution_valid TimeResolution.Nanoseconds = over_is_valid resolution_from resolution_number _ resolution_undo TimeResolution.Nanoseconds (below_number 1 1 (omega arith)) refl

bit_valid : (b : Bool) → truncated.valid b
unfolding truncated
bit_valid false = over_is_valid bit_from bit_number _ bit_undo false (below_number 1 0 (omega arith)) refl
bit_valid true = over_is_valid bit_from bit_number _ bit_undo true (below_number 1 1 (omega arith)) refl

count_valid : (n : ℕ) → n < 2 ^ 64 → (number top64).valid n
count_valid n h = below_number top64 n (omega arith)

valid_count : (n : ℕ) → (number top64).valid n → n < 2 ^ 64
valid_count n v = let below = number_below top64 n v in omega arith

head_valid : (h : HeadFields) → h.start < 2 ^ 64 → h.end < 2 ^ 64 → head.valid h
unfolding head
head_valid h a e =
    over_is_valid to_head from_head _ _ h
    (pair_valid _ _ _ _ schema_valid
    (pair_valid _ _ _ _ (reason_valid h.reason)
    (pair_valid _ _ _ _ (state_valid h.state)
    (pair_valid _ _ _ _ (resolution_valid h.resolution) (pair_valid _ _ _ _ (count_valid h.start a) (count_valid h.end e))))))
    refl

head_in_range : (h : HeadFields) → head.valid h → (h.start < 2 ^ 64) × (h.end < 2 ^ 64)
unfolding head
head_in_range h v =
    let times = pair_second _ _ _ (pair_second _ _ _ (pair_second _ _ _ (pair_second _ _ _ (over_fits to_head from_head _ _ h v)))) in
    (valid_count h.start (pair_first _ _ _ times), valid_count h.end (pair_second _ _ _ times))

flags_valid : (c : TcpFlagCounts) → FlagsInRange c → flags.valid c
unfolding flags
flags_valid c h =
    over_is_valid to_flags from_flags _ _ c
    (pair_valid _ _ _ _ (count_valid c.fin h.fin)
    (pair_valid _ _ _ _ (count_valid c.syn h.syn)
    (pair_valid _ _ _ _ (count_valid c.rst h.rst)
    (pair_valid _ _ _ _ (count_valid c.psh h.psh)
    (pair_valid _ _ _ _ (count_valid c.ack h.ack)
    (pair_valid _ _ _ _ (count_valid c.urg h.urg)
    (pair_valid _ _ _ _ (count_valid c.ece h.ece)
    (pair_valid _ _ _ _ (count_valid c.cwr h.cwr) (count_valid c.ns h.ns)))))))))
    refl

flags_in_range_lem : (c : TcpFlagCounts) → flags.valid c → FlagsInRange c
unfolding flags
flags_in_range_lem c v =
    let v₀ = over_fits to_flags from_flags _ _ c v in
    let v₁ = pair_second _ _ _ v₀ in
    let v₂ = pair_second _ _ _ v₁ in
    let v₃ = pair_second _ _ _ v₂ in
    let v₄ = pair_second _ _ _ v₃ in
    let v₅ = pair_second _ _ _ v₄ in
    let v₆ = pair_second _ _ _ v₅ in
    let v₇ = pair_second _ _ _ v₆ in
    record {
      fin = valid_count _ (pair_first _ _ _ v₀);
      syn = valid_count _ (pair_first _ _ _ v₁);
      rst = valid_count _ (pair_first _ _ _ v₂);
      psh = valid_count _ (pair_first _ _ _ v₃);
      ack = valid_count _ (pair_first _ _ _ v₄);
      urg = valid_count _ (pair_first _ _ _ v₅);
      ece = valid_count _ (pair_first _ _ _ v₆);
      cwr = valid_count _ (pair_first _ _ _ v₇);
      ns = valid_count _ (pair_second _ _ _ v₇);
    }

direction_valid : (d : DirectionFields) → DirectionInRange d → direction.valid d
unfolding direction
direction_valid d h =
    over_is_valid to_direction from_direction _ _ d
    (pair_valid _ _ _ _ (count_valid d.packets h.packets)
    (pair_valid _ _ _ _ (count_valid d.frame_octets h.octets)
    (pair_valid _ _ _ _ (optional32_valid d.least h.least)
    (pair_valid _ _ _ _ (optional32_valid d.greatest h.greatest) (flags_valid d.flags h.flags)))))
    refl

direction_in_range : (d : DirectionFields) → direction.valid d → DirectionInRange d
unfolding direction
direction_in_range d v =
    let v₀ = over_fits to_direction from_direction _ _ d v in
    let v₁ = pair_second _ _ _ v₀ in
    let v₂ = pair_second _ _ _ v₁ in
    let v₃ = pair_second _ _ _ v₂ in
    record {
      packets = valid_count _ (pair_first _ _ _ v₀);
      octets = valid_count _ (pair_first _ _ _ v₁);
      least = optional32_below d.least (pair_first _ _ _ v₂);
      greatest = optional32_below d.greatest (pair_first _ _ _ v₃);
      flags = flags_in_range_lem d.flags (pair_second _ _ _ v₃);
    }

tail_valid : (t : TailFields) → TailInRange t → tail.valid t
unfolding tail
tail_valid t h =
    over_is_valid to_tail from_tail _ _ t
    (pair_valid _ _ _ _ (optional8_valid t.least_ttl h.least)
    (pair_valid _ _ _ _ (optional8_valid t.greatest_ttl h.greatest)
    (pair_valid _ _ _ _ (optional8_valid t.dscp h.dscp)
    (pair_valid _ _ _ _ (optional8_valid t.ecn h.ecn)
    (pair_valid _ _ _ _ (optional16_valid 65535 t.icmp h.icmp)
    (pair_valid _ _ _ _ (count_valid t.captured_octets h.captured) (bit_valid t.truncated)))))))
    refl

tail_in_range : (t : TailFields) → tail.valid t → TailInRange t
unfolding tail
tail_in_range t v =
    let v₀ = over_fits to_tail from_tail _ _ t v in
    let v₁ = pair_second _ _ _ v₀ in
    let v₂ = pair_second _ _ _ v₁ in
    let v₃ = pair_second _ _ _ v₂ in
    let v₄ = pair_second _ _ _ v₃ in
    let v₅ = pair_second _ _ _ v₄ in
    record {
      least = optional8_below t.least_ttl (pair_first _ _ _ v₀);
      greatest = optional8_below t.greatest_ttl (pair_first _ _ _ v₁);
      dscp = optional8_below t.dscp (pair_first _ _ _ v₂);
      ecn = optional8_below t.ecn (pair_first _ _ _ v₃);
      icmp = optional16_below 65535 t.icmp (pair_first _ _ _ v₄);
      captured = valid_count _ (pair_first _ _ _ v₅);
    }

pub fields_valid : (w : RecordFields) → FieldsInRange w → fields.valid w
unfolding fields
fields_valid w h =
    over_is_valid to_fields from_fields _ _ w
    (pair_valid _ _ _ _ (head_valid w.head h.start h.end)
    (pair_valid _ _ _ _ (direction_valid w.forward h.forward)
    (pair_valid _ _ _ _ (direction_valid w.reverse h.reverse) (pair_valid _ _ _ _ (tail_valid w.tail h.tail) (key_valid w.key h.key)))))
    refl

pub fields_in_range : (w : RecordFields) → fields.valid w → FieldsInRange w
unfolding fields
fields_in_range w v =
    let v₀ = over_fits to_fields from_fields _ _ w v in
    let v₁ = pair_second _ _ _ v₀ in
    let v₂ = pair_second _ _ _ v₁ in
    let v₃ = pair_second _ _ _ v₂ in
    let times = head_in_range w.head (pair_first _ _ _ v₀) in
    record {
      start = times.0;
      end = times.1;
      forward = direction_in_range w.forward (pair_first _ _ _ v₁);
      reverse = direction_in_range w.reverse (pair_first _ _ _ v₂);
      tail = tail_in_range w.tail (pair_first _ _ _ v₃);
      key = key_in_range w.key (pair_second _ _ _ v₃);
    }

-- ---- "At most 358 bytes."

count_short : (n : ℕ) → n < 2 ^ 64 → length (number_bytes n) ≤ 10
count_short n h = number_at_most 9 n (omega arith)

flags_short : (c : TcpFlagCounts) → FlagsInRange c → length (flags.write c) ≤ 90
flags_short c h =
    let a = count_short c.fin h.fin in
    let b = count_short c.syn h.syn in
    let d = count_short c.rst h.rst in
    let e = count_short c.psh h.psh in
    let f = count_short c.ack h.ack in
    let g = count_short c.urg h.urg in
    let i = count_short c.ece h.ece in
    let j = count_short c.cwr h.cwr in
    let k = count_short c.ns h.ns in
    rw flags_writes (simp length-append (omega arith))

direction_short : (d : DirectionFields) → DirectionInRange d → length (direction.write d) ≤ 120
direction_short d h =
    let p = count_short d.packets h.packets in
    let o = count_short d.frame_octets h.octets in
    let l = number_at_most 4 (number32 d.least) (omega (arith, h.least)) in
    let g = number_at_most 4 (number32 d.greatest) (omega (arith, h.greatest)) in
    let c = flags_short d.flags h.flags in
    rw direction_writes (simp length-append (omega arith))

bit_short : (b : Bool) → length (number_bytes (bit_number b)) ≤ 1
bit_short false = number_at_most 0 0 (omega arith)
bit_short true = number_at_most 0 1 (omega arith)

tail_short : (t : TailFields) → TailInRange t → length (tail.write t) ≤ 22
tail_short t h =
    let l = number_at_most 1 (number8 t.least_ttl) (omega (arith, h.least)) in
    let g = number_at_most 1 (number8 t.greatest_ttl) (omega (arith, h.greatest)) in
    let d = number_at_most 1 (number8 t.dscp) (omega (arith, h.dscp)) in
    let e = number_at_most 1 (number8 t.ecn) (omega (arith, h.ecn)) in
    let i = number_at_most 2 (number16 t.icmp) (omega (arith, h.icmp)) in
    let c = count_short t.captured_octets h.captured in
    let b = bit_short t.truncated in
    rw tail_writes (simp length-append (omega arith))

pub record_at_most : (f : Flow) → FlowInRange f → length (record_bytes f) ≤ 358
unfolding fields_of
record_at_most f h =
    let a = count_short f.«record».time.start.0 h.start in
    let e = count_short f.«record».time.end.0 h.end in
    let t = head_length (head_fields f.«record».time) in
    let p = direction_short (direction_fields f.«record».forward) h.forward in
    let r = direction_short (direction_fields f.«record».reverse) h.reverse in
    let l = tail_short (tail_fields f.«record».network f.«record».transport f.«record».capture) h.tail in
    let k = key_at_most f.key h.key in
    rw record_writes (simp length-append (omega arith))

-- ---- reading

schema_ends : schema.read [] ≡ stop Stop.Short
unfolding schema
schema_ends = over_ends _ _ _ schema_undo (one_ends is_schema 1 refl)

head_ends : head.read [] ≡ stop Stop.Short
unfolding head
head_ends = over_ends to_head from_head _ (λ x v. refl) (pair_ends schema _ schema_ends)

fields_ends : fields.read [] ≡ stop Stop.Short
unfolding fields
fields_ends = over_ends to_fields from_fields _ (λ x v. refl) (pair_ends head _ head_ends)

-- the answer, by what reading the fields finds
by_read : (b : ℕ) (s : List ℕ) (r : Read RecordFields (List ℕ)) → fields.read (b ∷ s) ≡ r
    → read_record (b ∷ s) ≡ record_answer (and_then r (λ w rest. got w (length (b ∷ s) - length rest)))
by_read b s r e =
    ap record_answer
    (placed_front fields.read (b ∷ s)
    ∙ ap (λ (x : Read RecordFields (List ℕ)). and_then x (λ w rest. got w (length (b ∷ s) - length rest))) e)

-- a sound record is read back to what was written, whatever stands behind it
pub record_read_back : (f : Flow) (rest : List ℕ) → sound_record f.«record» ≡ true → FlowInRange f → read_record (record_bytes f ++ rest) ≡ value f (length (record_bytes f))
unfolding record_bytes
record_read_back f rest h i = go (fields.write (fields_of f)) refl
  where
    valid : fields.valid (fields_of f)
    valid = fields_valid (fields_of f) i

    go : (w : List ℕ) → fields.write (fields_of f) ≡ w → read_record (w ++ rest) ≡ value f (length w)
    go [] e = absurd (filled 8 fields fields_ends (fields_of f) valid e)
    go (b ∷ w) e =
        let n : length ((b ∷ w) ++ rest) - length rest ≡ length (b ∷ w) = omega (arith, length-append (b ∷ w) rest) in
        by_read b (w ++ rest) (got (fields_of f) rest) (rw e at (fields.there (fields_of f) rest valid)) ∙ simp (flow_sound f h, flow_back f h, n)

-- s begins with the form of a sound record
pub record RecordBegun (s : List ℕ) : Type 0 where
  pub whole : Flow
  pub behind : List ℕ
  pub sound : sound_record whole.«record» ≡ true
  pub in_range : FlowInRange whole
  pub bytes : s ≡ record_bytes whole ++ behind

-- fields that are sound are those of a record
sound_begun : (w : RecordFields) → sound_fields w ≡ true → (sound_record (flow_from w).«record» ≡ true) × (fields_of (flow_from w) ≡ w)
unfolding sound_fields
sound_begun w h =
    let (paired, sound) = both (paired_fields w) (sound_record (flow_from w).«record») h in
    (sound, fields_back w paired)

-- so bytes from which sound fields are read are those of a record, with what stands behind it
written_by : (s rest : List ℕ) (w : RecordFields) → fields.read s ≡ got w rest → sound_fields w ≡ true
    → (sound_record (flow_from w).«record» ≡ true) × FlowInRange (flow_from w) × (s ≡ record_bytes (flow_from w) ++ rest)
unfolding record_bytes
written_by s rest w q h =
    let (v, bytes) = fields.back s w rest q in
    let (sound, same) = sound_begun w h in
    let written : record_bytes (flow_from w) ≡ fields.write w = ap fields.write same in
    (sound, subst (λ (x : RecordFields). FieldsInRange x) (sym same) (fields_in_range w v), bytes ∙ ap (λ (l : List ℕ). l ++ rest) (sym written))

begun_by : (s rest : List ℕ) (w : RecordFields) → fields.read s ≡ got w rest → sound_fields w ≡ true → RecordBegun s
begun_by s rest w q h =
    let (sound, in_range, bytes) = written_by s rest w q h in
    record { whole = flow_from w; behind = rest; sound = sound; in_range = in_range; bytes = bytes }

-- Short, 9, exactly where the bytes are a proper, non-empty beginning of some record form, each field judged by its own bound and
-- "sound record" aside
pub record_short_only : (s : List ℕ) → read_record s ≡ refusal 9 → Beginning fields s
record_short_only [] e = let z : ◌≡◌ {A = ℕ} 8 9 = cc in absurd (omega arith)
record_short_only (b ∷ s) e = go (fields.read (b ∷ s)) refl
  where
    unsound : (t : Bool) (w : RecordFields) (n : ℕ) → cond t (value (flow_from w) n) (refusal 8) ≡ refusal 9 → ⊥
    unsound true w n h = let z : ◌≡◌ {A = ℕ} 0 1 = cc in omega arith
    unsound false w n h = let z : ◌≡◌ {A = ℕ} 8 9 = cc in omega arith

    go : (r : Read RecordFields (List ℕ)) → fields.read (b ∷ s) ≡ r → Beginning fields (b ∷ s)
    go (got w rest) q = absurd (unsound (sound_fields w) w (length (b ∷ s) - length rest) (sym (by_read b s (got w rest) q) ∙ e))
    go (stop Stop.Short) q =
        let (a, m, t, v, x) = short_begins fields (b ∷ s) q in
        record { some = λ n. absurd (omega (arith, ap length n)); whole = a; missing = m; behind = t; valid = v; bytes = x }
    go (stop Stop.Refused) q = let is = sym (by_read b s (stop Stop.Refused) q) ∙ e in let z : ◌≡◌ {A = ℕ} 8 9 = cc in absurd (omega arith)

pub record_is_short : (s : List ℕ) → Beginning fields s → read_record s ≡ refusal 9
record_is_short [] h = absurd (h.some refl)
record_is_short (b ∷ s) h = by_read b s (stop Stop.Short) (begins_short fields (b ∷ s) h.whole h.missing h.behind h.valid h.bytes)

-- Record, 8, exactly where they neither begin with a record form nor are Short
pub record_refused_only : (s : List ℕ) → read_record s ≡ refusal 8 → (RecordBegun s → ⊥) × (Beginning fields s → ⊥)
record_refused_only s e = (begun, beginning)
  where
    begun : RecordBegun s → ⊥
    begun h =
        let is : read_record s ≡ value h.whole (length (record_bytes h.whole)) = rw h.bytes (record_read_back h.whole h.behind h.sound h.in_range) in
        let z : ◌≡◌ {A = ℕ} 0 1 = cc e in omega arith

    beginning : Beginning fields s → ⊥
    beginning h = let is = record_is_short s h in let z : ◌≡◌ {A = ℕ} 8 9 = cc e in omega arith

pub record_is_refused : (s : List ℕ) → (RecordBegun s → ⊥) → (Beginning fields s → ⊥) → read_record s ≡ refusal 8
record_is_refused [] n m = refl
record_is_refused (b ∷ s) n m = go (fields.read (b ∷ s)) refl
  where
    sound_or : (t : Bool) (w : RecordFields) (rest : List ℕ) → fields.read (b ∷ s) ≡ got w rest → sound_fields w ≡ t → read_record (b ∷ s) ≡ refusal 8
    sound_or true w rest q h = absurd (n (begun_by (b ∷ s) rest w q h))
    sound_or false w rest q h = by_read b s (got w rest) q ∙ simp h

    go : (r : Read RecordFields (List ℕ)) → fields.read (b ∷ s) ≡ r → read_record (b ∷ s) ≡ refusal 8
    go (got w rest) q = sound_or (sound_fields w) w rest q refl
    go (stop Stop.Short) q = absurd (m (record_short_only (b ∷ s) (by_read b s (stop Stop.Short) q)))
    go (stop Stop.Refused) q = by_read b s (stop Stop.Refused) q

-- what is read was written so, is sound and in range
pub record_was_written : (s : List ℕ) (f : Flow) (n : ℕ) → read_record s ≡ value f n
    → (rest : List ℕ) × (sound_record f.«record» ≡ true) × FlowInRange f × (s ≡ record_bytes f ++ rest) × (n ≡ length (record_bytes f))
record_was_written [] f n e = let z : ◌≡◌ {A = ℕ} 0 1 = cc in absurd (omega arith)
record_was_written (b ∷ s) f n e = go (fields.read (b ∷ s)) refl
  where
    Found : Type 0
    Found = (rest : List ℕ) × (sound_record f.«record» ≡ true) × FlowInRange f × (b ∷ s ≡ record_bytes f ++ rest) × (n ≡ length (record_bytes f))

    sound_or : (t : Bool) (w : RecordFields) (rest : List ℕ) → fields.read (b ∷ s) ≡ got w rest → sound_fields w ≡ t
        → cond t (value (flow_from w) (length (b ∷ s) - length rest)) (refusal 8) ≡ value f n → Found
    sound_or true w rest q h is =
        let same : flow_from w ≡ f = cc in
        let used : length (b ∷ s) - length rest ≡ n = cc in
        let (sound, in_range, bytes) = written_by (b ∷ s) rest w q h in
        let size = ap length bytes ∙ length-append (record_bytes (flow_from w)) rest in
        let count : n ≡ length (record_bytes (flow_from w)) = omega arith in
        (rest, rw same at sound, subst FlowInRange same in_range, rw same at bytes, rw same at count)
    sound_or false w rest q h is = let z : ◌≡◌ {A = ℕ} 0 1 = cc in absurd (omega arith)

    go : (r : Read RecordFields (List ℕ)) → fields.read (b ∷ s) ≡ r → Found
    go (got w rest) q = sound_or (sound_fields w) w rest q refl (sym (by_read b s (got w rest) q) ∙ e)
    go (stop Stop.Short) q = let is = sym (by_read b s (stop Stop.Short) q) ∙ e in let z : ◌≡◌ {A = ℕ} 0 1 = cc in absurd (omega arith)
    go (stop Stop.Refused) q = let is = sym (by_read b s (stop Stop.Refused) q) ∙ e in let z : ◌≡◌ {A = ℕ} 0 1 = cc in absurd (omega arith)
