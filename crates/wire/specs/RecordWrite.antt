-- Measuring and writing a record, part by part.
use Rattle.std.specs.Prelude.{ℕ, ◌+◌, ◌≤◌, ◌≡◌, refl, List, [], ◌∷◌, ◌++◌, Bool, true, false, cond, leb, length, take, drop, Err, Ok, Result}
use Rattle.std.proofs.Common.{sym, ap, ◌∙◌, arith, length-append, take_at}
use Rattle.forms.specs.Form.{over_writes, pair_writes, one_writes}
use Rattle.forms.specs.Number.{number_bytes, number_writes}
use Rattle.forms.specs.Length.{small_length}
use Rattle.forms.specs.Optional.{number8, number16, number32, optional8_writes, optional16_writes, optional32_writes}
use Rattle.forms.specs.Lone.{Written, wrote, unwritten, write_one, not_allowed}
use Rattle.key.specs.KeyForm.{key}
use Rattle.stats.specs.declared.counts.TcpFlagCounts.{TcpFlagCounts}
use Rattle.flow.specs.declared.time.EndReason.{EndReason}
use Rattle.flow.specs.declared.time.StartState.{StartState}
use Rattle.flow.specs.declared.time.TimeResolution.{TimeResolution}
use Rattle.flow.specs.Sound.{sound_record}
use Rattle.wire.specs.RecordForm.{schema, reason_number, state_number, resolution_number, bit_number, reason, state, resolution, truncated, head, flags, direction, tail, fields, direction_fields, head_fields, tail_fields, fields_of, record_bytes, bytes_written, filled_record}
use Rattle.wire.specs.declared.record.Flow.{Flow}
use Rattle.wire.specs.declared.record.HeadFields.{HeadFields}
use Rattle.wire.specs.declared.record.DirectionFields.{DirectionFields}
use Rattle.wire.specs.declared.record.TailFields.{TailFields}
use Rattle.forms.specs.Answers.{written_of}
use Rattle.forms.specs.declared.refusal.Refusal.{Refusal}
use Rattle.forms.specs.Refusals.{refusal_number}

-- ---- the bytes of each part

pub head_writes : (h : HeadFields)
    → head.write h
    ≡ (1 ∷ [])
    ++ (number_bytes (reason_number h.reason)
    ++ (number_bytes (state_number h.state) ++ (number_bytes (resolution_number h.resolution) ++ (number_bytes h.start ++ number_bytes h.end))))
unfolding head schema reason state resolution
head_writes h = simp (over_writes, pair_writes, one_writes, number_writes)

pub flags_writes : (c : TcpFlagCounts)
    → flags.write c
    ≡ number_bytes c.fin
    ++ (number_bytes c.syn
    ++ (number_bytes c.rst
    ++ (number_bytes c.psh
    ++ (number_bytes c.ack ++ (number_bytes c.urg ++ (number_bytes c.ece ++ (number_bytes c.cwr ++ number_bytes c.ns)))))))
unfolding flags
flags_writes c = simp (over_writes, pair_writes, number_writes)

pub direction_writes : (d : DirectionFields)
    → direction.write d
    ≡ number_bytes d.packets ++ (number_bytes d.frame_octets ++ (number_bytes (number32 d.least) ++ (number_bytes (number32 d.greatest) ++ flags.write d.flags)))
unfolding direction
direction_writes d = simp (over_writes, pair_writes, number_writes, optional32_writes)

pub tail_writes : (t : TailFields)
    → tail.write t
    ≡ number_bytes (number8 t.least_ttl)
    ++ (number_bytes (number8 t.greatest_ttl)
    ++ (number_bytes (number8 t.dscp)
    ++ (number_bytes (number8 t.ecn) ++ (number_bytes (number16 t.icmp) ++ (number_bytes t.captured_octets ++ number_bytes (bit_number t.truncated))))))
unfolding tail truncated
tail_writes t = simp (over_writes, pair_writes, number_writes, optional8_writes, optional16_writes)

pub record_writes : (f : Flow)
    → record_bytes f
    ≡ head.write (head_fields f.«record».time)
    ++ (direction.write (direction_fields f.«record».forward)
    ++ (direction.write (direction_fields f.«record».reverse)
    ++ (tail.write (tail_fields f.«record».network f.«record».transport f.«record».capture) ++ key.write f.key)))
unfolding record_bytes fields_of fields
record_writes f = simp (over_writes, pair_writes)

-- ---- lengths

reason_one : (r : EndReason) → length (number_bytes (reason_number r)) ≡ 1
reason_one EndReason.IdleTimeout = small_length 0 (omega arith)
reason_one EndReason.Fin = small_length 1 (omega arith)
reason_one EndReason.Rst = small_length 2 (omega arith)
reason_one EndReason.CaptureEnd = small_length 3 (omega arith)

state_one : (s : StartState) → length (number_bytes (state_number s)) ≡ 1
state_one StartState.SynObserved = small_length 0 (omega arith)
state_one StartState.MidStream = small_length 1 (omega arith)
state_one StartState.NotApplicable = small_length 2 (omega arith)

resolution_one : (p : TimeResolution) → length (number_bytes (resolution_number p)) ≡ 1
resolution_one TimeResolution.Microseconds = small_length 0 (omega arith)
resolution_one TimeResolution.Nanoseconds = small_length 1 (omega arith)

pub bit_one : (b : Bool) → length (number_bytes (bit_number b)) ≡ 1
bit_one false = small_length 0 (omega arith)
bit_one true = small_length 1 (omega arith)

pub head_length : (h : HeadFields) → length (head.write h) ≡ 4 + length (number_bytes h.start) + length (number_bytes h.end)
head_length h =
    let r = reason_one h.reason in
    let s = state_one h.state in
    let p = resolution_one h.resolution in
    rw head_writes (simp length-append (omega arith))

-- ---- the ways out of writing one record

module _ (out : List ℕ) (f : Flow) where
  module _ (sound : Bool) (e : sound ≡ sound_record f.«record») where
    pub lone_sound_lem : sound ≡ true → (r : Result ℕ Refusal) (after : List ℕ) → (written_of r, after) ≡ write_one 3 true (record_bytes f) out
        → (written_of r, after) ≡ write_one 3 (sound_record f.«record») (record_bytes f) out
    lone_sound_lem h r after q = q ∙ rw (← e, h)

    pub lone_damaged : sound ≡ false → (written_of (Err Refusal.Damaged), out) ≡ write_one 3 (sound_record f.«record») (record_bytes f) out
    lone_damaged h = rw (← e) (not_allowed 3 sound (record_bytes f) out h)

-- ---- the part that a record fills: what writing it answered, in front of what it left

differ : (n k : ℕ) → wrote n ≡ unwritten k → ⊥
differ n k e = let z : ◌≡◌ {A = ℕ} 0 1 = cc in omega arith

filled_part : (out bytes : List ℕ) (sound fits : Bool) → leb (length bytes) (length out) ≡ fits → (r : Result ℕ Refusal) (after : List ℕ)
    → ◌≡◌ {A = Written × List ℕ} (written_of r, after)
    (cond sound (cond fits (wrote (length bytes), bytes ++ drop (length bytes) out) (unwritten 7, out)) (unwritten 3, out))
    → (bytes_written r ≤ length after) × (take (bytes_written r) after ≡ cond sound (cond fits bytes []) [])
filled_part out bytes true true h (Ok n) after e =
    let said : wrote n ≡ wrote (length bytes) = ap (λ (x : Written × List ℕ). x.0) e in
    let same : n ≡ length bytes = cc in
    let left : after ≡ bytes ++ drop (length bytes) out = ap (λ (x : Written × List ℕ). x.1) e in
    (rw left (omega (arith, length-append bytes (drop (length bytes) out))), rw (left, same) (take_at bytes (drop (length bytes) out) (length bytes) refl))
filled_part out bytes true true h (Err why) after e = absurd (differ (length bytes) (refusal_number why) (sym (ap (λ (x : Written × List ℕ). x.0) e)))
filled_part out bytes true false h (Ok n) after e = absurd (differ n 7 (ap (λ (x : Written × List ℕ). x.0) e))
filled_part out bytes true false h (Err why) after e = (omega arith, refl)
filled_part out bytes false fits h (Ok n) after e = absurd (differ n 3 (ap (λ (x : Written × List ℕ). x.0) e))
filled_part out bytes false fits h (Err why) after e = (omega arith, refl)

module _ (out : List ℕ) (f : Flow) (r : Result ℕ Refusal) (after : List ℕ)
    (says : (written_of r, after) ≡ write_one 3 (sound_record f.«record») (record_bytes f) out) (n : ℕ) (is : n ≡ bytes_written r) where
  found : (bytes_written r ≤ length after) × (take (bytes_written r) after ≡ filled_record f out)
  found = filled_part out (record_bytes f) (sound_record f.«record») (leb (length (record_bytes f)) (length out)) refl r after says

  pub filled_inside : n ≤ length after
  filled_inside = rw is found.0

  pub filled_is : take n after ≡ filled_record f out
  filled_is = rw is found.1
