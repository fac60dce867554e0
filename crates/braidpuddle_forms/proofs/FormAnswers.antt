-- What reading and writing one form answers, one law for each way out. Assumes nothing.
use Rattle.braidpuddle_forms.proofs.Reported.{reported_is}
use Rattle.forms.specs.Refusals.{refusal_number}
use Rattle.std.specs.Prelude.{None, Option, Some, Err, Ok, Result}
use Prim.Native.Nat.{ℕ, ◌-◌, ◌≤◌}
use mathlib.Core.Path.{◌≡◌, sym, ap, ◌∙◌}
use mathlib.Core.Bool.{Bool, true, false, ◌&&◌}
use mathlib.Core.List.{List, [], ◌∷◌}
use native.Mathlib.Omega.{arith}
use lib.Dec.{leb}
use lib.ListN.{length, length-append, get_or}
use Rattle.forms.specs.Length.{Sized}
use Rattle.forms.specs.Lone.{Answer, value, refusal, read_one, Written, wrote, unwritten, write_one}
use Rattle.forms.specs.Number.{number, number_bytes}
use Rattle.key.specs.KeyForm.{key}
use Rattle.key.specs.declared.key.FlowKey.{FlowKey}
use Rattle.flow.specs.Counting.{closed}
use Rattle.flow.specs.Sound.{sound_record}
use Rattle.flow.specs.SoundLaws.{both}
use Rattle.flow.specs.declared.record.PacketFacts.{PacketFacts}
use Rattle.flow.specs.declared.record.FlowRecord.{FlowRecord}
use Rattle.flow.specs.declared.time.EndReason.{EndReason}
use Rattle.wire.specs.PacketForm.{facts, packet, flags_in_range}
use Rattle.wire.specs.PacketLemmas.{packet_writes}
use Rattle.wire.specs.PacketTheorems.{packet_was_written, tested_flags}
use Rattle.wire.specs.RecordForm.{reason_number, reason_from, reason_of, record_bytes, read_record}
use Rattle.wire.specs.RecordWrite.{record_writes}
use Rattle.wire.specs.RecordTheorems.{record_was_written}
use Rattle.wire.specs.declared.packet.Packet.{Packet}
use Rattle.wire.specs.declared.record.Flow.{Flow}
use Rattle.words.specs.FieldLaws.{opt16_written}
use Rattle.words.specs.Fields.{opt16_at}
use Rattle.words.specs.Words.{words_of, record_of, words_fit}
use Rattle.braidpuddle_forms.specs.Facts.{fact_numbers, facts_fit, facts_from}
use Rattle.state.specs.SlotTest.{whole_key}
use Rattle.braidpuddle_forms.specs.Forms.{reported, told, wrote_as, packet_numbers, packet_told, packet_of, packet_written, record_numbers, record_told, closed_of, record_written}
use Rattle.braidpuddle_forms.specs.FactLaws.{fit_facts}
use Rattle.braidpuddle_forms.proofs.KeyAnswers.{is_key, is_none}
use Rattle.forms.specs.Answers.{answer_of}
use Rattle.forms.specs.Answers.{written_of}
use Rattle.forms.specs.declared.refusal.Refusal.{Refusal}

-- ---- numbers

module _ (s : List ℕ) (most : ℕ) (before : List ℕ) (r : Result (ℕ × ℕ) Refusal) (says : answer_of r ≡ read_one 4 (number most) s) where
  number_told : (a : Answer ℕ) → answer_of r ≡ a
      → told a (λ v used. v ∷ used ∷ []) before ≡ told (read_one 4 (number most) s) (λ v used. v ∷ used ∷ []) before
  number_told a e = rw (← says, e)

  pub number_value : (v used : ℕ) → r ≡ Ok (v, used) → (0, v ∷ used ∷ []) ≡ told (read_one 4 (number most) s) (λ v used. v ∷ used ∷ []) before
  number_value v used e = number_told (value v used) (ap answer_of e)

  pub number_stopped : (why : Refusal) → r ≡ Err why → (refusal_number why, before) ≡ told (read_one 4 (number most) s) (λ v used. v ∷ used ∷ []) before
  number_stopped why e = number_told (refusal (refusal_number why)) (ap answer_of e)

module _ (v most before : ℕ) (out after : List ℕ) (r : Result ℕ Refusal) (says : (written_of r, after) ≡ write_one 4 (leb v most) (number_bytes v) out)
    {x : ℕ × ℕ} where
  pub number_reported : x ≡ reported r before → (x, after) ≡ wrote_as (write_one 4 (leb v most) (number_bytes v) out) before
  number_reported e = ap (λ (y : ℕ × ℕ). (y, after)) e ∙ reported_is r after before ∙ ap (λ (y : Written × List ℕ). wrote_as y before) says

-- ---- a packet read

module _ (bytes : List ℕ) (r : Result (Packet × ℕ) Refusal) (says : answer_of r ≡ read_one 4 packet bytes) where
  -- a packet's form is at least as long as its key's
  pub packet_inside : (p : Packet) (used n : ℕ) → r ≡ Ok (p, used) → Sized (key.write p.key) 128 n → n ≤ used
  packet_inside p used n e size =
      let (rest, ok, is, many) = packet_was_written bytes p used (sym says ∙ ap answer_of e) in
      omega (arith, many, size.length_is, ap length (packet_writes p), length-append (facts.write p.facts) (key.write p.key))

  module _ (before : List ℕ × List ℕ) where
    packet_told_lem : (a : Answer Packet) → answer_of r ≡ a → told a packet_numbers before ≡ packet_told bytes before
    packet_told_lem a e = rw (← says, e)

    pub packet_value : (p : Packet) (used n : ℕ) (ns : List ℕ) → r ≡ Ok (p, used)
        → Sized (key.write p.key) 128 n → ns ≡ fact_numbers p.facts
        → (0, (ns, (used - n) ∷ used ∷ [])) ≡ packet_told bytes before
    packet_value p used n ns e size numbers = rw (size.length_is, numbers) (packet_told_lem (value p used) (ap answer_of e))

    pub packet_stopped : (why : Refusal) → r ≡ Err why → (refusal_number why, before) ≡ packet_told bytes before
    packet_stopped why e = packet_told_lem (refusal (refusal_number why)) (ap answer_of e)

-- ---- a packet written

-- numbers that fit have flags in range
fit_flags : (ns : List ℕ) → facts_fit ns ≡ true → flags_in_range (facts_from ns).tcp_flags ≡ true
unfolding facts_from
fit_flags ns e = tested_flags (opt16_at (get_or ns 4 0)) (rw opt16_written (fit_facts ns e).flags)

module _ (ns bytes out : List ℕ) (before : ℕ) (w : Option FlowKey) (names : w ≡ whole_key bytes) where
  pub packet_no_key : w ≡ None → ((4, before), out) ≡ wrote_as (packet_written ns bytes out) before
  packet_no_key e = rw (is_none w (whole_key bytes) names e)

  module _ (k : FlowKey) (e-key : w ≡ Some k) (fit : Bool) (judged : fit ≡ facts_fit ns) where
    pub packet_unfit : fit ≡ false → ((4, before), out) ≡ wrote_as (packet_written ns bytes out) before
    packet_unfit unfit = rw (is_key w (whole_key bytes) names k e-key, ← judged, unfit)

    module _ (fits : fit ≡ true) (f : PacketFacts) (made : f ≡ facts_from ns) (r : Result ℕ Refusal) (after : List ℕ)
        (says : (written_of r, after) ≡ write_one 4 (flags_in_range f.tcp_flags) (packet.write (record { facts = f; key = k })) out) where
      pub packet_reported : {x : ℕ × ℕ} → x ≡ reported r before → (x, after) ≡ wrote_as (packet_written ns bytes out) before
      packet_reported e =
          let fit-so : facts_fit ns ≡ true = sym judged ∙ fits in
          let so : (written_of r, after) ≡ write_one 4 true (packet.write (packet_of ns k)) out = rw (made, fit_flags ns fit-so) at says in
          rw (is_key w (whole_key bytes) names k e-key, fit-so)
          (ap (λ (y : ℕ × ℕ). (y, after)) e ∙ reported_is r after before ∙ ap (λ (y : Written × List ℕ). wrote_as y before) so)

-- ---- a record read

-- a record's form is at least as long as its key's
key_within : (f : Flow) → length (key.write f.key) ≤ length (record_bytes f)
key_within f = rw record_writes (simp length-append (omega arith))

module _ (bytes : List ℕ) (r : Result (Flow × ℕ) Refusal) (says : answer_of r ≡ read_record bytes) where
  pub record_inside : (f : Flow) (used n : ℕ) → r ≡ Ok (f, used) → Sized (key.write f.key) 128 n → n ≤ used
  record_inside f used n e size =
      let (rest, sound, ok, is, many) = record_was_written bytes f used (sym says ∙ ap answer_of e) in
      omega (arith, many, size.length_is, key_within f)

  module _ (before : List ℕ × List ℕ) where
    record_told_lem : (a : Answer Flow) → answer_of r ≡ a → told a record_numbers before ≡ record_told bytes before
    record_told_lem a e = rw (← says, e)

    pub record_value : (f : Flow) (used n reason : ℕ) (ws : List ℕ) → r ≡ Ok (f, used)
        → Sized (key.write f.key) 128 n → ws ≡ words_of f.«record»
        → reason ≡ reason_number (reason_of f.«record».time.end_reason)
        → (0, (ws, (used - n) ∷ used ∷ reason ∷ [])) ≡ record_told bytes before
    record_value f used n reason ws e size words reasoned = rw (size.length_is, words, reasoned) (record_told_lem (value f used) (ap answer_of e))

    pub record_stopped : (why : Refusal) → r ≡ Err why → (refusal_number why, before) ≡ record_told bytes before
    record_stopped why e = record_told_lem (refusal (refusal_number why)) (ap answer_of e)

-- ---- a record written

pub record_fits : (ws : List ℕ) (fit low : Bool) → fit ≡ words_fit ws → fit && low ≡ true → words_fit ws ≡ true
record_fits ws fit low judged fits = sym judged ∙ (both fit low fits).0

pub closed_made : (ws : List ℕ) (reason : ℕ) {stood f : FlowRecord} {why : EndReason}
    → stood ≡ record_of ws → why ≡ reason_from reason → f ≡ closed stood why → f ≡ closed_of ws reason
closed_made ws reason opened reasoned shut = rw (← opened, ← reasoned) shut

module _ (ws bytes out : List ℕ) (reason before : ℕ) (w : Option FlowKey) (names : w ≡ whole_key bytes) where
  pub record_no_key : w ≡ None → ((3, before), out) ≡ wrote_as (record_written ws reason bytes out) before
  record_no_key e = rw (is_none w (whole_key bytes) names e)

  module _ (k : FlowKey) (e-key : w ≡ Some k) (fit : Bool) (judged : fit ≡ words_fit ws) where
    pub record_unfit : fit && leb reason 3 ≡ false → ((3, before), out) ≡ wrote_as (record_written ws reason bytes out) before
    record_unfit unfit = rw (is_key w (whole_key bytes) names k e-key, ← judged, unfit)

    module _ (fits : fit && leb reason 3 ≡ true) (f : FlowRecord) (made : f ≡ closed_of ws reason) (r : Result ℕ Refusal) (after : List ℕ)
        (says : (written_of r, after) ≡ write_one 3 (sound_record f) (record_bytes (record { key = k; «record» = f })) out) where
      pub record_reported : {x : ℕ × ℕ} → x ≡ reported r before → (x, after) ≡ wrote_as (record_written ws reason bytes out) before
      record_reported e =
          let fit-so : words_fit ws && leb reason 3 ≡ true = rw (← judged) fits in
          let shut = closed_of ws reason in
          let so : (written_of r, after) ≡ write_one 3 (sound_record shut) (record_bytes (record { key = k; «record» = shut })) out = rw made at says in
          rw (is_key w (whole_key bytes) names k e-key, fit-so)
          (ap (λ (y : ℕ × ℕ). (y, after)) e ∙ reported_is r after before ∙ ap (λ (y : Written × List ℕ). wrote_as y before) so)
