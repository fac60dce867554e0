-- A record is read back from its words, and words that fit are those of the record that they stand for. Assumes nothing.
use Rattle.std.specs.Prelude.{ℕ, zero, suc, ◌+◌, ◌^◌, ◌≤◌, ◌<◌, ◌≡◌, refl, Bool, true, ◌&&◌, List, [], ◌∷◌, ◌++◌, ltb, length, get_or, drop, None, Option}
use Rattle.std.proofs.Common.{sym, ap, ◌∙◌, arith, le-leb, lt-ltb, ltb-true, drop-cons}
use Rattle.std.proofs.Math.Seq.{drop-length}
use Rattle.forms.specs.Optional.{number8, number16, number32}
use Rattle.stats.specs.Counting.{FlagsUpTo}
use Rattle.stats.specs.declared.counts.TcpFlagCounts.{TcpFlagCounts}
use Rattle.stats.specs.declared.counts.DirectionStats.{DirectionStats}
use Rattle.flow.specs.declared.record.FlowRecord.{FlowRecord}
use Rattle.flow.specs.Sound.{sound_aside}
use Rattle.flow.specs.SoundLaws.{both, SoundFacts, sound_facts}
use Rattle.wire.specs.RecordForm.{state_number, resolution_number, bit_number, least_of8, greatest_of8, least_of32, greatest_of32, LengthsInRange, TtlInRange}
use Rattle.words.specs.Fields.{range8_at, range32_at, bounds_fit, BoundsFit}
use Rattle.words.specs.FieldLaws.{bounds_made, state_back, resolution_back, bit_back, opt8_back, opt16_back, range8_back, range32_back, state_written, resolution_written, bit_written, opt8_written, opt16_written, least8_written, greatest8_written, least32_written, greatest32_written, state_fits, resolution_fits, bit_fits, range8_fits, range32_fits}
use Rattle.words.specs.Words.{shared_words, flag_words, direction_words, words_of, direction_at, record_of, words_fit}
use Rattle.words.specs.WordLaws.{fit_facts}
use Rattle.flow.specs.declared.time.EndReason.{EndReason}
use Rattle.stats.specs.declared.range.Range.{Range}

-- ---- from a record to words and back

-- the record with another end reason
abbrev with_reason : FlowRecord → Option EndReason → FlowRecord
with_reason r reason = record {
  time = record { start = r.time.start; end = r.time.end; resolution = r.time.resolution; start_state = r.time.start_state; end_reason = reason };
  forward = r.forward;
  reverse = r.reverse;
  network = r.network;
  transport = r.transport;
  capture = r.capture;
}

opened_back : (r : FlowRecord) → record_of (words_of r) ≡ with_reason r None
unfolding record_of words_of direction_at
opened_back r =
    simp (
      state_back r.time.start_state,
      resolution_back r.time.resolution,
      range8_back r.network.ttl,
      opt8_back r.network.dscp,
      opt8_back r.network.ecn,
      opt16_back r.transport.icmp,
      bit_back r.capture.truncated,
      range32_back r.forward.packet_length,
      range32_back r.reverse.packet_length,
    )

-- an open flow's record is read back
pub record_back : (r : FlowRecord) → r.time.end_reason ≡ None → record_of (words_of r) ≡ r
record_back r e = opened_back r ∙ ap (with_reason r) (sym e)

-- words stand for an open flow
pub open_record : (ws : List ℕ) → (record_of ws).time.end_reason ≡ None
unfolding record_of
open_record ws = refl

-- a flow's end is its second word
pub end_word : (ws : List ℕ) → (record_of ws).time.end.0 ≡ get_or ws 1 0
unfolding record_of
end_word ws = refl

-- a record has 37 words
pub length_words : (r : FlowRecord) → length (words_of r) ≡ 37
unfolding words_of
length_words r = refl

-- ---- from words to a record and back

-- n words from place k on, one by one
abbrev spelled : ℕ → ℕ → List ℕ → List ℕ
spelled zero k ws = []
spelled (suc n) k ws = get_or ws k 0 ∷ spelled n (suc k) ws

spell_from : (n k : ℕ) (ws : List ℕ) → n + k ≡ length ws → drop k ws ≡ spelled n k ws
spell_from zero k ws e =
    let here : k ≡ length ws = omega arith in
    ap (λ (i : ℕ). drop i ws) here ∙ drop-length ws
spell_from (suc n) k ws e = drop-cons ws k 0 (omega arith) ∙ ap (λ (l : List ℕ). get_or ws k 0 ∷ l) (spell_from n (suc k) ws (omega arith))

spell : (ws : List ℕ) → length ws ≡ 37 → ws ≡ spelled 37 0 ws
spell ws e = spell_from 37 0 ws (omega arith)

-- words that fit are those of their record
pub words_back : (ws : List ℕ) → length ws ≡ 37 → words_fit ws ≡ true → words_of (record_of ws) ≡ ws
unfolding record_of words_of direction_at
words_back ws n e =
    let f = fit_facts ws e in
    simp (
      state_written (get_or ws 2 0) f.state,
      resolution_written (get_or ws 3 0) f.resolution,
      least8_written (get_or ws 4 0) (get_or ws 5 0),
      greatest8_written (2 ^ 8) (get_or ws 4 0) (get_or ws 5 0) f.network.ttl,
      opt8_written (get_or ws 6 0),
      opt8_written (get_or ws 7 0),
      opt16_written (get_or ws 8 0),
      bit_written (get_or ws 10 0) f.truncated,
      least32_written (get_or ws 13 0) (get_or ws 14 0),
      greatest32_written (2 ^ 32) (get_or ws 13 0) (get_or ws 14 0) f.forward,
      least32_written (get_or ws 26 0) (get_or ws 27 0),
      greatest32_written (2 ^ 32) (get_or ws 26 0) (get_or ws 27 0) f.reverse,
    )
    (sym (spell ws n))

-- ---- fields in the range of their types

-- each field that soundness does not bound is in the range of its type
pub record RecordInRange (r : FlowRecord) : Type 0 where
  pub start : r.time.start.0 < 2 ^ 64
  pub end : r.time.end.0 < 2 ^ 64
  pub forward : LengthsInRange r.forward.packet_length
  pub reverse : LengthsInRange r.reverse.packet_length
  pub ttl : TtlInRange r.network.ttl
  pub dscp : number8 r.network.dscp ≤ 2 ^ 8
  pub ecn : number8 r.network.ecn ≤ 2 ^ 8
  pub icmp : number16 r.transport.icmp ≤ 2 ^ 16
  pub captured : r.capture.captured_octets < 2 ^ 64

ttl_fits_lem : (o : Option (Range ℕ)) → TtlInRange o → bounds_fit (2 ^ 8) (number8 (least_of8 o)) (number8 (greatest_of8 o)) ≡ true
ttl_fits_lem o h = bounds_made (2 ^ 8) (number8 (least_of8 o)) (number8 (greatest_of8 o)) (range8_fits (2 ^ 8) o h.0 h.1)

lengths_fit_lem : (o : Option (Range ℕ)) → LengthsInRange o → bounds_fit (2 ^ 32) (number32 (least_of32 o)) (number32 (greatest_of32 o)) ≡ true
lengths_fit_lem o h = bounds_made (2 ^ 32) (number32 (least_of32 o)) (number32 (greatest_of32 o)) (range32_fits (2 ^ 32) o h.0 h.1)

-- the words of a record in range fit
pub fits_in_range : {r : FlowRecord} → RecordInRange r → words_fit (words_of r) ≡ true
unfolding words_fit words_of
fits_in_range {r} h =
    simp (
      le-leb (state_number r.time.start_state) 2 (state_fits r.time.start_state),
      le-leb (resolution_number r.time.resolution) 1 (resolution_fits r.time.resolution),
      ttl_fits_lem r.network.ttl h.ttl,
      le-leb (number8 r.network.dscp) (2 ^ 8) h.dscp,
      le-leb (number8 r.network.ecn) (2 ^ 8) h.ecn,
      le-leb (number16 r.transport.icmp) (2 ^ 16) h.icmp,
      le-leb (bit_number r.capture.truncated) 1 (bit_fits r.capture.truncated),
      lengths_fit_lem r.forward.packet_length h.forward,
      lengths_fit_lem r.reverse.packet_length h.reverse,
    )

-- the record of words that fit is in range
pub record_in_range : (ws : List ℕ) → words_fit ws ≡ true → ((k : ℕ) → k < 37 → get_or ws k 0 < 2 ^ 64) → RecordInRange (record_of ws)
unfolding record_of direction_at
record_in_range ws e below =
    let f = fit_facts ws e in
    record {
      start = below 0 (omega arith);
      end = below 1 (omega arith);
      forward = lengths_in_range (get_or ws 13 0) (get_or ws 14 0) f.forward;
      reverse = lengths_in_range (get_or ws 26 0) (get_or ws 27 0) f.reverse;
      ttl = ttl_in_range (get_or ws 4 0) (get_or ws 5 0) f.network.ttl;
      dscp = rw (opt8_written (get_or ws 6 0)) f.network.dscp;
      ecn = rw (opt8_written (get_or ws 7 0)) f.network.ecn;
      icmp = rw (opt16_written (get_or ws 8 0)) f.icmp;
      captured = below 9 (omega arith);
    }
  where
    lengths_in_range : (l g : ℕ) → BoundsFit (2 ^ 32) l g → LengthsInRange (range32_at l g)
    lengths_in_range l g f = (rw (least32_written l g) f.least_fits, rw (greatest32_written (2 ^ 32) l g f) f.greatest_fits)

    ttl_in_range : (l g : ℕ) → BoundsFit (2 ^ 8) l g → TtlInRange (range8_at l g)
    ttl_in_range l g f = (rw (least8_written l g) f.least_fits, rw (greatest8_written (2 ^ 8) l g f) f.greatest_fits)

-- ---- each word is below 2^64

-- each of the words is a number of 64 bits
abbrev all_below : List ℕ → Bool
all_below [] = true
all_below (w ∷ ws) = ltb w (2 ^ 64) && all_below ws

below_at : (ws : List ℕ) → all_below ws ≡ true → (k : ℕ) → k < length ws → get_or ws k 0 < 2 ^ 64
below_at [] b k h = absurd (omega arith)
below_at (w ∷ ws) b zero h = ltb-true w (2 ^ 64) (both (ltb w (2 ^ 64)) (all_below ws) b).0
below_at (w ∷ ws) b (suc k) h = below_at ws (both (ltb w (2 ^ 64)) (all_below ws) b).1 k (omega arith)

below_join : (xs ys : List ℕ) → all_below xs ≡ true → all_below ys ≡ true → all_below (xs ++ ys) ≡ true
below_join [] ys b c = c
below_join (x ∷ xs) ys b c =
    let h = both (ltb x (2 ^ 64)) (all_below xs) b in
    simp (h.0, below_join xs ys h.1 c)

below_flags : (n : ℕ) (c : TcpFlagCounts) → n < 2 ^ 64 → FlagsUpTo n c → all_below (flag_words c) ≡ true
below_flags n c h f =
    simp (
      lt-ltb c.fin (2 ^ 64) (omega arith),
      lt-ltb c.syn (2 ^ 64) (omega arith),
      lt-ltb c.rst (2 ^ 64) (omega arith),
      lt-ltb c.psh (2 ^ 64) (omega arith),
      lt-ltb c.ack (2 ^ 64) (omega arith),
      lt-ltb c.urg (2 ^ 64) (omega arith),
      lt-ltb c.ece (2 ^ 64) (omega arith),
      lt-ltb c.cwr (2 ^ 64) (omega arith),
      lt-ltb c.ns (2 ^ 64) (omega arith),
    )

below_direction : (d : DirectionStats) → d.packets < 2 ^ 64 → d.frame_octets < 2 ^ 64 → LengthsInRange d.packet_length → FlagsUpTo d.packets d.tcp_flags
    → all_below (direction_words d) ≡ true
below_direction d p o l f =
    simp (
      lt-ltb d.packets (2 ^ 64) p,
      lt-ltb d.frame_octets (2 ^ 64) o,
      lt-ltb (number32 (least_of32 d.packet_length)) (2 ^ 64) (omega (arith, l.0)),
      lt-ltb (number32 (greatest_of32 d.packet_length)) (2 ^ 64) (omega (arith, l.1)),
      below_flags d.packets d.tcp_flags p f,
    )

below_shared : (r : FlowRecord) → RecordInRange r → all_below (shared_words r) ≡ true
below_shared r h =
    let s = state_fits r.time.start_state in
    let p = resolution_fits r.time.resolution in
    let t = bit_fits r.capture.truncated in
    simp (
      lt-ltb r.time.start.0 (2 ^ 64) h.start,
      lt-ltb r.time.end.0 (2 ^ 64) h.end,
      lt-ltb (state_number r.time.start_state) (2 ^ 64) (omega arith),
      lt-ltb (resolution_number r.time.resolution) (2 ^ 64) (omega arith),
      lt-ltb (number8 (least_of8 r.network.ttl)) (2 ^ 64) (omega (arith, h.ttl.0)),
      lt-ltb (number8 (greatest_of8 r.network.ttl)) (2 ^ 64) (omega (arith, h.ttl.1)),
      lt-ltb (number8 r.network.dscp) (2 ^ 64) (omega (arith, h.dscp)),
      lt-ltb (number8 r.network.ecn) (2 ^ 64) (omega (arith, h.ecn)),
      lt-ltb (number16 r.transport.icmp) (2 ^ 64) (omega (arith, h.icmp)),
      lt-ltb r.capture.captured_octets (2 ^ 64) h.captured,
      lt-ltb (bit_number r.capture.truncated) (2 ^ 64) (omega arith),
    )

below_all : (r : FlowRecord) → RecordInRange r → SoundFacts r → all_below (words_of r) ≡ true
unfolding words_of
below_all r h s =
    let forward = below_direction r.forward (omega (arith, s.packets)) (omega (arith, s.octets)) h.forward s.forward.flags in
    let reverse = below_direction r.reverse (omega (arith, s.packets)) (omega (arith, s.octets)) h.reverse s.reverse.flags in
    below_join (shared_words r) (direction_words r.forward ++ direction_words r.reverse) (below_shared r h)
    (below_join (direction_words r.forward) (direction_words r.reverse) forward reverse)

-- the words of a sound record in range are numbers of 64 bits
pub words_below : {r : FlowRecord} → RecordInRange r → sound_aside r ≡ true → (k : ℕ) → k < 37 → get_or (words_of r) k 0 < 2 ^ 64
words_below {r} h e k less = below_at (words_of r) (below_all r h (sound_facts r e)) k (omega (arith, length_words r))
