-- What was written is read back: a packet's numbers, a record's words, and the key beside them. Assumes nothing.
use Rattle.std.specs.Prelude.{ℕ, ◌+◌, ◌-◌, ◌^◌, ◌≤◌, ◌<◌, ◌≡◌, refl, Bool, true, false, cond, ◌&&◌, List, [], ◌∷◌, ◌++◌, leb, length, get_or, take, drop, None, Option, Some}
use Rattle.std.proofs.Common.{sym, ap, ◌∙◌, append_assoc, arith, le-leb, lt-ltb, leb-true, length-append, drop_at}
use Rattle.std.proofs.Math.Seq.{take-append_seam}
use Rattle.forms.specs.Lone.{value, read_one, Written, wrote, unwritten, write_one}
use Rattle.forms.specs.Number.{below_number}
use Rattle.forms.specs.Optional.{number8, number16}
use Rattle.key.specs.KeyForm.{key}
use Rattle.key.specs.KeyTheorems.{KeyInRange}
use Rattle.key.specs.declared.key.FlowKey.{FlowKey}
use Rattle.flow.specs.Counting.{closed}
use Rattle.flow.specs.Sound.{sound_record}
use Rattle.flow.specs.SoundLaws.{both}
use Rattle.flow.specs.declared.record.PacketFacts.{PacketFacts}
use Rattle.flow.specs.declared.record.FlowRecord.{FlowRecord}
use Rattle.flow.specs.declared.time.EndReason.{EndReason}
use Rattle.wire.specs.PacketForm.{facts, packet}
use Rattle.wire.specs.PacketLemmas.{packet_writes}
use Rattle.wire.specs.PacketTheorems.{FactsInRange, PacketInRange, packet_read_back, packet_was_written}
use Rattle.wire.specs.RecordForm.{head, direction, tail, head_fields, direction_fields, tail_fields, fields_of, LengthsInRange, reason_number, reason_from, reason_undo, record_bytes, read_record}
use Rattle.wire.specs.RecordWrite.{record_writes}
use Rattle.wire.specs.RecordTheorems.{DirectionInRange, FlowInRange, record_read_back, record_was_written}
use Rattle.wire.specs.declared.packet.Packet.{Packet}
use Rattle.wire.specs.declared.record.Flow.{Flow}
use Rattle.words.specs.FieldLaws.{opt8_back, opt16_back, opt8_written, opt16_written}
use Rattle.words.specs.Kept.{words_back, record_in_range}
use Rattle.words.specs.Words.{direction_at, words_of, record_of, words_fit}
use Rattle.braidpuddle_forms.specs.Facts.{fact_numbers, facts_fit, facts_from}
use Rattle.braidpuddle_forms.specs.FactLaws.{fit_facts}
use Rattle.state.specs.SlotTest.{whole_key, whole_yes, whole_no}
use Rattle.braidpuddle_forms.specs.Forms.{key_begins, packet_told, packet_of, packet_under, packet_written, record_numbers, record_told, closed_of, record_under, record_written}

-- ---- a packet's numbers

-- a packet is read back from its numbers
pub facts_back : (f : PacketFacts) → facts_from (fact_numbers f) ≡ f
unfolding facts_from
facts_back f = simp (opt8_back f.ttl, opt16_back f.tcp_flags, opt16_back f.icmp, opt8_back f.dscp, opt8_back f.ecn)

-- eight numbers are those of the packet that they stand for
pub numbers_back : (ns : List ℕ) → length ns ≡ 8 → fact_numbers (facts_from ns) ≡ ns
unfolding facts_from
numbers_back (t ∷ f ∷ c ∷ l ∷ g ∷ i ∷ d ∷ e ∷ []) n = simp (opt8_written l, opt16_written g, opt16_written i, opt8_written d, opt8_written e)
numbers_back [] n = absurd (omega arith)
numbers_back (a ∷ []) n = absurd (omega arith)
numbers_back (a ∷ b ∷ []) n = absurd (omega arith)
numbers_back (a ∷ b ∷ c ∷ []) n = absurd (omega arith)
numbers_back (a ∷ b ∷ c ∷ d ∷ []) n = absurd (omega arith)
numbers_back (a ∷ b ∷ c ∷ d ∷ e ∷ []) n = absurd (omega arith)
numbers_back (a ∷ b ∷ c ∷ d ∷ e ∷ f ∷ []) n = absurd (omega arith)
numbers_back (a ∷ b ∷ c ∷ d ∷ e ∷ f ∷ g ∷ []) n = absurd (omega arith)
numbers_back (a ∷ b ∷ c ∷ d ∷ e ∷ f ∷ g ∷ h ∷ i ∷ ns) n = absurd (omega arith)

-- the numbers of a packet in range fit
pub facts_fit_lem : (f : PacketFacts) → FactsInRange f → facts_fit (fact_numbers f) ≡ true
unfolding facts_fit
facts_fit_lem f h =
    simp (
      lt-ltb f.frame_octets (2 ^ 32) h.frame,
      lt-ltb f.captured_octets (2 ^ 32) h.captured,
      le-leb (number8 f.ttl) (2 ^ 8) h.ttl,
      le-leb (number16 f.tcp_flags) (2 ^ 9) h.flags,
      le-leb (number16 f.icmp) (2 ^ 16) h.icmp,
      le-leb (number8 f.dscp) (2 ^ 8) h.dscp,
      le-leb (number8 f.ecn) (2 ^ 8) h.ecn,
    )

-- the packet of numbers that fit is in range
pub fit_in_range : (ns : List ℕ) → get_or ns 0 0 < 2 ^ 64 → facts_fit ns ≡ true → FactsInRange (facts_from ns)
unfolding facts_from
fit_in_range ns t e =
    let h = fit_facts ns e in
    record {
      time = t;
      frame = h.frame;
      captured = h.captured;
      ttl = rw opt8_written h.ttl;
      flags = rw opt16_written h.flags;
      icmp = rw opt16_written h.icmp;
      dscp = rw opt8_written h.dscp;
      ecn = rw opt8_written h.ecn;
    }

-- ---- a whole key: exactly the bytes of a key in range are one

pub whole_written : (k : FlowKey) → KeyInRange k → whole_key (key.write k) ≡ Some k
whole_written k h = whole_no (key.write k) k h refl

pub whole_bytes : (bytes : List ℕ) (k : FlowKey) → whole_key bytes ≡ Some k → KeyInRange k × (key.write k ≡ bytes)
whole_bytes = whole_yes

-- ---- where a key form lies that ends a longer form

between : (front back rest : List ℕ) → drop (length (front ++ back) - length back) (take (length (front ++ back)) ((front ++ back) ++ rest)) ≡ back
between front back rest =
    let at : length front ≡ length (front ++ back) - length back = omega (arith, length-append front back) in
    rw (take-append_seam (front ++ back) rest) (drop_at front back (length (front ++ back) - length back) at)

-- the bytes that the two places of a packet that was read enclose are its key's form
pub packet_key : (bytes : List ℕ) (p : Packet) (used : ℕ) → read_one 4 packet bytes ≡ value p used
    → whole_key (drop (key_begins p.key used) (take used bytes)) ≡ Some p.key
packet_key bytes p used e =
    let (rest, ok, is, many) = packet_was_written bytes p used e in
    let form = packet_writes p in
    let lies : drop (key_begins p.key used) (take used bytes) ≡ key.write p.key =
    rw (many, is, form) (between (facts.write p.facts) (key.write p.key) rest)
    in
    rw lies (whole_written p.key ok.key)

-- everything of a record's form but the key
abbrev record_front : Flow → List ℕ
record_front f =
    head.write (head_fields f.«record».time)
    ++ (direction.write (direction_fields f.«record».forward)
    ++ (direction.write (direction_fields f.«record».reverse)
    ++ tail.write (tail_fields f.«record».network f.«record».transport f.«record».capture)))

record_splits : (f : Flow) → record_bytes f ≡ record_front f ++ key.write f.key
record_splits f = record_writes f ∙ sym (simp append_assoc)

key_in_flow : (f : Flow) → FlowInRange f → KeyInRange f.key
unfolding fields_of
key_in_flow f h = h.key

-- and those of a record
pub record_key : (bytes : List ℕ) (f : Flow) (used : ℕ) → read_record bytes ≡ value f used
    → whole_key (drop (key_begins f.key used) (take used bytes)) ≡ Some f.key
record_key bytes f used e =
    let (rest, sound, ok, is, many) = record_was_written bytes f used e in
    let form = record_splits f in
    let lies : drop (key_begins f.key used) (take used bytes) ≡ key.write f.key =
    rw (many, is, form) (between (record_front f) (key.write f.key) rest)
    in
    rw lies (whole_written f.key (key_in_flow f ok))

-- ---- what was written is read back

unwritten_wrote : (k n : ℕ) → unwritten k ≡ wrote n → ⊥
unwritten_wrote k n e = let z : ◌≡◌ {A = ℕ} 0 1 = cc in omega arith

-- what was written is the form's bytes, with the output's rest behind them
pub written_so : (other : ℕ) (allowed : Bool) (bytes out after : List ℕ) (n : ℕ) → write_one other allowed bytes out ≡ (wrote n, after)
    → (allowed ≡ true) × (n ≡ length bytes) × (after ≡ bytes ++ drop (length bytes) out)
written_so other allowed bytes out after n e = go allowed (leb (length bytes) (length out)) refl e
  where
    go : (a r : Bool) → allowed ≡ a
        → ◌≡◌ {A = Written × List ℕ}
        (cond a (cond r (wrote (length bytes), bytes ++ drop (length bytes) out) (unwritten 7, out)) (unwritten other, out))
        (wrote n, after)
        → (allowed ≡ true) × (n ≡ length bytes) × (after ≡ bytes ++ drop (length bytes) out)
    go true true q w =
        let first : wrote (length bytes) ≡ wrote n = ap (λ (x : Written × List ℕ). x.0) w in
        (q, cc, sym (ap (λ (x : Written × List ℕ). x.1) w))
    go true false q w = absurd (unwritten_wrote 7 n (ap (λ (x : Written × List ℕ). x.0) w))
    go false r q w = absurd (unwritten_wrote other n (ap (λ (x : Written × List ℕ). x.0) w))

-- a packet that was written is read back to the same eight numbers, its key's place and its length
pub packet_written_back : (ns bytes out after : List ℕ) (n : ℕ) (before : List ℕ × List ℕ) → length ns ≡ 8 → get_or ns 0 0 < 2 ^ 64
    → packet_written ns bytes out ≡ (wrote n, after) → packet_told after before ≡ (0, (ns, (n - length bytes) ∷ n ∷ []))
packet_written_back ns bytes out after n before many time e = go (whole_key bytes) refl e
  where
    go : (w : Option FlowKey) → whole_key bytes ≡ w → packet_under ns w out ≡ (wrote n, after)
        → packet_told after before ≡ (0, (ns, (n - length bytes) ∷ n ∷ []))
    go (Some k) q h =
        let (fits, size, is) = written_so 4 (facts_fit ns) (packet.write (packet_of ns k)) out after n h in
        let (named, spelt) = whole_bytes bytes k q in
        let ok : PacketInRange (packet_of ns k) = record { facts = fit_in_range ns time fits; key = named } in
        let back = packet_read_back (packet_of ns k) (drop (length (packet.write (packet_of ns k))) out) ok in
        let reads : read_one 4 packet after ≡ value (packet_of ns k) n = rw (is, size) back in
        rw (reads, spelt, numbers_back ns many) refl
    go None q h = absurd (unwritten_wrote 4 n (ap (λ (x : Written × List ℕ). x.0) h))

-- ---- records

-- words of 64 bits that fit are those of a record that has a form, whatever its reason
closed_in_range : (ws : List ℕ) (why : EndReason) (k : FlowKey) → words_fit ws ≡ true → ((i : ℕ) → i < 37 → get_or ws i 0 < 2 ^ 64) → KeyInRange k
    → FlowInRange (record { key = k; «record» = closed (record_of ws) why })
unfolding fields_of closed record_of direction_at
closed_in_range ws why k fits below named =
    let h = record_in_range ws fits below in
    record {
      start = h.start;
      end = h.end;
      forward = way 11 (omega arith) h.forward;
      reverse = way 24 (omega arith) h.reverse;
      tail = record { least = h.ttl.0; greatest = h.ttl.1; dscp = h.dscp; ecn = h.ecn; icmp = h.icmp; captured = h.captured };
      key = named;
    }
  where
    way : (at : ℕ) → at + 13 ≤ 37 → LengthsInRange (direction_at ws at).packet_length → DirectionInRange (direction_fields (direction_at ws at))
    way at room l = record {
      packets = below at (omega arith);
      octets = below (at + 1) (omega arith);
      least = l.0;
      greatest = l.1;
      flags = record {
        fin = below (at + 4) (omega arith);
        syn = below (at + 5) (omega arith);
        rst = below (at + 6) (omega arith);
        psh = below (at + 7) (omega arith);
        ack = below (at + 8) (omega arith);
        urg = below (at + 9) (omega arith);
        ece = below (at + 10) (omega arith);
        cwr = below (at + 11) (omega arith);
        ns = below (at + 12) (omega arith);
      };
    }

-- the words of a record do not show its reason
closed_words : (r : FlowRecord) (why : EndReason) → words_of (closed r why) ≡ words_of r
unfolding words_of closed
closed_words r why = refl

closed_numbers : (ws : List ℕ) (reason : ℕ) (k : FlowKey) (used : ℕ) → length ws ≡ 37 → words_fit ws ≡ true → reason ≤ 3
    → record_numbers (record { key = k; «record» = closed_of ws reason }) used ≡ (ws, key_begins k used ∷ used ∷ reason ∷ [])
unfolding closed
closed_numbers ws reason k used many fits low =
    let words : words_of (closed_of ws reason) ≡ ws = closed_words (record_of ws) (reason_from reason) ∙ words_back ws many fits in
    let why : reason_number (reason_from reason) ≡ reason = reason_undo reason (below_number 3 reason low) in
    rw (words, why)

-- a record that was written is read back to the same 37 words, its key's place, its length and its reason
pub record_written_back : (ws bytes out after : List ℕ) (reason n : ℕ) (before : List ℕ × List ℕ) → length ws ≡ 37
    → ((i : ℕ) → i < 37 → get_or ws i 0 < 2 ^ 64)
    → record_written ws reason bytes out ≡ (wrote n, after) → record_told after before ≡ (0, (ws, (n - length bytes) ∷ n ∷ reason ∷ []))
record_written_back ws bytes out after reason n before many below e = go (whole_key bytes) refl e
  where
    go : (w : Option FlowKey) → whole_key bytes ≡ w → record_under ws reason w out ≡ (wrote n, after)
        → record_told after before ≡ (0, (ws, (n - length bytes) ∷ n ∷ reason ∷ []))
    go (Some k) q h =
        let f : Flow = record { key = k; «record» = closed_of ws reason } in
        let (allowed, size, is) = written_so 3 (words_fit ws && leb reason 3 && sound_record (closed_of ws reason)) (record_bytes f) out after n h in
        let (tested, sound) = both (words_fit ws && leb reason 3) (sound_record (closed_of ws reason)) allowed in
        let (fits, low) = both (words_fit ws) (leb reason 3) tested in
        let (named, spelt) = whole_bytes bytes k q in
        let back = record_read_back f (drop (length (record_bytes f)) out) sound (closed_in_range ws (reason_from reason) k fits below named) in
        let reads : read_record after ≡ value f n = rw (is, size) back in
        let told-so : record_told after before ≡ (0, record_numbers f n) = rw reads in
        told-so ∙ ap (λ (x : List ℕ × List ℕ). (0, x)) (closed_numbers ws reason k n many fits (leb-true reason 3 low)) ∙ rw spelt
    go None q h = absurd (unwritten_wrote 3 n (ap (λ (x : Written × List ℕ). x.0) h))
