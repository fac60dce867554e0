-- One packet counted on a record's words: what each part asks of its own words, and that the parts' words are those of the record.
-- Assumes nothing.
use Rattle.std.specs.Prelude.{ℕ, ◌+◌, ◌^◌, ◌≤◌, ◌<◌, ◌≡◌, refl, true, eqb, length, get_or, drop, replicate, Option}
use Rattle.std.proofs.Common.{sym, ◌∙◌, subst, add-zero, arith, length-drop, length-take-le, get_or-take, get_or-drop}
use Rattle.std.proofs.Math.Path.{ap}
use mathlib.Core.List.{List}
use Rattle.std.proofs.Math.ListN.{take}
use Rattle.stats.specs.Counting.{counted_direction, RoomForPacket}
use Rattle.stats.specs.declared.counts.DirectionStats.{DirectionStats}
use Rattle.stats.specs.declared.counts.NetworkStats.{NetworkStats}
use Rattle.stats.specs.declared.counts.CaptureStats.{CaptureStats}
use Rattle.flow.specs.Counting.{mask_of, counted_time, counted_network, counted_capture, first_of, counted_rest, taken, counted_of, RoomToCount}
use Rattle.flow.specs.declared.time.FlowTime.{FlowTime}
use Rattle.flow.specs.declared.record.Direction.{Direction}
use Rattle.flow.specs.declared.record.PacketFacts.{PacketFacts}
use Rattle.words.specs.Fields.{opt16_at, BoundsFit}
use Rattle.words.specs.Words.{shared_parts, shared_words, direction_words, words_of, written, time_at, network_at, direction_at, record_of, words_fit, NetworkFits}
use Rattle.words.specs.WordLaws.{fit_facts}
use Rattle.words.specs.Kept.{words_back}

-- ---- what counting asks

-- of the words that both directions share: the narrow ones are words of their fields, and the captured octets have room
pub record SharedFits (ws : List ℕ) (p : PacketFacts) : Type 0 where
  pub long : length ws ≡ 11
  pub network : NetworkFits ws
  pub icmp : get_or ws 8 0 ≤ 2 ^ 16
  pub captured : get_or ws 9 0 + p.captured_octets < 2 ^ 64

-- of the words of the packet's direction
pub record DirectionFits (ws : List ℕ) (p : PacketFacts) : Type 0 where
  pub long : length ws ≡ 13
  pub lengths : BoundsFit (2 ^ 32) (get_or ws 2 0) (get_or ws 3 0)
  pub room : RoomForPacket (direction_at ws 0) p.frame_octets

-- ---- the shared words

-- the direction does not show in them
counted_shared : (ws : List ℕ) (d : Direction) (p : PacketFacts)
    → shared_words (counted_of (record_of ws) d p)
    ≡ shared_parts (counted_time (time_at ws) p.time (mask_of p.tcp_flags)) (counted_network (network_at ws) p.ttl)
    (first_of (opt16_at (get_or ws 8 0)) p.icmp)
    (counted_capture (record { captured_octets = get_or ws 9 0; truncated = eqb (get_or ws 10 0) 1 }) p)
unfolding counted_of counted_rest record_of
counted_shared ws Direction.Forward p = refl
counted_shared ws Direction.Reverse p = refl

-- nor do the directions' words
pub shared_counted : (ws : List ℕ) (d : Direction) (p : PacketFacts)
    → shared_words (counted_of (record_of ws) d p) ≡ shared_words (counted_of (record_of (take 11 ws)) Direction.Forward p)
shared_counted ws d p =
    counted_shared ws d p
    ∙ (simp (
      get_or-take 11 ws 0 0 (omega arith),
      get_or-take 11 ws 1 0 (omega arith),
      get_or-take 11 ws 2 0 (omega arith),
      get_or-take 11 ws 3 0 (omega arith),
      get_or-take 11 ws 4 0 (omega arith),
      get_or-take 11 ws 5 0 (omega arith),
      get_or-take 11 ws 6 0 (omega arith),
      get_or-take 11 ws 7 0 (omega arith),
      get_or-take 11 ws 8 0 (omega arith),
      get_or-take 11 ws 9 0 (omega arith),
      get_or-take 11 ws 10 0 (omega arith),
    ))
    ∙ sym (counted_shared (take 11 ws) Direction.Forward p)

-- the first eleven words of a record that has room fit
pub shared_fits : (ws : List ℕ) (p : PacketFacts) → length ws ≡ 37 → words_fit ws ≡ true → RoomToCount (record_of ws) p → SharedFits (take 11 ws) p
unfolding record_of
shared_fits ws p n e room =
    let f = fit_facts ws e in
    record {
      long = length-take-le 11 ws (omega arith);
      network = record {
        ttl =
            subst (λ (l : ℕ). BoundsFit (2 ^ 8) l (get_or (take 11 ws) 5 0)) (sym (word 4 (omega arith)))
            (subst (λ (g : ℕ). BoundsFit (2 ^ 8) (get_or ws 4 0) g) (sym (word 5 (omega arith))) f.network.ttl);
        dscp = omega (arith, word 6 (omega arith), f.network.dscp);
        ecn = omega (arith, word 7 (omega arith), f.network.ecn);
      };
      icmp = omega (arith, word 8 (omega arith), f.icmp);
      captured = omega (arith, word 9 (omega arith), room.captured);
    }
  where
    word : (i : ℕ) → i < 11 → get_or (take 11 ws) i 0 ≡ get_or ws i 0
    word i h = get_or-take 11 ws i 0 h

-- the words that the code makes of its parts
pub shared_made : (ws : List ℕ) (p : PacketFacts) {before time : FlowTime} {mask : ℕ} {held network : NetworkStats} {icmp kept : Option ℕ}
    {capture : CaptureStats} {words : List ℕ}
    → before ≡ time_at ws → mask ≡ mask_of p.tcp_flags → time ≡ counted_time before p.time mask
    → held ≡ network_at ws → network ≡ counted_network held p.ttl
    → icmp ≡ opt16_at (get_or ws 8 0) → kept ≡ first_of icmp p.icmp
    → capture ≡ counted_capture (record { captured_octets = get_or ws 9 0; truncated = eqb (get_or ws 10 0) 1 }) p
    → words ≡ written (replicate 11 0) 0 0 (shared_parts time network kept capture)
    → words ≡ shared_words (counted_of (record_of ws) Direction.Forward p)
shared_made ws p b m t h n i k c w =
    let time = t ∙ (λ z. counted_time (b z) p.time (m z)) in
    let network = n ∙ (λ z. counted_network (h z) p.ttl) in
    let kept = k ∙ (λ z. first_of (i z) p.icmp) in
    w ∙ (λ z. shared_parts (time z) (network z) (kept z) (c z)) ∙ sym (counted_shared ws Direction.Forward p)

-- ---- a direction's words

-- there is room in the direction that was read
pub room_read : (ws : List ℕ) (p : PacketFacts) {before : DirectionStats} → before ≡ direction_at ws 0 → DirectionFits ws p
    → RoomForPacket before p.frame_octets
room_read ws p b f = subst (λ (d : DirectionStats). RoomForPacket d p.frame_octets) (sym b) f.room

-- the words that the code makes of it
pub direction_made : (ws : List ℕ) (p : PacketFacts) {before direction : DirectionStats} {mask : ℕ} {words : List ℕ}
    → before ≡ direction_at ws 0 → mask ≡ mask_of p.tcp_flags → direction ≡ counted_direction before p.frame_octets mask
    → words ≡ written (replicate 13 0) 0 0 (direction_words direction)
    → words ≡ direction_words (taken (direction_at ws 0) p)
unfolding taken
direction_made ws p b m d w = w ∙ ap direction_words (d ∙ (λ z. counted_direction (b z) p.frame_octets (m z)))

-- ---- thirteen words of a record's

-- a word of them where it stands
word_there : (ws : List ℕ) (k i : ℕ) → i < 13 → get_or (take 13 (drop k ws)) i 0 ≡ get_or ws (k + i) 0
word_there ws k i h = get_or-take 13 (drop k ws) i 0 h ∙ get_or-drop k ws i 0

-- they are read where they stand or by themselves
pub direction_part : (ws : List ℕ) (k : ℕ) → direction_at (take 13 (drop k ws)) 0 ≡ direction_at ws k
unfolding direction_at
direction_part ws k =
    simp (
      word_there ws k 0 (omega arith),
      word_there ws k 1 (omega arith),
      word_there ws k 2 (omega arith),
      word_there ws k 3 (omega arith),
      word_there ws k 4 (omega arith),
      word_there ws k 5 (omega arith),
      word_there ws k 6 (omega arith),
      word_there ws k 7 (omega arith),
      word_there ws k 8 (omega arith),
      word_there ws k 9 (omega arith),
      word_there ws k 10 (omega arith),
      word_there ws k 11 (omega arith),
      word_there ws k 12 (omega arith),
      add-zero,
    )

-- and fit by themselves
pub direction_fits : (ws : List ℕ) (k : ℕ) (p : PacketFacts) → k + 13 ≤ length ws → BoundsFit (2 ^ 32) (get_or ws (k + 2) 0) (get_or ws (k + 3) 0)
    → RoomForPacket (direction_at ws k) p.frame_octets → DirectionFits (take 13 (drop k ws)) p
direction_fits ws k p n f room =
    let own : List ℕ = take 13 (drop k ws) in
    record {
      long = length-take-le 13 (drop k ws) (omega (arith, length-drop k ws));
      lengths =
          subst (λ (l : ℕ). BoundsFit (2 ^ 32) l (get_or own 3 0)) (sym (word_there ws k 2 (omega arith)))
          (subst (λ (g : ℕ). BoundsFit (2 ^ 32) (get_or ws (k + 2) 0) g) (sym (word_there ws k 3 (omega arith))) f);
      room = subst (λ (d : DirectionStats). RoomForPacket d p.frame_octets) (sym (direction_part ws k)) room;
    }

-- a direction's words are those that it was read of
module _ (ws : List ℕ) (long : length ws ≡ 37) (fit : words_fit ws ≡ true) where
  pub forward_words : direction_words (record_of ws).forward ≡ take 13 (drop 11 ws)
  unfolding words_of
  forward_words = ap (λ (l : List ℕ). take 13 (drop 11 l)) (words_back ws long fit)

  pub reverse_words : direction_words (record_of ws).reverse ≡ take 13 (drop 24 ws)
  unfolding words_of
  reverse_words = ap (λ (l : List ℕ). take 13 (drop 24 l)) (words_back ws long fit)
