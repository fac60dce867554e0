-- A packet counted in a slot's words is counted on the slot's record. Assumes nothing.
use Prim.Native.Nat.{ℕ, ◌+◌, ◌-◌, ◌*◌, ◌≤◌, ◌<◌}
use mathlib.Core.Path.{◌≡◌, refl, sym, ap, ◌∙◌, subst}
use mathlib.Core.Logic.{⊎_elim, inr}
use mathlib.Core.Bool.{true}
use mathlib.Core.List.{List, ◌++◌, append_assoc}
use native.Mathlib.Omega.{arith}
use lib.ListN.{length, take, drop, get_or, length-append, get_or-eq_default}
use lib.Seq.{set-set}
use Rattle.memory.specs.Bytes.{part, patch, bytes_of, words_at}
use Rattle.memory.proofs.Laws.{get_d_part, length_patch, part_elsewhere, patch_self, patch_join, less_or}
use Rattle.memory.proofs.Words.{length_bytes, bytes_append, length_words, words_front, words_behind, bytes_back}
use Rattle.slots.specs.Table.{slot, slots}
use Rattle.stats.specs.declared.counts.DirectionStats.{DirectionStats}
use Rattle.flow.specs.Counting.{counted_rest, taken, counted_of, RoomToCount}
use Rattle.flow.specs.declared.record.Direction.{Direction}
use Rattle.flow.specs.declared.record.PacketFacts.{PacketFacts}
use Rattle.words.specs.Words.{shared_words, direction_words, words_of, direction_at, record_of, words_fit}
use Rattle.words.specs.WordLaws.{forward_fits, reverse_fits}
use Rattle.words.specs.Counting.{SharedFits, DirectionFits, shared_counted, shared_fits, direction_part, direction_fits, forward_words, reverse_words}
use Rattle.table.specs.View.{View, view, slot_of, with_slot}
use Rattle.table.proofs.Laws.{view_ext, slot_view, slots_apart}
use Rattle.table.proofs.SlotLaws.{slot_length, words_elsewhere}
use Rattle.state.specs.Slot.{words_in, record_in}
use Rattle.counting.specs.Count.{first_word, CountAsked}

-- ---- runs of words in memory

-- one run behind another is one run
runs_join : (b : List ℕ) (at : ℕ) (xs ys : List ℕ) → at + 8 * (length xs + length ys) ≤ length b
    → patch (patch b at (bytes_of xs)) (at + 8 * length xs) (bytes_of ys) ≡ patch b at (bytes_of (xs ++ ys))
runs_join b at xs ys h =
    ap (λ (n : ℕ). patch (patch b at (bytes_of xs)) (at + n) (bytes_of ys)) (sym (length_bytes xs))
    ∙ patch_join b at (bytes_of xs) (bytes_of ys) (omega (arith, length_bytes xs, length_bytes ys))
    ∙ ap (patch b at) (sym (bytes_append xs ys))

-- memory of bytes
module _ (b : List ℕ) (small : (k : ℕ) → get_or b k 0 < 256) where
  -- with a run the words behind it are stored too, as they were
  run_kept : (at : ℕ) (xs : List ℕ) (n : ℕ) → at + 8 * (length xs + n) ≤ length b
      → patch b at (bytes_of xs) ≡ patch b at (bytes_of (xs ++ words_at b (at + 8 * length xs) n))
  run_kept at xs n h =
      let behind : ℕ = at + 8 * length xs in
      let t : List ℕ = patch b at (bytes_of xs) in
      let fits : at + length (bytes_of xs) ≤ length b = omega (arith, length_bytes xs) in
      let away : at + length (bytes_of xs) ≤ behind = omega (arith, length_bytes xs) in
      let same : bytes_of (words_at b behind n) ≡ part t behind (8 * n) =
      bytes_back b small n behind (omega arith) ∙ sym (part_elsewhere b at (bytes_of xs) fits behind (8 * n) (inr away)) in
      sym (patch_self t behind (8 * n) (omega (arith, length_patch b at (bytes_of xs) fits))) ∙ ap (patch t behind) (sym same)
      ∙ runs_join b at xs (words_at b behind n) (omega (arith, length_words b behind n))

-- ---- the words of a slot

-- a direction's words lie behind the shared ones, and within the record
first_behind : (d : Direction) → 11 ≤ first_word d
first_behind Direction.Forward = omega arith
first_behind Direction.Reverse = omega arith

first_low : (d : Direction) → first_word d + 13 ≤ 37
first_low Direction.Forward = omega arith
first_low Direction.Reverse = omega arith

pub run_low : (d : Direction) (from : ℕ) → from ≡ first_word d → from + 13 ≤ 37
run_low d from e = omega (arith, first_low d)

-- the shared words and a direction's, among the record's
shared_run : (b : List ℕ) → words_at b 80 11 ≡ take 11 (words_in b)
unfolding words_in
shared_run b = sym (words_front b 80 11 26)

own_run : (b : List ℕ) (k : ℕ) → k + 13 ≤ 37 → words_at b (80 + 8 * k) 13 ≡ take 13 (drop k (words_in b))
unfolding words_in
own_run b k h =
    let m : ℕ = 37 - (k + 13) in
    let e : k + (13 + m) ≡ 37 = omega arith in
    sym (words_front b (80 + 8 * k) 13 m) ∙ ap (take 13) (sym (words_behind b 80 k (13 + m)))
    ∙ ap (λ (n : ℕ). take 13 (drop k (words_at b 80 n))) e

words_long : (b : List ℕ) → length (words_in b) ≡ 37
unfolding words_in
words_long b = length_words b 80 37

-- a slot of a state of bytes has bytes
slot_small : (s : List ℕ) (i : ℕ) → 256 + 624 * i + 624 ≤ length s → ((k : ℕ) → get_or s k 0 < 256) → (k : ℕ) → get_or (slot s i) k 0 < 256
unfolding slot
slot_small s i fits small k =
    ⊎_elim (λ (l : k < 624). omega (arith, get_d_part s (256 + 624 * i) 624 k l, small (256 + 624 * i + k)))
    (λ g. omega (arith, get_or-eq_default (slot s i) 0 {n = k} (omega (arith, slot_length s i fits)))) (less_or k 624)

-- the direction's words fit
own_fits : (ws : List ℕ) (d : Direction) (p : PacketFacts) → length ws ≡ 37 → words_fit ws ≡ true → RoomToCount (record_of ws) p
    → DirectionFits (take 13 (drop (first_word d) ws)) p
unfolding record_of
own_fits ws Direction.Forward p n e room = direction_fits ws 11 p (omega arith) (forward_fits ws e) room.forward
own_fits ws Direction.Reverse p n e room = direction_fits ws 24 p (omega arith) (reverse_fits ws e) room.reverse

-- the shared words and one direction's, stored; the other direction's are as they were
module _ (b : List ℕ) (small : (k : ℕ) → get_or b k 0 < 256) (long : length b ≡ 624) where
  module _ (shared forward reverse : List ℕ) (n : length shared ≡ 11) (m : length forward ≡ 13) where
    forward_stored : length reverse ≡ 13 → words_at b 272 13 ≡ reverse
        → patch (patch b 80 (bytes_of shared)) 168 (bytes_of forward) ≡ patch b 80 (bytes_of (shared ++ (forward ++ reverse)))
    forward_stored l e =
        let here : 168 ≡ 80 + 8 * length shared = omega arith in
        let both : length (shared ++ forward) ≡ 24 = length-append shared forward ∙ omega arith in
        let there : 80 + 8 * length (shared ++ forward) ≡ 272 = omega arith in
        ap (λ (a : ℕ). patch (patch b 80 (bytes_of shared)) a (bytes_of forward)) here
        ∙ runs_join b 80 shared forward (omega arith)
        ∙ run_kept b small 80 (shared ++ forward) 13 (omega arith)
        ∙ ap (λ (a : ℕ). patch b 80 (bytes_of ((shared ++ forward) ++ words_at b a 13))) there
        ∙ ap (λ (l : List ℕ). patch b 80 (bytes_of ((shared ++ forward) ++ l))) e
        ∙ ap (λ (l : List ℕ). patch b 80 (bytes_of l)) (append_assoc shared forward reverse)

    reverse_stored : length reverse ≡ 13 → words_at b 168 13 ≡ forward
        → patch (patch b 80 (bytes_of shared)) 272 (bytes_of reverse) ≡ patch b 80 (bytes_of (shared ++ (forward ++ reverse)))
    reverse_stored l e =
        let here : 80 + 8 * length shared ≡ 168 = omega arith in
        let both : length (shared ++ forward) ≡ 24 = length-append shared forward ∙ omega arith in
        let there : 272 ≡ 80 + 8 * length (shared ++ forward) = omega arith in
        let kept : patch b 80 (bytes_of shared) ≡ patch b 80 (bytes_of (shared ++ forward)) =
        run_kept b small 80 shared 13 (omega arith)
        ∙ ap (λ (a : ℕ). patch b 80 (bytes_of (shared ++ words_at b a 13))) here
        ∙ ap (λ (l : List ℕ). patch b 80 (bytes_of (shared ++ l))) e in
        (λ z. patch (kept z) (there z) (bytes_of reverse))
        ∙ runs_join b 80 (shared ++ forward) reverse (omega arith)
        ∙ ap (λ (l : List ℕ). patch b 80 (bytes_of l)) (append_assoc shared forward reverse)

  -- those are the words of the record with the packet counted
  module _ (fit : words_fit (words_in b) ≡ true) (p : PacketFacts) where
    runs_counted : (d : Direction)
        → patch (patch b 80 (bytes_of (shared_words (counted_of (record_of (take 11 (words_in b))) Direction.Forward p)))) (80 + 8 * first_word d)
        (bytes_of (direction_words (taken (direction_at (take 13 (drop (first_word d) (words_in b))) 0) p)))
        ≡ patch b 80 (bytes_of (words_of (counted_of (record_in b) d p)))
    unfolding record_in record_of words_of counted_of counted_rest
    runs_counted Direction.Forward =
        let ws : List ℕ = words_in b in
        let shared = sym (shared_counted ws Direction.Forward p) in
        let own = ap (λ (d : DirectionStats). direction_words (taken d p)) (direction_part ws 11) in
        let other = own_run b 24 (omega arith) ∙ sym (reverse_words ws (words_long b) fit) in
        (λ z. patch (patch b 80 (bytes_of (shared z))) 168 (bytes_of (own z))) ∙ forward_stored (shared 1) (own 1) (other 1) refl refl refl other
    runs_counted Direction.Reverse =
        let ws : List ℕ = words_in b in
        let shared = sym (shared_counted ws Direction.Reverse p) in
        let own = ap (λ (d : DirectionStats). direction_words (taken d p)) (direction_part ws 24) in
        let other = own_run b 11 (omega arith) ∙ sym (forward_words ws (words_long b) fit) in
        (λ z. patch (patch b 80 (bytes_of (shared z))) 272 (bytes_of (own z))) ∙ reverse_stored (shared 1) (other 1) (own 1) refl refl refl other

-- ---- the state, step by step

module _ (s : List ℕ) (c i : ℕ) (p : PacketFacts) (asked : CountAsked c i p s) (shared : List ℕ)
    (loaded : shared ≡ words_at (slot s i) 80 11) where
  is_shared : shared ≡ take 11 (words_in (slot s i))
  is_shared = loaded ∙ shared_run (slot s i)

  -- the shared words were loaded
  pub shared_asked : SharedFits shared p
  unfolding record_in
  shared_asked =
      subst (λ (l : List ℕ). SharedFits l p) (sym is_shared)
      (shared_fits (words_in (slot s i)) p (words_long (slot s i)) asked.record_there.fit asked.room)

  module _ (after s1 : List ℕ) (made : after ≡ shared_words (counted_of (record_of shared) Direction.Forward p))
      (stored : view c s1 ≡ with_slot i (patch (slot_of (view c s).table i) 80 (bytes_of after)) (view c s)) where
    after_long : length after ≡ 11
    after_long = ap length made

    slot_long : length (slot s i) ≡ 624
    slot_long = slot_length s i asked.record_there.size

    slot_after : slot s1 i ≡ patch (slot s i) 80 (bytes_of after)
    slot_after =
        (slots_apart s s1 c i (patch (slot_of (view c s).table i) 80 (bytes_of after)) (ap (λ (v : View). v.table) stored) asked.low).0
        ∙ ap (λ (b : List ℕ). patch b 80 (bytes_of after)) (slot_view s c i asked.low)

    module _ (d : Direction) (from : ℕ) (own : List ℕ) (begins : from ≡ first_word d)
        (own-loaded : own ≡ words_at (slot s1 i) (80 + 8 * from) 13) where
      is_own : own ≡ take 13 (drop (first_word d) (words_in (slot s i)))
      is_own =
          own-loaded ∙ (λ z. words_at (slot_after z) (80 + 8 * begins z) 13)
          ∙ words_elsewhere (slot s i) 80 (bytes_of after) (80 + 8 * first_word d) 13 (omega (arith, length_bytes after, after_long, slot_long))
          (omega (arith, length_bytes after, after_long, first_behind d))
          ∙ own_run (slot s i) (first_word d) (first_low d)

      -- the direction's words were loaded
      pub own_asked : DirectionFits own p
      unfolding record_in
      own_asked =
          subst (λ (l : List ℕ). DirectionFits l p) (sym is_own)
          (own_fits (words_in (slot s i)) d p (words_long (slot s i)) asked.record_there.fit asked.room)

      -- and stored
      pub counted_there : (small : (k : ℕ) → get_or s k 0 < 256) (counted s2 : List ℕ) → counted ≡ direction_words (taken (direction_at own 0) p)
          → view c s2 ≡ with_slot i (patch (slot_of (view c s1).table i) (80 + 8 * from) (bytes_of counted)) (view c s1)
          → view c s2 ≡ with_slot i (patch (slot_of (view c s).table i) 80 (bytes_of (words_of (counted_of (record_in (slot s i)) d p)))) (view c s)
      counted_there small counted s2 made-own stored-own =
          let low : i < c = asked.low in
          let words : List ℕ = words_of (counted_of (record_in (slot s i)) d p) in
          let shared-is : after ≡ shared_words (counted_of (record_of (take 11 (words_in (slot s i)))) Direction.Forward p) =
          made ∙ ap (λ (l : List ℕ). shared_words (counted_of (record_of l) Direction.Forward p)) is_shared in
          let own_is : counted ≡ direction_words (taken (direction_at (take 13 (drop (first_word d) (words_in (slot s i)))) 0) p) =
          made-own ∙ ap (λ (l : List ℕ). direction_words (taken (direction_at l 0) p)) is_own in
          let before : slot_of (view c s1).table i ≡ patch (slot s i) 80 (bytes_of after) = slot_view s1 c i low ∙ slot_after in
          let is : patch (slot_of (view c s1).table i) (80 + 8 * from) (bytes_of counted) ≡ patch (slot_of (view c s).table i) 80 (bytes_of words) =
          (λ z. patch (before z) (80 + 8 * begins z) (bytes_of (own_is z)))
          ∙ ap (λ (l : List ℕ). patch (patch (slot s i) 80 (bytes_of l)) (80 + 8 * first_word d) (bytes_of (own_is 1))) shared-is
          ∙ runs_counted (slot s i) (slot_small s i asked.record_there.size small) slot_long asked.record_there.fit p d
          ∙ ap (λ (b : List ℕ). patch b 80 (bytes_of words)) (sym (slot_view s c i low)) in
          stored-own ∙ (λ z. with_slot i (is z) (stored z)) ∙ view_ext refl (set-set (slots s c) i _ _) refl refl
