-- What is stored in a slot and what that leaves alone. Assumes nothing.
use mathlib.Core.Path.{◌≡◌, refl, sym, ap, ◌∙◌}
use mathlib.Core.Logic.{inl, inr}
use mathlib.Core.Bool.{false}
use mathlib.Core.List.{List, [], ◌∷◌}
use Prim.Native.Nat.{ℕ, zero, suc, ◌+◌, ◌*◌, ◌^◌, ◌≤◌, ◌<◌}
use native.Mathlib.Omega.{arith}
use lib.Dec.{eqb}
use lib.ListN.{length, get_or}
use Rattle.memory.specs.Bytes.{num, part, patch, bytes_of, words_at}
use Rattle.memory.proofs.Laws.{length_part, length_patch, part_part, part_elsewhere, patch_before, patch_inside, patch_behind}
use Rattle.memory.proofs.Words.{length_bytes, word_at, words_back}
use Rattle.slots.specs.Table.{slot, is_used, key_of}
use Rattle.table.specs.View.{view, slot_of, with_slot}
use Rattle.table.specs.Due.{end_of}
use Rattle.table.proofs.Laws.{slot_view, slot_put, slot_begun}

-- ---- words in a part, and beside a patch

words_part : (s : List ℕ) (a n b k : ℕ) → b + 8 * k ≤ n → a + n ≤ length s → words_at (part s a n) b k ≡ words_at s (a + b) k
unfolding words_at
words_part s a n b zero h fits = refl
words_part s a n b (suc k) h fits =
    let e : a + (b + 8) ≡ a + b + 8 = omega arith in
    let here : num (part (part s a n) b 8) ≡ num (part s (a + b) 8) = ap num (part_part s a n b 8 (omega arith) fits) in
    let later : words_at (part s a n) (b + 8) k ≡ words_at s (a + b + 8) k =
    words_part s a n (b + 8) k (omega arith) fits ∙ ap (λ (m : ℕ). words_at s m k) e in
    cc

pub words_elsewhere : (s : List ℕ) (at : ℕ) (bs : List ℕ) (a k : ℕ) → at + length bs ≤ length s → at + length bs ≤ a
    → words_at (patch s at bs) a k ≡ words_at s a k
unfolding words_at
words_elsewhere s at bs a zero fits away = refl
words_elsewhere s at bs a (suc k) fits away =
    let here : num (part (patch s at bs) a 8) ≡ num (part s a 8) = ap num (part_elsewhere s at bs fits a 8 (inr away)) in
    let later : words_at (patch s at bs) (a + 8) k ≡ words_at s (a + 8) k = words_elsewhere s at bs (a + 8) k fits (omega arith) in
    cc

-- ---- a slot of a state

module _ (s : List ℕ) (i : ℕ) (fits : 256 + 624 * i + 624 ≤ length s) where
  pub slot_length : length (slot s i) ≡ 624
  unfolding slot
  slot_length = length_part s (256 + 624 * i) 624 fits

  -- its words from word k on, and its end, where they lie in the state
  run_at : (k n : ℕ) → k + n ≤ 37 → words_at s (256 + 624 * i + (80 + 8 * k)) n ≡ words_at (slot s i) (80 + 8 * k) n
  unfolding slot
  run_at k n h = sym (words_part s (256 + 624 * i) 624 (80 + 8 * k) n (omega arith) fits)

  pub words_at_lem : words_at s (256 + 624 * i + 80) 37 ≡ words_at (slot s i) 80 37
  words_at_lem = run_at 0 37 (omega arith)

  pub end_at : num (part s (256 + 624 * i + 88) 8) ≡ end_of (slot s i)
  unfolding end_of slot
  end_at = sym (ap num (part_part s (256 + 624 * i) 624 88 8 (omega arith) fits))

-- the same of a slot of the view
pub view_slot_length : (s : List ℕ) (c i : ℕ) → 256 + 640 * c ≤ length s → i < c → length (slot_of (view c s).table i) ≡ 624
view_slot_length s c i size low = ap length (slot_view s c i low) ∙ slot_length s i (omega arith)

-- what was loaded from the state
pub run_loaded : (s ws : List ℕ) (i k n : ℕ) → ws ≡ words_at s (256 + 624 * i + (80 + 8 * k)) n → k + n ≤ 37 → 256 + 624 * i + 624 ≤ length s
    → ws ≡ words_at (slot s i) (80 + 8 * k) n
run_loaded s ws i k n e count fits = e ∙ run_at s i fits k n count

pub words_loaded : (b ws : List ℕ) (n : ℕ) → ws ≡ words_at b 80 n → n ≡ 37 → ws ≡ words_at b 80 37
words_loaded b ws n e count = e ∙ ap (words_at b 80) count

-- the end is word 1
pub end_word : (b : List ℕ) → end_of b ≡ get_or (words_at b 80 37) 1 0
unfolding end_of
end_word b = sym (word_at b 80 37 1 (omega arith))

-- ---- a record's words were stored

module _ (b ws : List ℕ) (long : 376 ≤ length b) (count : length ws ≡ 37) where
  words_length : length (bytes_of ws) ≡ 296
  words_length = length_bytes ws ∙ ap (λ (n : ℕ). 8 * n) count

  fits : 80 + length (bytes_of ws) ≤ length b
  fits = omega (arith, words_length)

  pub stored_length : length (patch b 80 (bytes_of ws)) ≡ length b
  stored_length = length_patch b 80 (bytes_of ws) fits

  pub stored_used : is_used (patch b 80 (bytes_of ws)) ≡ is_used b
  unfolding is_used
  stored_used = ap (λ (n : ℕ). eqb n 1) (patch_before b 80 (bytes_of ws) fits 0 (omega arith))

  pub stored_key : get_or b 1 0 ≤ 78 → key_of (patch b 80 (bytes_of ws)) ≡ key_of b
  unfolding key_of
  stored_key short =
      ap (part (patch b 80 (bytes_of ws)) 2) (patch_before b 80 (bytes_of ws) fits 1 (omega arith))
      ∙ part_elsewhere b 80 (bytes_of ws) fits 2 (get_or b 1 0) (inl (omega arith))

  module _ (small : (k : ℕ) → k < 37 → get_or ws k 0 < 2 ^ 64) where
    pub stored_words : words_at (patch b 80 (bytes_of ws)) 80 37 ≡ ws
    stored_words =
        ap (words_at (patch b 80 (bytes_of ws)) 80) (sym count) ∙ words_back b 80 ws (omega arith) (λ k h. small k (omega arith))

    pub stored_end : end_of (patch b 80 (bytes_of ws)) ≡ get_or ws 1 0
    stored_end = end_word (patch b 80 (bytes_of ws)) ∙ ap (λ (l : List ℕ). get_or l 1 0) stored_words

-- words seen from the state, from word k on
pub run_put : (s s' ws : List ℕ) (c i k : ℕ) → 256 + 640 * c ≤ length s → i < c → k + length ws ≤ 37
    → s' ≡ patch s (256 + 624 * i + (80 + 8 * k)) (bytes_of ws)
    → view c s' ≡ with_slot i (patch (slot_of (view c s).table i) (80 + 8 * k) (bytes_of ws)) (view c s)
run_put s s' ws c i k size low count e = slot_put s s' c i (80 + 8 * k) (bytes_of ws) size low (omega (arith, length_bytes ws)) e

-- ---- a key was put: `keyed_used` and `keyed_key` of slots/proofs/Laws.antt say what it is

module _ (b key : List ℕ) (short : length key ≤ 78) (long : 80 ≤ length b) where
  entry_fits : 0 + length (1 ∷ length key ∷ key) ≤ length b
  entry_fits = omega arith

  pub keyed_length : length (patch b 0 (1 ∷ length key ∷ key)) ≡ length b
  keyed_length = length_patch b 0 (1 ∷ length key ∷ key) entry_fits

  pub keyed_words : words_at (patch b 0 (1 ∷ length key ∷ key)) 80 37 ≡ words_at b 80 37
  keyed_words = words_elsewhere b 0 (1 ∷ length key ∷ key) 80 37 entry_fits (omega arith)

  pub keyed_end : end_of (patch b 0 (1 ∷ length key ∷ key)) ≡ end_of b
  keyed_end = end_word (patch b 0 (1 ∷ length key ∷ key)) ∙ ap (λ (l : List ℕ). get_or l 1 0) keyed_words ∙ sym (end_word b)

-- the same seen from the state
pub key_put : (s s' key : List ℕ) (c i : ℕ) → 256 + 640 * c ≤ length s → i < c → length key ≤ 72
    → s' ≡ patch s (256 + 624 * i) (1 ∷ length key ∷ key)
    → view c s' ≡ with_slot i (patch (slot_of (view c s).table i) 0 (1 ∷ length key ∷ key)) (view c s)
key_put s s' key c i size low short e = slot_begun s s' c i (1 ∷ length key ∷ key) size low (omega arith) e

-- ---- a slot was given back

module _ (b : List ℕ) (long : 80 ≤ length b) where
  pub freed_length : length (patch b 0 (0 ∷ [])) ≡ length b
  freed_length = length_patch b 0 (0 ∷ []) (omega arith)

  pub freed_free : is_used (patch b 0 (0 ∷ [])) ≡ false
  unfolding is_used
  freed_free = ap (λ (n : ℕ). eqb n 1) (patch_inside b 0 (0 ∷ []) (omega arith) 0 (omega arith))

  pub freed_key : key_of (patch b 0 (0 ∷ [])) ≡ key_of b
  unfolding key_of
  freed_key =
      ap (part (patch b 0 (0 ∷ [])) 2) (patch_behind b 0 (0 ∷ []) (omega arith) 1 (omega arith))
      ∙ part_elsewhere b 0 (0 ∷ []) (omega arith) 2 (get_or b 1 0) (inr (omega arith))

  pub freed_words : words_at (patch b 0 (0 ∷ [])) 80 37 ≡ words_at b 80 37
  freed_words = words_elsewhere b 0 (0 ∷ []) 80 37 (omega arith) (omega arith)

  pub freed_end : end_of (patch b 0 (0 ∷ [])) ≡ end_of b
  freed_end = end_word (patch b 0 (0 ∷ [])) ∙ ap (λ (l : List ℕ). get_or l 1 0) freed_words ∙ sym (end_word b)

-- the same seen from the state
pub free_put : (s s' : List ℕ) (c i : ℕ) → 256 + 640 * c ≤ length s → i < c → s' ≡ patch s (256 + 624 * i) (0 ∷ [])
    → view c s' ≡ with_slot i (patch (slot_of (view c s).table i) 0 (0 ∷ [])) (view c s)
free_put s s' c i size low e = slot_begun s s' c i (0 ∷ []) size low (omega arith) e
