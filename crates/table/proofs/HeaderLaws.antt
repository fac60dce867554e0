-- The laws of `specs/Header.antt`, and of a state that was just cleared. Assumes nothing.
use mathlib.Core.Path.{◌≡◌, sym, ap, ◌∙◌}
use mathlib.Core.Logic.{inl}
use mathlib.Core.Bool.{false}
use mathlib.Core.List.{List, [], ◌++◌}
use Prim.Native.Nat.{ℕ, zero, suc, ◌+◌, ◌*◌, ◌^◌, ◌≤◌, ◌<◌}
use native.Mathlib.Omega.{arith}
use lib.ListN.{length, take, drop, get_or, replicate, length-append, get_or-replicate}
use lib.Seq.{drop_at}
use Rattle.memory.specs.Bytes.{num, le, part, patch, bytes_of, words_at}
use Rattle.memory.proofs.Laws.{length_le, num_le, length_patch, part_patched, part_elsewhere, part_part}
use Rattle.memory.proofs.Words.{length_bytes, word_at, words_back}
use Rattle.queue.specs.Tree.{Empty}
use Rattle.queue.proofs.Laws.{cleared}
use Rattle.slots.specs.Table.{is_used}
use Rattle.table.specs.declared.Header.{Header}
use Rattle.table.specs.Header.{header_of, header_words, header_bytes, HeaderFits, with_clock}
use Rattle.table.specs.View.{View, view, slot_of, with_header, NoFlow, Cleared}
use Rattle.table.proofs.Laws.{view_header}

-- two headers are equal where their fields are
header_ext : {g h : Header} → g.layout ≡ h.layout → g.capacity ≡ h.capacity → g.timeout.0 ≡ h.timeout.0
    → g.lateness.0 ≡ h.lateness.0 → g.resolution ≡ h.resolution → g.clock.0 ≡ h.clock.0 → g ≡ h
header_ext a b d e f k = λ i.
    record {
      layout = a i;
      capacity = b i;
      timeout = record { 0 = d i };
      lateness = record { 0 = e i };
      resolution = f i;
      clock = record { 0 = k i };
    }

-- the words of the header where they lie in the state
module _ (s : List ℕ) (long : 256 ≤ length s) where
  word_in : (k : ℕ) → k + 8 ≤ 256 → num (part s (0 + k) 8) ≡ num (part (part s 0 256) k 8)
  word_in k low = sym (ap num (part_part s 0 256 k 8 low long))

  pub header_loaded : (layout capacity timeout lateness resolution clock : ℕ) → layout ≡ num (part s 0 8) → capacity ≡ num (part s 8 8)
      → timeout ≡ num (part s 16 8) → lateness ≡ num (part s 24 8) → resolution ≡ num (part s 32 8) → clock ≡ num (part s 40 8)
      → record {
        layout = layout;
        capacity = capacity;
        timeout = record { 0 = timeout };
        lateness = record { 0 = lateness };
        resolution = resolution;
        clock = record { 0 = clock };
      }
      ≡ header_of (part s 0 256)
  unfolding header_of
  header_loaded layout capacity timeout lateness resolution clock a b d e f k =
      header_ext
      (a ∙ word_in 0 (omega arith))
      (b ∙ word_in 8 (omega arith))
      (d ∙ word_in 16 (omega arith))
      (e ∙ word_in 24 (omega arith))
      (f ∙ word_in 32 (omega arith))
      (k ∙ word_in 40 (omega arith))

-- ---- another clock

module _ (w : ℕ) (b : List ℕ) (long : 256 ≤ length b) where
  fits : 40 + length (le 8 w) ≤ length b
  fits = omega (arith, length_le 8 w)

  pub clock_length : length (with_clock w b) ≡ length b
  unfolding with_clock
  clock_length = length_patch b 40 (le 8 w) fits

  pub clock_stored : w < 2 ^ 64
      → header_of (with_clock w b)
      ≡ record {
        layout = (header_of b).layout;
        capacity = (header_of b).capacity;
        timeout = (header_of b).timeout;
        lateness = (header_of b).lateness;
        resolution = (header_of b).resolution;
        clock = record { 0 = w };
      }
  unfolding header_of with_clock
  clock_stored small =
      let other : (k : ℕ) → k + 8 ≤ 40 → num (part (patch b 40 (le 8 w)) k 8) ≡ num (part b k 8) =
      λ k low. ap num (part_elsewhere b 40 (le 8 w) fits k 8 (inl low)) in
      header_ext
      (other 0 (omega arith))
      (other 8 (omega arith))
      (other 16 (omega arith))
      (other 24 (omega arith))
      (other 32 (omega arith))
      (ap num (part_patched b 40 (le 8 w) fits 8 (length_le 8 w)) ∙ num_le 8 w small)

pub clock_put : (s s' : List ℕ) (c w : ℕ) → 256 + 640 * c ≤ length s → s' ≡ patch s 40 (le 8 w)
    → view c s' ≡ with_header (with_clock w (view c s).header) (view c s)
unfolding with_clock
clock_put s s' c w size e = ap (view c) e ∙ view_header s c size 40 (le 8 w) (omega (arith, length_le 8 w))

-- ---- a whole header

pub header_put : (s s' : List ℕ) (c : ℕ) (h : Header) → 256 + 640 * c ≤ length s → s' ≡ patch s 0 (bytes_of (header_words h))
    → view c s' ≡ with_header (patch (view c s).header 0 (bytes_of (header_words h))) (view c s)
header_put s s' c h size e =
    ap (view c) e ∙ view_header s c size 0 (bytes_of (header_words h)) (omega (arith, length_bytes (header_words h)))

-- the words put over zeros
over_zeros : (h : Header) → patch (replicate 256 0) 0 (bytes_of (header_words h)) ≡ header_bytes h
unfolding patch header_bytes
over_zeros h = ap (λ (n : ℕ). bytes_of (header_words h) ++ drop n (replicate 256 0)) (length_bytes (header_words h))

words_fit_lem : (h : Header) → HeaderFits h → (k : ℕ) → k < 6 → get_or (header_words h) k 0 < 2 ^ 64
words_fit_lem h f zero l = f.layout
words_fit_lem h f (suc zero) l = f.capacity
words_fit_lem h f (suc (suc zero)) l = f.timeout
words_fit_lem h f (suc (suc (suc zero))) l = f.lateness
words_fit_lem h f (suc (suc (suc (suc zero)))) l = f.resolution
words_fit_lem h f (suc (suc (suc (suc (suc zero))))) l = f.clock
words_fit_lem h f (suc (suc (suc (suc (suc (suc k)))))) l = absurd (omega arith)

pub header_length : (h : Header) → length (header_bytes h) ≡ 256
unfolding header_bytes
header_length h = length-append (bytes_of (header_words h)) (replicate 208 0) ∙ omega (arith, length_bytes (header_words h))

-- the bytes behind the words are 0
pub header_spare : (h : Header) → part (header_bytes h) 48 208 ≡ replicate 208 0
unfolding header_bytes part
header_spare h = ap (take 208) (drop_at (bytes_of (header_words h)) (replicate 208 0) 48 (length_bytes (header_words h)))

-- what was put is the header
pub header_back : (h : Header) → HeaderFits h → header_of (header_bytes h) ≡ h
unfolding header_of
header_back h f =
    let p : List ℕ = patch (replicate 256 0) 0 (bytes_of (header_words h)) in
    let back : words_at p 0 6 ≡ header_words h = words_back (replicate 256 0) 0 (header_words h) (omega arith) (words_fit_lem h f) in
    let word : (k : ℕ) → k < 6 → num (part p (0 + 8 * k) 8) ≡ get_or (header_words h) k 0 =
    λ k l. sym (word_at p 0 6 k l) ∙ ap (λ (ws : List ℕ). get_or ws k 0) back in
    ap header_of (sym (over_zeros h))
    ∙ header_ext
    (word 0 (omega arith))
    (word 1 (omega arith))
    (word 2 (omega arith))
    (word 3 (omega arith))
    (word 4 (omega arith))
    (word 5 (omega arith))

-- ---- a state that was just cleared

pub clear_ends : (c : ℕ) (h : Header) (v v1 v2 : View) → NoFlow c (replicate 256 0) v v1
    → v2 ≡ with_header (patch v1.header 0 (bytes_of (header_words h))) v1 → Cleared c h v v2
clear_ends c h v v1 v2 e f =
    record {
      header = ap (λ (u : View). u.header) f ∙ ap (λ (b : List ℕ). patch b 0 (bytes_of (header_words h))) e.header ∙ over_zeros h;
      table = ap (λ (u : View). u.table) f ∙ e.table;
      tree = ap (λ (u : View). u.tree) f ∙ e.tree;
      rest = ap (λ (u : View). u.rest) f ∙ e.rest;
    }

module _ (c : ℕ) (h : Header) (v v' : View) (made : Cleared c h v v') where
  pub cleared_header : HeaderFits h → header_of v'.header ≡ h
  cleared_header f = ap header_of made.header ∙ header_back h f

  pub cleared_spare : part v'.header 48 208 ≡ replicate 208 0
  cleared_spare = ap (λ (b : List ℕ). part b 48 208) made.header ∙ header_spare h

  pub cleared_slot : (i : ℕ) → i < c → slot_of v'.table i ≡ replicate 624 0
  cleared_slot i l = ap (λ (t : List (List ℕ)). slot_of t i) made.table ∙ get_or-replicate c i (replicate 624 0) [] l

  pub cleared_free : (i : ℕ) → i < c → is_used (slot_of v'.table i) ≡ false
  unfolding is_used
  cleared_free i l = ap is_used (cleared_slot i l)

  pub cleared_queue : Empty c v'.tree
  cleared_queue = cleared c v'.tree made.tree
