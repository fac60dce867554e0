-- The laws of runs of words. Assumes nothing.
use mathlib.Core.Path.{◌≡◌, refl, sym, ap, ◌∙◌}
use mathlib.Core.Logic.{⊎_elim}
use mathlib.Core.List.{List, [], ◌∷◌, ◌++◌, append-nil, append_assoc}
use Prim.Native.Nat.{ℕ, zero, suc, ◌+◌, ◌*◌, ◌/◌, ◌%◌, ◌^◌, ◌≤◌, ◌<◌}
use native.Mathlib.Numerals.{add-one}
use native.Mathlib.Nat.{add-zero, zero-add, suc-add}
use native.Mathlib.Omega.{arith}
use lib.ListN.{length, take, drop, get_or, set, length-append, length-set, take-append-drop}
use lib.Seq.{take-suc, take_all, length-take-le, ext_get_or, get_or-set_same, get_or-set_other, take_at, take-add, drop-drop, drop-append-add}
use Rattle.memory.specs.Bytes.{num, le, part, patch, bytes_of, words_at}
use Rattle.memory.proofs.Laws.{length_part, get_d_part, length_le, num_le, length_patch, part_part, part_patched, patch_join, less_or}

pub length_bytes : (ws : List ℕ) → length (bytes_of ws) ≡ 8 * length ws
unfolding bytes_of
length_bytes [] = refl
length_bytes (w ∷ ws) = length-append (le 8 w) (bytes_of ws) ∙ omega (arith, length_le 8 w, length_bytes ws)

pub bytes_append : (xs ys : List ℕ) → bytes_of (xs ++ ys) ≡ bytes_of xs ++ bytes_of ys
unfolding bytes_of
bytes_append [] ys = refl
bytes_append (x ∷ xs) ys = ap (λ (l : List ℕ). le 8 x ++ l) (bytes_append xs ys) ∙ sym (append_assoc (le 8 x) (bytes_of xs) (bytes_of ys))

pub length_words : (s : List ℕ) (at n : ℕ) → length (words_at s at n) ≡ n
unfolding words_at
length_words s at zero = refl
length_words s at (suc n) = ap suc (length_words s (at + 8) n)

pub word_at : (s : List ℕ) (at n k : ℕ) → k < n → get_or (words_at s at n) k 0 ≡ num (part s (at + 8 * k) 8)
unfolding words_at
word_at s at zero k h = absurd (omega arith)
word_at s at (suc n) zero h = ap (λ (a : ℕ). num (part s a 8)) (sym (add-zero at))
word_at s at (suc n) (suc k) h =
    let e : at + 8 + 8 * k ≡ at + 8 * suc k = omega arith in
    word_at s (at + 8) n k (omega arith) ∙ ap (λ (a : ℕ). num (part s a 8)) e

-- the bytes of word k
part_bytes : (ws : List ℕ) (k : ℕ) → k < length ws → part (bytes_of ws) (8 * k) 8 ≡ le 8 (get_or ws k 0)
unfolding bytes_of part
part_bytes [] k h = absurd (omega arith)
part_bytes (w ∷ ws) zero h = take_at (le 8 w) (bytes_of ws) 8 (length_le 8 w)
part_bytes (w ∷ ws) (suc k) h =
    let e : 8 * suc k ≡ length (le 8 w) + 8 * k = omega (arith, length_le 8 w) in
    ap (λ (a : ℕ). take 8 (drop a (le 8 w ++ bytes_of ws))) e
    ∙ ap (take 8) (drop-append-add (le 8 w) (bytes_of ws) (8 * k))
    ∙ part_bytes ws k (omega arith)

-- words that were stored are loaded again
pub words_back : (s : List ℕ) (at : ℕ) (ws : List ℕ) → at + 8 * length ws ≤ length s → ((k : ℕ) → k < length ws → get_or ws k 0 < 2 ^ 64)
    → words_at (patch s at (bytes_of ws)) at (length ws) ≡ ws
words_back s at ws fits small =
    let n : ℕ = length ws in
    let bs : List ℕ = bytes_of ws in
    let long : at + length bs ≤ length s = omega (arith, length_bytes ws) in
    ext_get_or 0 (words_at (patch s at bs) at n) ws (length_words (patch s at bs) at n) λ k h.
    let h' : k < n = omega (arith, length_words (patch s at bs) at n) in
    word_at (patch s at bs) at n k h'
    ∙ ap num
    (sym (part_part (patch s at bs) at (8 * n) (8 * k) 8 (omega arith) (omega (arith, length_patch s at bs long)))
    ∙ ap (λ (l : List ℕ). part l (8 * k) 8) (part_patched s at bs long (8 * n) (length_bytes ws))
    ∙ part_bytes ws k h')
    ∙ num_le 8 (get_or ws k 0) (small k h')

-- ---- a run of words, and its bytes where they lie

-- the first words of a run, and those behind them
pub words_front : (s : List ℕ) (at m n : ℕ) → take m (words_at s at (m + n)) ≡ words_at s at m
unfolding words_at
words_front s at zero n = refl
words_front s at (suc m) n =
    ap (λ (k : ℕ). take (suc m) (words_at s at k)) (suc-add m n) ∙ ap (λ (l : List ℕ). num (part s at 8) ∷ l) (words_front s (at + 8) m n)

pub words_behind : (s : List ℕ) (at m n : ℕ) → drop m (words_at s at (m + n)) ≡ words_at s (at + 8 * m) n
unfolding words_at
words_behind s at zero n = ap (words_at s at) (zero-add n) ∙ ap (λ (a : ℕ). words_at s a n) (sym (add-zero at))
words_behind s at (suc m) n =
    let e : at + 8 + 8 * m ≡ at + 8 * suc m = omega arith in
    ap (λ (k : ℕ). drop (suc m) (words_at s at k)) (suc-add m n) ∙ words_behind s (at + 8) m n ∙ ap (λ (a : ℕ). words_at s a n) e

-- bytes are those of the number that they stand for
le_num : (bs : List ℕ) → ((k : ℕ) → k < length bs → get_or bs k 0 < 256) → le (length bs) (num bs) ≡ bs
unfolding le num
le_num [] small = refl
le_num (b ∷ bs) small =
    let low : (b + 256 * num bs) % 256 ≡ b = omega (arith, small 0 (omega arith)) in
    let high : (b + 256 * num bs) / 256 ≡ num bs = omega (arith, small 0 (omega arith)) in
    (λ z. low z ∷ le (length bs) (high z)) ∙ ap (λ (l : List ℕ). b ∷ l) (le_num bs (λ k h. small (suc k) (omega arith)))

-- words that were loaded have the bytes that they were loaded from
pub bytes_back : (s : List ℕ) → ((k : ℕ) → get_or s k 0 < 256) → (n at : ℕ) → at + 8 * n ≤ length s → bytes_of (words_at s at n) ≡ part s at (8 * n)
unfolding bytes_of words_at part
bytes_back s small zero at h = refl
bytes_back s small (suc n) at h =
    let long : length (part s at 8) ≡ 8 = length_part s at 8 (omega arith) in
    let bytes : (k : ℕ) → k < length (part s at 8) → get_or (part s at 8) k 0 < 256 =
    λ k l. omega (arith, get_d_part s at 8 k (omega arith), small (at + k)) in
    let here : le 8 (num (part s at 8)) ≡ part s at 8 = ap (λ (m : ℕ). le m (num (part s at 8))) (sym long) ∙ le_num (part s at 8) bytes in
    let e : 8 + 8 * n ≡ 8 * suc n = omega arith in
    (λ z. here z ++ bytes_back s small n (at + 8) (omega arith) z)
    ∙ ap (λ (l : List ℕ). take 8 (drop at s) ++ take (8 * n) l) (sym (drop-drop 8 at s))
    ∙ sym (take-add 8 (8 * n) (drop at s)) ∙ ap (part s at) e

-- ---- the loops

pub record Stored (s : List ℕ) (at : ℕ) (ws : List ℕ) (k : ℕ) (t : List ℕ) : Type 0 where
  pub within : k ≤ length ws
  pub long : length t ≡ length s
  pub is : t ≡ patch s at (bytes_of (take k ws))

pub stored_none : (s : List ℕ) (at : ℕ) (ws : List ℕ) → at ≤ length s → Stored s at ws 0 s
unfolding bytes_of patch
stored_none s at ws h = record { within = omega arith; long = refl; is = sym (take-append-drop at s) }

pub stored_more : (s : List ℕ) (at : ℕ) (ws : List ℕ) (k : ℕ) (t t' : List ℕ) → at + 8 * length ws ≤ length s → k < length ws
    → t' ≡ patch t (at + 8 * k) (le 8 (get_or ws k 0)) → Stored s at ws k t → Stored s at ws (k + 1) t'
unfolding bytes_of
stored_more s at ws k t t' fits more e done =
    let w : ℕ = get_or ws k 0 in
    let front : List ℕ = bytes_of (take k ws) in
    let n : length front ≡ 8 * k = length_bytes (take k ws) ∙ ap (λ (m : ℕ). 8 * m) (length-take-le k ws (omega arith)) in
    let q : take k ws ++ (w ∷ []) ≡ take (k + 1) ws = sym (ap (λ (m : ℕ). take m ws) (add-one k) ∙ take-suc ws k 0 more) in
    record {
      within = omega arith;
      long = ap length e ∙ length_patch t (at + 8 * k) (le 8 w) (omega (arith, done.long, length_le 8 w)) ∙ done.long;
      is =
          e ∙ ap (λ (u : List ℕ). patch u (at + 8 * k) (le 8 w)) done.is
          ∙ ap (λ (m : ℕ). patch (patch s at front) (at + m) (le 8 w)) (sym n)
          ∙ patch_join s at front (le 8 w) (omega (arith, length_le 8 w))
          ∙ ap (λ (l : List ℕ). patch s at (front ++ l)) (sym (append-nil (le 8 w)))
          ∙ ap (patch s at) (sym (bytes_append (take k ws) (w ∷ [])) ∙ ap bytes_of q);
    }

pub stored_all : (s : List ℕ) (at : ℕ) (ws : List ℕ) (k : ℕ) (t : List ℕ) → length ws ≤ k → Stored s at ws k t → t ≡ patch s at (bytes_of ws)
stored_all s at ws k t h done = done.is ∙ ap (λ (l : List ℕ). patch s at (bytes_of l)) (take_all k ws h)

-- the words that were loaded so far
pub record Loaded (s : List ℕ) (at : ℕ) (ws₀ : List ℕ) (k : ℕ) (ws : List ℕ) : Type 0 where
  pub long : length ws ≡ length ws₀
  pub are : (j : ℕ) → j < k → get_or ws j 0 ≡ num (part s (at + 8 * j) 8)

pub loaded_more : (s : List ℕ) (at : ℕ) (ws₀ : List ℕ) (k : ℕ) (ws : List ℕ) (w : ℕ) → k < length ws₀ → w ≡ num (part s (at + 8 * k) 8)
    → Loaded s at ws₀ k ws → Loaded s at ws₀ (k + 1) (set ws k w)
loaded_more s at ws₀ k ws w more e done =
    record {
      long = length-set ws k w ∙ done.long;
      are = λ j h.
          ⊎_elim
          (λ (l : j < k). get_or-set_other ws k j w 0 (λ q. omega arith) ∙ done.are j l)
          (λ g.
          let q : k ≡ j = omega arith in
          ap (λ (m : ℕ). get_or (set ws k w) m 0) (sym q) ∙ get_or-set_same ws k w 0 (omega (arith, done.long)) ∙ e
          ∙ ap (λ (m : ℕ). num (part s (at + 8 * m) 8)) q)
          (less_or j k);
    }

pub loaded_all : (s : List ℕ) (at : ℕ) (ws₀ : List ℕ) (k : ℕ) (ws : List ℕ) → length ws₀ ≤ k → Loaded s at ws₀ k ws → ws ≡ words_at s at (length ws₀)
loaded_all s at ws₀ k ws h done =
    ext_get_or 0 ws (words_at s at (length ws₀)) (done.long ∙ sym (length_words s at (length ws₀))) λ j l.
    let l' : j < length ws₀ = omega (arith, done.long) in
    done.are j (omega arith) ∙ sym (word_at s at (length ws₀) j l')
