-- The laws of `specs/Bytes.antt`: what a patch leaves as it was, what it puts, and that lengths are kept. Assumes nothing.
use mathlib.Core.Path.{◌≡◌, refl, sym, ap, ◌∙◌}
use mathlib.Core.Logic.{⊎_elim, ◌⊎◌, inl, inr}
use mathlib.Core.Bool.{Bool, true, false}
use lib.Dec.{ltb, eqb}
use borrow.Author.Tests.{ltb-true, ltb-false, eqb-true, eqb-false}
use Prim.Native.Nat.{ℕ, zero, suc, ◌+◌, ◌-◌, ◌/◌, ◌^◌, ◌≤◌, ◌<◌}
use native.Mathlib.Nat.{pow-succ', add_assoc, eq-or-lt_of_le}
use native.Mathlib.Numerals.{add-one}
use native.Mathlib.Omega.{arith}
use mathlib.Core.List.{List, [], ◌∷◌, ◌++◌, append_assoc}
use lib.ListN.{length, replicate, length-replicate, get_or-replicate, take, drop, get_or, set, length-append, length-take, length-drop, length-set, take-append-drop, get_or-append}
use lib.Seq.{length-take-le, get_or-take, get_or-drop, get_or-append-add, ext_get_or, drop_at, take_at, take-take, take-add, drop-drop, drop-append-le, set_split, take-suc, take_all}
use borrow.Rule.Slice.PartMut.{put_mid}
use Rattle.std.specs.Int.{w64, from_le_bytes, to_le_bytes}
use Rattle.memory.specs.Decides.{Decides}
use Rattle.memory.specs.Bytes.{num, le, part, patch}

pub length_part : (s : List ℕ) (at n : ℕ) → at + n ≤ length s → length (part s at n) ≡ n
unfolding part
length_part s at n h = simp (length-take, length-drop) (omega arith)

-- two memories of one length that agree from a to a + n have the same part there
pub part_ext : (s t : List ℕ) (a n : ℕ) → length s ≡ length t
    → ((k : ℕ) → a ≤ k → k < a + n → get_or s k 0 ≡ get_or t k 0) → part s a n ≡ part t a n
unfolding part
part_ext s t a n e same =
    ext_get_or 0 (take n (drop a s)) (take n (drop a t)) (simp (length-take, length-drop, e)) λ i h.
    let h' : i < n = omega (arith, length-take n (drop a s)) in
    get_or-take n (drop a s) i 0 h' ∙ get_or-drop a s i 0
    ∙ same (a + i) (omega arith) (omega arith)
    ∙ sym (get_or-take n (drop a t) i 0 h' ∙ get_or-drop a t i 0)

-- a part of a part
pub part_part : (s : List ℕ) (a n b m : ℕ) → b + m ≤ n → a + n ≤ length s → part (part s a n) b m ≡ part s (a + b) m
unfolding part
part_part s a n b m h fits =
    ext_get_or 0 (take m (drop b (take n (drop a s)))) (take m (drop (a + b) s))
    (simp (length-take, length-drop) (omega arith)) λ i l.
    let l' : i < m = omega (arith, length-take m (drop b (take n (drop a s)))) in
    get_or-take m (drop b (take n (drop a s))) i 0 l' ∙ get_or-drop b (take n (drop a s)) i 0
    ∙ get_or-take n (drop a s) (b + i) 0 (omega arith) ∙ get_or-drop a s (b + i) 0
    ∙ ap (λ (k : ℕ). get_or s k 0) (omega arith)
    ∙ sym (get_or-take m (drop (a + b) s) i 0 l' ∙ get_or-drop (a + b) s i 0)

pub get_d_part : (s : List ℕ) (a n i : ℕ) → i < n → get_or (part s a n) i 0 ≡ get_or s (a + i) 0
unfolding part
get_d_part s a n i h = get_or-take n (drop a s) i 0 h ∙ get_or-drop a s i 0

-- a patch that lies within the memory
module _ (s : List ℕ) (at : ℕ) (bs : List ℕ) (fits : at + length bs ≤ length s) where
  pub length_patch : length (patch s at bs) ≡ length s
  unfolding patch
  length_patch = simp (length-append, length-take, length-drop) (omega arith)

  head_length : length (take at s) ≡ at
  head_length = length-take-le at s (omega arith)

  pub patch_before : (k : ℕ) → k < at → get_or (patch s at bs) k 0 ≡ get_or s k 0
  unfolding patch
  patch_before k h = get_or-append (take at s) _ 0 k (omega (arith, head_length)) ∙ get_or-take at s k 0 h

  pub patch_inside : (j : ℕ) → j < length bs → get_or (patch s at bs) (at + j) 0 ≡ get_or bs j 0
  unfolding patch
  patch_inside j h =
      ap (λ (a : ℕ). get_or (take at s ++ (bs ++ drop (length bs) (drop at s))) (a + j) 0) (sym head_length)
      ∙ get_or-append-add (take at s) _ j 0 ∙ get_or-append bs _ 0 j h

  pub patch_behind : (k : ℕ) → at + length bs ≤ k → get_or (patch s at bs) k 0 ≡ get_or s k 0
  unfolding patch
  patch_behind k h =
      let m : ℕ = k - (at + length bs) in
      let e : k ≡ length (take at s) + (length bs + m) = omega (arith, head_length) in
      ap (λ (a : ℕ). get_or (take at s ++ (bs ++ drop (length bs) (drop at s))) a 0) e
      ∙ get_or-append-add (take at s) _ (length bs + m) 0 ∙ get_or-append-add bs _ m 0
      ∙ get_or-drop (length bs) (drop at s) m 0 ∙ get_or-drop at s (length bs + m) 0
      ∙ ap (λ (a : ℕ). get_or s a 0) (omega arith)

  -- the part that was replaced holds what was put there
  pub part_patched : (n : ℕ) → length bs ≡ n → part (patch s at bs) at n ≡ bs
  unfolding part patch
  part_patched n e =
      ap (take n) (drop_at (take at s) (bs ++ drop (length bs) (drop at s)) at head_length) ∙ take_at bs _ n e

  -- a part that lies elsewhere is as it was
  pub part_elsewhere : (a n : ℕ) → (a + n ≤ at) ⊎ (at + length bs ≤ a) → part (patch s at bs) a n ≡ part s a n
  part_elsewhere a n away =
      part_ext (patch s at bs) s a n length_patch λ k lo hi.
      ⊎_elim (λ l. patch_before k (omega arith)) (λ r. patch_behind k (omega arith)) away

-- a part put back as it was
pub patch_self : (s : List ℕ) (a n : ℕ) → a + n ≤ length s → patch s a (part s a n) ≡ s
unfolding part patch
patch_self s a n h =
    ap (λ (k : ℕ). take a s ++ (take n (drop a s) ++ drop k (drop a s))) (length_part s a n h)
    ∙ ap (λ (l : List ℕ). take a s ++ l) (take-append-drop n (drop a s)) ∙ take-append-drop a s

-- one patch behind another is one patch
pub patch_join : (s : List ℕ) (a : ℕ) (xs ys : List ℕ) → a + (length xs + length ys) ≤ length s
    → patch (patch s a xs) (a + length xs) ys ≡ patch s a (xs ++ ys)
unfolding patch
patch_join s a xs ys h =
    let p : List ℕ = take a s ++ xs in
    let r : List ℕ = drop (length xs) (drop a s) in
    let hp : length p ≡ a + length xs = simp (length-append, length-take) (omega arith) in
    ap (λ (q : List ℕ). take (a + length xs) q ++ (ys ++ drop (length ys) (drop (a + length xs) q))) (sym (append_assoc (take a s) xs r))
    ∙ ap (λ (q : List ℕ). q ++ (ys ++ drop (length ys) (drop (a + length xs) (p ++ r)))) (take_at p r (a + length xs) hp)
    ∙ ap (λ (q : List ℕ). p ++ (ys ++ drop (length ys) q)) (drop_at p r (a + length xs) hp)
    ∙ simp (append_assoc, length-append, drop-drop, add_assoc)

-- a patch of a part, put back
pub patch_within : (s : List ℕ) (a n b : ℕ) (bs : List ℕ) → b + length bs ≤ n → a + n ≤ length s
    → patch s a (patch (part s a n) b bs) ≡ patch s (a + b) bs
unfolding part patch
patch_within s a n b bs h fits =
    let x : List ℕ = drop a s in
    let w : List ℕ = patch (take n x) b bs in
    let hw : length w ≡ n = length_patch (part s a n) b bs (omega (arith, length_part s a n fits)) ∙ length_part s a n fits in
    let rest : drop (length bs) (drop b (take n x)) ++ drop n x ≡ drop (length bs) (drop b x) =
    sym (drop-append-le (length bs) (drop b (take n x)) (drop n x) (simp (length-drop, length-take) (omega arith)))
    ∙ ap (drop (length bs)) (sym (drop-append-le b (take n x) (drop n x) (simp (length-drop, length-take) (omega arith))))
    ∙ ap (λ (q : List ℕ). drop (length bs) (drop b q)) (take-append-drop n x) in
    ap (λ (k : ℕ). take a s ++ (w ++ drop k x)) hw
    ∙ (simp append_assoc)
    ∙ ap (λ (q : List ℕ). take a s ++ (take b (take n x) ++ (bs ++ q))) rest
    ∙ ap (λ (q : List ℕ). take a s ++ (q ++ (bs ++ drop (length bs) (drop b x)))) (take-take b n x (omega arith))
    ∙ simp (take-add, ← drop-drop, append_assoc)

-- ---- numbers

pub length_le : (n v : ℕ) → length (le n v) ≡ n
unfolding le
length_le zero v = refl
length_le (suc n) v = ap suc (length_le n (v / 256))

pub num_le : (n v : ℕ) → v < 256 ^ n → num (le n v) ≡ v
unfolding le num
num_le zero v h = omega arith
num_le (suc n) v h =
    let small : v / 256 < 256 ^ n = omega (arith, pow-succ' 256 n) in
    omega (arith, num_le n (v / 256) small)

-- std's words for a number and its eight bytes
pub num_of_le : (s : List ℕ) (at : ℕ) → at + 8 ≤ length s → from_le_bytes w64 (take 8 (drop at s)) ≡ num (take 8 (drop at s))
unfolding num part
num_of_le s at h = go (take 8 (drop at s)) (length_part s at 8 h)
  where
    go : (bs : List ℕ) → length bs ≡ 8 → from_le_bytes w64 bs ≡ num bs
    go [] l = absurd (omega arith)
    go (a ∷ []) l = absurd (omega arith)
    go (a ∷ b ∷ []) l = absurd (omega arith)
    go (a ∷ b ∷ c ∷ []) l = absurd (omega arith)
    go (a ∷ b ∷ c ∷ d ∷ []) l = absurd (omega arith)
    go (a ∷ b ∷ c ∷ d ∷ e ∷ []) l = absurd (omega arith)
    go (a ∷ b ∷ c ∷ d ∷ e ∷ f ∷ []) l = absurd (omega arith)
    go (a ∷ b ∷ c ∷ d ∷ e ∷ f ∷ g ∷ []) l = absurd (omega arith)
    go (a ∷ b ∷ c ∷ d ∷ e ∷ f ∷ g ∷ h ∷ []) l = omega arith
    go (a ∷ b ∷ c ∷ d ∷ e ∷ f ∷ g ∷ h ∷ i ∷ bs) l = absurd (omega arith)

pub le_of_le : (v : ℕ) → to_le_bytes w64 v ≡ le 8 v
unfolding le
le_of_le v = cc (two, three, four, five, six, seven)
  where
    two : v / 65536 ≡ v / 256 / 256
    two = omega arith

    three : v / 16777216 ≡ v / 256 / 256 / 256
    three = omega arith

    four : v / 4294967296 ≡ v / 256 / 256 / 256 / 256
    four = omega arith

    five : v / 1099511627776 ≡ v / 256 / 256 / 256 / 256 / 256
    five = omega arith

    six : v / 281474976710656 ≡ v / 256 / 256 / 256 / 256 / 256 / 256
    six = omega arith

    seven : v / 72057594037927936 ≡ v / 256 / 256 / 256 / 256 / 256 / 256 / 256
    seven = omega arith

-- a store of one byte
pub set_patch : (s : List ℕ) (at b : ℕ) → at < length s → set s at b ≡ patch s at (b ∷ [])
unfolding patch
set_patch s at b h = set_split s at b h ∙ ap (λ (l : List ℕ). take at s ++ (b ∷ l)) (sym (drop-drop 1 at s ∙ ap (λ (k : ℕ). drop k s) (add-one at)))

-- a part that was lent, `&mut s[a..a + n]`, and came back as t: the whole is patched with t
pub put_part : (s t : List ℕ) (a n : ℕ) → length t ≡ n → put_mid a (a + n - a) s t ≡ patch s a t
unfolding patch
put_part s t a n e =
    let k : a + n - a ≡ length t = omega arith in
    ap (λ (m : ℕ). take a s ++ (t ++ drop m (drop a s))) k

-- ---- cases on numbers

pub less_or : (a b : ℕ) → (a < b) ⊎ (b ≤ a)
less_or a b = go (ltb a b) refl
  where
    go : (t : Bool) → ltb a b ≡ t → (a < b) ⊎ (b ≤ a)
    go true e = inl (ltb-true a b e)
    go false e = inr (ltb-false a b e)

pub same_or : (a b : ℕ) → (a ≡ b) ⊎ (a ≡ b → ⊥)
same_or a b = go (eqb a b) refl
  where
    go : (t : Bool) → eqb a b ≡ t → (a ≡ b) ⊎ (a ≡ b → ⊥)
    go true e = inl (eqb-true a b e)
    go false e = inr (eqb-false a b e)

pub apart : (a b : ℕ) → (a ≡ b → ⊥) → (a < b) ⊎ (b < a)
apart a b other = ⊎_elim (λ l. inl l) (λ g. ⊎_elim (λ e. absurd (other (sym e))) (λ l. inr l) (eq-or-lt_of_le g)) (less_or a b)

pub says_yes : {P : Type 0} → P → Decides true P
says_yes p = (λ e. p, λ q. refl)

pub says_no : {P : Type 0} → (P → ⊥) → Decides false P
says_no n = (λ e. absurd (let z : ◌≡◌ {A = ℕ} 0 1 = cc in omega arith), λ p. absurd (n p))

-- two stores, one behind the other
pub set_two : (s : List ℕ) (at x y : ℕ) → at + 2 ≤ length s → set (set s at x) (at + 1) y ≡ patch s at (x ∷ y ∷ [])
set_two s at x y h =
    let in1 : at + 1 < length (set s at x) = simp length-set (omega arith) in
    set_patch (set s at x) (at + 1) y in1
    ∙ ap (λ (l : List ℕ). patch l (at + 1) (y ∷ [])) (set_patch s at x (omega arith))
    ∙ patch_join s at (x ∷ []) (y ∷ []) (omega arith)

-- ---- a patch, seen from a part

-- the part that a patch lies in is patched
pub part_inside : (s : List ℕ) (a n b : ℕ) (bs : List ℕ) → b + length bs ≤ n → a + n ≤ length s
    → part (patch s (a + b) bs) a n ≡ patch (part s a n) b bs
part_inside s a n b bs h fits =
    let w : List ℕ = patch (part s a n) b bs in
    let hw : length w ≡ n = length_patch (part s a n) b bs (omega (arith, length_part s a n fits)) ∙ length_part s a n fits in
    ap (λ (l : List ℕ). part l a n) (sym (patch_within s a n b bs h fits)) ∙ part_patched s a w (omega arith) n hw

-- what lies behind a patch is as it was
pub drop_behind : (s : List ℕ) (at : ℕ) (bs : List ℕ) (n : ℕ) → at + length bs ≤ n → n ≤ length s → drop n (patch s at bs) ≡ drop n s
drop_behind s at bs n h fits =
    ext_get_or 0 (drop n (patch s at bs)) (drop n s)
    (length-drop n (patch s at bs) ∙ ap (λ (m : ℕ). m - n) (length_patch s at bs (omega arith)) ∙ sym (length-drop n s)) λ i l.
    get_or-drop n (patch s at bs) i 0 ∙ patch_behind s at bs (omega arith) (n + i) (omega arith) ∙ sym (get_or-drop n s i 0)

-- what `&s[a..a + n]` lends
pub lent : (s : List ℕ) (a n : ℕ) → take (a + n - a) (drop a s) ≡ part s a n
unfolding part
lent s a n = let k : a + n - a ≡ n = omega arith in ap (λ (m : ℕ). take m (drop a s)) k

-- ---- memory that holds one byte throughout

pub part_replicate : (m b a n : ℕ) → a + n ≤ m → part (replicate m b) a n ≡ replicate n b
part_replicate m b a n h =
    let long : a + n ≤ length (replicate m b) = omega (arith, length-replicate m b) in
    ext_get_or 0 (part (replicate m b) a n) (replicate n b) (length_part (replicate m b) a n long ∙ sym (length-replicate n b)) λ i l.
    let l' : i < n = omega (arith, length_part (replicate m b) a n long) in
    get_d_part (replicate m b) a n i l' ∙ get_or-replicate m (a + i) b 0 (omega arith) ∙ sym (get_or-replicate n i b 0 l')

-- a beginning that was lent, `&mut s[..n]`, and came back as t
pub put_front : (s t : List ℕ) (n : ℕ) → length t ≡ n → t ++ drop n s ≡ patch s 0 t
unfolding patch
put_front s t n e = ap (λ (m : ℕ). t ++ drop m s) (sym e)

-- ---- a copy, byte by byte

-- src's first k bytes have been copied into s from at, which gives t
pub record Copied (s : List ℕ) (at : ℕ) (src : List ℕ) (k : ℕ) (t : List ℕ) : Type 0 where
  pub within : k ≤ length src
  pub long : length t ≡ length s
  pub is : t ≡ patch s at (take k src)

pub copied_none : (s : List ℕ) (at : ℕ) (src : List ℕ) → Copied s at src 0 s
unfolding patch
copied_none s at src = record { within = omega arith; long = refl; is = sym (take-append-drop at s) }

pub copied_more : (s : List ℕ) (at : ℕ) (src : List ℕ) (k : ℕ) (t : List ℕ) → at + length src ≤ length s → k < length src
    → Copied s at src k t → Copied s at src (k + 1) (set t (at + k) (get_or src k 0))
copied_more s at src k t fits more done =
    let b : ℕ = get_or src k 0 in
    let front : List ℕ = take k src in
    let n : length front ≡ k = length-take-le k src (omega arith) in
    let e : take k src ++ (b ∷ []) ≡ take (k + 1) src = sym (ap (λ (m : ℕ). take m src) (add-one k) ∙ take-suc src k 0 more) in
    record {
      within = omega arith;
      long = length-set t (at + k) b ∙ done.long;
      is =
          set_patch t (at + k) b (omega (arith, done.long))
          ∙ ap (λ (u : List ℕ). patch u (at + k) (b ∷ [])) done.is
          ∙ ap (λ (m : ℕ). patch (patch s at front) (at + m) (b ∷ [])) (sym n)
          ∙ patch_join s at front (b ∷ []) (omega arith) ∙ ap (patch s at) e;
    }

pub copied_all : (s : List ℕ) (at : ℕ) (src : List ℕ) (k : ℕ) (t : List ℕ) → length src ≤ k → Copied s at src k t → t ≡ patch s at src
copied_all s at src k t h done = done.is ∙ ap (patch s at) (take_all k src h)
