-- The laws of `specs/Table.antt`. Assumes nothing.
use Rattle.std.specs.Prelude.{None, Some}
use mathlib.Core.Path.{◌≡◌, refl, sym, ap, ◌∙◌}
use mathlib.Core.Logic.{⊎_elim, ◌⊎◌, inl, inr}
use mathlib.Core.Bool.{Bool, true, false, false≢true}
use mathlib.Core.List.{List, [], ◌∷◌}
use Prim.Native.Nat.{ℕ, zero, suc, ◌+◌, ◌-◌, ◌*◌, ◌≤◌, ◌<◌}
use native.Mathlib.Nat.{add-zero, zero-add}
use native.Mathlib.Omega.{arith}
use lib.Dec.{eqb}
use lib.ListN.{length, get_or, set, take, drop, length-set}
use lib.Seq.{take-length, ext_get_or, get_or-set_same, get_or-set_other}
use borrow.Author.Tests.{eq-eqb, ne_eqb, eqb-true}
use Rattle.memory.specs.Bytes.{part, patch}
use Rattle.memory.proofs.Laws.{length_patch, patch_inside, get_d_part, length_part, part_part, part_patched, part_elsewhere, part_inside, lent, patch_join, set_two, apart, less_or, same_or}
use Rattle.slots.specs.Table.{slot, slots_from, slots, key_of, is_used, both, same, holds, pick, first_where}

-- ---- the first slot that passes a test

module _ (s : List ℕ) (test : List ℕ → Bool) where
  step_no : (i n : ℕ) → test (slot s i) ≡ false → first_where test i (slots_from s i (suc n)) ≡ first_where test (i + 1) (slots_from s (i + 1) n)
  unfolding slots_from first_where pick
  step_no i n e = ap (λ (t : Bool). pick t (Some i) (first_where test (i + 1) (slots_from s (i + 1) n))) e

  step_yes : (i n : ℕ) → test (slot s i) ≡ true → first_where test i (slots_from s i (suc n)) ≡ Some i
  unfolding slots_from first_where pick
  step_yes i n e = ap (λ (t : Bool). pick t (Some i) (first_where test (i + 1) (slots_from s (i + 1) n))) e

  here_from : (n i j : ℕ) → i ≤ j → j < i + n → test (slot s j) ≡ true → ((k : ℕ) → i ≤ k → k < j → test (slot s k) ≡ false)
      → first_where test i (slots_from s i n) ≡ Some j
  here_from zero i j lo hi hit none = absurd (omega arith)
  here_from (suc n) i j lo hi hit none =
      ⊎_elim
      (λ (l : i < j). step_no i n (none i (omega arith) l) ∙ here_from n (i + 1) j (omega arith) (omega arith) hit (λ k a b. none k (omega arith) b))
      (λ g. let e : j ≡ i = omega arith in step_yes i n (ap (λ (k : ℕ). test (slot s k)) (sym e) ∙ hit) ∙ ap Some (sym e))
      (less_or i j)

  none_from : (n i : ℕ) → ((k : ℕ) → i ≤ k → k < i + n → test (slot s k) ≡ false) → first_where test i (slots_from s i n) ≡ None
  unfolding slots_from first_where
  none_from zero i none = refl
  none_from (suc n) i none = step_no i n (none i (omega arith) (omega arith)) ∙ none_from n (i + 1) (λ k a b. none k (omega arith) (omega arith))

  pub first_here : (c i : ℕ) → i < c → test (slot s i) ≡ true → ((k : ℕ) → k < i → test (slot s k) ≡ false) → first_where test 0 (slots s c) ≡ Some i
  first_here c i h hit none = here_from c 0 i (omega arith) (omega arith) hit (λ k a b. none k b)

  pub first_none : (c : ℕ) → ((k : ℕ) → k < c → test (slot s k) ≡ false) → first_where test 0 (slots s c) ≡ None
  first_none c none = none_from c 0 (λ k a b. none k (omega arith))

-- what was found: the first of the n slots from i that passes
pub record FirstAt (s : List ℕ) (test : List ℕ → Bool) (i n j : ℕ) : Type 0 where
  pub from : i ≤ j
  pub below : j < i + n
  pub passes : test (slot s j) ≡ true
  pub before : (k : ℕ) → i ≤ k → k < j → test (slot s k) ≡ false

found_step : (s : List ℕ) (test : List ℕ → Bool) (i n j : ℕ) (t : Bool) → test (slot s i) ≡ t
    → first_where test i (slots_from s i (suc n)) ≡ Some j
    → (first_where test (i + 1) (slots_from s (i + 1) n) ≡ Some j → FirstAt s test (i + 1) n j) → FirstAt s test i (suc n) j
found_step s test i n j true q e rest =
    let w : Some i ≡ Some j = sym (step_yes s test i n q) ∙ e in
    let v : i ≡ j = cc in
    record { from = omega arith; below = omega arith; passes = ap (λ (k : ℕ). test (slot s k)) (sym v) ∙ q; before = λ k a b. absurd (omega arith) }
found_step s test i n j false q e rest =
    let r = rest (sym (step_no s test i n q) ∙ e) in
    record {
      from = omega (arith, r.from);
      below = omega (arith, r.below);
      passes = r.passes;
      before = λ k a b.
          ⊎_elim (λ (l : i < k). r.before k (omega arith) b)
          (λ g. let v : k ≡ i = omega arith in ap (λ (m : ℕ). test (slot s m)) v ∙ q) (less_or i k);
    }

pub found_at : (s : List ℕ) (test : List ℕ → Bool) (n i j : ℕ) → first_where test i (slots_from s i n) ≡ Some j → FirstAt s test i n j
unfolding slots_from first_where
found_at s test zero i j e = absurd (let z : ◌≡◌ {A = ℕ} 0 1 = cc in omega arith)
found_at s test (suc n) i j e = found_step s test i n j (test (slot s i)) refl e (found_at s test n (i + 1) j)

-- ---- keys

both_no : (a b : Bool) → b ≡ false → both a b ≡ false
unfolding both
both_no true b e = e
both_no false b e = refl

both_yes : (a b : Bool) → both a b ≡ true → (a ≡ true) × (b ≡ true)
unfolding both
both_yes true b e = (refl, e)
both_yes false b e = absurd (false≢true e)

same_refl : (xs : List ℕ) → same xs xs ≡ true
unfolding same both
same_refl [] = refl
same_refl (x ∷ xs) = ap (λ (t : Bool). both t (same xs xs)) (eq-eqb x x refl) ∙ same_refl xs

pub same_true : (xs ys : List ℕ) → same xs ys ≡ true → xs ≡ ys
unfolding same
same_true [] [] e = refl
same_true [] (y ∷ ys) e = absurd (false≢true e)
same_true (x ∷ xs) [] e = absurd (false≢true e)
same_true (x ∷ xs) (y ∷ ys) e =
    let h = both_yes (eqb x y) (same xs ys) e in
    let p : x ≡ y = eqb-true x y h.0 in
    let q : xs ≡ ys = same_true xs ys h.1 in
    cc

same_no : (xs ys : List ℕ) → (xs ≡ ys → ⊥) → same xs ys ≡ false
same_no xs ys n = go (same xs ys) refl
  where
    go : (t : Bool) → same xs ys ≡ t → same xs ys ≡ false
    go true e = absurd (n (same_true xs ys e))
    go false e = e

pub holds_true : (key b : List ℕ) → holds key b ≡ true → (is_used b ≡ true) × (key_of b ≡ key)
unfolding holds
holds_true key b e = let h = both_yes (is_used b) (same (key_of b) key) e in (h.0, same_true (key_of b) key h.1)

pub holds_own : (b : List ℕ) → is_used b ≡ true → holds (key_of b) b ≡ true
unfolding holds both
holds_own b e = ap (λ (t : Bool). both t (same (key_of b) (key_of b))) e ∙ same_refl (key_of b)

-- slot i's bytes where they lie in the state. Its key's length is a byte.
module _ (s : List ℕ) (i : ℕ) (fits : 256 + 624 * i + 624 ≤ length s) where
  at_byte : (k : ℕ) → k < 624 → get_or (slot s i) k 0 ≡ get_or s (256 + 624 * i + k) 0
  unfolding slot
  at_byte k h = get_d_part s (256 + 624 * i) 624 k h

  used_byte : get_or (slot s i) 0 0 ≡ get_or s (256 + 624 * i) 0
  used_byte = at_byte 0 (omega arith) ∙ ap (λ (k : ℕ). get_or s k 0) (add-zero (256 + 624 * i))

  pub used_yes : get_or s (256 + 624 * i) 0 ≡ 1 → is_used (slot s i) ≡ true
  unfolding is_used
  used_yes e = eq-eqb (get_or (slot s i) 0 0) 1 (used_byte ∙ e)

  pub used_no : (get_or s (256 + 624 * i) 0 ≡ 1 → ⊥) → is_used (slot s i) ≡ false
  unfolding is_used
  used_no n = ne_eqb (get_or (slot s i) 0 0) 1 (λ e. n (sym used_byte ∙ e))

  module _ (byte : get_or s (256 + 624 * i + 1) 0 < 256) where
    key_length : length (key_of (slot s i)) ≡ get_or s (256 + 624 * i + 1) 0
    unfolding key_of slot
    key_length =
        length_part (slot s i) 2 (get_or (slot s i) 1 0)
        (omega (arith, at_byte 1 (omega arith), length_part s (256 + 624 * i) 624 fits)) ∙ at_byte 1 (omega arith)

    key_at_lem : (k : ℕ) → k < get_or s (256 + 624 * i + 1) 0 → get_or (key_of (slot s i)) k 0 ≡ get_or s (256 + 624 * i + 2 + k) 0
    unfolding key_of
    key_at_lem k h =
        let e : 256 + 624 * i + (2 + k) ≡ 256 + 624 * i + 2 + k = omega arith in
        get_d_part (slot s i) 2 (get_or (slot s i) 1 0) k (omega (arith, at_byte 1 (omega arith)))
        ∙ at_byte (2 + k) (omega arith) ∙ ap (λ (m : ℕ). get_or s m 0) e

    module _ (key : List ℕ) where
      pub not_used : (get_or s (256 + 624 * i) 0 ≡ 1 → ⊥) → holds key (slot s i) ≡ false
      unfolding holds both
      not_used n = ap (λ (t : Bool). both t (same (key_of (slot s i)) key)) (used_no n)

      not_key : (key_of (slot s i) ≡ key → ⊥) → holds key (slot s i) ≡ false
      unfolding holds
      not_key n = both_no (is_used (slot s i)) (same (key_of (slot s i)) key) (same_no (key_of (slot s i)) key n)

      pub not_long : (get_or s (256 + 624 * i + 1) 0 ≡ length key → ⊥) → holds key (slot s i) ≡ false
      not_long n = not_key (λ e. n (sym key_length ∙ ap length e))

      pub matches : get_or s (256 + 624 * i) 0 ≡ 1 → get_or s (256 + 624 * i + 1) 0 ≡ length key
          → ((k : ℕ) → k < length key → get_or s (256 + 624 * i + 2 + k) 0 ≡ get_or key k 0) → holds key (slot s i) ≡ true
      matches used long bytes =
          let e : key_of (slot s i) ≡ key =
          ext_get_or 0 (key_of (slot s i)) key (key_length ∙ long)
          (λ k h. key_at_lem k (omega (arith, key_length)) ∙ bytes k (omega (arith, key_length))) in
          ap (λ (l : List ℕ). holds l (slot s i)) (sym e) ∙ holds_own (slot s i) (used_yes used)

-- the key where it lies in the state
pub key_part : (s : List ℕ) (i n : ℕ) → 256 + 624 * i + 624 ≤ length s → n < 256 → get_or s (256 + 624 * i + 1) 0 ≡ n
    → key_of (slot s i) ≡ part s (256 + 624 * i + 2) n
unfolding key_of slot
key_part s i n fits byte e =
    ap (part (slot s i) 2) (at_byte s i fits 1 (omega arith) ∙ e) ∙ part_part s (256 + 624 * i) 624 2 n (omega arith) fits

-- the same, as `&state[a..a + n]` lends it
pub key_lent : (s : List ℕ) (i : ℕ) → 256 + 624 * i + 624 ≤ length s → get_or s (256 + 624 * i + 1) 0 < 256
    → take (256 + 624 * i + 2 + get_or s (256 + 624 * i + 1) 0 - (256 + 624 * i + 2)) (drop (256 + 624 * i + 2) s) ≡ key_of (slot s i)
key_lent s i fits byte = lent s (256 + 624 * i + 2) (get_or s (256 + 624 * i + 1) 0) ∙ sym (key_part s i _ fits byte refl)

-- ---- the slots after a patch

pub length_slots : (s : List ℕ) (n i : ℕ) → length (slots_from s i n) ≡ n
unfolding slots_from
length_slots s zero i = refl
length_slots s (suc n) i = ap suc (length_slots s n (i + 1))

slots_at : (s : List ℕ) (n i k : ℕ) → k < n → get_or (slots_from s i n) k [] ≡ slot s (i + k)
unfolding slots_from
slots_at s zero i k h = absurd (omega arith)
slots_at s (suc n) i zero h = ap (slot s) (sym (add-zero i))
slots_at s (suc n) i (suc k) h =
    let e : i + 1 + k ≡ i + suc k = omega arith in
    slots_at s n (i + 1) k (omega arith) ∙ ap (slot s) e

pub get_d_slots : (s : List ℕ) (c i : ℕ) → i < c → get_or (slots s c) i [] ≡ slot s i
get_d_slots s c i h = slots_at s c 0 i h ∙ ap (slot s) (zero-add i)

-- two tables are the same where their slots are
pub slots_ext : (s : List ℕ) (c : ℕ) (l : List (List ℕ)) → length l ≡ c → ((i : ℕ) → i < c → slot s i ≡ get_or l i []) → slots s c ≡ l
slots_ext s c l n same =
    ext_get_or [] (slots s c) l (length_slots s c 0 ∙ sym n) λ i h.
    let h' : i < c = omega (arith, length_slots s c 0) in
    get_d_slots s c i h' ∙ same i h'

-- a patch that lies in slot i changes that slot alone
pub slots_patched : (s : List ℕ) (c i a : ℕ) (bs : List ℕ) → i < c → 256 + 624 * c ≤ length s → a + length bs ≤ 624
    → slots (patch s (256 + 624 * i + a) bs) c ≡ set (slots s c) i (patch (slot s i) a bs)
unfolding slot
slots_patched s c i a bs low fits h =
    slots_ext (patch s (256 + 624 * i + a) bs) c (set (slots s c) i (patch (slot s i) a bs))
    (length-set (slots s c) i (patch (slot s i) a bs) ∙ length_slots s c 0) λ j hj.
    ⊎_elim
    (λ e.
    ap (λ (k : ℕ). part (patch s (256 + 624 * i + a) bs) (256 + 624 * k) 624) e
    ∙ part_inside s (256 + 624 * i) 624 a bs h (omega arith)
    ∙ sym (get_or-set_same (slots s c) i (patch (slot s i) a bs) [] (omega (arith, length_slots s c 0)))
    ∙ ap (λ (k : ℕ). get_or (set (slots s c) i (patch (slot s i) a bs)) k []) (sym e))
    (λ other.
    part_elsewhere s (256 + 624 * i + a) bs (omega arith) (256 + 624 * j) 624
    (⊎_elim (λ l. inl (omega arith)) (λ r. inr (omega arith)) (apart j i other))
    ∙ sym (get_or-set_other (slots s c) i j (patch (slot s i) a bs) [] other ∙ get_d_slots s c j hj))
    (same_or j i)

-- a patch that lies in no slot changes none
pub slots_elsewhere : (s : List ℕ) (c at : ℕ) (bs : List ℕ) → at + length bs ≤ length s → 256 + 624 * c ≤ length s
    → (at + length bs ≤ 256) ⊎ (256 + 624 * c ≤ at) → slots (patch s at bs) c ≡ slots s c
unfolding slot
slots_elsewhere s c at bs fits size away =
    slots_ext (patch s at bs) c (slots s c) (length_slots s c 0) λ j hj.
    part_elsewhere s at bs fits (256 + 624 * j) 624 (⊎_elim (λ l. inr (omega arith)) (λ r. inl (omega arith)) away)
    ∙ sym (get_d_slots s c j hj)

-- ---- nothing was found

none_step : (s : List ℕ) (test : List ℕ → Bool) (i n : ℕ) (t : Bool) → test (slot s i) ≡ t
    → first_where test i (slots_from s i (suc n)) ≡ None
    → (test (slot s i) ≡ false) × (first_where test (i + 1) (slots_from s (i + 1) n) ≡ None)
none_step s test i n true q e =
    let w : Some i ≡ None = sym (step_yes s test i n q) ∙ e in
    absurd (let z : ◌≡◌ {A = ℕ} 0 1 = cc in omega arith)
none_step s test i n false q e = (q, sym (step_no s test i n q) ∙ e)

none_at : (s : List ℕ) (test : List ℕ → Bool) (n i : ℕ) → first_where test i (slots_from s i n) ≡ None
    → (k : ℕ) → i ≤ k → k < i + n → test (slot s k) ≡ false
none_at s test zero i e k lo hi = absurd (omega arith)
none_at s test (suc n) i e k lo hi =
    let h = none_step s test i n (test (slot s i)) refl e in
    ⊎_elim (λ (l : i < k). none_at s test n (i + 1) h.1 k (omega arith) (omega arith))
    (λ g. let q : k ≡ i = omega arith in ap (λ (m : ℕ). test (slot s m)) q ∙ h.0) (less_or i k)

pub not_found : (s : List ℕ) (test : List ℕ → Bool) (c : ℕ) → first_where test 0 (slots s c) ≡ None → (k : ℕ) → k < c → test (slot s k) ≡ false
not_found s test c e k h = none_at s test c 0 e k (omega arith) (omega arith)

-- ---- a slot under a new key

module _ (b key : List ℕ) (fits : 2 + length key ≤ length b) where
  entry_fits : 0 + length (1 ∷ length key ∷ key) ≤ length b
  entry_fits = omega arith

  pub keyed_used : is_used (patch b 0 (1 ∷ length key ∷ key)) ≡ true
  unfolding is_used
  keyed_used = eq-eqb _ 1 (patch_inside b 0 (1 ∷ length key ∷ key) entry_fits 0 (omega arith))

  pub keyed_key : key_of (patch b 0 (1 ∷ length key ∷ key)) ≡ key
  unfolding key_of part
  keyed_key =
      let bs : List ℕ = 1 ∷ length key ∷ key in
      let n : ℕ = length key in
      ap (part (patch b 0 bs) 2) (patch_inside b 0 bs entry_fits 1 (omega arith))
      ∙ sym (part_part (patch b 0 bs) 0 (2 + n) 2 n (omega arith) (omega (arith, length_patch b 0 bs entry_fits)))
      ∙ ap (λ (l : List ℕ). part l 2 n) (part_patched b 0 bs entry_fits (2 + n) (omega arith))
      ∙ take-length key

-- two bytes stored, and a key behind them
pub key_put : (s : List ℕ) (base n : ℕ) (key : List ℕ) → base + (2 + length key) ≤ length s
    → patch (set (set s base 1) (base + 1) n) (base + 2) key ≡ patch s base (1 ∷ n ∷ key)
key_put s base n key h =
    ap (λ (l : List ℕ). patch l (base + 2) key) (set_two s base 1 n (omega arith)) ∙ patch_join s base (1 ∷ n ∷ []) key h
