-- The order of byte strings as `bytes_before` decides it, and the order of two slots. Assumes nothing.
use mathlib.Core.Path.{◌≡◌, refl, sym, ap, ◌∙◌}
use mathlib.Core.Bool.{Bool, true, false, not}
use mathlib.Core.List.{List, ◌∷◌}
use Prim.Native.Nat.{ℕ, suc, ◌+◌, ◌≤◌, ◌<◌}
use native.Mathlib.Numerals.{add-one}
use native.Mathlib.Omega.{arith}
use lib.ListN.{length, get_or, drop, drop_of_length-le}
use lib.Seq.{drop-cons}
use borrow.Author.Tests.{lt-ltb, le-ltb, eq-eqb, ne_eqb}
use Rattle.slots.specs.Table.{slot}
use Rattle.table.specs.Due.{end_of}
use Rattle.rules.specs.Order.{at_most}
use Rattle.plan.specs.Steps.{before, key_at, rank_at}

-- ## By the first number

module _ (x y : ℕ) (xs ys : List ℕ) where
  first_less : x < y → at_most (x ∷ xs) (y ∷ ys) ≡ true
  first_less h = rw (lt-ltb x y h)

  first_same : x ≡ y → at_most (x ∷ xs) (y ∷ ys) ≡ at_most xs ys
  first_same h = rw (le-ltb x y (omega arith), eq-eqb x y h)

  first_more : y < x → at_most (x ∷ xs) (y ∷ ys) ≡ false
  first_more h = rw (le-ltb x y (omega arith), ne_eqb x y (λ e. omega arith))

-- ## At place k of both: the first difference decides

module _ (a b : List ℕ) (k : ℕ) where
  pub ended : length b ≤ k → before (drop k a) (drop k b) ≡ false
  ended h = rw (drop_of_length-le b h)

  pub shorter : length a ≤ k → k < length b → before (drop k a) (drop k b) ≡ true
  shorter h l = rw (drop_of_length-le a h, drop-cons b k 0 l)

  pub less : k < length a → k < length b → get_or a k 0 < get_or b k 0 → before (drop k a) (drop k b) ≡ true
  less ha hb l = rw (drop-cons a k 0 ha, drop-cons b k 0 hb) (ap not (first_more (get_or b k 0) (get_or a k 0) (drop (suc k) b) (drop (suc k) a) l))

  pub more : k < length a → k < length b → get_or b k 0 < get_or a k 0 → before (drop k a) (drop k b) ≡ false
  more ha hb l = rw (drop-cons a k 0 ha, drop-cons b k 0 hb) (ap not (first_less (get_or b k 0) (get_or a k 0) (drop (suc k) b) (drop (suc k) a) l))

  pub alike : k < length a → k < length b → get_or b k 0 ≤ get_or a k 0 → get_or a k 0 ≤ get_or b k 0
      → before (drop k a) (drop k b) ≡ before (drop (k + 1) a) (drop (k + 1) b)
  alike ha hb l g =
      rw (add-one k, drop-cons a k 0 ha, drop-cons b k 0 hb)
      (ap not (first_same (get_or b k 0) (get_or a k 0) (drop (suc k) b) (drop (suc k) a) (omega arith)))

-- ## Two slots by key

twice : (b : Bool) → not (not b) ≡ b
twice true = refl
twice false = refl

pub as_key : (s : List ℕ) (i j : ℕ) (a b : List ℕ) → a ≡ key_at s j → b ≡ key_at s i → (r : Bool) → r ≡ before a b
    → not r ≡ at_most (key_at s i) (key_at s j)
as_key s i j a b p q r e = ap not e ∙ twice (at_most b a) ∙ rw (p, q) refl

-- ## Two slots, by end and then key

module _ (s : List ℕ) (i j a b : ℕ) (p : a ≡ end_of (slot s i)) (q : b ≡ end_of (slot s j)) where
  pub sooner : a < b → true ≡ at_most (rank_at s i) (rank_at s j)
  sooner h = sym (first_less (end_of (slot s i)) (end_of (slot s j)) (key_at s i) (key_at s j) (omega arith))

  pub later : b < a → false ≡ at_most (rank_at s i) (rank_at s j)
  later h = sym (first_more (end_of (slot s i)) (end_of (slot s j)) (key_at s i) (key_at s j) (omega arith))

  pub as_keys : a ≤ b → b ≤ a → (r : Bool) → r ≡ at_most (key_at s i) (key_at s j) → r ≡ at_most (rank_at s i) (rank_at s j)
  as_keys h k r e = e ∙ sym (first_same (end_of (slot s i)) (end_of (slot s j)) (key_at s i) (key_at s j) (omega arith))
