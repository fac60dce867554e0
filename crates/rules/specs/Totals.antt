-- Sums over a list, and a property of all of a list, go through sorting, choosing and taking out. Assumes nothing.
use Rattle.std.specs.Prelude.{◌≡◌, refl, Bool, true, false, not, cond, List, [], ◌∷◌, ◌++◌, map, ℕ, ◌+◌}
use Rattle.std.proofs.Common.{ap, arith}
use Rattle.rules.specs.Order.{at_most, insert, sort, those}

module _ {A : Type 0} where
  -- the sum of a measure over a list
  abbrev pub total : (A → ℕ) → List A → ℕ
  total m [] = 0
  total m (x ∷ xs) = m x + total m xs

  -- a property of each element
  abbrev pub All : (A → Type 0) → List A → Type 0
  All P [] = Unit {0}
  All P (x ∷ xs) = P x × All P xs

  -- whichever way a test goes
  pub either : (P : A → Type 0) (b : Bool) {x y : A} → P x → P y → P (cond b x y)
  either P true p q = p
  either P false p q = q

module _ {A : Type 0} (m : A → ℕ) where
  pub total_append : (l k : List A) → total m (l ++ k) ≡ total m l + total m k
  total_append [] k = omega arith
  total_append (x ∷ xs) k = omega (arith, total_append xs k)

  pub total_insert : (rank : A → List ℕ) (x : A) (l : List A) → total m (insert rank x l) ≡ m x + total m l
  total_insert rank x [] = refl
  total_insert rank x (y ∷ ys) =
      either (λ (l : List A). total m l ≡ m x + (m y + total m ys)) (at_most (rank x) (rank y)) refl (omega (arith, total_insert rank x ys))

  pub total_sort : (rank : A → List ℕ) (l : List A) → total m (sort rank l) ≡ total m l
  total_sort rank [] = refl
  total_sort rank (x ∷ xs) = omega (arith, total_insert rank x (sort rank xs), total_sort rank xs)

  pub total_those : (test : A → Bool) (l : List A) → total m (those test l) + total m (those (λ x. not (test x)) l) ≡ total m l
  total_those test [] = omega arith
  total_those test (x ∷ xs) = split (test x) (m x) _ _ _ (total_those test xs)
    where
      split : (b : Bool) (n : ℕ) (l k : List A) (t : ℕ) → total m l + total m k ≡ t
          → total m (cond b (x ∷ l) l) + total m (cond (not b) (x ∷ k) k) ≡ m x + t
      split true n l k t h = omega arith
      split false n l k t h = omega arith

pub total_map : {A B : Type 0} (m : B → ℕ) (g : A → B) (l : List A) → total m (map g l) ≡ total (λ a. m (g a)) l
total_map m g [] = refl
total_map m g (x ∷ xs) = ap (m (g x) +◌) (total_map m g xs)

module _ {A : Type 0} (P : A → Type 0) where
  pub all_append : (l k : List A) → All P l → All P k → All P (l ++ k)
  all_append [] k a b = b
  all_append (x ∷ xs) k a b = (a.0, all_append xs k a.1 b)

  pub all_insert : (rank : A → List ℕ) (x : A) (l : List A) → P x → All P l → All P (insert rank x l)
  all_insert rank x [] p a = (p, tt)
  all_insert rank x (y ∷ ys) p a =
      either (All P) (at_most (rank x) (rank y)) (p, a) (a.0, all_insert rank x ys p a.1)

  pub all_sort : (rank : A → List ℕ) (l : List A) → All P l → All P (sort rank l)
  all_sort rank [] a = tt
  all_sort rank (x ∷ xs) a = all_insert rank x (sort rank xs) a.0 (all_sort rank xs a.1)

  pub all_those : (test : A → Bool) (l : List A) → All P l → All P (those test l)
  all_those test [] a = tt
  all_those test (x ∷ xs) a = either (All P) (test x) (a.0, all_those test xs a.1) (all_those test xs a.1)

pub all_map : {A B : Type 0} (P : A → Type 0) (Q : B → Type 0) (g : A → B) → ((a : A) → P a → Q (g a)) → (l : List A) → All P l → All Q (map g l)
all_map P Q g h [] a = tt
all_map P Q g h (x ∷ xs) a = (h x a.0, all_map P Q g h xs a.1)

pub all_more : {A : Type 0} (P Q : A → Type 0) → ((a : A) → P a → Q a) → (l : List A) → All P l → All Q l
all_more P Q h [] a = tt
all_more P Q h (x ∷ xs) a = (h x a.0, all_more P Q h xs a.1)
