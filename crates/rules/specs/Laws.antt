-- What is said of a list by the rank of its elements: no rank twice, in order. The laws stand in proofs/OrderLaws.antt. Assumes nothing.
use Rattle.std.specs.Prelude.{◌≡◌, true, false, ℕ}
use mathlib.Core.List.{List, [], ◌∷◌}
use Rattle.rules.specs.Order.{at_most, equal}
use Rattle.rules.specs.Totals.{All}

-- ## Insertion

module _ {A : Type 0} (rank : A → List ℕ) where
  -- no element has the rank
  abbrev pub Fresh : List ℕ → List A → Type 0
  Fresh k l = All (λ x. equal k (rank x) ≡ false) l

  -- no rank twice
  abbrev pub Distinct : List A → Type 0
  Distinct [] = Unit {0}
  Distinct (x ∷ l) = Fresh (rank x) l × Distinct l

  -- at most every element
  abbrev pub Least : A → List A → Type 0
  Least x l = All (λ y. at_most (rank x) (rank y) ≡ true) l

  -- each element is at most those behind it
  abbrev pub Ordered : List A → Type 0
  Ordered [] = Unit {0}
  Ordered (x ∷ l) = Least x l × Ordered l
