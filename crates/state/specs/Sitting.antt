-- Flows that sit in places, some of which are used: what holds of each used place, or of each two, holds of the flows. Assumes nothing.
use Rattle.std.specs.Prelude.{ℕ, suc, ◌≤◌, ◌<◌, ◌≡◌, refl, Bool, true, false, cond, List, [], ◌∷◌, map, length, get_or, None, Option, Some}
use Rattle.std.proofs.Common.{arith}
use Rattle.rules.specs.Rules.{Terms, Flow}
use Rattle.rules.specs.Slots.{occupied}
use Rattle.rules.specs.Sound.{Pairs}
use Rattle.rules.specs.Totals.{All}

module _ {B : Type 0} (blank : B) (W : Terms) (used : B → Bool) (flow : B → Flow W) where
  abbrev pub sits : B → Option (Flow W)
  sits b = cond (used b) (Some (flow b)) None

  -- each used place from the first on
  abbrev Each : (Flow W → Type 0) → List B → Type 0
  Each P l = (i : ℕ) → i < length l → used (get_or l i blank) ≡ true → P (flow (get_or l i blank))

  each_rest : (P : Flow W → Type 0) (b : B) (l : List B) → Each P (b ∷ l) → Each P l
  each_rest P b l a i h u = a (suc i) (omega arith) u

  pub all_sit : (P : Flow W → Type 0) (l : List B) → Each P l → All P (occupied W (map sits l))
  all_sit P [] a = tt
  all_sit P (b ∷ l) a = go (used b) refl (all_sit P l (each_rest P b l a))
    where
      go : (t : Bool) → used b ≡ t → All P (occupied W (map sits l)) → All P (occupied W (cond t (Some (flow b)) None ∷ map sits l))
      go true e rest = (a 0 (omega arith) e, rest)
      go false e rest = rest

  pub pairs_sit : (C : Flow W → Flow W → Type 0) (l : List B)
      → ((i j : ℕ) → i < j → j < length l → used (get_or l i blank) ≡ true → used (get_or l j blank) ≡ true → C (flow (get_or l i blank)) (flow (get_or l j blank)))
      → Pairs C (occupied W (map sits l))
  pairs_sit C [] a = tt
  pairs_sit C (b ∷ l) a =
      go (used b) refl (pairs_sit C l (λ i j h k u v. a (suc i) (suc j) (omega arith) (omega arith) u v))
    where
      go : (t : Bool) → used b ≡ t → Pairs C (occupied W (map sits l)) → Pairs C (occupied W (cond t (Some (flow b)) None ∷ map sits l))
      go true e rest = (all_sit (C (flow b)) l (λ j h v. a 0 (suc j) (omega arith) (omega arith) e v), rest)
      go false e rest = rest

  pub few_sit : (l : List B) → length (occupied W (map sits l)) ≤ length l
  few_sit [] = omega arith
  few_sit (b ∷ l) = go (used b) (few_sit l)
    where
      go : (t : Bool) → length (occupied W (map sits l)) ≤ length l → length (occupied W (cond t (Some (flow b)) None ∷ map sits l)) ≤ suc (length l)
      go true h = omega arith
      go false h = omega arith
