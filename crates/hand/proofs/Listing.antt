-- A list of slots from place k on. Assumes nothing.
use Prim.Native.Nat.{ℕ, zero, suc, ◌+◌, ◌≤◌, ◌<◌}
use mathlib.Core.Path.{◌≡◌}
use mathlib.Core.List.{List, [], ◌∷◌}
use native.Mathlib.Omega.{arith}
use native.Mathlib.Numerals.{add-one}
use lib.ListN.{length, get_or, drop, drop_of_length-le}
use lib.Seq.{drop-cons}
use Rattle.rules.specs.Totals.{All}

-- what holds of all holds of the one at place i
pub listed_at : (P : ℕ → Type 0) (l : List ℕ) (i : ℕ) → All P l → i < length l → P (get_or l i 0)
listed_at P [] i a h = absurd (omega arith)
listed_at P (x ∷ l) zero a h = a.0
listed_at P (x ∷ l) (suc i) a h = listed_at P l i a.1 (omega arith)

module _ (listed : List ℕ) (k : ℕ) where
  pub next_listed : k < length listed → drop k listed ≡ get_or listed k 0 ∷ drop (k + 1) listed
  next_listed h = rw add-one (drop-cons listed k 0 h)

  pub none_listed : length listed ≤ k → drop k listed ≡ []
  none_listed h = drop_of_length-le listed h
