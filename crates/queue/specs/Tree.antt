-- The expiry queue: a tournament tree of least due times, its nodes eight bytes each. Leaf i, node c + i, is slot i's due time.
use Rattle.std.specs.Prelude.{ℕ, ◌+◌, ◌-◌, ◌*◌, ◌^◌, ◌≤◌, ◌<◌, min, ◌≡◌, List, length, None, Option, Some}
use Rattle.memory.specs.Bytes.{num, le, part, patch}

unfoldable pub node : List ℕ → ℕ → ℕ
node t k = num (part t (8 * k) 8)

unfoldable pub with_node : List ℕ → ℕ → ℕ → List ℕ
with_node t k v = patch t (8 * k) (le 8 v)

-- node k is the lesser of its children
abbrev pub Lesser : List ℕ → ℕ → Type 0
Lesser t k = node t k ≡ min (node t (2 * k)) (node t (2 * k + 1))

pub record Sound (t : List ℕ) (c : ℕ) : Type 0 where
  pub size : length t ≡ 16 * c
  pub inner : (k : ℕ) → 1 ≤ k → k < c → Lesser t k

-- t' is t with slot's due time replaced, and is sound
pub record DueSet (c slot due : ℕ) (t t' : List ℕ) : Type 0 where
  pub sound : Sound t' c
  pub here : node t' (c + slot) ≡ due
  pub others : (i : ℕ) → i < c → (i ≡ slot → ⊥) → node t' (c + i) ≡ node t (c + i)
  pub spare : node t' 0 ≡ node t 0

-- a slot with the least due time where that is at most limit, and nothing where every due time is later
abbrev pub LeastDue : List ℕ → ℕ → ℕ → Option ℕ → Type 0
LeastDue t c limit (Some i) = (i < c) × (node t (c + i) ≤ limit) × ((j : ℕ) → j < c → node t (c + i) ≤ node t (c + j))
LeastDue t c limit None = (j : ℕ) → j < c → limit < node t (c + j)

-- t' is t with node k the lesser of its children
pub record Refreshed (k : ℕ) (t t' : List ℕ) : Type 0 where
  pub changed : t' ≡ with_node t k (min (node t (2 * k)) (node t (2 * k + 1)))
  pub lesser : Lesser t' k

-- the due time of a slot that is in no queue
abbrev pub never : ℕ
never = 2 ^ 64 - 1

-- a sound tree in which no slot is due
pub record Empty (c : ℕ) (t : List ℕ) : Type 0 where
  pub sound : Sound t c
  pub none : (i : ℕ) → i < c → node t (c + i) ≡ never
