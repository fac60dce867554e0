-- How many turns the queue's loops take: one for each node from a leaf's parent up to the root, or down to a leaf, and so at most log₂ of the
-- capacity. `set_due` and `first_due` are proved to end with these numbers as the measure that each turn lowers. Assumes nothing.
use Rattle.std.specs.Prelude.{ℕ, zero, suc, ◌+◌, ◌-◌, ◌*◌, ◌/◌, ◌^◌, ◌≤◌, ◌<◌, ◌≡◌, refl}
use Rattle.std.proofs.Common.{ap, arith}
use Rattle.std.proofs.Math.Nat.{pow-succ'}
use Rattle.std.proofs.Math.Arith.{bin_ind}

-- how often k can be halved before it is 0, at most n times
unfoldable pub turns_in : ℕ → ℕ → ℕ
turns_in zero k = 0
turns_in (suc n) zero = 0
turns_in (suc n) (suc k) = suc (turns_in n (suc k / 2))

-- how often k can be halved before it is 0: the nodes from k up to the root
unfoldable pub turns : ℕ → ℕ
turns k = turns_in k k

enough : (n m k : ℕ) → k ≤ n → k ≤ m → turns_in n k ≡ turns_in m k
unfolding turns_in
enough zero zero k h g = refl
enough zero (suc m) zero h g = refl
enough zero (suc m) (suc k) h g = absurd (omega arith)
enough (suc n) zero zero h g = refl
enough (suc n) zero (suc k) h g = absurd (omega arith)
enough (suc n) (suc m) zero h g = refl
enough (suc n) (suc m) (suc k) h g = ap suc (enough n m (suc k / 2) (omega arith) (omega arith))

pub turns_half : (k : ℕ) → 0 < k → turns k ≡ turns (k / 2) + 1
unfolding turns turns_in
turns_half zero h = absurd (omega arith)
turns_half (suc k) h = omega (arith, enough k (suc k / 2) (suc k / 2) (omega arith) (omega arith))

turns_none : turns 0 ≡ 0
unfolding turns turns_in
turns_none = refl

-- one turn less from the node above
pub climbs : (k : ℕ) → 0 < k → turns (k / 2) < turns k
climbs k h = omega (arith, turns_half k h)

-- a later node is no nearer to the root
pub turns_more : (k j : ℕ) → j ≤ k → turns j ≤ turns k
turns_more = bin_ind (λ (k : ℕ). (j : ℕ) → j ≤ k → turns j ≤ turns k) none step
  where
    none : (j : ℕ) → j ≤ 0 → turns j ≤ turns 0
    none zero h = omega arith
    none (suc j) h = absurd (omega arith)

    step : (n : ℕ) → ((j : ℕ) → j ≤ n / 2 → turns j ≤ turns (n / 2)) → (j : ℕ) → j ≤ n → turns j ≤ turns n
    step n above zero h = omega (arith, turns_none)
    step n above (suc j) h =
        omega (arith, turns_half (suc j) (omega arith), turns_half n (omega arith), above (suc j / 2) (omega arith))

-- one turn less from a child
pub descends : (k child c : ℕ) → 1 ≤ k → k < c → child / 2 ≡ k → child < 2 * c → turns (2 * c) - turns child < turns (2 * c) - turns k
descends k child c some low half within =
    let more = turns_half child (omega arith) in
    let same : turns (child / 2) ≡ turns k = ap turns half in
    omega (arith, turns_more (2 * c) child (omega arith))

-- "at most log₂ capacity steps"
pub turns_few : (n k : ℕ) → k < 2 ^ n → turns k ≤ n
turns_few zero zero h = omega (arith, turns_none)
turns_few zero (suc k) h = absurd (omega arith)
turns_few (suc n) zero h = omega (arith, turns_none)
turns_few (suc n) (suc k) h =
    let double : 2 ^ suc n ≡ 2 * 2 ^ n = pow-succ' 2 n in
    omega (arith, turns_half (suc k) (omega arith), turns_few n (suc k / 2) (omega arith))

-- of the greatest capacity: a leaf has 12 nodes above it at most
pub twelve_at_most : (c slot : ℕ) → slot < c → c ≤ 4096 → turns ((c + slot) / 2) ≤ 12
twelve_at_most c slot low most = turns_few 12 ((c + slot) / 2) (omega arith)
