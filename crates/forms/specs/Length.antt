-- How many bytes a number takes: one for each seven bits up to its highest set bit.
use Rattle.std.specs.Prelude.{ℕ, zero, suc, ◌+◌, ◌-◌, ◌*◌, ◌/◌, ◌^◌, ◌≤◌, ◌<◌, ◌≡◌, refl, List, Bool, true, false, ltb, length}
use Rattle.std.proofs.Common.{sym, ap, ◌∙◌, arith, pow-suc, le-div_iff_mul-le, div-lt_iff_lt-mul, le_trans, lt_of_lt_of_le, ltb-true, ltb-false, pow-add, pow_mono}
use Rattle.std.proofs.Math.Nat.{one-le-pow}
use Rattle.std.specs.Int.Count.{count_leading_zeros}
use Rattle.std.proofs.lemmas.Nat.{leading_top}
use Rattle.forms.specs.Number.{number_bytes, bytes_small, bytes_large}

-- a number of n + 1 groups
bytes_length : (n v : ℕ) → 128 ^ n ≤ v → v < 128 ^ suc n → length (number_bytes v) ≡ suc n
bytes_length zero v l h = rw (bytes_small v (rw pow-suc at h))
bytes_length (suc n) v l h =
    let low : 128 ^ n * 128 ≤ v = rw (pow-suc 128 n) at l in
    let high : v < 128 ^ suc n * 128 = rw (pow-suc 128 (suc n)) at h in
    let some : 1 ≤ 128 ^ n = one-le-pow n 128 (omega arith) in
    rw (bytes_large v (omega arith)) (ap suc (bytes_length n (v / 128) ((le-div_iff_mul-le (omega arith)).1 low) ((div-lt_iff_lt-mul (omega arith)).1 high)))

groups_bits : (n : ℕ) → 128 ^ n ≡ 2 ^ (7 * n)
groups_bits zero = refl
groups_bits (suc n) =
    let e : 7 * suc n ≡ 7 * n + 7 = omega arith in
    pow-suc 128 n ∙ ap (λ (x : ℕ). x * 128) (groups_bits n) ∙ sym (pow-add 2 (7 * n) 7) ∙ ap (λ (k : ℕ). 2 ^ k) (sym e)

pub number_length : (v : ℕ) → 0 < v → v < 2 ^ 64 → (64 - count_leading_zeros 64 v + 6) / 7 ≡ length (number_bytes v)
number_length v p h =
    let (j, e, l, u) = leading_top 64 v p h in
    let n = j / 7 in
    let low : 2 ^ (7 * n) ≤ 2 ^ j = pow_mono (omega arith) in
    let high : 2 ^ suc j ≤ 2 ^ (7 * suc n) = pow_mono (omega arith) in
    let many : length (number_bytes v) ≡ suc n = bytes_length n v (rw groups_bits (le_trans low l)) (rw groups_bits (lt_of_lt_of_le u high)) in
    rw many (omega arith)

pub small_length : (v : ℕ) → v < 128 → length (number_bytes v) ≡ 1
small_length v h = ap length (bytes_small v h)

pub large_length : (v : ℕ) → 128 ≤ v → length (number_bytes v) ≡ suc (length (number_bytes (v / 128)))
large_length v h = ap length (bytes_large v h)

-- a number of at most n + 1 groups
pub number_at_most : (n v : ℕ) → v < 128 ^ suc n → length (number_bytes v) ≤ suc n
number_at_most zero v h = omega (arith, small_length v h)
number_at_most (suc n) v h = go (ltb v 128) refl (λ k. number_at_most n (v / 128) k)
  where
    go : (t : Bool) → ltb v 128 ≡ t → (v / 128 < 128 ^ suc n → length (number_bytes (v / 128)) ≤ suc n) → length (number_bytes v) ≤ suc (suc n)
    go true e ih = omega (arith, small_length v (ltb-true v 128 e))
    go false e ih =
        let some : 0 < 128 = omega arith in
        let below : v / 128 < 128 ^ suc n = (div-lt_iff_lt-mul some).1 (rw (pow-suc 128 (suc n)) at h) in
        omega (arith, large_length v (ltb-false v 128 e), ih below)

-- a number takes at least one byte
pub number_at_least : (v : ℕ) → 1 ≤ length (number_bytes v)
number_at_least v = go (ltb v 128) refl
  where
    go : (t : Bool) → ltb v 128 ≡ t → 1 ≤ length (number_bytes v)
    go true e = omega (arith, small_length v (ltb-true v 128 e))
    go false e = omega (arith, large_length v (ltb-false v 128 e))

-- r is the length of the bytes, at most `most`
pub record Sized (bytes : List ℕ) (most r : ℕ) : Type 0 where
  pub length_is : r ≡ length bytes
  pub fits : r ≤ most

pub sized_zero : Sized (number_bytes 0) 10 1
sized_zero = record { length_is = sym (small_length 0 (omega arith)); fits = omega arith }

pub sized_bits : (v : ℕ) → 0 < v → v < 2 ^ 64 → Sized (number_bytes v) 10 ((64 - count_leading_zeros 64 v + 6) / 7)
sized_bits v p h = record { length_is = number_length v p h; fits = omega arith }
