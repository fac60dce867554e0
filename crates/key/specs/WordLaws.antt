-- Laws of sums, products and turns of words, over any width or base, and what is a word again. Assumes nothing.
use Rattle.std.specs.Prelude.{◌≡◌, ℕ, suc, ◌+◌, ◌-◌, ◌*◌, ◌/◌, ◌%◌, ◌^◌, ◌<◌, ◌≤◌, Bool, true, false, bit_xor, nat_le, nat_lt, refl}
use Rattle.std.proofs.Common.{sym, ap, ◌∙◌, add-zero, mul_comm, mul-div_cancel, div-lt_iff_lt-mul, mod-lt, div-add-mod', sub-add_cancel, le_of_lt, lt_of_le_of_lt, mul-le-mul_left, mul-lt-mul_of_pos_right, arith, leb-true, leb-false, lt-ltb, le-ltb, pow_pos, pow-add}
use Rattle.std.proofs.Math.Nat.{mul-mod_left, mod-add-mod, mul-add-mod_self_right}
use Rattle.std.proofs.Math.Arith.{digits_lt, mod-mul}
use Rattle.std.proofs.lemmas.Nat.{xor_lt, shr_le}
use Rattle.key.specs.Words.{wrapping_mul, rotate_left, shift_right}

-- ---- sums

-- b fits into the room that a leaves up to m just where the sum does
pub room : (m a b : ℕ) → a ≤ m → nat_le b (m - a) ≡ nat_lt (a + b) (suc m)
room m a b h = same (nat_le b (m - a)) refl
  where
    same : (t : Bool) → nat_le b (m - a) ≡ t → t ≡ nat_lt (a + b) (suc m)
    same true e = sym (lt-ltb (a + b) (suc m) (omega (arith, leb-true b (m - a) e)))
    same false e = sym (le-ltb (a + b) (suc m) (omega (arith, leb-false b (m - a) e)))

-- ---- products

-- the product of two numbers of k bits has at most k + k
pub product_lt : (k a b : ℕ) → a < 2 ^ k → b < 2 ^ k → a * b < 2 ^ (k + k)
product_lt k a b h l =
    rw pow-add (lt_of_le_of_lt (mul-le-mul_left a (le_of_lt l)) (mul-lt-mul_of_pos_right h (pow_pos k)))

-- a remainder may be taken before a product and a sum, if it is taken after them
early_mod : (w x m y : ℕ) → (x % w * m % w + y) % w ≡ (x * m + y) % w
early_mod w x m y =
    mod-add-mod (x % w * m) w y ∙ sym (mul-add-mod_self_right (x / w * m) w (x % w * m + y)) ∙ ap (λ (n : ℕ). n % w) whole
  where
    whole : x / w * m * w + (x % w * m + y) ≡ x * m + y
    whole = omega (arith, ap (λ (n : ℕ). n * m) (div-add-mod' x w))

-- the two low digits of a product, to any base m: the product of the high digits is past them
low_digits : (m a₁ a₀ b₁ b₀ : ℕ) → (a₁ * m + a₀) * (b₁ * m + b₀) % (m * m) ≡ ((a₁ * b₀ + a₀ * b₁) * m + a₀ * b₀) % (m * m)
low_digits m a₁ a₀ b₁ b₀ = ap (λ (n : ℕ). n % (m * m)) columns ∙ mul-add-mod_self_right (a₁ * b₁) (m * m) _
  where
    columns : (a₁ * m + a₀) * (b₁ * m + b₀) ≡ a₁ * b₁ * (m * m) + ((a₁ * b₀ + a₀ * b₁) * m + a₀ * b₀)
    columns = omega arith

-- the two low digits of a product from its middle column, which may lose what is past them
pub by_halves : (m a b middle r : ℕ) → middle ≡ (a / m * (b % m) + a % m * (b / m)) % (m * m) → r ≡ (middle * m % (m * m) + a % m * (b % m)) % (m * m) → r ≡ a * b % (m * m)
by_halves m a b middle r e f =
    f ∙ ap (λ (n : ℕ). (n * m % (m * m) + a % m * (b % m)) % (m * m)) e
    ∙ early_mod (m * m) (a / m * (b % m) + a % m * (b / m)) m (a % m * (b % m))
    ∙ sym (low_digits m (a / m) (a % m) (b / m) (b % m))
    ∙ simp div-add-mod'

-- ---- turns

-- a number of two digits, to the bases p and q, turned: what is moved up and what comes in below do not overlap
apart : (p q x : ℕ) → 0 < p → 0 < q → x < p * q → x * q % (p * q) + x / p < p * q
apart p q x hp hq h =
    rw (mod-mul (x * q) hp hq, mul-div_cancel, mul-mod_left, add-zero)
    (digits_lt (mod-lt x hp) ((div-lt_iff_lt-mul hp).1 (rw mul_comm h)))

-- a word of w bits, turned by n
pub turned_lt : (w n x : ℕ) → n ≤ w → x < 2 ^ w → x * 2 ^ n % 2 ^ w + x / 2 ^ (w - n) < 2 ^ w
turned_lt w n x h l =
    let e : 2 ^ w ≡ 2 ^ (w - n) * 2 ^ n = ap (λ (k : ℕ). 2 ^ k) (sym (sub-add_cancel h)) ∙ pow-add 2 (w - n) n in
    rw e (apart (2 ^ (w - n)) (2 ^ n) x (pow_pos (w - n)) (pow_pos n) (rw e at l))

-- ---- words again

pub xor_word : (a b : ℕ) → a < 2 ^ 64 → b < 2 ^ 64 → bit_xor a b < 2 ^ 64
xor_word = xor_lt 64

pub rotated_word : (x n : ℕ) → 0 < n → n < 64 → x < 2 ^ 64 → rotate_left x n < 2 ^ 64
rotated_word x n _ h = turned_lt 64 n x (le_of_lt h)

pub wrapped_word : (a b : ℕ) → wrapping_mul a b < 2 ^ 64
wrapped_word a b = mod-lt (a * b) (pow_pos 64)

pub shifted_word : (x n : ℕ) → x < 2 ^ 64 → shift_right x n < 2 ^ 64
shifted_word x n h = lt_of_le_of_lt (shr_le x n) h
