-- The standard library's turn of a word is the turn of the rules. Assumes nothing.
use Rattle.std.specs.Prelude.{ℕ, ◌≡◌, ◌+◌, ◌-◌, ◌*◌, ◌/◌, ◌%◌, ◌^◌, ◌<◌, ◌≤◌, refl, bit_or}
use Rattle.std.proofs.Common.{sym, ap, ◌∙◌, arith, add-zero, mul_comm, mul-div_cancel, div-lt_iff_lt-mul, sub-add_cancel, pow_pos, pow-add}
use Rattle.std.proofs.Math.Nat.{mul-mod_left}
use Rattle.std.proofs.Math.Arith.{mod-mul}
use Rattle.std.proofs.lemmas.Nat.{or_shifted}
use Rattle.std.specs.Int as std_int
use Rattle.std.specs.Int.{w64}
use Rattle.key.specs.Words.{rotate_left}

-- a number moved up by n bits is a multiple of 2 ^ n
moved : (p q x : ℕ) → 0 < p → 0 < q → x * q % (p * q) ≡ x % p * q
moved p q x hp hq = rw (mod-mul (x * q) hp hq, mul-div_cancel, mul-mod_left, add-zero) refl

apart : (x n : ℕ) → n ≤ 64 → x < 2 ^ 64 → bit_or (x * 2 ^ n % 2 ^ 64) (x / 2 ^ (64 - n)) ≡ x * 2 ^ n % 2 ^ 64 + x / 2 ^ (64 - n)
apart x n h l =
    let e : 2 ^ 64 ≡ 2 ^ (64 - n) * 2 ^ n = ap (λ (k : ℕ). 2 ^ k) (sym (sub-add_cancel h)) ∙ pow-add 2 (64 - n) n in
    let up : x * 2 ^ n % 2 ^ 64 ≡ x % 2 ^ (64 - n) * 2 ^ n = ap (λ (k : ℕ). x * 2 ^ n % k) e ∙ moved (2 ^ (64 - n)) (2 ^ n) x (pow_pos (64 - n)) (pow_pos n) in
    let low : x / 2 ^ (64 - n) < 2 ^ n = (div-lt_iff_lt-mul (pow_pos (64 - n))).1 (rw mul_comm (rw e at l)) in
    ap (λ (k : ℕ). bit_or k (x / 2 ^ (64 - n))) up ∙ or_shifted (x % 2 ^ (64 - n)) n (x / 2 ^ (64 - n)) low
    ∙ ap (λ (k : ℕ). k + x / 2 ^ (64 - n)) (sym up)

pub turned_16 : (x : ℕ) → x < 2 ^ 64 → std_int.rotate_left w64 x 16 ≡ rotate_left x 16
turned_16 x l = apart x 16 (omega arith) l

pub turned_17 : (x : ℕ) → x < 2 ^ 64 → std_int.rotate_left w64 x 17 ≡ rotate_left x 17
turned_17 x l = apart x 17 (omega arith) l

pub turned_32 : (x : ℕ) → x < 2 ^ 64 → std_int.rotate_left w64 x 32 ≡ rotate_left x 32
turned_32 x l = apart x 32 (omega arith) l

pub turned_48 : (x : ℕ) → x < 2 ^ 64 → std_int.rotate_left w64 x 48 ≡ rotate_left x 48
turned_48 x l = apart x 48 (omega arith) l
