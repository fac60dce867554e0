-- Sums, products and turns of 64-bit words, as numbers. Assumes nothing.
use Rattle.std.specs.Prelude.{ℕ, ◌+◌, ◌-◌, ◌*◌, ◌/◌, ◌%◌, ◌^◌}

-- the product of two words, its low 64 bits
abbrev pub wrapping_mul : ℕ → ℕ → ℕ
wrapping_mul a b = a * b % 2 ^ 64

-- the bits of a word moved up by n, at most 63; those that pass the top come in below
abbrev pub rotate_left : ℕ → ℕ → ℕ
rotate_left x n = x * 2 ^ n % 2 ^ 64 + x / 2 ^ (64 - n)

-- the bits of a word moved down by n; those that pass the bottom are lost
abbrev pub shift_right : ℕ → ℕ → ℕ
shift_right x n = x / 2 ^ n
