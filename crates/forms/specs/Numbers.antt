-- The numbers that stand for optional values.
use Rattle.std.specs.Prelude.{ℕ, ◌+◌, Option, None, Some}

-- 0 for none, else the number plus 1
abbrev pub optional_of : {A : Type 0} → (A → ℕ) → Option A → ℕ
optional_of number_of None = 0
optional_of number_of (Some a) = number_of a + 1
