-- "An optional is 0 for absent, else value plus 1." Once for every type of optional numbers.
use Rattle.std.specs.Prelude.{ℕ, zero, suc, ◌+◌, ◌-◌, ◌^◌, ◌≤◌, ◌≡◌, List, None, Option, Some}
use Rattle.std.proofs.Math.Path.{refl}
use Rattle.std.proofs.Common.{ap, arith}
use Rattle.std.proofs.Math.Numerals.{add-one}
use Rattle.forms.specs.Form.{Form, over, over_writes, over_is_valid, over_fits}
use Rattle.forms.specs.Number.{number, number_bytes, number_writes, number_below, below_number}
use Rattle.forms.specs.Field.{Next, Taken, over_taken}

module _ {A : Type 0} (absent : A) (present : ℕ → A) where
  -- the optional that a number stands for
  abbrev pub to_opt : ℕ → A
  to_opt zero = absent
  to_opt (suc v) = present v

  module _ (from : A → ℕ) (none : from absent ≡ 0) (some : (v : ℕ) → from (present v) ≡ suc v) where
    pub opt_undo : (most n : ℕ) → (number most).valid n → from (to_opt n) ≡ n
    opt_undo most zero h = none
    opt_undo most (suc n) h = some n

    -- a value of at most `most`, or none
    abbrev pub optional : ℕ → Form A
    optional most = over to_opt from (number (suc most)) (opt_undo (suc most))

    pub optional_writes : (most : ℕ) (o : A) → (optional most).write o ≡ number_bytes (from o)
    optional_writes most o = rw (over_writes, number_writes)

    pub absent_valid : (most : ℕ) → (optional most).valid absent
    absent_valid most = over_is_valid to_opt from (number (suc most)) (opt_undo (suc most)) absent (rw none (below_number (suc most) 0 (omega arith))) (ap to_opt none)

    pub present_valid : (most v : ℕ) → v ≤ most → (optional most).valid (present v)
    present_valid most v h = over_is_valid to_opt from (number (suc most)) (opt_undo (suc most)) (present v) (rw (some v) (below_number (suc most) (suc v) (omega arith))) (ap to_opt (some v))

    pub optional_below : (most : ℕ) (o : A) → (optional most).valid o → from o ≤ suc most
    optional_below most o v = number_below (suc most) (from o) (over_fits to_opt from (number (suc most)) (opt_undo (suc most)) o v)

-- ---- 8, 16 and 32 bits

-- the number that stands for an optional
abbrev pub number8 : Option ℕ → ℕ
number8 None = 0
number8 (Some v) = v + 1

abbrev pub number16 : Option ℕ → ℕ
number16 None = 0
number16 (Some v) = v + 1

abbrev pub number32 : Option ℕ → ℕ
number32 None = 0
number32 (Some v) = v + 1

unfoldable pub optional8 : Form (Option ℕ)
optional8 = optional None Some number8 refl add-one 255

-- a value of at most `most`, of 16 bits or fewer
unfoldable pub optional16 : ℕ → Form (Option ℕ)
optional16 most = optional None Some number16 refl add-one most

unfoldable pub optional32 : Form (Option ℕ)
optional32 = optional None Some number32 refl add-one (2 ^ 32 - 1)

-- what is read, by the number
pub optional16_taken : (most : ℕ) {s : List ℕ} {n₀ n₁ : Next} {v : ℕ} → Taken (number (most + 1)) s n₀ v n₁ → Taken (optional16 most) s n₀ (to_opt None Some v) n₁
unfolding optional16
optional16_taken most t = over_taken (to_opt None Some) number16 (number (suc most)) (opt_undo None Some number16 refl add-one (suc most)) (rw add-one at t)

-- ---- what is written, and what may be

pub optional8_writes : (o : Option ℕ) → optional8.write o ≡ number_bytes (number8 o)
unfolding optional8
optional8_writes o = optional_writes None Some number8 refl add-one 255 o

pub optional16_writes : (most : ℕ) (o : Option ℕ) → (optional16 most).write o ≡ number_bytes (number16 o)
unfolding optional16
optional16_writes most o = optional_writes None Some number16 refl add-one most o

pub optional32_writes : (o : Option ℕ) → optional32.write o ≡ number_bytes (number32 o)
unfolding optional32
optional32_writes o = optional_writes None Some number32 refl add-one (2 ^ 32 - 1) o

-- exactly the values that the bound allows may be written
pub optional8_valid : (o : Option ℕ) → number8 o ≤ 256 → optional8.valid o
unfolding optional8
optional8_valid None h = absent_valid None Some number8 refl add-one 255
optional8_valid (Some v) h = present_valid None Some number8 refl add-one 255 v (omega arith)

pub optional16_valid : (most : ℕ) (o : Option ℕ) → number16 o ≤ suc most → (optional16 most).valid o
unfolding optional16
optional16_valid most None h = absent_valid None Some number16 refl add-one most
optional16_valid most (Some v) h = present_valid None Some number16 refl add-one most v (omega arith)

pub optional32_valid : (o : Option ℕ) → number32 o ≤ 2 ^ 32 → optional32.valid o
unfolding optional32
optional32_valid None h = absent_valid None Some number32 refl add-one (2 ^ 32 - 1)
optional32_valid (Some v) h = present_valid None Some number32 refl add-one (2 ^ 32 - 1) v (omega arith)

pub optional8_below : (o : Option ℕ) → optional8.valid o → number8 o ≤ 256
unfolding optional8
optional8_below o v = optional_below None Some number8 refl add-one 255 o v

pub optional16_below : (most : ℕ) (o : Option ℕ) → (optional16 most).valid o → number16 o ≤ suc most
unfolding optional16
optional16_below most o v = optional_below None Some number16 refl add-one most o v

pub optional32_below : (o : Option ℕ) → optional32.valid o → number32 o ≤ 2 ^ 32
unfolding optional32
optional32_below o v = optional_below None Some number32 refl add-one (2 ^ 32 - 1) o v
