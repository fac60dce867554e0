-- The field of a record that a word stands for; the word of a field is the number of the record form. An optional is 0 for absent, else
-- its value plus 1; a range is the words of its two bounds.
-- Assumes nothing.
use Rattle.std.specs.Prelude.{ℕ, zero, suc, min, ◌-◌, ◌≤◌, ◌≡◌, Bool, ◌&&◌, ◌||◌, leb, ltb, eqb, None, Option, Some}
use Rattle.forms.specs.Optional.{to_opt}
use Rattle.stats.specs.declared.range.Range.{Range}

-- ---- optionals

-- the optional of a word, of 8 and of 16 bits
abbrev pub opt8_at : ℕ → Option ℕ
opt8_at word = to_opt None Some word

abbrev pub opt16_at : ℕ → Option ℕ
opt16_at word = to_opt None Some word

-- ---- ranges

-- the range of two words, of 8 and of 32 bits; absent if the first is 0
abbrev pub range8_at : ℕ → ℕ → Option (Range ℕ)
range8_at zero greatest = None
range8_at (suc least) greatest = Some (record { min = least; max = greatest - 1 })

abbrev pub range32_at : ℕ → ℕ → Option (Range ℕ)
range32_at zero greatest = None
range32_at (suc least) greatest = Some (record { min = least; max = greatest - 1 })

-- the words of two bounds: none above `most`, and both present or both absent
unfoldable pub bounds_fit : ℕ → ℕ → ℕ → Bool
bounds_fit most least greatest =
    leb least most
    && leb greatest most
    && (ltb 0 least && ltb 0 greatest || eqb least 0 && eqb greatest 0)

-- the same as facts
pub record BoundsFit (most least greatest : ℕ) : Type 0 where
  pub least_fits : least ≤ most
  pub greatest_fits : greatest ≤ most
  pub paired : min least 1 ≡ min greatest 1
