-- A range widens to hold a value; a range that is not there yet starts at it. Assumes nothing.
use Rattle.std.specs.Prelude.{ℕ, ◌≡◌, min, max, Option, None, Some}
use Rattle.std.specs.Ordering.{ord_min, ord_max, nat_cmp}
use Rattle.std.specs.declared.cmp.Ordering.{Ordering}
use Rattle.stats.specs.declared.range.Range.{Range}

abbrev pub at : {A : Type 0} → A → Range A
at v = record { min = v; max = v }

-- ---- by any order

abbrev pub extended_in : {A : Type 0} → (A → A → Ordering) → Range A → A → Range A
extended_in cmp r v = record { min = ord_min cmp r.min v; max = ord_max cmp r.max v }

abbrev pub widened_in : {A : Type 0} → (A → A → Ordering) → Option (Range A) → A → Option (Range A)
widened_in cmp None v = Some (at v)
widened_in cmp (Some r) v = Some (extended_in cmp r v)

-- ---- of numbers

abbrev pub extended : Range ℕ → ℕ → Range ℕ
extended r v = record { min = min r.min v; max = max r.max v }

abbrev pub widened : Option (Range ℕ) → ℕ → Option (Range ℕ)
widened None v = Some (at v)
widened (Some r) v = Some (extended r v)
