-- The lesser and the greater by the order of numbers are those of numbers, and so a range widens by it as a range of numbers does.
use Rattle.std.specs.Prelude.{ℕ, ◌≡◌, ◌<◌, min, max, Bool, true, false, cond, nat_lt, ◌==◌, Option, None, Some, refl}
use Rattle.std.proofs.Common.{sym, ap, ◌∙◌, arith}
use Rattle.std.proofs.lemmas.Bool.{ltb-true, ltb-false}
use Rattle.std.proofs.Math.Nat.{min-eq_left, min-eq_right, max-eq_left, max-eq_right}
use Rattle.std.specs.Ordering.{is_lt, ord_min, ord_max, nat_cmp}
use Rattle.std.specs.declared.cmp.Ordering.TheVariants.{Less, Equal, Greater}
use Rattle.stats.specs.declared.range.Range.{Range}
use Rattle.stats.specs.Range.{extended, extended_in, widened, widened_in}

pub min_is : (a b : ℕ) → ord_min nat_cmp a b ≡ min a b
min_is a b = go (nat_lt b a) refl (b == a)
  where
    go : (t : Bool) → nat_lt b a ≡ t → (u : Bool) → cond (is_lt (cond t Less (cond u Equal Greater))) b a ≡ min a b
    go true e u = sym (min-eq_right (omega (arith, ltb-true b a e)))
    go false e true = sym (min-eq_left (omega (arith, ltb-false b a e)))
    go false e false = sym (min-eq_left (omega (arith, ltb-false b a e)))

pub max_is : (a b : ℕ) → ord_max nat_cmp a b ≡ max a b
max_is a b = go (nat_lt b a) refl (b == a)
  where
    go : (t : Bool) → nat_lt b a ≡ t → (u : Bool) → cond (is_lt (cond t Less (cond u Equal Greater))) a b ≡ max a b
    go true e u = sym (max-eq_left (omega (arith, ltb-true b a e)))
    go false e true = sym (max-eq_right (omega (arith, ltb-false b a e)))
    go false e false = sym (max-eq_right (omega (arith, ltb-false b a e)))

pub extended_is : (r : Range ℕ) (v : ℕ) → extended_in nat_cmp r v ≡ extended r v
extended_is r v = rw (min_is, max_is) refl

pub widened_is : (r : Option (Range ℕ)) (v : ℕ) → widened_in nat_cmp r v ≡ widened r v
widened_is None v = refl
widened_is (Some r) v = ap Some (extended_is r v)
