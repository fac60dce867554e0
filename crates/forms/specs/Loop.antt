-- Reading a number by a loop: what is read so far is `value`, and each later group counts `scale`.
use Rattle.std.specs.Prelude.{ℕ, ◌+◌, ◌-◌, ◌*◌, ◌/◌, ◌≤◌, ◌<◌, ◌≡◌, refl, List, length, get_or}
use Rattle.std.proofs.Common.{sym, ap, ◌∙◌, arith, mul-le-mul_left, mul-add, mul_assoc, add_assoc}
use Rattle.forms.specs.Form.{Read, got, and_then}
use Rattle.forms.specs.Number.{read_groups, raise}
use Rattle.forms.specs.At.{placed, groups_end, low_at, high_at, last_at, more_at}
use Rattle.forms.specs.Form.{stop}
use Rattle.forms.specs.declared.stop.Stop.{Stop}

abbrev lift : ℕ → ℕ → Read ℕ ℕ → Read ℕ ℕ
lift value scale r = and_then r (λ v n. got (value + scale * v) n)

-- at i, where a number of at least `least` and at most `room` makes the whole
pub record Reading (s : List ℕ) (at most i least room scale value : ℕ) : Type 0 where
  pub small : room ≤ most
  pub fits : value + scale * room ≤ most
  pub whole : lift value scale (placed (read_groups least room) s i) ≡ placed (read_groups 0 most) s at

pub reading_start : (s : List ℕ) (at most : ℕ) → Reading s at most at 0 most 1 0
reading_start s at most = record { small = omega arith; fits = omega arith; whole = go (placed (read_groups 0 most) s at) }
  where
    go : (r : Read ℕ ℕ) → lift 0 1 r ≡ r
    go (got v n) = let e : 0 + 1 * v ≡ v = omega arith in ap (λ (x : ℕ). got x n) e
    go (stop Stop.Short) = refl
    go (stop Stop.Refused) = refl

module _ {s : List ℕ} {at most i least room scale value : ℕ} (r : Reading s at most i least room scale value) where
  pub reading_end : length s ≤ i → stop Stop.Short ≡ placed (read_groups 0 most) s at
  reading_end h = ap (lift value scale) (sym (groups_end least room s i h)) ∙ r.whole

  pub reading_room : (b : ℕ) → b ≤ room → value + scale * b ≤ most
  reading_room b h = omega (arith, r.fits, mul-le-mul_left scale h)

  module _ (b : ℕ) (inside : i < length s) (is : b ≡ get_or s i 0) where
    pub reading_low : b < least → stop Stop.Refused ≡ placed (read_groups 0 most) s at
    reading_low h = ap (lift value scale) (low_at s i b least room inside is h) ∙ r.whole

    pub reading_high : room < b → stop Stop.Refused ≡ placed (read_groups 0 most) s at
    reading_high h = ap (lift value scale) (high_at s i b least room inside is h) ∙ r.whole

    pub reading_last : b < 256 → least ≤ b → b ≤ room → b < 128 → got (value + scale * b) (i + 1) ≡ placed (read_groups 0 most) s at
    reading_last w l h small = ap (lift value scale) (last_at s i b least room inside is w l h small) ∙ r.whole

    pub reading_next : b < 256 → least ≤ b → b ≤ room → 128 ≤ b → Reading s at most (i + 1) 1 ((room - b) / 128 + 1) (scale * 128) (value + scale * (b - 128))
    reading_next w l h large =
        record {
          small = omega (arith, r.small);
          fits = rw (sum ((room - b) / 128 + 1)) (reading_room (b - 128 + 128 * ((room - b) / 128 + 1)) (omega arith));
          whole = go (placed (read_groups 1 ((room - b) / 128 + 1)) s (i + 1)) ∙ ap (lift value scale) (more_at s i b least room inside is w l h large) ∙ r.whole;
        }
      where
        sum : (v : ℕ) → value + scale * (b - 128) + scale * 128 * v ≡ value + scale * (b - 128 + 128 * v)
        sum v = rw (mul-add, mul_assoc) (add_assoc value (scale * (b - 128)) (scale * (128 * v)))

        go : (x : Read ℕ ℕ) → lift (value + scale * (b - 128)) (scale * 128) x ≡ lift value scale (raise b x)
        go (got v n) = ap (λ (k : ℕ). got k n) (sum v)
        go (stop Stop.Short) = refl
        go (stop Stop.Refused) = refl
