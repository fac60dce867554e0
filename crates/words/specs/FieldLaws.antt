-- Laws of the fields: what the code answers, that a field is read back from its word, and that a word that fits is written back.
-- Assumes nothing.
use Rattle.std.specs.Prelude.{ℕ, zero, suc, min, ◌-◌, ◌≤◌, ◌≡◌, refl, Bool, true, false, ◌&&◌, ◌||◌, leb, ltb, eqb, None, Option, Some}
use Rattle.std.proofs.Common.{ap, arith, add-one, leb-true, ltb-true, eqb-true, le-leb, lt-ltb}
use Rattle.std.proofs.lemmas.Bool.{false≢true}
use Rattle.forms.specs.Optional.{to_opt, number8, number16, number32}
use Rattle.flow.specs.declared.time.StartState.{StartState}
use Rattle.flow.specs.declared.time.TimeResolution.{TimeResolution}
use Rattle.flow.specs.SoundLaws.{both}
use Rattle.wire.specs.RecordForm.{state_number, state_from, resolution_number, resolution_from, bit_number, least_of8, greatest_of8, least_of32, greatest_of32}
use Rattle.words.specs.Fields.{opt8_at, opt16_at, range8_at, range32_at, bounds_fit, BoundsFit}
use Rattle.stats.specs.declared.range.Range.{Range}

-- ---- what the code answers, by cases

less_one : (n : ℕ) → suc n - 1 ≡ n
less_one n = omega arith

-- an optional or a range whose first word is not 0 is present
pub present_at : {A : Type 0} (absent : A) (present : ℕ → A) (w : ℕ) → (w ≡ 0 → ⊥) → present (w - 1) ≡ to_opt absent present w
present_at absent present zero h = absurd (h refl)
present_at absent present (suc w) h = ap present (less_one w)

pub range8_present : (l g : ℕ) → (l ≡ 0 → ⊥) → Some (record { min = l - 1; max = g - 1 }) ≡ range8_at l g
range8_present zero g h = absurd (h refl)
range8_present (suc l) g h = rw less_one

pub range32_present : (l g : ℕ) → (l ≡ 0 → ⊥) → Some (record { min = l - 1; max = g - 1 }) ≡ range32_at l g
range32_present zero g h = absurd (h refl)
range32_present (suc l) g h = rw less_one

-- ---- the test of two bounds

pair_facts : (l g : ℕ) (present absent : Bool) → (ltb 0 l && ltb 0 g) ≡ present → (eqb l 0 && eqb g 0) ≡ absent → (present || absent) ≡ true → min l 1 ≡ min g 1
pair_facts l g true absent p a e =
    let h = both (ltb 0 l) (ltb 0 g) p in
    omega (arith, ltb-true 0 l h.0, ltb-true 0 g h.1)
pair_facts l g false true p a e =
    let h = both (eqb l 0) (eqb g 0) a in
    omega (arith, eqb-true l 0 h.0, eqb-true g 0 h.1)
pair_facts l g false false p a e = absurd (false≢true e)

pub bounds_facts : (most l g : ℕ) → bounds_fit most l g ≡ true → BoundsFit most l g
unfolding bounds_fit
bounds_facts most l g e =
    let h = both (leb l most && leb g most) _ e in
    let fit = both (leb l most) (leb g most) h.0 in
    record {
      least_fits = leb-true l most fit.0;
      greatest_fits = leb-true g most fit.1;
      paired = pair_facts l g _ _ refl refl h.1;
    }

pub bounds_made : (most l g : ℕ) → BoundsFit most l g → bounds_fit most l g ≡ true
unfolding bounds_fit
bounds_made most zero zero f = simp (le-leb 0 most f.least_fits)
bounds_made most zero (suc g) f = absurd (omega arith)
bounds_made most (suc l) zero f = absurd (omega arith)
bounds_made most (suc l) (suc g) f =
    simp (
      le-leb (suc l) most f.least_fits,
      le-leb (suc g) most f.greatest_fits,
      lt-ltb 0 (suc l) (omega arith),
      lt-ltb 0 (suc g) (omega arith),
    )

-- ---- a field is read back from its word

pub state_back : (s : StartState) → state_from (state_number s) ≡ s
state_back StartState.SynObserved = refl
state_back StartState.MidStream = refl
state_back StartState.NotApplicable = refl

pub resolution_back : (r : TimeResolution) → resolution_from (resolution_number r) ≡ r
resolution_back TimeResolution.Microseconds = refl
resolution_back TimeResolution.Nanoseconds = refl

pub bit_back : (b : Bool) → eqb (bit_number b) 1 ≡ b
bit_back true = refl
bit_back false = refl

pub opt8_back : (o : Option ℕ) → opt8_at (number8 o) ≡ o
opt8_back None = refl
opt8_back (Some v) = rw add-one

pub opt16_back : (o : Option ℕ) → opt16_at (number16 o) ≡ o
opt16_back None = refl
opt16_back (Some v) = rw add-one

pub range8_back : (o : Option (Range ℕ)) → range8_at (number8 (least_of8 o)) (number8 (greatest_of8 o)) ≡ o
range8_back None = refl
range8_back (Some r) = simp (add-one, less_one)

pub range32_back : (o : Option (Range ℕ)) → range32_at (number32 (least_of32 o)) (number32 (greatest_of32 o)) ≡ o
range32_back None = refl
range32_back (Some r) = simp (add-one, less_one)

-- ---- a word that fits is written back

pub state_written : (w : ℕ) → w ≤ 2 → state_number (state_from w) ≡ w
state_written zero h = refl
state_written (suc zero) h = refl
state_written (suc (suc w)) h = omega arith

pub resolution_written : (w : ℕ) → w ≤ 1 → resolution_number (resolution_from w) ≡ w
resolution_written zero h = refl
resolution_written (suc w) h = omega arith

pub bit_written : (w : ℕ) → w ≤ 1 → bit_number (eqb w 1) ≡ w
bit_written zero h = refl
bit_written (suc zero) h = refl
bit_written (suc (suc w)) h = absurd (omega arith)

pub opt8_written : (w : ℕ) → number8 (opt8_at w) ≡ w
opt8_written zero = refl
opt8_written (suc w) = add-one w

pub opt16_written : (w : ℕ) → number16 (opt16_at w) ≡ w
opt16_written zero = refl
opt16_written (suc w) = add-one w

pub least8_written : (l g : ℕ) → number8 (least_of8 (range8_at l g)) ≡ l
least8_written zero g = refl
least8_written (suc l) g = add-one l

pub greatest8_written : (most l g : ℕ) → BoundsFit most l g → number8 (greatest_of8 (range8_at l g)) ≡ g
greatest8_written most zero g f = omega arith
greatest8_written most (suc l) g f = omega arith

pub least32_written : (l g : ℕ) → number32 (least_of32 (range32_at l g)) ≡ l
least32_written zero g = refl
least32_written (suc l) g = add-one l

pub greatest32_written : (most l g : ℕ) → BoundsFit most l g → number32 (greatest_of32 (range32_at l g)) ≡ g
greatest32_written most zero g f = omega arith
greatest32_written most (suc l) g f = omega arith

-- ---- the word of a field in range fits

pub state_fits : (s : StartState) → state_number s ≤ 2
state_fits StartState.SynObserved = omega arith
state_fits StartState.MidStream = omega arith
state_fits StartState.NotApplicable = omega arith

pub resolution_fits : (r : TimeResolution) → resolution_number r ≤ 1
resolution_fits TimeResolution.Microseconds = omega arith
resolution_fits TimeResolution.Nanoseconds = omega arith

pub bit_fits : (b : Bool) → bit_number b ≤ 1
bit_fits true = omega arith
bit_fits false = omega arith

pub range8_fits : (most : ℕ) (o : Option (Range ℕ)) → number8 (least_of8 o) ≤ most → number8 (greatest_of8 o) ≤ most → BoundsFit most (number8 (least_of8 o)) (number8 (greatest_of8 o))
range8_fits most None l g = record { least_fits = l; greatest_fits = g; paired = refl }
range8_fits most (Some r) l g = record { least_fits = l; greatest_fits = g; paired = omega arith }

pub range32_fits : (most : ℕ) (o : Option (Range ℕ)) → number32 (least_of32 o) ≤ most → number32 (greatest_of32 o) ≤ most → BoundsFit most (number32 (least_of32 o)) (number32 (greatest_of32 o))
range32_fits most None l g = record { least_fits = l; greatest_fits = g; paired = refl }
range32_fits most (Some r) l g = record { least_fits = l; greatest_fits = g; paired = omega arith }
