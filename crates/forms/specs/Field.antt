-- Reading field after field: each begins where the one before ended, and the first that fails decides.
use Prim.Native.Nat.{ℕ, zero, suc, ◌+◌, ◌*◌, ◌/◌, ◌%◌, ◌^◌, ◌<◌, ◌≤◌}
use Rattle.std.proofs.Common.{pow-suc, mul-le-mul_right, add-one, ◌∙◌, arith}
use Rattle.std.proofs.Math.Nat.{pow-le-pow_right}
use Rattle.std.specs.Prelude.{length, ◌≡◌, List, ◌∷◌, true, cond}
use Rattle.std.proofs.Math.Path.{refl, sym, ap}
use Rattle.forms.specs.Form.{Form, Read, got, and_then, only, over, follow, pair, byte, raw, raw_one, raw_more, raw_undo, Alt, has, find, choice}
use Rattle.forms.specs.At.{read_at, at_follow, at_over, at_pair, at_choice, at_only, at_inside}
use Rattle.forms.specs.declared.stop.Stop.{Stop}
use Rattle.forms.specs.Form.{stop}

-- where the next field begins, or why there is none
pub data Next : Type 0 where
  At : ℕ → Next
  Short : Next
  Refused : Next

-- what a field's value and the next place say
abbrev pub answer : {A : Type 0} → A → Next → Read A ℕ
answer a (At i) = got a i
answer a Short = stop Stop.Short
answer a Refused = stop Stop.Refused

-- what is read from where the field before ended
abbrev pub read_from : {A : Type 0} → Form A → List ℕ → Next → Read A ℕ
read_from f s (At i) = read_at f s i
read_from f s Short = stop Stop.Short
read_from f s Refused = stop Stop.Refused

-- reading the form f from n₀ gives a, and n₁ is next
pub record Taken {A : Type 0} (f : Form A) (s : List ℕ) (n₀ : Next) (a : A) (n₁ : Next) : Type 0 where
  pub reads : answer a n₁ ≡ read_from f s n₀

-- ---- one field after another

pub pair_taken : {A B : Type 0} {f : Form A} {g : Form B} {s : List ℕ} {n₀ n₁ n₂ : Next} {a : A} {b : B} → Taken f s n₀ a n₁ → Taken g s n₁ b n₂ → Taken (pair f g) s n₀ (a, b) n₂
pair_taken {A} {B} {f} {g} {s} {n₀} {n₁} {n₂} {a} {b} p q =
    record { reads = beside n₂ ∙ ap (λ (r : Read B ℕ). and_then r (λ b last. got (a, b) last)) q.reads ∙ onward n₁ ∙ ap (λ (r : Read A ℕ). and_then r both) p.reads ∙ sym (start n₀) }
  where
    both : A → ℕ → Read (A × B) ℕ
    both a i = and_then (read_at g s i) (λ b last. got (a, b) last)

    beside : (n : Next) → answer {A = A × B} (a, b) n ≡ and_then (answer b n) (λ b last. got (a, b) last)
    beside (At i) = refl
    beside Short = refl
    beside Refused = refl

    onward : (n : Next) → and_then (read_from g s n) (λ b last. got (a, b) last) ≡ and_then (answer a n) both
    onward (At i) = refl
    onward Short = refl
    onward Refused = refl

    start : (n : Next) → read_from (pair f g) s n ≡ and_then (read_from f s n) both
    start (At i) = at_pair f g s i
    start Short = refl
    start Refused = refl

pub over_taken : {A B : Type 0} (to : A → B) (from : B → A) (f : Form A) (undo : (a : A) → f.valid a → from (to a) ≡ a) {s : List ℕ} {n₀ n₁ : Next} {a : A}
    → Taken f s n₀ a n₁ → Taken (over to from f undo) s n₀ (to a) n₁
over_taken {A} {B} to from f undo {s} {n₀} {n₁} {a} p = record { reads = made n₁ ∙ ap (λ (r : Read A ℕ). and_then r (λ a i. got (to a) i)) p.reads ∙ sym (start n₀) }
  where
    made : (n : Next) → answer (to a) n ≡ and_then (answer a n) (λ a i. got (to a) i)
    made (At i) = refl
    made Short = refl
    made Refused = refl

    start : (n : Next) → read_from (over to from f undo) s n ≡ and_then (read_from f s n) (λ a i. got (to a) i)
    start (At i) = at_over to from f undo s i
    start Short = refl
    start Refused = refl

-- the second form depends on the first value
pub follow_taken : {K A : Type 0} (f : Form K) (key : A → K) (g : K → Form A) (agrees : (k : K) (a : A) → f.valid k → (g k).valid a → key a ≡ k) {s : List ℕ} {n₀ n₁ n₂ : Next} {k : K} {a : A}
    → Taken f s n₀ k n₁ → Taken (g k) s n₁ a n₂ → Taken (follow f key g agrees) s n₀ a n₂
follow_taken {K} {A} f key g agrees {s} {n₀} {n₁} {n₂} {k} {a} p q = record { reads = q.reads ∙ onward n₁ ∙ ap (λ (r : Read K ℕ). and_then r (λ k i. read_at (g k) s i)) p.reads ∙ sym (start n₀) }
  where
    onward : (n : Next) → read_from (g k) s n ≡ and_then (answer k n) (λ k i. read_at (g k) s i)
    onward (At i) = refl
    onward Short = refl
    onward Refused = refl

    start : (n : Next) → read_from (follow f key g agrees) s n ≡ and_then (read_from f s n) (λ k i. read_at (g k) s i)
    start (At i) = at_follow f key g agrees s i
    start Short = refl
    start Refused = refl

-- a value of no bytes, behind a field
pub only_taken : {A K : Type 0} (a : A) {f : Form K} {s : List ℕ} {n₀ n₁ : Next} {k : K} → Taken f s n₀ k n₁ → Taken (only a) s n₁ a n₁
only_taken {A} {K} a {f} {s} {n₀} {n₁} {k} p = record { reads = go n₁ p.reads }
  where
    inside : (n : Next) (i : ℕ) → got k i ≡ read_from f s n → i ≤ length s
    inside (At j) i p = at_inside f s j k i (sym p)
    inside Short i p = let z : ◌≡◌ {A = ℕ} 0 1 = cc in absurd (omega arith)
    inside Refused i p = let z : ◌≡◌ {A = ℕ} 0 1 = cc in absurd (omega arith)

    go : (n : Next) → answer k n ≡ read_from f s n₀ → answer a n ≡ read_from (only a) s n
    go (At i) p = sym (at_only a s i (inside n₀ i p))
    go Short p = refl
    go Refused p = refl

-- ---- one of several forms, by a tag

module _ {A : Type 0} (tag_of : A → ℕ) (x : Alt tag_of) (xs : List (Alt tag_of)) {s : List ℕ} {n₀ n₁ : Next} {t : ℕ} (tag : Taken byte s n₀ t n₁) where
  after : ℕ → ℕ → Read A ℕ
  after t i = cond (has tag_of (x ∷ xs) t) (read_at (find tag_of x.form (x ∷ xs) t) s i) (stop Stop.Refused)

  choice_start : (n : Next) → read_from (choice tag_of x xs) s n ≡ and_then (read_from byte s n) after
  unfolding after
  choice_start (At i) = at_choice tag_of x xs s i
  choice_start Short = refl
  choice_start Refused = refl

  -- the tag is k, which is one of the tags
  pub choice_taken : (k : ℕ) → has tag_of (x ∷ xs) k ≡ true → t ≡ k → {a : A} {n₂ : Next} → Taken (find tag_of x.form (x ∷ xs) k) s n₁ a n₂ → Taken (choice tag_of x xs) s n₀ a n₂
  unfolding after
  choice_taken k h e q = record { reads = q.reads ∙ onward n₁ ∙ ap (λ (r : Read ℕ ℕ). and_then r after) (rw e at tag.reads) ∙ sym (choice_start n₀) }
    where
      onward : (n : Next) → read_from (find tag_of x.form (x ∷ xs) k) s n ≡ and_then (answer k n) after
      onward (At i) = rw h
      onward Short = refl
      onward Refused = refl

-- ---- raw bytes

pub raw_first : {s : List ℕ} {n₀ n₁ : Next} {b : ℕ} → Taken byte s n₀ b n₁ → Taken (raw 1) s n₀ b n₁
raw_first p = rw raw_one p

pub raw_taken : (n : ℕ) → 1 ≤ n → {s : List ℕ} {n₀ n₁ n₂ : Next} {v b : ℕ} → Taken (raw n) s n₀ v n₁ → Taken byte s n₁ b n₂ → Taken (raw (n + 1)) s n₀ (v * 256 + b) n₂
raw_taken zero h p q = absurd (omega arith)
raw_taken (suc n) h p q = rw (add-one, raw_more) (over_taken (λ x. x.0 * 256 + x.1) (λ v. (v / 256, v % 256)) (pair (raw (suc n)) byte) (raw_undo (raw (suc n))) (pair_taken p q))

pub raw_below : (v b n : ℕ) → v < 256 ^ n → b ≤ 255 → v * 256 + b < 256 ^ (n + 1)
raw_below v b n h k = rw (add-one, pow-suc) (omega (arith, mul-le-mul_right 256 h))

pub raw_fits : (v b n : ℕ) → v < 256 ^ n → n < 8 → b ≤ 255 → v * 256 + b < 2 ^ 64
raw_fits v b n h k l =
    let top : n ≤ 7 = omega arith in
    let room : 256 ^ n ≤ 256 ^ 7 = pow-le-pow_right (omega arith) top in
    omega arith
