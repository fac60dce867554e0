-- From what stands at a place to what a reader of the front leaves, and back.
use Rattle.std.specs.Prelude.{ℕ, ◌-◌, ◌≤◌, ◌≡◌, List, length, take, drop, Err, Ok}
use Rattle.std.proofs.Common.{sym, ap, ◌∙◌, arith, length-append, length-drop, take_all}
use Rattle.forms.specs.Form.{Form, Read, got, and_then, and_then-got, stop}
use Rattle.forms.specs.At.{read_at, placed, next_place, at_inside, at_valid}
use Rattle.forms.specs.Number.{number, number_below}
use Rattle.forms.specs.Answers.{stands}
use Rattle.forms.specs.declared.stop.Stop.{Stop}

-- what is left is no longer
pub left_less : {A : Type 0} (f : Form A) (s : List ℕ) (at : ℕ) (a : A) (rest : List ℕ) → got a rest ≡ f.read (drop at s) → length rest ≤ length s
left_less f s at a rest e = omega (arith, ap length (f.back (drop at s) a rest (sym e)).1, length-append (f.write a) rest, length-drop at s)

module _ {A : Type 0} (f : Form A) (s : List ℕ) where
  -- the value that stands at the front, and what is behind it
  pub front_got : (a : A) (n : ℕ) → got a n ≡ read_at f s 0 → got a (take (length s - n) (drop n s)) ≡ f.read s
  unfolding placed
  front_got a n e =
      let (x, rest, r, k) = and_then-got (f.read s) (λ a rest. got a (length s - length rest)) a n (sym e) in
      let both : ◌≡◌ {A = Read A ℕ} (got x (length s - length rest)) (got a n) = k in
      let same : a ≡ x = cc in
      let place : n ≡ length s - length rest = cc in
      ap (λ (l : List ℕ). got a l) (take_all (length s - n) (drop n s) (omega (arith, length-drop n s))) ∙ ap (λ (y : A). got y (drop n s)) same ∙ ap (λ (l : List ℕ). got x l) (ap (λ (m : ℕ). drop m s) place ∙ next_place f s 0 x rest r) ∙ sym r

  pub front_stop : (why : Stop) → stop why ≡ read_at f s 0 → stop why ≡ f.read s
  unfolding placed
  front_stop why e = go (f.read s) e
    where
      go : (r : Read A (List ℕ)) → stop why ≡ and_then r (λ a rest. got a (length s - length rest)) → stop why ≡ r
      go (got a rest) h = let z : ◌≡◌ {A = ℕ} 0 1 = cc in absurd (omega arith)
      go (stop w) h = let same : w ≡ why = cc in rw same

  pub front_inside : (a : A) (n : ℕ) → got a n ≡ read_at f s 0 → n ≤ length s
  front_inside a n e = at_inside f s 0 a n (sym e)

  -- from the bytes behind `at` to what stands there
  module _ (at : ℕ) where
    pub stands_got : (rest : List ℕ) (a : A) → got a rest ≡ f.read (drop at s) → stands (Ok (a, length s - length rest)) ≡ read_at f s at
    unfolding placed
    stands_got rest a e = ap (λ (r : Read A (List ℕ)). and_then r (λ b after. got b (length s - length after))) e

    pub stands_stop : (why : Stop) → stop why ≡ f.read (drop at s) → stands (Err why) ≡ read_at f s at
    unfolding placed
    stands_stop why e = ap (λ (r : Read A (List ℕ)). and_then r (λ b after. got b (length s - length after))) e

pub front_most : (most : ℕ) (s : List ℕ) (v n : ℕ) → got v n ≡ read_at (number most) s 0 → v ≤ most
front_most most s v n e = number_below most v (at_valid (number most) s 0 v n (sym e))
