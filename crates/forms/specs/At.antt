-- Reading at a place of a list of bytes: what code that keeps a position finds.
use Rattle.std.specs.Prelude.{ℕ, ◌+◌, ◌-◌, ◌/◌, ◌≤◌, ◌<◌, ◌≡◌, refl, List, [], ◌∷◌, ◌++◌, Bool, true, false, cond, ◌&&◌, take, drop, get_or, ltb, leb}
use Rattle.std.proofs.Common.{sym, ap, ◌∙◌, append_assoc, length-append, length-drop, take-append-drop, drop_of_length-le, drop-cons, lt-ltb}
use native.Mathlib.Omega.{arith}
use Rattle.std.proofs.Math.Numerals.{add-one}
use Rattle.std.proofs.Math.ListN.{length}
use Rattle.std.proofs.Math.Seq.{drop-append_seam}
use Rattle.forms.specs.Form.{Form, Read, got, and_then, and_then-got, only, only_reads, one, ok, one_of_byte, over, over_reads, follow, follow_reads, pair, with_first, first_agrees, pair_is, with_first_is, byte, byte_reads, byte_ends, Alt, has, find, choice, choice_reads}
use Rattle.forms.specs.Number.{number, number_reads, read_groups, step, raise, within, is_within, step_last, step_more, step_out}
use Rattle.std.proofs.lemmas.Bool.{lt-leb}
use Rattle.forms.specs.Form.{stop}
use Rattle.forms.specs.declared.stop.Stop.{Stop}

-- what a way of reading finds from `at` on; the place behind it stands for the rest
unfoldable pub placed : {A : Type 0} → (List ℕ → Read A (List ℕ)) → List ℕ → ℕ → Read A ℕ
placed read s at = and_then (read (drop at s)) (λ a rest. got a (length s - length rest))

abbrev pub read_at : {A : Type 0} → Form A → List ℕ → ℕ → Read A ℕ
read_at f s at = placed f.read s at

-- from the front on
pub placed_front : {A : Type 0} (read : List ℕ → Read A (List ℕ)) (s : List ℕ) → placed read s 0 ≡ and_then (read s) (λ a rest. got a (length s - length rest))
unfolding placed
placed_front read s = refl

-- the rest stands at its place
rest_place : (s p rest : List ℕ) → s ≡ p ++ rest → drop (length s - length rest) s ≡ rest
rest_place s p rest e =
    let n : length s - length rest ≡ length p = rw (e, length-append) (omega arith) in
    rw n (rw e (drop-append_seam p rest))

module _ {A : Type 0} (f : Form A) (s : List ℕ) (at : ℕ) where
  pub next_place : (a : A) (rest : List ℕ) → f.read (drop at s) ≡ got a rest → drop (length s - length rest) s ≡ rest
  next_place a rest e =
      rest_place s (take at s ++ f.write a) rest
      (sym (take-append-drop at s) ∙ ap (λ (l : List ℕ). take at s ++ l) (f.back (drop at s) a rest e).1 ∙ sym (append_assoc (take at s) (f.write a) rest))

pub at_follow : {K A : Type 0} (f : Form K) (key : A → K) (g : K → Form A) (agrees : (k : K) (a : A) → f.valid k → (g k).valid a → key a ≡ k) (s : List ℕ) (at : ℕ)
    → read_at (follow f key g agrees) s at ≡ and_then (read_at f s at) (λ k next. read_at (g k) s next)
unfolding placed
at_follow {K} {A} f key g agrees s at = rw (follow_reads f key g agrees) (go (f.read (drop at s)) refl)
  where
    go : (r : Read K (List ℕ)) → f.read (drop at s) ≡ r
        → and_then (and_then r (λ k rest. (g k).read rest)) (λ a rest. got a (length s - length rest))
        ≡ and_then (and_then r (λ k rest. got k (length s - length rest))) (λ k next. and_then ((g k).read (drop next s)) (λ a rest. got a (length s - length rest)))
    go (got k rest) e = rw (next_place f s at k rest e)
    go (stop Stop.Short) e = refl
    go (stop Stop.Refused) e = refl

pub at_over : {A B : Type 0} (to : A → B) (from : B → A) (f : Form A) (undo : (a : A) → f.valid a → from (to a) ≡ a) (s : List ℕ) (at : ℕ)
    → read_at (over to from f undo) s at ≡ and_then (read_at f s at) (λ a next. got (to a) next)
unfolding placed
at_over {A} {B} to from f undo s at = rw (over_reads to from f undo) (go (f.read (drop at s)))
  where
    go : (r : Read A (List ℕ))
        → and_then (and_then r (λ a rest. got (to a) rest)) (λ a rest. got a (length s - length rest))
        ≡ and_then (and_then r (λ a rest. got a (length s - length rest))) (λ a next. got (to a) next)
    go (got a rest) = refl
    go (stop Stop.Short) = refl
    go (stop Stop.Refused) = refl

pub at_pair : {A B : Type 0} (f : Form A) (g : Form B) (s : List ℕ) (at : ℕ)
    → read_at (pair f g) s at ≡ and_then (read_at f s at) (λ a next. and_then (read_at g s next) (λ b last. got (a, b) last))
at_pair f g s at = rw pair_is (at_follow f (λ x. x.0) (with_first f g) (first_agrees f g) s at ∙ simp (with_first_is, at_over))

pub at_only : {A : Type 0} (a : A) (s : List ℕ) (at : ℕ) → at ≤ length s → read_at (only a) s at ≡ got a at
unfolding placed
at_only a s at h = rw only_reads (ap (λ (n : ℕ). got a n) (rw length-drop (omega arith)))

module _ {A : Type 0} (read : List ℕ → Read A (List ℕ)) (s : List ℕ) (at : ℕ) where
  -- past the end nothing is left
  pub placed_end : length s ≤ at → placed read s at ≡ and_then (read []) (λ a rest. got a (length s - length rest))
  unfolding placed
  placed_end h = rw (drop_of_length-le s h)

  -- before it, a byte
  pub placed_byte : at < length s → placed read s at ≡ and_then (read (get_or s at 0 ∷ drop (at + 1) s)) (λ a rest. got a (length s - length rest))
  unfolding placed
  placed_byte h = rw (drop-cons s at 0 h, ← add-one at)

pub byte_end : (s : List ℕ) (at : ℕ) → length s ≤ at → stop Stop.Short ≡ read_at byte s at
byte_end s at h = sym (placed_end byte.read s at h ∙ rw byte_ends)

pub byte_at : (s : List ℕ) (at b : ℕ) → at < length s → b ≡ get_or s at 0 → b < 256 → got b (at + 1) ≡ read_at byte s at
byte_at s at b h e w =
    let place : length s - length (drop (at + 1) s) ≡ at + 1 = rw length-drop (omega arith) in
    sym (placed_byte byte.read s at h ∙ rw (← e, byte_reads, lt-ltb b 256 w, place))

pub at_one : (test : ℕ → Bool) (some : ℕ) (h : ok test some ≡ true) (s : List ℕ) (at : ℕ)
    → read_at (one test some h) s at ≡ and_then (read_at byte s at) (λ b next. cond (test b) (got b next) (stop Stop.Refused))
unfolding placed
at_one test some h s at = rw one_of_byte (go (byte.read (drop at s)))
  where
    inner : (p : Bool) (b : ℕ) (rest : List ℕ)
        → and_then (cond p (got b rest) (stop Stop.Refused)) (λ a rest. got a (length s - length rest)) ≡ cond p (got b (length s - length rest)) (stop Stop.Refused)
    inner true b rest = refl
    inner false b rest = refl

    go : (r : Read ℕ (List ℕ))
        → and_then (and_then r (λ b rest. cond (test b) (got b rest) (stop Stop.Refused))) (λ a rest. got a (length s - length rest))
        ≡ and_then (and_then r (λ a rest. got a (length s - length rest))) (λ b next. cond (test b) (got b next) (stop Stop.Refused))
    go (got b rest) = inner (test b) b rest
    go (stop Stop.Short) = refl
    go (stop Stop.Refused) = refl

pub at_choice : {A : Type 0} (tag_of : A → ℕ) (x : Alt tag_of) (xs : List (Alt tag_of)) (s : List ℕ) (at : ℕ)
    → read_at (choice tag_of x xs) s at ≡ and_then (read_at byte s at) (λ t next. cond (has tag_of (x ∷ xs) t) (read_at (find tag_of x.form (x ∷ xs) t) s next) (stop Stop.Refused))
unfolding placed
at_choice {A} tag_of x xs s at = rw choice_reads (go (byte.read (drop at s)) refl)
  where
    g : ℕ → Form A
    g t = find tag_of x.form (x ∷ xs) t

    inner : (p : Bool) (t : ℕ) (rest : List ℕ) → drop (length s - length rest) s ≡ rest
        → and_then (cond p ((g t).read rest) (stop Stop.Refused)) (λ a rest. got a (length s - length rest))
        ≡ cond p (and_then ((g t).read (drop (length s - length rest) s)) (λ a rest. got a (length s - length rest))) (stop Stop.Refused)
    inner true t rest e = rw e
    inner false t rest e = refl

    go : (r : Read ℕ (List ℕ)) → byte.read (drop at s) ≡ r
        → and_then (and_then r (λ t rest. cond (has tag_of (x ∷ xs) t) ((g t).read rest) (stop Stop.Refused))) (λ a rest. got a (length s - length rest))
        ≡ and_then (and_then r (λ t rest. got t (length s - length rest)))
        (λ t next. cond (has tag_of (x ∷ xs) t) (and_then ((g t).read (drop next s)) (λ a rest. got a (length s - length rest))) (stop Stop.Refused))
    go (got t rest) e = inner (has tag_of (x ∷ xs) t) t rest (next_place byte s at t rest e)
    go (stop Stop.Short) e = refl
    go (stop Stop.Refused) e = refl

pub groups_end : (least most : ℕ) (s : List ℕ) (at : ℕ) → length s ≤ at → placed (read_groups least most) s at ≡ stop Stop.Short
unfolding read_groups
groups_end least most s at h = placed_end (read_groups least most) s at h

step_placed : {R : Type 0} (h : R → ℕ) (least most b : ℕ) (rest : R) (more : Read ℕ R)
    → and_then (step least most b rest more) (λ a r. got a (h r)) ≡ step least most b (h rest) (and_then more (λ a r. got a (h r)))
step_placed {R} h least most b rest more = go (within least most b) (ltb b 128) more
  where
    go : (p q : Bool) (m : Read ℕ R)
        → and_then (cond p (cond q (got b rest) (raise b m)) (stop Stop.Refused)) (λ a r. got a (h r)) ≡ cond p (cond q (got b (h rest)) (raise b (and_then m (λ a r. got a (h r))))) (stop Stop.Refused)
    go true true m = refl
    go true false (got a r) = refl
    go true false (stop Stop.Short) = refl
    go true false (stop Stop.Refused) = refl
    go false q m = refl

pub groups_at : (least most : ℕ) (s : List ℕ) (at : ℕ) → at < length s
    → placed (read_groups least most) s at ≡ step least most (get_or s at 0) (at + 1) (placed (read_groups 1 ((most - get_or s at 0) / 128 + 1)) s (at + 1))
unfolding read_groups placed
groups_at least most s at h =
    let b = get_or s at 0 in
    let rest = drop (at + 1) s in
    let place : length s - length rest ≡ at + 1 = rw length-drop (omega arith) in
    placed_byte (read_groups least most) s at h
    ∙ step_placed (λ (r : List ℕ). length s - length r) least most b rest (read_groups 1 ((most - b) / 128 + 1) rest)
    ∙ ap (λ (n : ℕ). step least most b n (placed (read_groups 1 ((most - b) / 128 + 1)) s (at + 1))) place

-- what was read at a place is valid, and ends within the bytes
module _ {A : Type 0} (f : Form A) (s : List ℕ) (at : ℕ) (a : A) (n : ℕ) where
  pub at_valid : read_at f s at ≡ got a n → f.valid a
  unfolding placed
  at_valid e =
      let (x, u, r, k) = and_then-got (f.read (drop at s)) (λ a rest. got a (length s - length rest)) a n e in
      let same : x ≡ a = cc in
      rw same at (f.back (drop at s) x u r).0

  pub at_inside : read_at f s at ≡ got a n → n ≤ length s
  unfolding placed
  at_inside e =
      let (x, u, r, k) = and_then-got (f.read (drop at s)) (λ a rest. got a (length s - length rest)) a n e in
      let same : length s - length u ≡ n = cc in
      omega arith

and-false : (p : Bool) → p && false ≡ false
and-false true = refl
and-false false = refl

-- the byte b at `at` decides: it is out of range, it ends the number, or more follows
module _ (s : List ℕ) (at b least most : ℕ) where
  abbrev more : Read ℕ ℕ
  more = placed (read_groups 1 ((most - b) / 128 + 1)) s (at + 1)

  groups_byte : at < length s → b ≡ get_or s at 0 → step least most b (at + 1) more ≡ placed (read_groups least most) s at
  groups_byte h e = rw e (sym (groups_at least most s at h))

  pub low_at : at < length s → b ≡ get_or s at 0 → b < least → stop Stop.Refused ≡ placed (read_groups least most) s at
  low_at h e l = sym (step_out least most b (at + 1) more (rw (lt-leb least b l) (and-false (ltb b 256)))) ∙ groups_byte h e

  pub high_at : at < length s → b ≡ get_or s at 0 → most < b → stop Stop.Refused ≡ placed (read_groups least most) s at
  high_at h e m = sym (step_out least most b (at + 1) more (rw (lt-leb b most m, and-false (leb least b)) (and-false (ltb b 256)))) ∙ groups_byte h e

  pub last_at : at < length s → b ≡ get_or s at 0 → b < 256 → least ≤ b → b ≤ most → b < 128 → got b (at + 1) ≡ placed (read_groups least most) s at
  last_at h e w l m small = sym (step_last least most b (at + 1) more (is_within least most b w l m) small) ∙ groups_byte h e

  pub more_at : at < length s → b ≡ get_or s at 0 → b < 256 → least ≤ b → b ≤ most → 128 ≤ b
      → raise b (placed (read_groups 1 ((most - b) / 128 + 1)) s (at + 1)) ≡ placed (read_groups least most) s at
  more_at h e w l m large = sym (step_more least most b (at + 1) more (is_within least most b w l m) large) ∙ groups_byte h e

-- a number whose first byte is below 128: it is that byte, or refused where the byte is above the bound
module _ (s : List ℕ) (at b most : ℕ) (inside : at < length s) (is : b ≡ get_or s at 0) where
  pub one_high : most < b → stop Stop.Refused ≡ read_at (number most) s at
  one_high h = rw number_reads (high_at s at b 0 most inside is h)

  pub one_byte : b ≤ most → b < 128 → got b (at + 1) ≡ read_at (number most) s at
  one_byte h small = rw number_reads (last_at s at b 0 most inside is (omega arith) (omega arith) h small)
