-- A byte form: how values of a type are written as bytes and read back, with its laws. The laws are proved once for each way of
-- making a form: `only`, `one`, `over` and `follow`, and of these `pair`, `byte` and `raw`.
use Prim.Native.Nat.{ℕ, zero, suc, ◌+◌, ◌*◌, ◌/◌, ◌%◌, ◌^◌, ◌<◌}
use Rattle.std.proofs.Math.Path.{◌≡◌, refl, sym, ap}
use Rattle.std.proofs.Common.{◌∙◌, inl, inr, pow-suc, div-lt_iff_lt-mul, length-append}
use mathlib.Core.List.{List, [], ◌∷◌, ◌++◌, append_assoc, append-nil}
use Rattle.std.specs.Prelude.{Bool, ◌&&◌, ◌⊎◌, length, ltb, eqb, Result, Ok, Err}
use Rattle.std.proofs.Math.Bool.{true, false, cond}
use native.Mathlib.Omega.{arith}
use borrow.Author.Tests.{ltb-true, lt-ltb, eqb-true, eq-eqb}
use Rattle.forms.specs.declared.stop.Stop.{Stop}

-- What reading finds: a value, with the rest or the place where it begins; or why there is none.
pub data Read (A R : Type 0) : Type 0 where
  got : A → R → Read A R
  stop : Stop → Read A R

-- what a reader answered, with the bytes that it left
abbrev pub found : {A : Type 0} → Result A Stop → List ℕ → Read A (List ℕ)
found (Ok a) rest = got a rest
found (Err why) rest = stop why

pub record Form (A : Type 0) : Type 1 where
  pub valid : A → Type 0
  pub write : A → List ℕ
  pub read : List ℕ → Read A (List ℕ)
  -- some value has this form
  pub example : A
  pub example_valid : valid example
  -- what was written is read back, whatever stands behind it
  pub there : (a : A) (rest : List ℕ) → valid a → read (write a ++ rest) ≡ got a rest
  -- what is read was written so
  pub back : (s : List ℕ) (a : A) (rest : List ℕ) → read s ≡ got a rest → valid a × (s ≡ write a ++ rest)
  -- what is short begins something written
  pub begins : (s : List ℕ) → read s ≡ stop Stop.Short → (a : A) × (t : List ℕ) × valid a × (s ++ t ≡ write a)
  -- what is refused stays refused, whatever stands behind it
  pub stays : (s t : List ℕ) → read s ≡ stop Stop.Refused → read (s ++ t) ≡ stop Stop.Refused

module _ {A B R S : Type 0} where
  -- go on with the value and the rest, if there are any
  abbrev pub and_then : Read A R → (A → R → Read B S) → Read B S
  and_then (got a r) k = k a r
  and_then (stop why) k = stop why

  pub and_then-got : (r : Read A R) (k : A → R → Read B S) (b : B) (t : S) → and_then r k ≡ got b t → (a : A) × (u : R) × (r ≡ got a u) × (k a u ≡ got b t)
  and_then-got (got a u) k b t e = (a, u, refl, e)
  and_then-got (stop Stop.Short) k b t e = let z : ◌≡◌ {A = ℕ} 0 1 = cc in absurd (omega arith)
  and_then-got (stop Stop.Refused) k b t e = let z : ◌≡◌ {A = ℕ} 0 1 = cc in absurd (omega arith)

  pub and_then-short : (r : Read A R) (k : A → R → Read B S) → and_then r k ≡ stop Stop.Short → (r ≡ stop Stop.Short) ⊎ ((a : A) × (u : R) × (r ≡ got a u) × (k a u ≡ stop Stop.Short))
  and_then-short (got a u) k e = inr (a, u, refl, e)
  and_then-short (stop Stop.Short) k e = inl refl
  and_then-short (stop Stop.Refused) k e = let z : ◌≡◌ {A = ℕ} 0 1 = cc in absurd (omega arith)

  pub and_then-refused : (r : Read A R) (k : A → R → Read B S) → and_then r k ≡ stop Stop.Refused → (r ≡ stop Stop.Refused) ⊎ ((a : A) × (u : R) × (r ≡ got a u) × (k a u ≡ stop Stop.Refused))
  and_then-refused (got a u) k e = inr (a, u, refl, e)
  and_then-refused (stop Stop.Short) k e = let z : ◌≡◌ {A = ℕ} 0 1 = cc in absurd (omega arith)
  and_then-refused (stop Stop.Refused) k e = inl refl

-- A form of no bytes, for one value.
unfoldable pub only : {A : Type 0} → A → Form A
only {A} a =
    record {
      valid = λ x. x ≡ a;
      write = λ x. [];
      read = λ s. got a s;
      example = a;
      example_valid = refl;
      there = λ x rest e. cc;
      back = λ s x rest e. (cc, cc);
      begins = λ s e. absurd (differ s e);
      stays = λ s t e. absurd (differ_refused s e);
    }
  where
    differ : (s : List ℕ) → ◌≡◌ {A = Read A (List ℕ)} (got a s) (stop Stop.Short) → ⊥
    differ s e = let z : ◌≡◌ {A = ℕ} 0 1 = cc in omega arith

    differ_refused : (s : List ℕ) → ◌≡◌ {A = Read A (List ℕ)} (got a s) (stop Stop.Refused) → ⊥
    differ_refused s e = let z : ◌≡◌ {A = ℕ} 0 1 = cc in omega arith

pub only_reads : {A : Type 0} (a : A) (s : List ℕ) → (only a).read s ≡ got a s
unfolding only
only_reads a s = refl

pub only_is_valid : {A : Type 0} (a x : A) → x ≡ a → (only a).valid x
unfolding only
only_is_valid a x e = e

pub only_is : {A : Type 0} (a x : A) → (only a).valid x → x ≡ a
unfolding only
only_is a x v = v

pub only_writes : {A : Type 0} (a x : A) → (only a).write x ≡ []
unfolding only
only_writes a x = refl

-- One byte that passes a test.
module _ (test : ℕ → Bool) where
  abbrev pub ok : ℕ → Bool
  ok b = ltb b 256 && test b

  pub one_read : List ℕ → Read ℕ (List ℕ)
  one_read [] = stop Stop.Short
  one_read (b ∷ s) = cond (ok b) (got b s) (stop Stop.Refused)

  one_got : (b : ℕ) (s : List ℕ) (x : ℕ) (rest : List ℕ) (t : Bool) → ok b ≡ t → cond t (got b s) (stop Stop.Refused) ≡ got x rest → (ok x ≡ true) × (b ∷ s ≡ x ∷ rest)
  one_got b s x rest true e h = (cc, cc)
  one_got b s x rest false e h = let z : ◌≡◌ {A = ℕ} 0 1 = cc in absurd (omega arith)

  pub one_back : (s : List ℕ) (x : ℕ) (rest : List ℕ) → one_read s ≡ got x rest → (ok x ≡ true) × (s ≡ x ∷ rest)
  unfolding one_read
  one_back [] x rest e = let z : ◌≡◌ {A = ℕ} 0 1 = cc in absurd (omega arith)
  one_back (b ∷ s) x rest e = one_got b s x rest (ok b) refl e

  pub one_begins : (some : ℕ) → ok some ≡ true → (s : List ℕ) → one_read s ≡ stop Stop.Short → (a : ℕ) × (t : List ℕ) × (ok a ≡ true) × (s ++ t ≡ a ∷ [])
  unfolding one_read
  one_begins some h [] e = (some, some ∷ [], h, refl)
  one_begins some h (b ∷ s) e = absurd (go (ok b) e)
    where
      go : (t : Bool) → ◌≡◌ {A = Read ℕ (List ℕ)} (cond t (got b s) (stop Stop.Refused)) (stop Stop.Short) → ⊥
      go true q = let z : ◌≡◌ {A = ℕ} 0 1 = cc in omega arith
      go false q = let z : ◌≡◌ {A = ℕ} 0 1 = cc in omega arith

  pub one_stays : (s t : List ℕ) → one_read s ≡ stop Stop.Refused → one_read (s ++ t) ≡ stop Stop.Refused
  unfolding one_read
  one_stays [] t e = let z : ◌≡◌ {A = ℕ} 0 1 = cc in absurd (omega arith)
  one_stays (b ∷ s) t e = go (ok b) e
    where
      go : (q : Bool) → ◌≡◌ {A = Read ℕ (List ℕ)} (cond q (got b s) (stop Stop.Refused)) (stop Stop.Refused) → ◌≡◌ {A = Read ℕ (List ℕ)} (cond q (got b (s ++ t)) (stop Stop.Refused)) (stop Stop.Refused)
      go true h = let z : ◌≡◌ {A = ℕ} 0 1 = cc in absurd (omega arith)
      go false h = refl

  unfoldable pub one : (some : ℕ) → ok some ≡ true → Form ℕ
  unfolding one_read
  one some h =
      record {
        valid = λ b. ok b ≡ true;
        write = λ b. b ∷ [];
        read = one_read;
        example = some;
        example_valid = h;
        there = λ b rest e. rw e;
        back = one_back;
        begins = one_begins some h;
        stays = one_stays;
      }

  pub one_reads : (some : ℕ) (h : ok some ≡ true) (b : ℕ) (s : List ℕ) → (one some h).read (b ∷ s) ≡ cond (ok b) (got b s) (stop Stop.Refused)
  unfolding one one_read
  one_reads some h b s = refl

  pub one_writes : (some : ℕ) (h : ok some ≡ true) (b : ℕ) → (one some h).write b ≡ b ∷ []
  unfolding one
  one_writes some h b = refl

  pub one_ends : (some : ℕ) (h : ok some ≡ true) → (one some h).read [] ≡ stop Stop.Short
  unfolding one one_read
  one_ends some h = refl

  pub one_is_valid : (some : ℕ) (h : ok some ≡ true) (b : ℕ) → ok b ≡ true → (one some h).valid b
  unfolding one
  one_is_valid some h b v = v

  pub one_valid : (some : ℕ) (h : ok some ≡ true) (b : ℕ) → (one some h).valid b → ltb b 256 && test b ≡ true
  unfolding one
  one_valid some h b v = v

-- The values of another type that stand for the values of a form: `from` undoes `to`.
module _ {A B : Type 0} (to : A → B) (from : B → A) (f : Form A) (undo : (a : A) → f.valid a → from (to a) ≡ a) where
  abbrev pub over_valid : B → Type 0
  over_valid b = f.valid (from b) × (to (from b) ≡ b)

  abbrev pub over_read : List ℕ → Read B (List ℕ)
  over_read s = and_then (f.read s) (λ a rest. got (to a) rest)

  pub over_there : (b : B) (rest : List ℕ) → over_valid b → over_read (f.write (from b) ++ rest) ≡ got b rest
  over_there b rest v = rw (f.there (from b) rest v.0) (ap (λ (x : B). got x rest) v.1)

  pub over_back : (s : List ℕ) (b : B) (rest : List ℕ) → over_read s ≡ got b rest → over_valid b × (s ≡ f.write (from b) ++ rest)
  over_back s b rest e =
      let (a, u, r, k) = and_then-got (f.read s) (λ a rest. got (to a) rest) b rest e in
      let (v, w) = f.back s a u r in
      let q : from b ≡ a = ap from (sym (cc)) ∙ undo a v in
      ((rw q v, rw q (cc)), rw q (cc))

  pub over_begins : (s : List ℕ) → over_read s ≡ stop Stop.Short → (b : B) × (t : List ℕ) × over_valid b × (s ++ t ≡ f.write (from b))
  over_begins s e = go (and_then-short (f.read s) (λ a rest. got (to a) rest) e)
    where
      go : (f.read s ≡ stop Stop.Short) ⊎ ((a : A) × (u : List ℕ) × (f.read s ≡ got a u) × (got (to a) u ≡ stop Stop.Short)) → (b : B) × (t : List ℕ) × over_valid b × (s ++ t ≡ f.write (from b))
      go (inl h) =
          let (a, t, v, w) = f.begins s h in
          (to a, t, (rw (undo a v) v, ap to (undo a v)), rw (undo a v) w)
      go (inr h) = let k = h.3 in let z : ◌≡◌ {A = ℕ} 0 1 = cc in absurd (omega arith)

  pub over_stays : (s t : List ℕ) → over_read s ≡ stop Stop.Refused → over_read (s ++ t) ≡ stop Stop.Refused
  over_stays s t e = go (and_then-refused (f.read s) (λ a rest. got (to a) rest) e)
    where
      go : (f.read s ≡ stop Stop.Refused) ⊎ ((a : A) × (u : List ℕ) × (f.read s ≡ got a u) × (got (to a) u ≡ stop Stop.Refused)) → over_read (s ++ t) ≡ stop Stop.Refused
      go (inl h) = rw (f.stays s t h)
      go (inr h) = let k = h.3 in let z : ◌≡◌ {A = ℕ} 0 1 = cc in absurd (omega arith)

  unfoldable pub over : Form B
  over =
      record {
        valid = over_valid;
        write = λ b. f.write (from b);
        read = over_read;
        example = to f.example;
        example_valid =
            let e = undo f.example f.example_valid in
            (rw e f.example_valid, ap to e);
        there = over_there;
        back = over_back;
        begins = over_begins;
        stays = over_stays;
      }

  pub over_reads : (s : List ℕ) → over.read s ≡ and_then (f.read s) (λ a rest. got (to a) rest)
  unfolding over
  over_reads s = refl

  pub over_ends : f.read [] ≡ stop Stop.Short → over.read [] ≡ stop Stop.Short
  unfolding over
  over_ends e = rw e

  pub over_fits : (b : B) → over.valid b → f.valid (from b)
  unfolding over
  over_fits b v = v.0

  pub over_writes : (b : B) → over.write b ≡ f.write (from b)
  unfolding over
  over_writes b = refl

  pub over_image : (b : B) → over.valid b → to (from b) ≡ b
  unfolding over
  over_image b v = v.1

  pub over_is_valid : (b : B) → f.valid (from b) → to (from b) ≡ b → over.valid b
  unfolding over
  over_is_valid b v e = (v, e)

-- One form after another, which may depend on the value read first. The whole value tells that first value: its `key`.
module _ {K A : Type 0} (f : Form K) (key : A → K) (g : K → Form A) (agrees : (k : K) (a : A) → f.valid k → (g k).valid a → key a ≡ k) where
  abbrev pub follow_valid : A → Type 0
  follow_valid a = f.valid (key a) × (g (key a)).valid a

  abbrev pub follow_write : A → List ℕ
  follow_write a = f.write (key a) ++ (g (key a)).write a

  abbrev pub follow_read : List ℕ → Read A (List ℕ)
  follow_read s = and_then (f.read s) (λ k rest. (g k).read rest)

  -- a value of the second form, with its key
  pub follow_of : (k : K) (a : A) → f.valid k → (g k).valid a → follow_valid a × (follow_write a ≡ f.write k ++ (g k).write a)
  follow_of k a v w = let e = agrees k a v w in ((rw e v, rw e w), rw e)

  pub follow_there : (a : A) (rest : List ℕ) → follow_valid a → follow_read (follow_write a ++ rest) ≡ got a rest
  follow_there a rest v =
      rw append_assoc (rw (f.there (key a) ((g (key a)).write a ++ rest) v.0) ((g (key a)).there a rest v.1))

  pub follow_back : (s : List ℕ) (a : A) (rest : List ℕ) → follow_read s ≡ got a rest → follow_valid a × (s ≡ follow_write a ++ rest)
  follow_back s a rest e =
      let (k, u, r, h) = and_then-got (f.read s) (λ k rest. (g k).read rest) a rest e in
      let (v, w) = f.back s k u r in
      let (x, y) = (g k).back u a rest h in
      let (ok, whole) = follow_of k a v x in
      (ok, w ∙ ap (λ (l : List ℕ). f.write k ++ l) y ∙ sym (append_assoc (f.write k) ((g k).write a) rest) ∙ ap (λ (l : List ℕ). l ++ rest) (sym whole))

  pub follow_begins : (s : List ℕ) → follow_read s ≡ stop Stop.Short → (a : A) × (t : List ℕ) × follow_valid a × (s ++ t ≡ follow_write a)
  follow_begins s e = go (and_then-short (f.read s) (λ k rest. (g k).read rest) e)
    where
      go : (f.read s ≡ stop Stop.Short) ⊎ ((k : K) × (u : List ℕ) × (f.read s ≡ got k u) × ((g k).read u ≡ stop Stop.Short)) → (a : A) × (t : List ℕ) × follow_valid a × (s ++ t ≡ follow_write a)
      go (inl h) =
          let (k, t, v, w) = f.begins s h in
          let a = (g k).example in
          let (ok, whole) = follow_of k a v (g k).example_valid in
          (a, t ++ (g k).write a, ok, sym (append_assoc s t ((g k).write a)) ∙ ap (λ (l : List ℕ). l ++ (g k).write a) w ∙ sym whole)
      go (inr (k, u, r, h)) =
          let (v, w) = f.back s k u r in
          let (a, t, x, y) = (g k).begins u h in
          let (ok, whole) = follow_of k a v x in
          (a, t, ok, ap (λ (l : List ℕ). l ++ t) w ∙ append_assoc (f.write k) u t ∙ ap (λ (l : List ℕ). f.write k ++ l) y ∙ sym whole)

  pub follow_stays : (s t : List ℕ) → follow_read s ≡ stop Stop.Refused → follow_read (s ++ t) ≡ stop Stop.Refused
  follow_stays s t e = go (and_then-refused (f.read s) (λ k rest. (g k).read rest) e)
    where
      go : (f.read s ≡ stop Stop.Refused) ⊎ ((k : K) × (u : List ℕ) × (f.read s ≡ got k u) × ((g k).read u ≡ stop Stop.Refused)) → follow_read (s ++ t) ≡ stop Stop.Refused
      go (inl h) = rw (f.stays s t h)
      go (inr (k, u, r, h)) =
          let (v, w) = f.back s k u r in
          let more : f.read (s ++ t) ≡ got k (u ++ t) = rw w (rw append_assoc (f.there k (u ++ t) v)) in
          rw more ((g k).stays u t h)

  unfoldable pub follow : Form A
  follow =
      record {
        valid = follow_valid;
        write = follow_write;
        read = follow_read;
        example = (g f.example).example;
        example_valid = (follow_of f.example (g f.example).example f.example_valid (g f.example).example_valid).0;
        there = follow_there;
        back = follow_back;
        begins = follow_begins;
        stays = follow_stays;
      }

  pub follow_reads : (s : List ℕ) → follow.read s ≡ and_then (f.read s) (λ k rest. (g k).read rest)
  unfolding follow
  follow_reads s = refl

  pub follow_ends : f.read [] ≡ stop Stop.Short → follow.read [] ≡ stop Stop.Short
  unfolding follow
  follow_ends e = rw e

  pub follow_first : (a : A) → follow.valid a → f.valid (key a)
  unfolding follow
  follow_first a v = v.0

  pub follow_second : (a : A) → follow.valid a → (g (key a)).valid a
  unfolding follow
  follow_second a v = v.1

  pub follow_is_valid : (a : A) → f.valid (key a) → (g (key a)).valid a → follow.valid a
  unfolding follow
  follow_is_valid a v w = (v, w)

  pub follow_writes : (a : A) → follow.write a ≡ f.write (key a) ++ (g (key a)).write a
  unfolding follow
  follow_writes a = refl

-- Two forms, one behind the other.
module _ {A B : Type 0} (f : Form A) (g : Form B) where
  unfoldable pub with_first : A → Form (A × B)
  with_first a = over (λ b. (a, b)) (λ x. x.1) g (λ b v. refl)

  pub first_agrees : (a : A) (x : A × B) → f.valid a → (with_first a).valid x → x.0 ≡ a
  unfolding with_first over
  first_agrees a x u v = sym (ap (λ (p : A × B). p.0) v.1)

  unfoldable pub pair : Form (A × B)
  pair = follow f (λ x. x.0) with_first first_agrees

  pub pair_is : pair ≡ follow f (λ x. x.0) with_first first_agrees
  unfolding pair
  pair_is = refl

  pub with_first_is : (a : A) → with_first a ≡ over (λ b. (a, b)) (λ x. x.1) g (λ b v. refl)
  unfolding with_first
  with_first_is a = refl

  pub pair_writes : (x : A × B) → pair.write x ≡ f.write x.0 ++ g.write x.1
  unfolding pair follow with_first over
  pair_writes x = refl

  pub pair_ends : f.read [] ≡ stop Stop.Short → pair.read [] ≡ stop Stop.Short
  unfolding pair
  pair_ends e = follow_ends f (λ x. x.0) with_first first_agrees e

  pub pair_first : (x : A × B) → pair.valid x → f.valid x.0
  unfolding pair follow
  pair_first x v = v.0

  pub pair_second : (x : A × B) → pair.valid x → g.valid x.1
  unfolding pair follow with_first over
  pair_second x v = v.1.0

  pub pair_valid : (a : A) (b : B) → f.valid a → g.valid b → pair.valid (a, b)
  unfolding pair follow with_first over
  pair_valid a b v w = (v, (w, refl))

-- `short` is exactly a proper beginning of something valid written
module _ {A : Type 0} (f : Form A) where
  written : (a : A) → f.valid a → f.read (f.write a) ≡ got a []
  written a v = rw append-nil at (f.there a [] v)

  pub short_begins : (s : List ℕ) → f.read s ≡ stop Stop.Short → (a : A) × (b : ℕ) × (t : List ℕ) × f.valid a × (s ++ b ∷ t ≡ f.write a)
  short_begins s e = let (a, t, v, w) = f.begins s e in go a t v w
    where
      go : (a : A) (t : List ℕ) → f.valid a → s ++ t ≡ f.write a → (a : A) × (b : ℕ) × (t : List ℕ) × f.valid a × (s ++ b ∷ t ≡ f.write a)
      go a [] v w =
          let q : s ≡ f.write a = sym (append-nil s) ∙ w in
          let h : f.read s ≡ got a [] = rw q (written a v) in
          let z : ◌≡◌ {A = ℕ} 0 1 = cc in absurd (omega arith)
      go a (b ∷ t) v w = (a, b, t, v, w)

  pub begins_short : (s : List ℕ) (a : A) (b : ℕ) (t : List ℕ) → f.valid a → s ++ b ∷ t ≡ f.write a → f.read s ≡ stop Stop.Short
  begins_short s a b t v w = go (f.read s) refl
    where
      whole : f.read (s ++ b ∷ t) ≡ got a []
      whole = rw w (written a v)

      go : (r : Read A (List ℕ)) → f.read s ≡ r → r ≡ stop Stop.Short
      go (got x rest) e =
          let (y, q) = f.back s x rest e in
          let h : f.read (s ++ b ∷ t) ≡ got x (rest ++ b ∷ t) = rw q (rw append_assoc (f.there x (rest ++ b ∷ t) y)) in
          let none : rest ++ b ∷ t ≡ [] = cc whole in
          let n : length (rest ++ b ∷ t) ≡ 0 = ap length none in
          absurd (omega (arith, simp length-append at n))
      go (stop Stop.Short) e = refl
      go (stop Stop.Refused) e =
          let h = f.stays s (b ∷ t) e in
          let z : ◌≡◌ {A = ℕ} 0 1 = cc whole in absurd (omega arith)

-- A byte, and n bytes as one number, the first byte highest.
pub byte : Form ℕ
byte = one (λ b. true) 0 refl

pub byte_reads : (b : ℕ) (s : List ℕ) → byte.read (b ∷ s) ≡ cond (ltb b 256 && true) (got b s) (stop Stop.Refused)
unfolding byte
byte_reads b s = one_reads (λ b. true) 0 refl b s

pub one_of_byte : (test : ℕ → Bool) (some : ℕ) (h : ok test some ≡ true) (s : List ℕ)
    → (one test some h).read s ≡ and_then (byte.read s) (λ b rest. cond (test b) (got b rest) (stop Stop.Refused))
unfolding byte one one_read
one_of_byte test some h [] = refl
one_of_byte test some h (b ∷ s) = go (ltb b 256)
  where
    go : (p : Bool) → cond (p && test b) (got b s) (stop Stop.Refused) ≡ and_then (cond (p && true) (got b s) (stop Stop.Refused)) (λ b rest. cond (test b) (got b rest) (stop Stop.Refused))
    go true = refl
    go false = refl

pub byte_writes : (b : ℕ) → byte.write b ≡ b ∷ []
unfolding byte one
byte_writes b = refl

pub byte_ends : byte.read [] ≡ stop Stop.Short
unfolding byte
byte_ends = one_ends (λ b. true) 0 refl

pub byte_below : (b : ℕ) → byte.valid b → b < 256
unfolding byte one
byte_below b v = ltb-true b 256 (and_true (ltb b 256) v)
  where
    and_true : (p : Bool) → p && true ≡ true → p ≡ true
    and_true true h = refl
    and_true false h = h

pub raw_undo : (f : Form ℕ) (x : ℕ × ℕ) → (pair f byte).valid x → ((x.0 * 256 + x.1) / 256, (x.0 * 256 + x.1) % 256) ≡ x
raw_undo f x v =
    let below = byte_below x.1 (pair_second f byte x v) in
    let high : (x.0 * 256 + x.1) / 256 ≡ x.0 = omega arith in
    let low : (x.0 * 256 + x.1) % 256 ≡ x.1 = omega arith in
    rw (high, low)

pub raw : ℕ → Form ℕ
raw zero = only 0
raw (suc zero) = byte
raw (suc (suc n)) = over (λ x. x.0 * 256 + x.1) (λ v. (v / 256, v % 256)) (pair (raw (suc n)) byte) (raw_undo (raw (suc n)))

pub raw_more : (n : ℕ) → raw (suc (suc n)) ≡ over (λ x. x.0 * 256 + x.1) (λ v. (v / 256, v % 256)) (pair (raw (suc n)) byte) (raw_undo (raw (suc n)))
unfolding raw
raw_more n = refl

pub raw_zero : (v : ℕ) → (raw 0).write v ≡ []
unfolding raw
raw_zero v = only_writes 0 v

pub raw_one : raw 1 ≡ byte
unfolding raw
raw_one = refl

pub raw_one_writes : (v : ℕ) → (raw 1).write v ≡ v ∷ []
raw_one_writes v = rw (raw_one, byte_writes)

pub raw_writes : (n v : ℕ) → (raw (suc (suc n))).write v ≡ (raw (suc n)).write (v / 256) ++ (v % 256 ∷ [])
raw_writes n v = rw (raw_more, over_writes, pair_writes, byte_writes)

pub below_byte : (b : ℕ) → b < 256 → byte.valid b
unfolding byte one
below_byte b h = rw (lt-ltb b 256 h)

pub below_raw : (n v : ℕ) → v < 256 ^ n → (raw n).valid v
unfolding raw
below_raw zero v h = only_is_valid 0 v (omega arith)
below_raw (suc zero) v h = below_byte v h
below_raw (suc (suc n)) v h =
    let some : 0 < 256 = omega arith in
    let high : v / 256 < 256 ^ suc n = (div-lt_iff_lt-mul some).1 (rw (pow-suc 256 (suc n)) at h) in
    let whole : v / 256 * 256 + v % 256 ≡ v = omega arith in
    over_is_valid (λ x. x.0 * 256 + x.1) (λ v. (v / 256, v % 256)) (pair (raw (suc n)) byte) (raw_undo (raw (suc n))) v
    (pair_valid (raw (suc n)) byte (v / 256) (v % 256) (below_raw (suc n) (v / 256) high) (below_byte (v % 256) (omega arith)))
    whole

pub raw_is_below : (n v : ℕ) → (raw n).valid v → v < 256 ^ n
unfolding raw
raw_is_below zero v h = rw (only_is 0 v h) (omega arith)
raw_is_below (suc zero) v h = byte_below v h
raw_is_below (suc (suc n)) v h =
    let digits = over_fits (λ x. x.0 * 256 + x.1) (λ v. (v / 256, v % 256)) (pair (raw (suc n)) byte) (raw_undo (raw (suc n))) v h in
    let high = raw_is_below (suc n) (v / 256) (pair_first (raw (suc n)) byte (v / 256, v % 256) digits) in
    let some : 0 < 256 = omega arith in
    rw (pow-suc 256 (suc n)) ((div-lt_iff_lt-mul some).0 high)

pub raw_length : (n v : ℕ) → length ((raw n).write v) ≡ n
unfolding raw
raw_length zero v = ap length (only_writes 0 v)
raw_length (suc zero) v = ap length (byte_writes v)
raw_length (suc (suc n)) v =
    ap length (raw_writes n v) ∙ length-append ((raw (suc n)).write (v / 256)) (v % 256 ∷ []) ∙ rw (raw_length (suc n) (v / 256)) (omega arith)

-- One of several forms, told by a tag below 128, which is the first byte. `tag_of` tells the tag of a value.
pub record Alt {A : Type 0} (tag_of : A → ℕ) : Type 1 where
  pub tag : ℕ
  pub small : ltb tag 128 ≡ true
  pub form : Form A
  pub agrees : (a : A) → form.valid a → tag_of a ≡ tag

module _ {A : Type 0} (tag_of : A → ℕ) where
  pub alt_agrees : {B : Type 0} (t : ℕ) (to : B → A) (from : A → B) (f : Form B) (undo : (b : B) → f.valid b → from (to b) ≡ b) → ((b : B) → tag_of (to b) ≡ t)
      → (a : A) → (over to from f undo).valid a → tag_of a ≡ t
  unfolding over
  alt_agrees t to from f undo tags a v = sym (ap tag_of v.1) ∙ tags (from a)

  pub alt_only_agrees : (t : ℕ) (x : A) → tag_of x ≡ t → (a : A) → (only x).valid a → tag_of a ≡ t
  unfolding only
  alt_only_agrees t x h a v = ap tag_of v ∙ h

  -- the values that `to` makes have the tag t
  abbrev pub alt : {B : Type 0} (t : ℕ) → ltb t 128 ≡ true → (to : B → A) (from : A → B) (f : Form B) → ((b : B) → f.valid b → from (to b) ≡ b) → ((b : B) → tag_of (to b) ≡ t) → Alt tag_of
  alt t small to from f undo tags = record { tag = t; small = small; form = over to from f undo; agrees = alt_agrees t to from f undo tags }

  -- only the tag t, for one value
  abbrev pub alt_only : (t : ℕ) → ltb t 128 ≡ true → (x : A) → tag_of x ≡ t → Alt tag_of
  alt_only t small x h = record { tag = t; small = small; form = only x; agrees = alt_only_agrees t x h }

  abbrev pub has : List (Alt tag_of) → ℕ → Bool
  has [] t = false
  has (x ∷ xs) t = cond (eqb t x.tag) true (has xs t)

  abbrev pub find : Form A → List (Alt tag_of) → ℕ → Form A
  find none [] t = none
  find none (x ∷ xs) t = cond (eqb t x.tag) x.form (find none xs t)

  pub and_right : (p q : Bool) → p && q ≡ true → q ≡ true
  and_right true q h = h
  and_right false q h = let z : ◌≡◌ {A = ℕ} 0 1 = cc in absurd (omega arith)

  pub find_agrees : (none : Form A) (xs : List (Alt tag_of)) (t : ℕ) (a : A) → has xs t ≡ true → (find none xs t).valid a → tag_of a ≡ t
  find_agrees none [] t a h v = let z : ◌≡◌ {A = ℕ} 0 1 = cc in absurd (omega arith)
  find_agrees none (x ∷ xs) t a h v = go (eqb t x.tag) refl h v (λ h v. find_agrees none xs t a h v)
    where
      go : (q : Bool) → eqb t x.tag ≡ q → cond q true (has xs t) ≡ true → (cond q x.form (find none xs t)).valid a
          → (has xs t ≡ true → (find none xs t).valid a → tag_of a ≡ t) → tag_of a ≡ t
      go true e h v ih = x.agrees a v ∙ sym (eqb-true t x.tag e)
      go false e h v ih = ih h v

  pub has_first : (x : Alt tag_of) (xs : List (Alt tag_of)) → ltb x.tag 256 && has (x ∷ xs) x.tag ≡ true
  has_first x xs =
      let small = ltb-true x.tag 128 x.small in
      rw (lt-ltb x.tag 256 (omega arith), eq-eqb x.tag x.tag refl)

  module _ (x : Alt tag_of) (xs : List (Alt tag_of)) where
    unfoldable pub tag_of_lem : Form ℕ
    tag_of_lem = one (has (x ∷ xs)) x.tag (has_first x xs)

    pub tag_agrees : (t : ℕ) (a : A) → tag_of_lem.valid t → (find x.form (x ∷ xs) t).valid a → tag_of a ≡ t
    unfolding tag_of_lem one
    tag_agrees t a h v = find_agrees x.form (x ∷ xs) t a (and_right (ltb t 256) (has (x ∷ xs) t) h) v

    -- as one form behind another
    unfoldable pub tagged : Form A
    tagged = follow tag_of_lem tag_of (find x.form (x ∷ xs)) tag_agrees

    pub tagged_reads : (s : List ℕ)
        → tagged.read s ≡ and_then (byte.read s) (λ t rest. cond (has (x ∷ xs) t) ((find x.form (x ∷ xs) t).read rest) (stop Stop.Refused))
    unfolding tagged follow tag_of_lem
    tagged_reads s = rw (one_of_byte (has (x ∷ xs)) x.tag (has_first x xs) s) (go (byte.read s))
      where
        inner : (p : Bool) (t : ℕ) (rest : List ℕ)
            → and_then (cond p (got t rest) (stop Stop.Refused)) (λ k u. (find x.form (x ∷ xs) k).read u) ≡ cond p ((find x.form (x ∷ xs) t).read rest) (stop Stop.Refused)
        inner true t rest = refl
        inner false t rest = refl

        go : (r : Read ℕ (List ℕ))
            → and_then (and_then r (λ b rest. cond (has (x ∷ xs) b) (got b rest) (stop Stop.Refused))) (λ k u. (find x.form (x ∷ xs) k).read u)
            ≡ and_then r (λ t rest. cond (has (x ∷ xs) t) ((find x.form (x ∷ xs) t).read rest) (stop Stop.Refused))
        go (got t rest) = inner (has (x ∷ xs) t) t rest
        go (stop Stop.Short) = refl
        go (stop Stop.Refused) = refl

    pub choice_there : (a : A) (rest : List ℕ) → tagged.valid a
        → and_then (byte.read (tag_of a ∷ (find x.form (x ∷ xs) (tag_of a)).write a ++ rest)) (λ t rest. cond (has (x ∷ xs) t) ((find x.form (x ∷ xs) t).read rest) (stop Stop.Refused)) ≡ got a rest
    unfolding tagged follow tag_of_lem one
    choice_there a rest v = sym (tagged_reads (tag_of a ∷ (find x.form (x ∷ xs) (tag_of a)).write a ++ rest)) ∙ tagged.there a rest v

    pub choice_back : (s : List ℕ) (a : A) (rest : List ℕ)
        → and_then (byte.read s) (λ t rest. cond (has (x ∷ xs) t) ((find x.form (x ∷ xs) t).read rest) (stop Stop.Refused)) ≡ got a rest
        → tagged.valid a × (s ≡ tag_of a ∷ (find x.form (x ∷ xs) (tag_of a)).write a ++ rest)
    unfolding tagged follow tag_of_lem one
    choice_back s a rest e = tagged.back s a rest (tagged_reads s ∙ e)

    pub choice_begins : (s : List ℕ)
        → and_then (byte.read s) (λ t rest. cond (has (x ∷ xs) t) ((find x.form (x ∷ xs) t).read rest) (stop Stop.Refused)) ≡ stop Stop.Short
        → (a : A) × (t : List ℕ) × tagged.valid a × (s ++ t ≡ tag_of a ∷ (find x.form (x ∷ xs) (tag_of a)).write a)
    unfolding tagged follow tag_of_lem one
    choice_begins s e = tagged.begins s (tagged_reads s ∙ e)

    pub choice_stays : (s t : List ℕ)
        → and_then (byte.read s) (λ t rest. cond (has (x ∷ xs) t) ((find x.form (x ∷ xs) t).read rest) (stop Stop.Refused)) ≡ stop Stop.Refused
        → and_then (byte.read (s ++ t)) (λ t rest. cond (has (x ∷ xs) t) ((find x.form (x ∷ xs) t).read rest) (stop Stop.Refused)) ≡ stop Stop.Refused
    choice_stays s t e = sym (tagged_reads (s ++ t)) ∙ tagged.stays s t (tagged_reads s ∙ e)

    unfoldable pub choice : Form A
    choice = record {
      valid = tagged.valid;
      write = λ a. tag_of a ∷ (find x.form (x ∷ xs) (tag_of a)).write a;
      read = λ s. and_then (byte.read s) (λ t rest. cond (has (x ∷ xs) t) ((find x.form (x ∷ xs) t).read rest) (stop Stop.Refused));
      example = tagged.example;
      example_valid = tagged.example_valid;
      there = choice_there;
      back = choice_back;
      begins = choice_begins;
      stays = choice_stays;
    }

    pub choice_is_valid : (a : A) → ltb (tag_of a) 128 ≡ true → has (x ∷ xs) (tag_of a) ≡ true → (find x.form (x ∷ xs) (tag_of a)).valid a → choice.valid a
    unfolding choice tagged follow tag_of_lem one
    choice_is_valid a small h v =
        let below = ltb-true (tag_of a) 128 small in
        (rw (lt-ltb (tag_of a) 256 (omega arith)) h, v)

    -- behind the tag of a value
    pub choice_inside : (a : A) → choice.valid a → (find x.form (x ∷ xs) (tag_of a)).valid a
    unfolding choice tagged follow
    choice_inside a v = v.1

    pub choice_reads : (s : List ℕ)
        → choice.read s ≡ and_then (byte.read s) (λ t rest. cond (has (x ∷ xs) t) ((find x.form (x ∷ xs) t).read rest) (stop Stop.Refused))
    unfolding choice
    choice_reads s = refl

    pub choice_writes : (a : A) → choice.write a ≡ tag_of a ∷ (find x.form (x ∷ xs) (tag_of a)).write a
    unfolding choice
    choice_writes a = refl
