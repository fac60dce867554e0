-- The number form: groups of seven bits, the low group first, the top bit set while more follow, the shortest form only.
use Rattle.std.specs.Prelude.{ℕ, zero, suc, ◌+◌, ◌-◌, ◌*◌, ◌/◌, ◌%◌, ◌≤◌, ◌<◌, ◌≡◌, refl, List, [], ◌∷◌, ◌++◌, Bool, true, false, cond, ◌&&◌, ◌⊎◌, ltb, leb}
use Rattle.std.proofs.Common.{sym, ap, ◌∙◌, inl, inr, arith, ltb-true, ltb-false, leb-true, lt-ltb, le-ltb, le-leb}
use Rattle.forms.specs.Form.{Form, Read, got, and_then, and_then-got, and_then-short, and_then-refused}
use Rattle.forms.specs.Form.{stop}
use Rattle.forms.specs.declared.stop.Stop.{Stop}

-- the groups of v, of which there are at most k + 1
unfoldable pub groups : ℕ → ℕ → List ℕ
groups zero v = v ∷ []
groups (suc k) v = elim (ltb v 128) [ true ↦ v ∷ [] | false ↦ (v % 128 + 128) ∷ groups k (v / 128) ]

-- the shortest form of v
unfoldable pub number_bytes : ℕ → List ℕ
number_bytes v = groups v v

groups_small : (k v : ℕ) → v < 128 → groups k v ≡ v ∷ []
unfolding groups
groups_small zero v h = refl
groups_small (suc k) v h = rw (lt-ltb v 128 h, groups)

groups_large : (k v : ℕ) → 128 ≤ v → groups (suc k) v ≡ (v % 128 + 128) ∷ groups k (v / 128)
unfolding groups
groups_large k v h = rw (le-ltb v 128 h, groups)

-- more room than v changes nothing
groups_enough : (k j v : ℕ) → v ≤ k → v ≤ j → groups k v ≡ groups j v
groups_enough zero j v hk hj = groups_small zero v (omega arith) ∙ sym (groups_small j v (omega arith))
groups_enough (suc k) zero v hk hj = groups_small (suc k) v (omega arith) ∙ sym (groups_small zero v (omega arith))
groups_enough (suc k) (suc j) v hk hj = go (ltb v 128) refl (λ h. groups_enough k j (v / 128) (omega arith) (omega arith))
  where
    go : (t : Bool) → ltb v 128 ≡ t → (128 ≤ v → groups k (v / 128) ≡ groups j (v / 128)) → groups (suc k) v ≡ groups (suc j) v
    go true e ih = groups_small (suc k) v (ltb-true v 128 e) ∙ sym (groups_small (suc j) v (ltb-true v 128 e))
    go false e ih =
        let h = ltb-false v 128 e in
        groups_large k v h ∙ ap (λ (l : List ℕ). (v % 128 + 128) ∷ l) (ih h) ∙ sym (groups_large j v h)

pub bytes_small : (v : ℕ) → v < 128 → number_bytes v ≡ v ∷ []
unfolding number_bytes
bytes_small v h = groups_small v v h

pub bytes_large : (v : ℕ) → 128 ≤ v → number_bytes v ≡ (v % 128 + 128) ∷ number_bytes (v / 128)
unfolding number_bytes
bytes_large zero h = absurd (omega arith)
bytes_large (suc k) h = groups_large k (suc k) h ∙ ap (λ (l : List ℕ). (suc k % 128 + 128) ∷ l) (groups_enough k (suc k / 128) (suc k / 128) (omega arith) (omega arith))

-- Reading. A byte b that the bounds allow ends the number if it is below 128, and else is 128 more than its group: the groups behind it
-- make a number of at least 1 (shortest form) and at most (most - b) / 128 + 1.
abbrev pub within : ℕ → ℕ → ℕ → Bool
within least most b = ltb b 256 && (leb least b && leb b most)

abbrev pub raise : {R : Type 0} → ℕ → Read ℕ R → Read ℕ R
raise b r = and_then r (λ v rest. got (b - 128 + 128 * v) rest)

abbrev pub step : {R : Type 0} → ℕ → ℕ → ℕ → R → Read ℕ R → Read ℕ R
step least most b rest more = cond (within least most b) (cond (ltb b 128) (got b rest) (raise b more)) (stop Stop.Refused)

unfoldable pub read_groups : ℕ → ℕ → List ℕ → Read ℕ (List ℕ)
read_groups least most [] = stop Stop.Short
read_groups least most (b ∷ s) = step least most b s (read_groups 1 ((most - b) / 128 + 1) s)

within_true : (least most b : ℕ) → within least most b ≡ true → (b < 256) × (least ≤ b) × (b ≤ most)
within_true least most b e = (ltb-true b 256 both.0, leb-true least b both2.0, leb-true b most both2.1)
  where
    split : (p q : Bool) → p && q ≡ true → (p ≡ true) × (q ≡ true)
    split true q h = (refl, h)
    split false q h = let z : ◌≡◌ {A = ℕ} 0 1 = cc in absurd (omega arith)

    both : (ltb b 256 ≡ true) × (leb least b && leb b most ≡ true)
    both = split (ltb b 256) (leb least b && leb b most) e

    both2 : (leb least b ≡ true) × (leb b most ≡ true)
    both2 = split (leb least b) (leb b most) both.1

pub is_within : (least most b : ℕ) → b < 256 → least ≤ b → b ≤ most → within least most b ≡ true
is_within least most b h l m = rw (lt-ltb b 256 h, le-leb least b l, le-leb b most m)

-- what the groups b and then those of v make
bytes_step : (b v : ℕ) → 128 ≤ b → b < 256 → 1 ≤ v → number_bytes (b - 128 + 128 * v) ≡ b ∷ number_bytes v
bytes_step b v h k l =
    let low : (b - 128 + 128 * v) % 128 + 128 ≡ b = omega arith in
    let high : (b - 128 + 128 * v) / 128 ≡ v = omega arith in
    bytes_large (b - 128 + 128 * v) (omega arith) ∙ rw (low, high)

module _ {R : Type 0} (least most b : ℕ) (rest : R) (more : Read ℕ R) where
  pub step_last : within least most b ≡ true → b < 128 → step least most b rest more ≡ got b rest
  step_last w h = rw (w, lt-ltb b 128 h)

  pub step_more : within least most b ≡ true → 128 ≤ b → step least most b rest more ≡ raise b more
  step_more w h = rw (w, le-ltb b 128 h)

  pub step_out : within least most b ≡ false → step least most b rest more ≡ stop Stop.Refused
  step_out w = rw w

  abbrev Last : ℕ → R → Type 0
  Last v u = (b < 128) × (v ≡ b) × (u ≡ rest)

  abbrev More : ℕ → R → Type 0
  More v u = (w : ℕ) × (128 ≤ b) × (more ≡ got w u) × (v ≡ b - 128 + 128 * w)

  step_got : (v : ℕ) (u : R) → step least most b rest more ≡ got v u → (within least most b ≡ true) × (Last v u ⊎ More v u)
  step_got v u e = go (within least most b) refl (ltb b 128) refl e
    where
      go : (p : Bool) → within least most b ≡ p → (q : Bool) → ltb b 128 ≡ q → cond p (cond q (got b rest) (raise b more)) (stop Stop.Refused) ≡ got v u
          → (within least most b ≡ true) × (Last v u ⊎ More v u)
      go true w true l h = (w, inl (ltb-true b 128 l, cc, cc))
      go true w false l h =
          let (x, y, r, k) = and_then-got more (λ v rest. got (b - 128 + 128 * v) rest) v u h in
          (w, inr (x, ltb-false b 128 l, cc, cc))
      go false w q l h = let z : ◌≡◌ {A = ℕ} 0 1 = cc in absurd (omega arith)

  step_short : step least most b rest more ≡ stop Stop.Short → (within least most b ≡ true) × (128 ≤ b) × (more ≡ stop Stop.Short)
  step_short e = go (within least most b) refl (ltb b 128) refl e
    where
      inner : (more ≡ stop Stop.Short) ⊎ ((a : ℕ) × (u : R) × (more ≡ got a u) × (got (b - 128 + 128 * a) u ≡ stop Stop.Short)) → more ≡ stop Stop.Short
      inner (inl h) = h
      inner (inr h) = let k = h.3 in let z : ◌≡◌ {A = ℕ} 0 1 = cc in absurd (omega arith)

      go : (p : Bool) → within least most b ≡ p → (q : Bool) → ltb b 128 ≡ q → cond p (cond q (got b rest) (raise b more)) (stop Stop.Refused) ≡ stop Stop.Short
          → (within least most b ≡ true) × (128 ≤ b) × (more ≡ stop Stop.Short)
      go true w true l h = let z : ◌≡◌ {A = ℕ} 0 1 = cc in absurd (omega arith)
      go true w false l h = (w, ltb-false b 128 l, inner (and_then-short more (λ v rest. got (b - 128 + 128 * v) rest) h))
      go false w q l h = let z : ◌≡◌ {A = ℕ} 0 1 = cc in absurd (omega arith)

  step_refused : step least most b rest more ≡ stop Stop.Refused → (within least most b ≡ false) ⊎ ((within least most b ≡ true) × (128 ≤ b) × (more ≡ stop Stop.Refused))
  step_refused e = go (within least most b) refl (ltb b 128) refl e
    where
      inner : (more ≡ stop Stop.Refused) ⊎ ((a : ℕ) × (u : R) × (more ≡ got a u) × (got (b - 128 + 128 * a) u ≡ stop Stop.Refused)) → more ≡ stop Stop.Refused
      inner (inl h) = h
      inner (inr h) = let k = h.3 in let z : ◌≡◌ {A = ℕ} 0 1 = cc in absurd (omega arith)

      go : (p : Bool) → within least most b ≡ p → (q : Bool) → ltb b 128 ≡ q → cond p (cond q (got b rest) (raise b more)) (stop Stop.Refused) ≡ stop Stop.Refused
          → (within least most b ≡ false) ⊎ ((within least most b ≡ true) × (128 ≤ b) × (more ≡ stop Stop.Refused))
      go true w true l h = let z : ◌≡◌ {A = ℕ} 0 1 = cc in absurd (omega arith)
      go true w false l h = inr (w, ltb-false b 128 l, inner (and_then-refused more (λ v rest. got (b - 128 + 128 * v) rest) h))
      go false w q l h = inl w

small_there : (least most v : ℕ) (rest : List ℕ) → v < 128 → least ≤ v → v ≤ most → read_groups least most (number_bytes v ++ rest) ≡ got v rest
unfolding read_groups
small_there least most v rest s a h =
    rw (bytes_small v s) (step_last least most v rest (read_groups 1 ((most - v) / 128 + 1) rest) (is_within least most v (omega arith) a h) s)

-- k bounds how deep the groups go
pub groups_there : (k least most v : ℕ) (rest : List ℕ) → v ≤ k → least ≤ 1 → least ≤ v → v ≤ most → read_groups least most (number_bytes v ++ rest) ≡ got v rest
unfolding read_groups
groups_there zero least most v rest f l a h = small_there least most v rest (omega arith) a h
groups_there (suc k) least most v rest f l a h =
    go (ltb v 128) refl (λ x. groups_there k 1 ((most - (v % 128 + 128)) / 128 + 1) (v / 128) rest (omega arith) (omega arith) (omega arith) (omega arith))
  where
    go : (t : Bool) → ltb v 128 ≡ t → (128 ≤ v → read_groups 1 ((most - (v % 128 + 128)) / 128 + 1) (number_bytes (v / 128) ++ rest) ≡ got (v / 128) rest)
        → read_groups least most (number_bytes v ++ rest) ≡ got v rest
    go true e ih = small_there least most v rest (ltb-true v 128 e) a h
    go false e ih =
        let b = v % 128 + 128 in
        let large = ltb-false v 128 e in
        let next = read_groups 1 ((most - b) / 128 + 1) (number_bytes (v / 128) ++ rest) in
        let value : b - 128 + 128 * (v / 128) ≡ v = omega arith in
        rw (bytes_large v large)
        (step_more least most b (number_bytes (v / 128) ++ rest) next (is_within least most b (omega arith) (omega arith) (omega arith)) (omega arith)
        ∙ ap (λ (r : Read ℕ (List ℕ)). raise b r) (ih large)
        ∙ ap (λ (n : ℕ). got n rest) value)

pub groups_back : (least most : ℕ) (s : List ℕ) (v : ℕ) (rest : List ℕ) → read_groups least most s ≡ got v rest → (least ≤ v) × (v ≤ most) × (s ≡ number_bytes v ++ rest)
unfolding read_groups
groups_back least most [] v rest e = let z : ◌≡◌ {A = ℕ} 0 1 = cc in absurd (omega arith)
groups_back least most (b ∷ s) v rest e = go (step_got least most b s more v rest e) (λ w h. groups_back 1 ((most - b) / 128 + 1) s w rest h)
  where
    more : Read ℕ (List ℕ)
    more = read_groups 1 ((most - b) / 128 + 1) s

    go : (within least most b ≡ true) × (Last least most b s more v rest ⊎ More least most b s more v rest)
        → ((w : ℕ) → more ≡ got w rest → (1 ≤ w) × (w ≤ (most - b) / 128 + 1) × (s ≡ number_bytes w ++ rest))
        → (least ≤ v) × (v ≤ most) × (b ∷ s ≡ number_bytes v ++ rest)
    go (t, inl (h, p, q)) ih =
        let (x, y, z) = within_true least most b t in
        (rw p y, rw p z, rw (p, q, bytes_small b h))
    go (t, inr (w, h, r, p)) ih =
        let (x, y, z) = within_true least most b t in
        let (l, m, e) = ih w r in
        (omega arith, omega arith, rw (p, bytes_step b w h x l) (ap (λ (l : List ℕ). b ∷ l) e))

pub groups_begins : (least most : ℕ) (s : List ℕ) → least ≤ 1 → least ≤ most → read_groups least most s ≡ stop Stop.Short
    → (v : ℕ) × (t : List ℕ) × (least ≤ v) × (v ≤ most) × (s ++ t ≡ number_bytes v)
unfolding read_groups
groups_begins least most [] l h e = (least, number_bytes least, omega arith, h, refl)
groups_begins least most (b ∷ s) l h e =
    let more = read_groups 1 ((most - b) / 128 + 1) s in
    let (t, k, r) = step_short least most b s more e in
    let (x, y, z) = within_true least most b t in
    let (v, u, p, q, w) = groups_begins 1 ((most - b) / 128 + 1) s (omega arith) (omega arith) r in
    (b - 128 + 128 * v, u, omega arith, omega arith, rw (bytes_step b v k x p) (ap (λ (l : List ℕ). b ∷ l) w))

pub groups_stays : (least most : ℕ) (s t : List ℕ) → read_groups least most s ≡ stop Stop.Refused → read_groups least most (s ++ t) ≡ stop Stop.Refused
unfolding read_groups
groups_stays least most [] t e = let z : ◌≡◌ {A = ℕ} 0 1 = cc in absurd (omega arith)
groups_stays least most (b ∷ s) t e = go (step_refused least most b s (next s) e) (λ h. groups_stays 1 ((most - b) / 128 + 1) s t h)
  where
    next : List ℕ → Read ℕ (List ℕ)
    next u = read_groups 1 ((most - b) / 128 + 1) u

    go : (within least most b ≡ false) ⊎ ((within least most b ≡ true) × (128 ≤ b) × (next s ≡ stop Stop.Refused)) → (next s ≡ stop Stop.Refused → next (s ++ t) ≡ stop Stop.Refused)
        → step least most b (s ++ t) (next (s ++ t)) ≡ stop Stop.Refused
    go (inl w) ih = step_out least most b (s ++ t) (next (s ++ t)) w
    go (inr (w, h, r)) ih = step_more least most b (s ++ t) (next (s ++ t)) w h ∙ ap (λ (r : Read ℕ (List ℕ)). raise b r) (ih r)

unfoldable pub number : ℕ → Form ℕ
number most =
    record {
      valid = λ v. v ≤ most;
      write = number_bytes;
      read = read_groups 0 most;
      example = 0;
      example_valid = omega arith;
      there = λ v rest h. groups_there v 0 most v rest (omega arith) (omega arith) (omega arith) h;
      back = λ s v rest e. let (l, h, w) = groups_back 0 most s v rest e in (h, w);
      begins = λ s e. let (v, t, l, h, w) = groups_begins 0 most s (omega arith) (omega arith) e in (v, t, h, w);
      stays = groups_stays 0 most;
    }

pub number_reads : (most : ℕ) → (number most).read ≡ read_groups 0 most
unfolding number
number_reads most = refl

pub number_writes : (most v : ℕ) → (number most).write v ≡ number_bytes v
unfolding number
number_writes most v = refl

pub number_below : (most v : ℕ) → (number most).valid v → v ≤ most
unfolding number
number_below most v h = h

pub below_number : (most v : ℕ) → v ≤ most → (number most).valid v
unfolding number
below_number most v h = h

pub number_ends : (most : ℕ) → (number most).read [] ≡ stop Stop.Short
unfolding number read_groups
number_ends most = refl
