-- Lists of slots: one slot put into its place, no slot twice, and how many there can be. Assumes nothing.
use mathlib.Core.Path.{◌≡◌, refl, sym, ap, ◌∙◌, subst}
use mathlib.Core.Bool.{Bool, true, false, cond, ◌||◌}
use mathlib.Core.Logic.{⊎_elim}
use mathlib.Core.List.{List, [], ◌∷◌, ◌++◌, append_assoc}
use Prim.Native.Nat.{ℕ, suc, zero, ◌+◌, ◌-◌, ◌<◌, ◌≤◌}
use native.Mathlib.Omega.{arith}
use lib.Dec.{eqb}
use lib.ListN.{length, get_or, set, take, drop, length-take, length-drop, take-append-drop}
use lib.Seq.{take-take, get_or-take, get_or-drop}
use borrow.Author.Tests.{eq-eqb, ne_eqb}
use Rattle.memory.proofs.Laws.{same_or}
use Rattle.std.specs.List.{copy_within}
use Rattle.std.proofs.Math.Seq.{paste, take-set-lt}
use Rattle.std.proofs.lemmas.List.{drop-take, set-append_left, take_more_set}
use Rattle.std.proofs.lemmas.List.Edits.{take-paste}
use Rattle.rules.specs.Order.{at_most}
use Rattle.rules.specs.Totals.{All, either}
use Rattle.rules.specs.Laws.{Ordered}
use Rattle.rules.proofs.OrderLaws.{clash, at_most-trans, at_most-total}
use Rattle.state.specs.Names.{OneOf, Once}
use Rattle.plan.specs.Steps.{put_at, PlaceFor}

-- ## Elements by their place

module _ {A : Type 0} (P : A → Type 0) (d : A) where
  pub all_at : (l : List A) (i : ℕ) → All P l → i < length l → P (get_or l i d)
  all_at [] i h k = absurd (omega arith)
  all_at (x ∷ l) zero h k = h.0
  all_at (x ∷ l) (suc i) h k = all_at l i h.1 (omega arith)

  pub all_from : (l : List A) → ((i : ℕ) → i < length l → P (get_or l i d)) → All P l
  all_from [] h = tt
  all_from (x ∷ l) h = (h 0 (omega arith), all_from l (λ i k. h (suc i) (omega arith)))

pub ordered_at : {A : Type 0} (rank : A → List ℕ) (d : A) (l : List A) (i j : ℕ) → Ordered rank l → i < j → j < length l
    → at_most (rank (get_or l i d)) (rank (get_or l j d)) ≡ true
ordered_at rank d [] i j o h k = absurd (omega arith)
ordered_at rank d (x ∷ l) i zero o h k = absurd (omega arith)
ordered_at rank d (x ∷ l) zero (suc j) o h k = all_at (λ y. at_most (rank x) (rank y) ≡ true) d l j o.0 (omega arith)
ordered_at rank d (x ∷ l) (suc i) (suc j) o h k = ordered_at rank d l i j o.1 (omega arith) (omega arith)

-- one of the list has what all have
pub oneof_all : (P : ℕ → Type 0) (j : ℕ) (l : List ℕ) → OneOf j l → All P l → P j
oneof_all P j [] o a = absurd o
oneof_all P j (x ∷ l) o a = ⊎_elim (λ (e : j ≡ x). subst P (sym e) a.0) (λ n. oneof_all P j l (o n) a.1) (same_or j x)

-- ## One slot more, between a and b

pub oneof_middle : (j x : ℕ) (a b : List ℕ) → ((j ≡ x → ⊥) → OneOf j (a ++ b)) → OneOf j (a ++ (x ∷ b))
oneof_middle j x [] b h = h
oneof_middle j x (y ∷ a) b h = λ ne. oneof_middle j x a b (λ nx. h nx ne)

oneof_other : (j x : ℕ) (a b : List ℕ) → (j ≡ x → ⊥) → OneOf j (a ++ (x ∷ b)) → OneOf j (a ++ b)
oneof_other j x [] b n o = o n
oneof_other j x (y ∷ a) b n o = λ ne. oneof_other j x a b n (o ne)

once_middle : (x : ℕ) (a b : List ℕ) → (OneOf x (a ++ b) → ⊥) → Once (a ++ b) → Once (a ++ (x ∷ b))
once_middle x [] b n o = (n, o)
once_middle x (y ∷ a) b n o =
    (λ h. o.0 (oneof_other y x a b (λ e. n (λ ne. absurd (ne (sym e)))) h), once_middle x a b (λ h. n (λ ne. h)) o.1)

all_middle : {A : Type 0} (P : A → Type 0) (x : A) (a b : List A) → P x → All P (a ++ b) → All P (a ++ (x ∷ b))
all_middle P x [] b p h = (p, h)
all_middle P x (y ∷ a) b p h = (h.0, all_middle P x a b p h.1)

ordered_middle : {A : Type 0} (rank : A → List ℕ) (x : A) (a b : List A) → Ordered rank (a ++ b)
    → All (λ y. at_most (rank y) (rank x) ≡ true) a → All (λ y. at_most (rank x) (rank y) ≡ true) b → Ordered rank (a ++ (x ∷ b))
ordered_middle rank x [] b o h k = (k, o)
ordered_middle rank x (y ∷ a) b o h k =
    (all_middle (λ z. at_most (rank y) (rank z) ≡ true) x a b h.0 o.0, ordered_middle rank x a b o.1 h.1 k)

-- ## A slot put into a place of the list

module _ (k i : ℕ) (listed : List ℕ) where
  parts : listed ≡ take k listed ++ drop k listed
  parts = sym (take-append-drop k listed)

  pub put_oneof : (j : ℕ) → ((j ≡ i → ⊥) → OneOf j listed) → OneOf j (put_at k i listed)
  put_oneof j h = oneof_middle j i (take k listed) (drop k listed) (λ n. subst (OneOf j) parts (h n))

  pub put_once : (OneOf i listed → ⊥) → Once listed → Once (put_at k i listed)
  put_once n o =
      once_middle i (take k listed) (drop k listed) (λ h. n (subst (OneOf i) (sym parts) h)) (subst Once parts o)

  pub put_all : (P : ℕ → Type 0) → P i → All P listed → All P (put_at k i listed)
  put_all P p h = all_middle P i (take k listed) (drop k listed) p (subst (All P) parts h)

-- in its place it keeps the list in order
module _ (rank : ℕ → List ℕ) (listed : List ℕ) (i k : ℕ) (o : Ordered rank listed) (place : PlaceFor rank listed i k) where
  front : (j : ℕ) → j < k → at_most (rank (get_or listed j 0)) (rank i) ≡ true
  front j h =
      let last : at_most (rank (get_or listed (k - 1) 0)) (rank i) ≡ true = at_most-total (rank i) (rank (get_or listed (k - 1) 0)) (place.last (omega arith)) in
      ⊎_elim (λ (e : j ≡ k - 1). subst (λ (m : ℕ). at_most (rank (get_or listed m 0)) (rank i) ≡ true) (sym e) last)
      (λ n. at_most-trans (rank (get_or listed j 0)) (rank (get_or listed (k - 1) 0)) (rank i)
      (ordered_at rank 0 listed j (k - 1) o (omega arith) (omega (arith, place.within))) last)
      (same_or j (k - 1))

  pub put_ordered : Ordered rank (put_at k i listed)
  put_ordered =
      ordered_middle rank i (take k listed) (drop k listed) (subst (Ordered rank) (parts k i listed) o)
      (all_from (λ y. at_most (rank y) (rank i) ≡ true) 0 (take k listed) λ j h.
      let l : j < k = omega (arith, length-take k listed) in
      subst (λ (x : ℕ). at_most (rank x) (rank i) ≡ true) (sym (get_or-take k listed j 0 l)) (front j l))
      (all_from (λ y. at_most (rank i) (rank y) ≡ true) 0 (drop k listed) λ j h.
      subst (λ (x : ℕ). at_most (rank i) (rank x) ≡ true) (sym (get_or-drop k listed j 0))
      (place.behind (k + j) (omega arith) (omega (arith, length-drop k listed))))

-- ## How many numbers below n pass a test

abbrev pub count : (ℕ → Bool) → ℕ → ℕ
count test zero = 0
count test (suc n) = cond (test 0) 1 0 + count (λ k. test (suc k)) n

same_count : (f g : ℕ → Bool) (n : ℕ) → ((j : ℕ) → j < n → f j ≡ g j) → count f n ≡ count g n
same_count f g zero h = refl
same_count f g (suc n) h =
    let e = h 0 (omega arith) in
    let r = same_count (λ k. f (suc k)) (λ k. g (suc k)) n (λ j l. h (suc j) (omega arith)) in cc

count_few : (f : ℕ → Bool) (n : ℕ) → count f n ≤ n
count_few f zero = omega arith
count_few f (suc n) =
    either (λ (m : ℕ). m + count (λ k. f (suc k)) n ≤ suc n) (f 0) (omega (arith, count_few (λ k. f (suc k)) n)) (omega (arith, count_few (λ k. f (suc k)) n))

pub count_most : (f g : ℕ → Bool) (n : ℕ) → ((j : ℕ) → j < n → g j ≡ true → f j ≡ true) → count g n ≤ count f n
count_most f g zero h = omega arith
count_most f g (suc n) h = go (g 0) refl (f 0) refl (count_most (λ k. f (suc k)) (λ k. g (suc k)) n (λ j l e. h (suc j) (omega arith) e))
  where
    go : (a : Bool) → g 0 ≡ a → (b : Bool) → f 0 ≡ b → count (λ k. g (suc k)) n ≤ count (λ k. f (suc k)) n
        → cond a 1 0 + count (λ k. g (suc k)) n ≤ cond b 1 0 + count (λ k. f (suc k)) n
    go true p true q r = omega arith
    go true p false q r = clash (h 0 (omega arith) p) q
    go false p b q r = either (λ (m : ℕ). 0 + count (λ k. g (suc k)) n ≤ m + count (λ k. f (suc k)) n) b (omega arith) (omega arith)

-- a test that differs at i alone, where it fails
pub count_less : (f g : ℕ → Bool) (n i : ℕ) → i < n → f i ≡ true → g i ≡ false → ((j : ℕ) → j < n → (j ≡ i → ⊥) → g j ≡ f j) → count g n < count f n
count_less f g zero i l t e h = absurd (omega arith)
count_less f g (suc n) zero l t e h =
    rw (t, e) (omega (arith, same_count (λ k. g (suc k)) (λ k. f (suc k)) n (λ j l. h (suc j) (omega arith) (λ z. omega arith))))
count_less f g (suc n) (suc i) l t e h =
    rw (h 0 (omega arith) (λ z. omega arith)) (omega (arith, count_less (λ k. f (suc k)) (λ k. g (suc k)) n i (omega arith) t e (λ j l ne. h (suc j) (omega arith) (λ z. ne (omega arith)))))

-- ## Of c slots no more than c are in a list that has none twice

abbrev is_in : List ℕ → ℕ → Bool
is_in [] j = false
is_in (x ∷ l) j = eqb j x || is_in l j

is_one : (j : ℕ) (l : List ℕ) → is_in l j ≡ true → OneOf j l
is_one j [] e = clash e refl
is_one j (x ∷ l) e = λ n. is_one j l (rw (ne_eqb j x n) at e)

not_in : (j : ℕ) (l : List ℕ) → (OneOf j l → ⊥) → is_in l j ≡ false
not_in j l n = go (is_in l j) refl
  where
    go : (t : Bool) → is_in l j ≡ t → t ≡ false
    go true e = absurd (n (is_one j l e))
    go false e = refl

counted : (c : ℕ) (l : List ℕ) → Once l → All (λ i. i < c) l → length l ≤ count (is_in l) c
counted c [] o h = omega arith
counted c (x ∷ l) o h =
    omega (
      arith,
      counted c l o.1 h.1,
      count_less (is_in (x ∷ l)) (is_in l) c x h.0 (rw (eq-eqb x x refl)) (not_in x l o.0) (λ j low n. sym (rw (ne_eqb j x n))),
    )

pub once_few : (c : ℕ) (l : List ℕ) → Once l → All (λ i. i < c) l → length l ≤ c
once_few c l o h = omega (arith, counted c l o h, count_few (is_in l) c)

-- ## The list shifted up by one from place k, and slot i stored there

shifted_by : (l : List ℕ) (k m i : ℕ) → k + m < length l → take (k + m + 1) (set (paste l (k + 1) (drop k l) m) k i) ≡ put_at k i (take (k + m) l)
shifted_by l k m i h =
    let moved = paste l (k + 1) (drop k l) m in
    take-set-lt (k + m + 1) moved k i (omega arith)
    ∙ ap (λ (t : ℕ). set (take t moved) k i) (omega arith)
    ∙ ap (λ (a : List ℕ). set a k i) (take-paste l (k + 1) (drop k l) m (omega arith) (omega (arith, length-drop k l)))
    ∙ set-append_left (take (k + 1) l) (take m (drop k l)) k i (omega (arith, length-take (k + 1) l))
    ∙ ap (λ (a : List ℕ). a ++ take m (drop k l)) (sym (take-set-lt (k + 1) l k i (omega arith)) ∙ take_more_set l k i (omega arith))
    ∙ append_assoc (take k l) (i ∷ []) (take m (drop k l))
    ∙ ap (λ (a : List ℕ). a ++ (i ∷ take m (drop k l))) (sym (take-take k (k + m) l (omega arith)))
    ∙ ap (λ (b : List ℕ). take k (take (k + m) l) ++ (i ∷ b)) (sym (drop-take k m l))

pub shifted : (l : List ℕ) (n k i : ℕ) → n < length l → k ≤ n → take (n + 1) (set (copy_within l k n (k + 1)) k i) ≡ put_at k i (take n l)
shifted l n k i h g =
    let e : k + (n - k) ≡ n = omega arith in
    subst (λ (t : ℕ). take (t + 1) (set (copy_within l k n (k + 1)) k i) ≡ put_at k i (take t l)) e (shifted_by l k (n - k) i (omega arith))
