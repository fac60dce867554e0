-- The laws of the order of byte strings, and of insertion by it: two insertions of different ranks change places, so that a sort
-- does not depend on the order that it starts from. Assumes nothing.
use Rattle.std.specs.Prelude.{◌≡◌, refl, Bool, true, false, cond, ◌⊎◌, ℕ, ◌<◌, ltb, eqb}
use Rattle.std.proofs.Common.{sym, ap, ◌∙◌, subst, inl, inr, ⊎_elim, arith, ltb-true, ltb-false, lt-ltb, le-ltb, eqb-true, eq-eqb, ne_eqb}
use mathlib.Core.List.Permᴰ
use mathlib.Core.List.{List, [], ◌∷◌, Permᴰ}
use Rattle.std.proofs.lemmas.Bool.{eqb-false}
use Rattle.rules.specs.Order.{at_most, equal, insert, sort, those}
use Rattle.rules.specs.Totals.{All, either, total, all_insert, all_those, all_more}
use Rattle.rules.proofs.AccountLaws.{equal_true}
use Rattle.rules.specs.Laws.{Fresh, Distinct, Least, Ordered}

-- ## The order of byte strings

-- at the first difference, or in the rest
data First (x y : ℕ) : Type 0 where
  less : x < y → First x y
  same : x ≡ y → First x y
  greater : y < x → First x y

first? : (x y : ℕ) → First x y
first? x y = go (ltb x y) refl (eqb x y) refl
  where
    go : (a : Bool) → ltb x y ≡ a → (b : Bool) → eqb x y ≡ b → First x y
    go true e b f = less (ltb-true x y e)
    go false e true f = same (eqb-true x y f)
    go false e false f = greater (let h = ltb-false x y e in let n = eqb-false x y f in omega arith)

module _ (x y : ℕ) (xs ys : List ℕ) where
  when_less : x < y → at_most (x ∷ xs) (y ∷ ys) ≡ true
  when_less h = rw (lt-ltb x y h)

  when_same : x ≡ y → at_most (x ∷ xs) (y ∷ ys) ≡ at_most xs ys
  when_same h = rw (le-ltb x y (omega arith), eq-eqb x y h)

  when_greater : y < x → at_most (x ∷ xs) (y ∷ ys) ≡ false
  when_greater h = rw (le-ltb x y (omega arith), ne_eqb x y (λ e. omega arith))

pub clash : {A : Type 0} {b : Bool} → b ≡ true → b ≡ false → A
clash {b} p q = absurd (let z : ◌≡◌ {A = ℕ} 0 1 = cc in omega arith)

pub at_most-total : (a b : List ℕ) → at_most a b ≡ false → at_most b a ≡ true
at_most-total [] b e = clash refl e
at_most-total (x ∷ xs) [] e = refl
at_most-total (x ∷ xs) (y ∷ ys) e = go (first? x y) (at_most-total xs ys)
  where
    go : First x y → (at_most xs ys ≡ false → at_most ys xs ≡ true) → at_most (y ∷ ys) (x ∷ xs) ≡ true
    go (less h) rest = clash (when_less x y xs ys h) e
    go (same h) rest = when_same y x ys xs (sym h) ∙ rest (sym (when_same x y xs ys h) ∙ e)
    go (greater h) rest = when_less y x ys xs h

pub at_most-antisym : (a b : List ℕ) → at_most a b ≡ true → at_most b a ≡ true → a ≡ b
at_most-antisym [] [] e f = refl
at_most-antisym [] (y ∷ ys) e f = clash f refl
at_most-antisym (x ∷ xs) [] e f = clash e refl
at_most-antisym (x ∷ xs) (y ∷ ys) e f = go (first? x y) (at_most-antisym xs ys)
  where
    go : First x y → (at_most xs ys ≡ true → at_most ys xs ≡ true → xs ≡ ys) → ◌≡◌ {A = List ℕ} (x ∷ xs) (y ∷ ys)
    go (less h) rest = clash f (when_greater y x ys xs h)
    go (same h) rest = let t = rest (sym (when_same x y xs ys h) ∙ e) (sym (when_same y x ys xs (sym h)) ∙ f) in cc
    go (greater h) rest = clash e (when_greater x y xs ys h)

pub at_most-trans : (a b c : List ℕ) → at_most a b ≡ true → at_most b c ≡ true → at_most a c ≡ true
at_most-trans [] b c e f = refl
at_most-trans (x ∷ xs) [] c e f = clash e refl
at_most-trans (x ∷ xs) (y ∷ ys) [] e f = clash f refl
at_most-trans (x ∷ xs) (y ∷ ys) (z ∷ zs) e f = go (first? x y) (first? y z) (at_most-trans xs ys zs)
  where
    go : First x y → First y z → (at_most xs ys ≡ true → at_most ys zs ≡ true → at_most xs zs ≡ true) → at_most (x ∷ xs) (z ∷ zs) ≡ true
    go (greater h) k rest = clash e (when_greater x y xs ys h)
    go (less h) (less k) rest = when_less x z xs zs (omega arith)
    go (less h) (same k) rest = when_less x z xs zs (omega arith)
    go (less h) (greater k) rest = clash f (when_greater y z ys zs k)
    go (same h) (less k) rest = when_less x z xs zs (omega arith)
    go (same h) (same k) rest = when_same x z xs zs (h ∙ k) ∙ rest (sym (when_same x y xs ys h) ∙ e) (sym (when_same y z ys zs k) ∙ f)
    go (same h) (greater k) rest = clash f (when_greater y z ys zs k)

pub equal_refl : (a : List ℕ) → equal a a ≡ true
equal_refl [] = refl
equal_refl (x ∷ xs) = rw (eq-eqb x x refl, equal_refl xs)

pub equal_false : (a b : List ℕ) → equal a b ≡ false → a ≡ b → ⊥
equal_false a b e p = clash (subst (λ (c : List ℕ). equal a c ≡ true) p (equal_refl a)) e

pub equal_sym : (a b : List ℕ) (c : Bool) → equal a b ≡ c → equal b a ≡ c
equal_sym a b true e = subst (λ (x : List ℕ). equal x a ≡ true) (equal_true a b e) (equal_refl a)
equal_sym a b false e = go (equal b a) refl
  where
    go : (c : Bool) → equal b a ≡ c → equal b a ≡ false
    go true f = absurd (equal_false a b e (sym (equal_true b a f)))
    go false f = f

-- of two different byte strings exactly one is at most the other
pub one_way : (a b : List ℕ) → equal a b ≡ false → ((at_most a b ≡ true) × (at_most b a ≡ false)) ⊎ ((at_most b a ≡ true) × (at_most a b ≡ false))
one_way a b e = go (at_most a b) refl (at_most b a) refl
  where
    go : (p : Bool) → at_most a b ≡ p → (q : Bool) → at_most b a ≡ q → ((at_most a b ≡ true) × (at_most b a ≡ false)) ⊎ ((at_most b a ≡ true) × (at_most a b ≡ false))
    go true h true k = absurd (equal_false a b e (at_most-antisym a b h k))
    go true h false k = inl (h, k)
    go false h true k = inr (k, h)
    go false h false k = clash (at_most-total a b h) k

-- ## Insertion

module _ {A : Type 0} (rank : A → List ℕ) where
  -- where x goes before y
  in_order : (x y : A) → at_most (rank x) (rank y) ≡ true → at_most (rank y) (rank x) ≡ false → (l : List A)
      → insert rank x (insert rank y l) ≡ insert rank y (insert rank x l)
  in_order x y e f [] = rw (e, f)
  in_order x y e f (z ∷ l) = go (at_most (rank y) (rank z)) refl (at_most (rank x) (rank z)) refl (in_order x y e f l)
    where
      go : (b : Bool) → at_most (rank y) (rank z) ≡ b → (a : Bool) → at_most (rank x) (rank z) ≡ a
          → insert rank x (insert rank y l) ≡ insert rank y (insert rank x l)
          → insert rank x (insert rank y (z ∷ l)) ≡ insert rank y (insert rank x (z ∷ l))
      go true h true k rest = simp (h, k, e, f)
      go true h false k rest = clash (at_most-trans (rank x) (rank y) (rank z) e h) k
      go false h true k rest = simp (h, k, f)
      go false h false k rest = simp (h, k, rest)

  -- different ranks: the two insertions change places
  pub insert_comm : (x y : A) → equal (rank x) (rank y) ≡ false → (l : List A) → insert rank x (insert rank y l) ≡ insert rank y (insert rank x l)
  insert_comm x y e l =
      ⊎_elim (λ h. in_order x y h.0 h.1 l) (λ h. sym (in_order y x h.0 h.1 l)) (one_way (rank x) (rank y) e)

  least_through : (x y : A) (l : List A) → at_most (rank x) (rank y) ≡ true → Least rank y l → Least rank x l
  least_through x y l e a =
      all_more (λ z. at_most (rank y) (rank z) ≡ true) (λ z. at_most (rank x) (rank z) ≡ true) (λ z h. at_most-trans (rank x) (rank y) (rank z) e h) l a

  -- ahead of all others, it is put in front
  pub insert_front : (x : A) (l : List A) → Least rank x l → insert rank x l ≡ x ∷ l
  insert_front x [] a = refl
  insert_front x (y ∷ l) a = rw a.0

  pub ordered_insert : (x : A) (l : List A) → Ordered rank l → Ordered rank (insert rank x l)
  ordered_insert x [] o = (tt, tt)
  ordered_insert x (y ∷ l) o = go (at_most (rank x) (rank y)) refl (ordered_insert x l o.1)
    where
      go : (b : Bool) → at_most (rank x) (rank y) ≡ b → Ordered rank (insert rank x l) → Ordered rank (cond b (x ∷ y ∷ l) (y ∷ insert rank x l))
      go true e h = ((e, least_through x y l e o.0), o)
      go false e h = (all_insert (λ z. at_most (rank y) (rank z) ≡ true) rank x l (at_most-total (rank x) (rank y) e) o.0, h)

  pub ordered_sort : (l : List A) → Ordered rank (sort rank l)
  ordered_sort [] = tt
  ordered_sort (x ∷ l) = ordered_insert x (sort rank l) (ordered_sort l)

  pub sort_ordered : (l : List A) → Ordered rank l → sort rank l ≡ l
  sort_ordered [] o = refl
  sort_ordered (x ∷ l) o = ap (insert rank x) (sort_ordered l o.1) ∙ insert_front x l o.0

  -- ## Choosing from a sorted list

  pub those_none : (test : A → Bool) (x : A) → test x ≡ false → (l : List A) → those test (insert rank x l) ≡ those test l
  those_none test x e [] = rw e
  those_none test x e (y ∷ l) =
      either (λ (m : List A). those test m ≡ those test (y ∷ l)) (at_most (rank x) (rank y)) (rw e) (rw (those_none test x e l))

  pub those_insert : (test : A → Bool) (x : A) → test x ≡ true → (l : List A) → Ordered rank l → those test (insert rank x l) ≡ insert rank x (those test l)
  those_insert test x e [] o = rw e
  those_insert test x e (y ∷ l) o = go (at_most (rank x) (rank y)) refl (test y) refl (those_insert test x e l o.1)
    where
      go : (b : Bool) → at_most (rank x) (rank y) ≡ b → (c : Bool) → test y ≡ c → those test (insert rank x l) ≡ insert rank x (those test l)
          → those test (cond b (x ∷ y ∷ l) (y ∷ insert rank x l)) ≡ insert rank x (those test (y ∷ l))
      go true h c k rest =
          rw e (sym (insert_front x (those test (y ∷ l)) (all_those (λ z. at_most (rank x) (rank z) ≡ true) test (y ∷ l) (h, least_through x y l h o.0))))
      go false h true k rest = simp (k, h, rest)
      go false h false k rest = simp (k, rest)

  -- ## Permutations

  pub perm_insert : (x : A) (l : List A) → Permᴰ (insert rank x l) (x ∷ l)
  perm_insert x [] = Permᴰ.refl (x ∷ [])
  perm_insert x (y ∷ l) =
      either (λ (m : List A). Permᴰ m (x ∷ y ∷ l)) (at_most (rank x) (rank y)) (Permᴰ.refl (x ∷ y ∷ l))
      (Permᴰ.trans (Permᴰ.cons refl (perm_insert x l)) (Permᴰ.swap refl refl))

  pub perm_sort : (l : List A) → Permᴰ (sort rank l) l
  perm_sort [] = Permᴰ.nil
  perm_sort (x ∷ l) = Permᴰ.trans (perm_insert x (sort rank l)) (Permᴰ.cons refl (perm_sort l))

  pub all_perm : (P : A → Type 0) {l k : List A} → Permᴰ l k → All P l → All P k
  all_perm P Permᴰ.nil a = tt
  all_perm P (Permᴰ.cons e p) a = (subst P e a.0, all_perm P p a.1)
  all_perm P (Permᴰ.swap e f) a = (subst P f a.1.0, (subst P e a.0, a.1.1))
  all_perm P (Permᴰ.trans p q) a = all_perm P q (all_perm P p a)

  pub distinct_perm : {l k : List A} → Permᴰ l k → Distinct rank l → Distinct rank k
  distinct_perm Permᴰ.nil d = tt
  distinct_perm (Permᴰ.cons {a = a} {l₂ = k} e p) d =
      (subst (λ (x : A). Fresh rank (rank x) k) e (all_perm (λ x. equal (rank a) (rank x) ≡ false) p d.0), distinct_perm p d.1)
  distinct_perm (Permᴰ.swap {a = a} {b = b} {b' = c} {l = l} e f) d =
      subst (λ (x : A). Distinct rank (x ∷ c ∷ l)) f (subst (λ (x : A). Distinct rank (b ∷ x ∷ l)) e
      ((equal_sym (rank a) (rank b) false d.0.0, d.1.0), (d.0.1, d.1.1)))
  distinct_perm (Permᴰ.trans p q) d = distinct_perm q (distinct_perm p d)

  -- a sort does not depend on the order that it starts from
  pub sort_perm : {l k : List A} → Permᴰ l k → Distinct rank l → sort rank l ≡ sort rank k
  sort_perm Permᴰ.nil d = refl
  sort_perm (Permᴰ.cons e p) d = λ i. insert rank (e i) (sort_perm p d.1 i)
  sort_perm (Permᴰ.swap {a = a} {b = b} {l = l} e f) d =
      insert_comm a b d.0.0 (sort rank l) ∙ (λ i. insert rank (f i) (insert rank (e i) (sort rank l)))
  sort_perm (Permᴰ.trans p q) d = sort_perm p d ∙ sort_perm q (distinct_perm p d)

  chosen_cons : (b : Bool) (x : A) {l k : List A} → Permᴰ l k → Permᴰ (cond b (x ∷ l) l) (cond b (x ∷ k) k)
  chosen_cons true x p = Permᴰ.cons refl p
  chosen_cons false x p = p

  chosen_swap : (b c : Bool) (x y : A) (l : List A)
      → Permᴰ (cond b (x ∷ cond c (y ∷ l) l) (cond c (y ∷ l) l)) (cond c (y ∷ cond b (x ∷ l) l) (cond b (x ∷ l) l))
  chosen_swap true true x y l = Permᴰ.swap refl refl
  chosen_swap true false x y l = Permᴰ.refl (x ∷ l)
  chosen_swap false true x y l = Permᴰ.refl (y ∷ l)
  chosen_swap false false x y l = Permᴰ.refl l

  pub perm_those : (test : A → Bool) {l k : List A} → Permᴰ l k → Permᴰ (those test l) (those test k)
  perm_those test Permᴰ.nil = Permᴰ.nil
  perm_those test (Permᴰ.cons {a = a} {l₁ = l} {l₂ = k} e p) =
      subst (λ (y : A). Permᴰ (those test (a ∷ l)) (those test (y ∷ k))) e (chosen_cons (test a) a (perm_those test p))
  perm_those test (Permᴰ.swap {a = a} {b = b} {b' = c} {l = l} e f) =
      subst (λ (y : A). Permᴰ (those test (a ∷ b ∷ l)) (those test (y ∷ c ∷ l))) f
      (subst (λ (x : A). Permᴰ (those test (a ∷ b ∷ l)) (those test (b ∷ x ∷ l))) e (chosen_swap (test a) (test b) a b (those test l)))
  perm_those test (Permᴰ.trans p q) = Permᴰ.trans (perm_those test p) (perm_those test q)

  pub distinct_those : (test : A → Bool) (l : List A) → Distinct rank l → Distinct rank (those test l)
  distinct_those test [] d = tt
  distinct_those test (x ∷ l) d =
      either (Distinct rank) (test x) (all_those (λ y. equal (rank x) (rank y) ≡ false) test l d.0, distinct_those test l d.1) (distinct_those test l d.1)

pub total_perm : {A : Type 0} (m : A → ℕ) {l k : List A} → Permᴰ l k → total m l ≡ total m k
total_perm m Permᴰ.nil = refl
total_perm m (Permᴰ.cons e p) = omega (arith, ap m e, total_perm m p)
total_perm m (Permᴰ.swap e f) = omega (arith, ap m e, ap m f)
total_perm m (Permᴰ.trans p q) = total_perm m p ∙ total_perm m q
