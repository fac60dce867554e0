-- Which list it is: a list in order that has every flow of a kind once, and no other, is the one that the rules make. Assumes nothing.
use Rattle.std.specs.Prelude.{None, Some}
use mathlib.Core.Path.{◌≡◌, refl, sym, ap, subst}
use mathlib.Core.Bool.{Bool, true, false, cond}
use mathlib.Core.Logic.{◌⊎◌, inl, inr, ⊎_elim}
use mathlib.Core.List.Permᴰ
use mathlib.Core.List.{List, [], ◌∷◌, map}
use Prim.Native.Nat.{ℕ, suc, zero, ◌<◌}
use native.Mathlib.Omega.{arith}
use lib.ListN.{length, get_or}
use Rattle.memory.proofs.Laws.{same_or}
use Rattle.state.specs.Sitting.{sits, all_sit, pairs_sit}
use Rattle.rules.specs.Order.{at_most, equal, insert, sort, those}
use Rattle.rules.specs.Totals.{All, either, all_map, all_sort}
use Rattle.rules.specs.Laws.{Fresh, Distinct, Ordered}
use Rattle.rules.proofs.OrderLaws.{clash, equal_refl, at_most-antisym, ordered_sort, perm_sort, distinct_perm, distinct_those}
use Rattle.rules.specs.Rules.{Terms, Flow, by_key}
use Rattle.rules.specs.Slots.{Slots, occupied, meaning}
use Rattle.rules.specs.Sound.{Pairs}
use Rattle.state.specs.Names.{OneOf, Once}

-- ## Elements of a list

module _ {A : Type 0} where
  abbrev Element : A → List A → Type 0
  Element x [] = ⊥
  Element x (y ∷ l) = (x ≡ y) ⊎ Element x l

  element_all : (P : A → Type 0) (x : A) (l : List A) → Element x l → All P l → P x
  element_all P x [] e a = absurd e
  element_all P x (y ∷ l) (inl e) a = subst P (sym e) a.0
  element_all P x (y ∷ l) (inr e) a = element_all P x l e a.1

  element_insert : (rank : A → List ℕ) (x y : A) (l : List A) → Element x (y ∷ l) → Element x (insert rank y l)
  element_insert rank x y [] e = e
  element_insert rank x y (z ∷ l) e = either (Element x) (at_most (rank y) (rank z)) e (behind e (element_insert rank x y l))
    where
      behind : Element x (y ∷ z ∷ l) → (Element x (y ∷ l) → Element x (insert rank y l)) → Element x (z ∷ insert rank y l)
      behind (inl e) rest = inr (rest (inl e))
      behind (inr (inl e)) rest = inl e
      behind (inr (inr e)) rest = inr (rest (inr e))

  element_sort : (rank : A → List ℕ) (x : A) (l : List A) → Element x l → Element x (sort rank l)
  element_sort rank x [] e = elim e [ ]
  element_sort rank x (y ∷ l) (inl e) = element_insert rank x y (sort rank l) (inl e)
  element_sort rank x (y ∷ l) (inr e) = element_insert rank x y (sort rank l) (inr (element_sort rank x l e))

  element_those : (test : A → Bool) (x : A) (l : List A) → test x ≡ true → Element x l → Element x (those test l)
  element_those test x [] t e = elim e [ ]
  element_those test x (y ∷ l) t (inl e) =
      rw (subst (λ (z : A). test z ≡ true) e t) (inl e)
  element_those test x (y ∷ l) t (inr e) = either (Element x) (test y) (inr (element_those test x l t e)) (element_those test x l t e)

  -- what passes a test has what those that pass it have
  all_chosen : (P : A → Type 0) (test : A → Bool) (l : List A) → All (λ x. test x ≡ true → P x) l → All P (those test l)
  all_chosen P test [] a = tt
  all_chosen P test (x ∷ l) a = go (test x) refl (all_chosen P test l a.1)
    where
      go : (b : Bool) → test x ≡ b → All P (those test l) → All P (cond b (x ∷ those test l) (those test l))
      go true e rest = (a.0 e, rest)
      go false e rest = rest

  -- ## Two lists in order with the same elements, none twice

  module _ (rank : A → List ℕ) where
    differs : (x y : A) (l : List A) → Fresh rank (rank x) l → Element y l → rank x ≡ rank y → ⊥
    differs x y l f e q =
        clash (subst (λ (k : List ℕ). equal (rank x) k ≡ true) q (equal_refl (rank x)))
        (element_all (λ z. equal (rank x) (rank z) ≡ false) y l e f)

    -- the others of the one are others of the other
    others : (x : A) (l k : List A) → Fresh rank (rank x) l → All (λ z. Element z (x ∷ k)) l → All (λ z. Element z k) l
    others x [] k f a = tt
    others x (z ∷ l) k f a = (other a.0, others x l k f.1 a.1)
      where
        other : Element z (x ∷ k) → Element z k
        other (inl e) = absurd (differs x z (z ∷ l) f (inl refl) (ap rank (sym e)))
        other (inr e) = e

    in_order : (l k : List A) → Ordered rank l → Ordered rank k → Distinct rank l → Distinct rank k
        → All (λ x. Element x k) l → All (λ x. Element x l) k → l ≡ k
    in_order [] [] o p d e a b = refl
    in_order [] (y ∷ k) o p d e a b = absurd b.0
    in_order (x ∷ l) [] o p d e a b = absurd a.0
    in_order (x ∷ l) (y ∷ k) o p d e a b = go a.0 b.0 (in_order l k o.1 p.1 d.1 e.1)
      where
        same : x ≡ y → (All (λ z. Element z k) l → All (λ z. Element z l) k → l ≡ k) → ◌≡◌ {A = List A} (x ∷ l) (y ∷ k)
        same q rest =
            let r : l ≡ k =
            rest (others x l k d.0 (subst (λ (z : A). All (λ w. Element w (z ∷ k)) l) (sym q) a.1))
            (others y k l e.0 (subst (λ (z : A). All (λ w. Element w (z ∷ l)) k) q b.1)) in
            cc

        go : Element x (y ∷ k) → Element y (x ∷ l) → (All (λ z. Element z k) l → All (λ z. Element z l) k → l ≡ k) → ◌≡◌ {A = List A} (x ∷ l) (y ∷ k)
        go (inl q) h rest = same q rest
        go (inr h) (inl q) rest = same (sym q) rest
        go (inr h) (inr g) rest =
            absurd (differs y x k e.0 h
            (at_most-antisym (rank y) (rank x) (element_all (λ z. at_most (rank y) (rank z) ≡ true) x k h p.0)
            (element_all (λ z. at_most (rank x) (rank z) ≡ true) y l g o.0)))

pairs_distinct : {A : Type 0} (rank : A → List ℕ) (l : List A) → Pairs (λ x y. equal (rank x) (rank y) ≡ false) l → Distinct rank l
pairs_distinct rank [] p = tt
pairs_distinct rank (x ∷ l) p = (p.0, pairs_distinct rank l p.1)

-- an order by another rank, which is the same for each element
pub ordered_same : {A : Type 0} (rank rank' : A → List ℕ) (l : List A) → All (λ x. rank x ≡ rank' x) l → Ordered rank l → Ordered rank' l
ordered_same rank rank' [] s o = tt
ordered_same {A} rank rank' (x ∷ l) s o = (least l s.1 o.0, ordered_same rank rank' l s.1 o.1)
  where
    least : (k : List A) → All (λ y. rank y ≡ rank' y) k → All (λ y. at_most (rank x) (rank y) ≡ true) k → All (λ y. at_most (rank' x) (rank' y) ≡ true) k
    least [] q a = tt
    least (y ∷ k) q a = (rw (sym s.0, sym q.0) a.0, least k q.1 a.1)

ordered_map : {A B : Type 0} (rank : B → List ℕ) (f : A → B) (l : List A) → Ordered (λ x. rank (f x)) l → Ordered rank (map f l)
ordered_map rank f [] o = tt
ordered_map rank f (x ∷ l) o =
    (all_map (λ y. at_most (rank (f x)) (rank (f y)) ≡ true) (λ y. at_most (rank (f x)) (rank y) ≡ true) f (λ y h. h) l o.0, ordered_map rank f l o.1)

-- ## Flows that sit in places, some of which are used

module _ {B : Type 0} (blank : B) (W : Terms) (used : B → Bool) (flow : B → Flow W) where
  element_sits : (l : List B) (i : ℕ) → i < length l → used (get_or l i blank) ≡ true → Element (flow (get_or l i blank)) (occupied W (map (sits blank W used flow) l))
  element_sits [] i h u = absurd (omega arith)
  element_sits (b ∷ l) zero h u = rw u (inl refl)
  element_sits (b ∷ l) (suc i) h u = go (used b) (element_sits l i (omega arith) u)
    where
      go : (t : Bool) → Element (flow (get_or l i blank)) (occupied W (map (sits blank W used flow) l))
          → Element (flow (get_or l i blank)) (occupied W (cond t (Some (flow b)) None ∷ map (sits blank W used flow) l))
      go true e = inr e
      go false e = e

  -- a used place whose flow passes the test
  pub record Wanted (test : Flow W → Bool) (l : List B) (i : ℕ) : Type 0 where
    pub low : i < length l
    pub taken : used (get_or l i blank) ≡ true
    pub passes : test (flow (get_or l i blank)) ≡ true

  -- no two used places have flows of the same rank
  abbrev pub Apart : (Flow W → List ℕ) → List B → Type 0
  Apart rank l = (i j : ℕ) → (i ≡ j → ⊥) → i < length l → j < length l → used (get_or l i blank) ≡ true → used (get_or l j blank) ≡ true
      → equal (rank (flow (get_or l i blank))) (rank (flow (get_or l j blank))) ≡ false

  module _ (rank : Flow W → List ℕ) (test : Flow W → Bool) (l : List B) (apart : Apart rank l) where
    fresh : (x : ℕ) (listed : List ℕ) → Wanted test l x → All (Wanted test l) listed → (OneOf x listed → ⊥)
        → Fresh rank (rank (flow (get_or l x blank))) (map (λ i. flow (get_or l i blank)) listed)
    fresh x [] w a n = tt
    fresh x (y ∷ listed) w a n =
        (apart x y (λ e. n (λ ne. absurd (ne e))) w.low a.0.low w.taken a.0.taken, fresh x listed w a.1 (λ o. n (λ ne. o)))

    distinct : (listed : List ℕ) → All (Wanted test l) listed → Once listed → Distinct rank (map (λ i. flow (get_or l i blank)) listed)
    distinct [] a o = tt
    distinct (x ∷ listed) a o = (fresh x listed a.0 a.1 o.0, distinct listed a.1 o.1)

    one_element : (i : ℕ) (listed : List ℕ) → OneOf i listed → Element (flow (get_or l i blank)) (map (λ j. flow (get_or l j blank)) listed)
    one_element i [] o = o
    one_element i (x ∷ listed) o =
        ⊎_elim (λ (e : i ≡ x). inl (ap (λ (j : ℕ). flow (get_or l j blank)) e)) (λ n. inr (one_element i listed (o n))) (same_or i x)

    slots : Slots W
    slots = map (sits blank W used flow) l

    wanted : List (Flow W)
    wanted = those test (meaning W slots)

    wanted_distinct : Distinct rank (sort rank wanted)
    unfolding wanted slots
    wanted_distinct =
        distinct_perm rank (Permᴰ.symm (perm_sort rank wanted))
        (distinct_those rank test (meaning W slots)
        (distinct_perm rank (Permᴰ.symm (perm_sort (by_key W) (occupied W slots)))
        (pairs_distinct rank (occupied W slots)
        (pairs_sit blank W used flow (λ f g. equal (rank f) (rank g) ≡ false) l
        (λ i j h k u v. apart i j (λ e. omega arith) (omega arith) k u v)))))

    -- a list of places in order, none twice, that has every wanted place and no other
    pub listed_wanted : (listed : List ℕ) → All (Wanted test l) listed → Once listed → ((i : ℕ) → Wanted test l i → OneOf i listed)
        → Ordered (λ i. rank (flow (get_or l i blank))) listed
        → map (λ i. flow (get_or l i blank)) listed ≡ sort rank (those test (meaning W (map (sits blank W used flow) l)))
    unfolding wanted slots
    listed_wanted listed a o all ordered =
        let flows = map (λ i. flow (get_or l i blank)) listed in
        in_order rank flows (sort rank wanted)
        (ordered_map rank (λ i. flow (get_or l i blank)) listed ordered) (ordered_sort rank wanted) (distinct listed a o) wanted_distinct
        (all_map (Wanted test l) (λ f. Element f (sort rank wanted)) (λ i. flow (get_or l i blank))
        (λ i w. element_sort rank _ wanted
        (element_those test _ (meaning W slots) w.passes (element_sort (by_key W) _ (occupied W slots) (element_sits l i w.low w.taken)))) listed a)
        (all_sort (λ f. Element f flows) rank wanted
        (all_chosen (λ f. Element f flows) test (meaning W slots)
        (all_sort (λ f. test f ≡ true → Element f flows) (by_key W) (occupied W slots)
        (all_sit blank W used flow (λ f. test f ≡ true → Element f flows) l
        (λ i h u t. one_element i listed (all i (record { low = h; taken = u; passes = t })))))))
