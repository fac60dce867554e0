-- From the slots of a table to the engine's flows. What a table of slots means is its flows in order of key bytes: where each flow
-- sits does not matter, and yet two tables mean the same exactly if their meanings are equal. Each thing that the code does to a
-- slot is one law here, and its right side is what the plain rules do. Assumes nothing.
use Rattle.std.specs.Prelude.{◌≡◌, refl, Bool, true, false, cond, eqb, ◌↔◌, ℕ, suc, zero, ◌+◌, ◌<◌, length, get_or, set, None, Option, Some}
use Rattle.std.proofs.Common.{sym, ap, ◌∙◌, subst, not-suc-le-zero, le_of_suc-le-suc, length-set, arith}
use Rattle.std.proofs.Math.Bool.{and-false}
use mathlib.Core.List.Permᴰ
use mathlib.Core.List.{List, [], ◌∷◌, map, Permᴰ}
use Rattle.rules.specs.Order.{at_most, equal, insert, sort, those}
use Rattle.rules.specs.Totals.{All, total, total_sort, all_sort, all_more}
use Rattle.flow.specs.declared.time.EndReason.{EndReason}
use Rattle.flow.specs.declared.time.EndReason.TheVariants.{IdleTimeout}
use Rattle.rules.specs.Rules.{Terms, Settings}
use Rattle.rules.specs.Rules as R
use Rattle.rules.specs.Laws.{Fresh, Distinct, Least}
use Rattle.rules.proofs.OrderLaws.{clash, at_most-total, equal_refl, equal_sym, insert_comm, ordered_sort, insert_front, sort_ordered, perm_insert, total_perm, those_none, those_insert, sort_perm, perm_sort, perm_those, distinct_those, distinct_perm}
use Rattle.rules.proofs.AccountLaws.{equal_true}
use Rattle.rules.specs.Slots.{Slots, occupied, meaning, keep, size_as}

module _ (W : Terms) where
  -- ## Insertion, finding and taking out

  apart : (f g : R.Flow W) → at_most (R.by_key W f) (R.by_key W g) ≡ false → equal (R.by_key W f) (R.by_key W g) ≡ false
  apart f g e = go (equal (R.by_key W f) (R.by_key W g)) refl
    where
      go : (b : Bool) → equal (R.by_key W f) (R.by_key W g) ≡ b → b ≡ false
      go true h =
          let k = subst (λ (x : List ℕ). at_most (R.by_key W f) x ≡ false) (sym (equal_true (R.by_key W f) (R.by_key W g) h)) e in
          clash (at_most-total (R.by_key W f) (R.by_key W f) k) k
      go false h = refl

  -- what is put in is found, and taking it out gives back what was there
  under_insert : (f : R.Flow W) (l : List (R.Flow W)) → R.under W (R.by_key W f) (insert (R.by_key W) f l) ≡ Some f
  under_insert f [] = rw (equal_refl (R.by_key W f))
  under_insert f (g ∷ l) = go (at_most (R.by_key W f) (R.by_key W g)) refl (under_insert f l)
    where
      go : (b : Bool) → at_most (R.by_key W f) (R.by_key W g) ≡ b → R.under W (R.by_key W f) (insert (R.by_key W) f l) ≡ Some f
          → R.under W (R.by_key W f) (cond b (f ∷ g ∷ l) (g ∷ insert (R.by_key W) f l)) ≡ Some f
      go true e rest = rw (equal_refl (R.by_key W f))
      go false e rest = rw (apart f g e) rest

  without_insert : (f : R.Flow W) (l : List (R.Flow W)) → R.without W (R.by_key W f) (insert (R.by_key W) f l) ≡ l
  without_insert f [] = rw (equal_refl (R.by_key W f))
  without_insert f (g ∷ l) = go (at_most (R.by_key W f) (R.by_key W g)) refl (without_insert f l)
    where
      go : (b : Bool) → at_most (R.by_key W f) (R.by_key W g) ≡ b → R.without W (R.by_key W f) (insert (R.by_key W) f l) ≡ l
          → R.without W (R.by_key W f) (cond b (f ∷ g ∷ l) (g ∷ insert (R.by_key W) f l)) ≡ g ∷ l
      go true e rest = rw (equal_refl (R.by_key W f))
      go false e rest = rw (apart f g e, rest)

  under_fresh : (k : List ℕ) (l : List (R.Flow W)) → Fresh (R.by_key W) k l → R.under W k l ≡ None
  under_fresh k [] a = refl
  under_fresh k (f ∷ l) a = rw a.0 (under_fresh k l a.1)

  -- ## A flow goes into a free slot

  pub entered : (l : Slots W) (i : ℕ) (f : R.Flow W) → i < length l → get_or l i None ≡ None → Fresh (R.by_key W) (R.by_key W f) (occupied W l)
      → meaning W (set l i (Some f)) ≡ insert (R.by_key W) f (meaning W l)
  entered [] i f h e a = absurd (not-suc-le-zero h)
  entered (None ∷ l) zero f h e a = refl
  entered (Some g ∷ l) zero f h e a = cc
  entered (None ∷ l) (suc i) f h e a = entered l i f (le_of_suc-le-suc h) e a
  entered (Some g ∷ l) (suc i) f h e a =
      ap (insert (R.by_key W) g) (entered l i f (le_of_suc-le-suc h) e a.1) ∙ sym (insert_comm (R.by_key W) f g a.0 (meaning W l))

  -- ## The flow of a slot

  no_flow : {A : Type 0} {f : R.Flow W} → None ≡ Some f → A
  no_flow e = absurd (let z : ◌≡◌ {A = ℕ} 0 1 = cc in omega arith)

  same_flow : {f g : R.Flow W} → Some g ≡ Some f → g ≡ f
  same_flow {f} {g} e = cc

  at_slot : (P : R.Flow W → Type 0) (l : Slots W) (i : ℕ) (f : R.Flow W) → get_or l i None ≡ Some f → All P (occupied W l) → P f
  at_slot P [] i f e a = no_flow e
  at_slot P (None ∷ l) zero f e a = no_flow e
  at_slot P (Some g ∷ l) zero f e a = subst P (same_flow e) a.0
  at_slot P (None ∷ l) (suc i) f e a = at_slot P l i f e a
  at_slot P (Some g ∷ l) (suc i) f e a = at_slot P l i f e a.1

  -- the flow of a slot, put in with the others
  split : (l : Slots W) (i : ℕ) (f : R.Flow W) → get_or l i None ≡ Some f → Distinct (R.by_key W) (occupied W l)
      → meaning W l ≡ insert (R.by_key W) f (meaning W (set l i None))
  split [] i f e d = no_flow e
  split (None ∷ l) zero f e d = no_flow e
  split (Some g ∷ l) zero f e d = ap (λ (x : R.Flow W). insert (R.by_key W) x (meaning W l)) (same_flow e)
  split (None ∷ l) (suc i) f e d = split l i f e d
  split (Some g ∷ l) (suc i) f e d =
      ap (insert (R.by_key W) g) (split l i f e d.1)
      ∙ insert_comm (R.by_key W) g f (at_slot (λ x. equal (R.by_key W g) (R.by_key W x) ≡ false) l i f e d.0) (meaning W (set l i None))

  -- a flow in a slot is under its key
  pub found : (l : Slots W) (i : ℕ) (f : R.Flow W) → get_or l i None ≡ Some f → Distinct (R.by_key W) (occupied W l) → R.under W (R.by_key W f) (meaning W l) ≡ Some f
  found l i f e d = rw (split l i f e d) (under_insert f (meaning W (set l i None)))

  -- where no slot has the key, none is under it
  pub missing : (l : Slots W) (k : List ℕ) → Fresh (R.by_key W) k (occupied W l) → R.under W k (meaning W l) ≡ None
  missing l k a = under_fresh k (meaning W l) (all_sort (λ f. equal k (R.by_key W f) ≡ false) (R.by_key W) (occupied W l) a)

  -- to free a slot takes its flow out
  pub freed : (l : Slots W) (i : ℕ) (f : R.Flow W) → get_or l i None ≡ Some f → Distinct (R.by_key W) (occupied W l)
      → meaning W (set l i None) ≡ R.without W (R.by_key W f) (meaning W l)
  freed l i f e d = rw (split l i f e d) (sym (without_insert f (meaning W (set l i None))))

  -- ## A changed flow goes back into its slot

  set-set : (l : Slots W) (i : ℕ) (x y : Option (R.Flow W)) → set (set l i x) i y ≡ set l i y
  set-set [] i x y = refl
  set-set (z ∷ l) zero x y = refl
  set-set (z ∷ l) (suc i) x y = rw (set-set l i x y)

  -- what holds of all flows holds of those that are left when a slot is freed
  pub all_freed : (P : R.Flow W → Type 0) (l : Slots W) (i : ℕ) → All P (occupied W l) → All P (occupied W (set l i None))
  all_freed P [] i a = tt
  all_freed P (None ∷ l) zero a = a
  all_freed P (Some g ∷ l) zero a = a.1
  all_freed P (None ∷ l) (suc i) a = all_freed P l i a
  all_freed P (Some g ∷ l) (suc i) a = (a.0, all_freed P l i a.1)

  pub distinct_freed : (l : Slots W) (i : ℕ) → Distinct (R.by_key W) (occupied W l) → Distinct (R.by_key W) (occupied W (set l i None))
  distinct_freed [] i d = tt
  distinct_freed (None ∷ l) zero d = d
  distinct_freed (Some g ∷ l) zero d = d.1
  distinct_freed (None ∷ l) (suc i) d = distinct_freed l i d
  distinct_freed (Some g ∷ l) (suc i) d = (all_freed (λ x. equal (R.by_key W g) (R.by_key W x) ≡ false) l i d.0, distinct_freed l i d.1)

  -- the flow of a slot is alone under its key
  alone : (l : Slots W) (i : ℕ) (f : R.Flow W) → get_or l i None ≡ Some f → Distinct (R.by_key W) (occupied W l)
      → Fresh (R.by_key W) (R.by_key W f) (occupied W (set l i None))
  alone [] i f e d = tt
  alone (None ∷ l) zero f e d = no_flow e
  alone (Some g ∷ l) zero f e d = subst (λ (x : R.Flow W). Fresh (R.by_key W) (R.by_key W x) (occupied W l)) (same_flow e) d.0
  alone (None ∷ l) (suc i) f e d = alone l i f e d
  alone (Some g ∷ l) (suc i) f e d =
      (equal_sym (R.by_key W g) (R.by_key W f) false (at_slot (λ x. equal (R.by_key W g) (R.by_key W x) ≡ false) l i f e d.0), alone l i f e d.1)

  get_d_set : (l : Slots W) (i : ℕ) → get_or (set l i None) i None ≡ None
  get_d_set [] i = refl
  get_d_set (z ∷ l) zero = refl
  get_d_set (z ∷ l) (suc i) = get_d_set l i

  pub changed : (l : Slots W) (i : ℕ) (f g : R.Flow W) → i < length l → get_or l i None ≡ Some f → f.name ≡ g.name → Distinct (R.by_key W) (occupied W l)
      → meaning W (set l i (Some g)) ≡ insert (R.by_key W) g (R.without W (R.by_key W f) (meaning W l))
  changed l i f g h e n d =
      ap (meaning W) (sym (set-set l i None (Some g)))
      ∙ entered (set l i None) i g (rw (length-set l i None) h) (get_d_set l i)
      (subst (λ (x : W.Key). Fresh (R.by_key W) (W.bytes x) (occupied W (set l i None))) n (alone l i f e d))
      ∙ ap (insert (R.by_key W) g) (freed l i f e d)

  -- ## A sweep over the slots

  pub cleared : (test : R.Flow W → Bool) (l : Slots W) → meaning W (map (keep W test) l) ≡ those test (meaning W l)
  cleared test [] = refl
  cleared test (None ∷ l) = cleared test l
  cleared test (Some f ∷ l) = go (test f) refl (cleared test l)
    where
      go : (b : Bool) → test f ≡ b → meaning W (map (keep W test) l) ≡ those test (meaning W l)
          → meaning W (cond b (Some f) None ∷ map (keep W test) l) ≡ those test (insert (R.by_key W) f (meaning W l))
      go true e rest = ap (insert (R.by_key W) f) rest ∙ sym (those_insert (R.by_key W) test f e (meaning W l) (ordered_sort (R.by_key W) (occupied W l)))
      go false e rest = rest ∙ sym (those_none (R.by_key W) test f e (meaning W l))

  -- ## What a sweep hands out does not depend on the slots' order

  pub swept_slots_lem : (test : R.Flow W → Bool) (rank : R.Flow W → List ℕ) (l : Slots W) → Distinct rank (occupied W l)
      → sort rank (those test (meaning W l)) ≡ sort rank (those test (occupied W l))
  swept_slots_lem test rank l d =
      let p = perm_sort (R.by_key W) (occupied W l) in
      sym (sort_perm rank (Permᴰ.symm (perm_those (R.by_key W) test p)) (distinct_those rank test (occupied W l) d))

  -- ## One record after another

  -- different keys are different ranks by end and key
  distinct_ends : (l : List (R.Flow W)) → Distinct (R.by_key W) l → Distinct (R.by_end W) l
  distinct_ends [] d = tt
  distinct_ends (f ∷ l) d = (
    all_more (λ g. equal (R.by_key W f) (R.by_key W g) ≡ false) (λ g. equal (R.by_end W f) (R.by_end W g) ≡ false)
        (λ g e. rw e (and-false (eqb (W.latest f.held) (W.latest g.held)))) l d.0,
    distinct_ends l d.1,
  )

  -- a sort by another rank of one element put in with others
  sort_insert : (rank : R.Flow W → List ℕ) (f : R.Flow W) (l : List (R.Flow W)) → Distinct rank (insert (R.by_key W) f l)
      → sort rank (insert (R.by_key W) f l) ≡ insert rank f (sort rank l)
  sort_insert rank f l d = sort_perm rank (perm_insert (R.by_key W) f l) d

  distinct_meaning : (l : Slots W) → Distinct (R.by_key W) (occupied W l) → Distinct (R.by_key W) (meaning W l)
  distinct_meaning l d = distinct_perm (R.by_key W) (Permᴰ.symm (perm_sort (R.by_key W) (occupied W l))) d

  -- the slot whose flow is the least of those that pass the test is handed out first, and the others are what is left without it
  pub next_out : (test : R.Flow W → Bool) (l : Slots W) (i : ℕ) (f : R.Flow W) → get_or l i None ≡ Some f → Distinct (R.by_key W) (occupied W l)
      → test f ≡ true → Least (R.by_end W) f (those test (meaning W (set l i None)))
      → sort (R.by_end W) (those test (meaning W l)) ≡ f ∷ sort (R.by_end W) (those test (meaning W (set l i None)))
  next_out test l i f e d t least =
      let rest = meaning W (set l i None) in
      let one : those test (meaning W l) ≡ insert (R.by_key W) f (those test rest) =
      ap (those test) (split l i f e d) ∙ those_insert (R.by_key W) test f t rest (ordered_sort (R.by_key W) (occupied W (set l i None))) in
      let apart : Distinct (R.by_end W) (insert (R.by_key W) f (those test rest)) =
      subst (Distinct (R.by_end W)) one (distinct_ends (those test (meaning W l)) (distinct_those (R.by_key W) test (meaning W l) (distinct_meaning l d))) in
      ap (sort (R.by_end W)) one ∙ sort_insert (R.by_end W) f (those test rest) apart
      ∙ insert_front (R.by_end W) f (sort (R.by_end W) (those test rest))
      (all_sort (λ g. at_most (R.by_end W f) (R.by_end W g) ≡ true) (R.by_end W) (those test rest) least)

  -- the meaning is in order of key bytes, so that a drain takes it as it stands
  pub in_order : (l : Slots W) → sort (R.by_key W) (meaning W l) ≡ meaning W l
  in_order l = sort_ordered (R.by_key W) (meaning W l) (ordered_sort (R.by_key W) (occupied W l))

  -- the same for a drain: the slot with the least key
  pub next_drained : (l : Slots W) (i : ℕ) (f : R.Flow W) → get_or l i None ≡ Some f → Distinct (R.by_key W) (occupied W l)
      → Least (R.by_key W) f (meaning W (set l i None)) → sort (R.by_key W) (meaning W l) ≡ f ∷ sort (R.by_key W) (meaning W (set l i None))
  next_drained l i f e d least =
      in_order l ∙ split l i f e d ∙ insert_front (R.by_key W) f (meaning W (set l i None)) least
      ∙ ap {B = List (R.Flow W)} (λ r. f ∷ r) (sym (in_order (set l i None)))

  -- ## The room that a sweep needs, summed over the slots in any order

  sizes_finish : (other : EndReason) (l : List (R.Flow W)) → R.sizes W (map (R.finish_or W other) l) ≡ total (size_as W other) l
  sizes_finish other [] = refl
  sizes_finish other (f ∷ l) = ap (size_as W other f +◌) (sizes_finish other l)

  pub swept_size : (s : Settings) (w : ℕ) (l : Slots W) → R.sizes W (R.swept W s w (meaning W l)) ≡ total (size_as W IdleTimeout) (those (R.leaves W s w) (occupied W l))
  swept_size s w l =
      sizes_finish IdleTimeout (sort (R.by_end W) (those (R.leaves W s w) (meaning W l)))
      ∙ total_sort (size_as W IdleTimeout) (R.by_end W) (those (R.leaves W s w) (meaning W l))
      ∙ total_perm (size_as W IdleTimeout) (perm_those (R.by_key W) (R.leaves W s w) (perm_sort (R.by_key W) (occupied W l)))

  -- ## The sweep's loop: hand out the least of those that leave, free its slot, until none leaves

  pub freed_staying : (test : R.Flow W → Bool) (l : Slots W) (i : ℕ) (f : R.Flow W) → get_or l i None ≡ Some f → Distinct (R.by_key W) (occupied W l)
      → test f ≡ false → those test (meaning W (set l i None)) ≡ those test (meaning W l)
  freed_staying test l i f e d t =
      sym (ap (those test) (split l i f e d) ∙ those_none (R.by_key W) test f t (meaning W (set l i None)))

  those_all : (test : R.Flow W → Bool) (l : List (R.Flow W)) → All (λ f. test f ≡ true) l → those test l ≡ l
  those_all test [] a = refl
  those_all test (f ∷ l) a = rw (a.0, those_all test l a.1)

  pub none_left : (test : R.Flow W → Bool) (l : Slots W) → All (λ f. test f ≡ true) (occupied W l) → those test (meaning W l) ≡ meaning W l
  none_left test l a = those_all test (meaning W l) (all_sort (λ f. test f ≡ true) (R.by_key W) (occupied W l) a)

  -- ## Two tables mean the same exactly if they hold the same flows

  pub same_meaning : (l k : Slots W) → Distinct (R.by_key W) (occupied W l) → Permᴰ (occupied W l) (occupied W k) ↔ (meaning W l ≡ meaning W k)
  same_meaning l k d = (
    λ p. sort_perm (R.by_key W) p d,
    λ e. Permᴰ.trans (Permᴰ.symm (perm_sort (R.by_key W) (occupied W l)))
        (subst (λ (m : List (R.Flow W)). Permᴰ m (occupied W k)) (sym e) (perm_sort (R.by_key W) (occupied W k))),
  )
