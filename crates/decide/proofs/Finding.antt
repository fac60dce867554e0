-- The flow under a key, when some flows are left out, and where it sits in a table of slots. Assumes nothing.
use Rattle.std.specs.Prelude.{None, Option, Some}
use mathlib.Core.Path.{◌≡◌, refl, sym, ap, ◌∙◌, subst}
use mathlib.Core.Bool.{Bool, true, false, cond}
use mathlib.Core.List.Permᴰ
use mathlib.Core.List.{List, [], ◌∷◌, map}
use mathlib.Core.Logic.{⊎_elim}
use Prim.Native.Nat.{ℕ, zero, suc}
use native.Mathlib.Omega.{arith}
use lib.ListN.{get_or, set}
use lib.Seq.{get_or-set_other}
use Rattle.memory.proofs.Laws.{same_or}
use Rattle.rules.specs.Order.{equal, those}
use Rattle.rules.specs.Totals.{all_those}
use Rattle.rules.specs.Account.{Any, Under}
use Rattle.rules.proofs.AccountLaws.{equal_true, under_is}
use Rattle.rules.specs.Laws.{Fresh, Distinct}
use Rattle.rules.proofs.OrderLaws.{perm_sort, all_perm, distinct_perm}
use Rattle.rules.specs.Rules.{Terms}
use Rattle.rules.specs.Rules as R
use Rattle.rules.specs.Slots.{Slots, occupied, meaning, keep}
use Rattle.rules.proofs.SlotsLaws.{found, missing, freed, distinct_freed, all_freed, cleared}

module _ (W : Terms) where
  -- ## The flow under a key

  -- none is under a key that no flow has
  under_fresh : (k : List ℕ) (l : List (R.Flow W)) → Fresh (R.by_key W) k l → R.under W k l ≡ None
  under_fresh k [] a = refl
  under_fresh k (f ∷ l) a = rw a.0 (under_fresh k l a.1)

  -- .. and where none is under a key, no flow has it
  pub fresh_under : (k : List ℕ) (l : List (R.Flow W)) → R.under W k l ≡ None → Fresh (R.by_key W) k l
  fresh_under k [] e = tt
  fresh_under k (f ∷ l) e = go (equal k (R.by_key W f)) refl e (fresh_under k l)
    where
      go : (b : Bool) → equal k (R.by_key W f) ≡ b → cond b (Some f) (R.under W k l) ≡ None → (R.under W k l ≡ None → Fresh (R.by_key W) k l)
          → (equal k (R.by_key W f) ≡ false) × Fresh (R.by_key W) k l
      go true h q rest = absurd (let z : ◌≡◌ {A = ℕ} 0 1 = cc in omega arith)
      go false h q rest = (h, rest q)

  -- what is under a key has the key
  pub key_of_found : (k : List ℕ) (l : List (R.Flow W)) (f : R.Flow W) → R.under W k l ≡ Some f → k ≡ R.by_key W f
  key_of_found k l f e = go (R.under W k l) e (under_is W k l)
    where
      go : (o : Option (R.Flow W)) → o ≡ Some f → Any W (Under W k l) o → k ≡ R.by_key W f
      go None q h = absurd (let z : ◌≡◌ {A = ℕ} 0 1 = cc in omega arith)
      go (Some g) q h = let same : g ≡ f = cc in h.0 ∙ ap (R.by_key W) same

  -- ## Flows that pass a test

  -- where no key stands twice, to find and then test is to find among those that pass the test
  under_those : (test : R.Flow W → Bool) (k : List ℕ) (l : List (R.Flow W)) → Distinct (R.by_key W) l → R.under W k (those test l) ≡ keep W test (R.under W k l)
  under_those test k [] d = refl
  under_those test k (f ∷ l) d = go (equal k (R.by_key W f)) refl (test f) refl (under_those test k l d.1)
    where
      go : (b : Bool) → equal k (R.by_key W f) ≡ b → (t : Bool) → test f ≡ t → R.under W k (those test l) ≡ keep W test (R.under W k l)
          → R.under W k (cond t (f ∷ those test l) (those test l)) ≡ keep W test (cond b (Some f) (R.under W k l))
      go true e true t rest = rw (e, t)
      go true e false t rest =
          rw t
          (under_fresh k (those test l)
          (all_those (λ g. equal k (R.by_key W g) ≡ false) test l
          (subst (λ (x : List ℕ). Fresh (R.by_key W) x l) (sym (equal_true k (R.by_key W f) e)) d.0)))
      go false e true t rest = rw e rest
      go false e false t rest = rest

  pub occupied_keep : (test : R.Flow W → Bool) (l : Slots W) → occupied W (map (keep W test) l) ≡ those test (occupied W l)
  occupied_keep test [] = refl
  occupied_keep test (None ∷ l) = occupied_keep test l
  occupied_keep test (Some f ∷ l) = go (test f) (occupied_keep test l)
    where
      go : (b : Bool) → occupied W (map (keep W test) l) ≡ those test (occupied W l)
          → occupied W (cond b (Some f) None ∷ map (keep W test) l) ≡ cond b (f ∷ those test (occupied W l)) (those test (occupied W l))
      go true e = ap {B = List (R.Flow W)} (λ m. f ∷ m) e
      go false e = e

  -- ## A slot is emptied

  -- where no flow is under the key, none is then
  still_none : (l : Slots W) (k : List ℕ) (j : ℕ) → R.under W k (meaning W l) ≡ None → R.under W k (meaning W (set l j None)) ≡ None
  still_none l k j e =
      missing W (set l j None) k
      (all_freed W (λ f. equal k (R.by_key W f) ≡ false) l j
      (all_perm (R.by_key W) (λ f. equal k (R.by_key W f) ≡ false) (perm_sort (R.by_key W) (occupied W l)) (fresh_under k (meaning W l) e)))

  under_without : (k : List ℕ) (l : List (R.Flow W)) → Distinct (R.by_key W) l → R.under W k (R.without W k l) ≡ None
  under_without k [] d = refl
  under_without k (f ∷ l) d = go (equal k (R.by_key W f)) refl (under_without k l d.1)
    where
      go : (b : Bool) → equal k (R.by_key W f) ≡ b → R.under W k (R.without W k l) ≡ None → R.under W k (cond b l (f ∷ R.without W k l)) ≡ None
      go true e rest = under_fresh k l (subst (λ (x : List ℕ). Fresh (R.by_key W) x l) (sym (equal_true k (R.by_key W f) e)) d.0)
      go false e rest = rw e rest

  distinct_meaning : (l : Slots W) → Distinct (R.by_key W) (occupied W l) → Distinct (R.by_key W) (meaning W l)
  distinct_meaning l d = distinct_perm (R.by_key W) (Permᴰ.symm (perm_sort (R.by_key W) (occupied W l))) d

  pub none_here : (l : Slots W) (i : ℕ) → get_or (set l i None) i None ≡ None
  none_here [] i = refl
  none_here (x ∷ l) zero = refl
  none_here (x ∷ l) (suc i) = none_here l i

  -- no flow is under the key of the one that sat there
  gone : (l : Slots W) (i : ℕ) (f : R.Flow W) → Distinct (R.by_key W) (occupied W l) → get_or l i None ≡ Some f
      → R.under W (R.by_key W f) (meaning W (set l i None)) ≡ None
  gone l i f d e = rw (freed W l i f e d) (under_without (R.by_key W f) (meaning W l) (distinct_meaning l d))

  -- the slot of the flow under a key, if it is not the emptied one, is that of the flow under the key still
  pub still_found : (l : Slots W) (k : List ℕ) (i j : ℕ) → Distinct (R.by_key W) (occupied W l) → get_or l i None ≡ R.under W k (meaning W l)
      → get_or (set l j None) i None ≡ R.under W k (meaning W (set l j None))
  still_found l k i j d e =
      ⊎_elim (λ (q : i ≡ j). subst (λ (x : ℕ). get_or (set l x None) i None ≡ R.under W k (meaning W (set l x None))) q (here (get_or l i None) refl))
      (λ n. get_or-set_other l j i None None n ∙ there n (get_or l i None) refl) (same_or i j)
    where
      here : (o : Option (R.Flow W)) → get_or l i None ≡ o → get_or (set l i None) i None ≡ R.under W k (meaning W (set l i None))
      here None q = none_here l i ∙ sym (still_none l k i (sym e ∙ q))
      here (Some f) q =
          none_here l i
          ∙ sym (subst (λ (x : List ℕ). R.under W x (meaning W (set l i None)) ≡ None) (sym (key_of_found k (meaning W l) f (sym e ∙ q))) (gone l i f d q))

      there : (i ≡ j → ⊥) → (o : Option (R.Flow W)) → get_or l i None ≡ o → get_or l i None ≡ R.under W k (meaning W (set l j None))
      there n None q = q ∙ sym (still_none l k j (sym e ∙ q))
      there n (Some f) q =
          q
          ∙ sym
          (subst (λ (x : List ℕ). R.under W x (meaning W (set l j None)) ≡ Some f) (sym (key_of_found k (meaning W l) f (sym e ∙ q)))
          (found W (set l j None) i f (get_or-set_other l j i None None n ∙ q) (distinct_freed W l j d)))

  -- .. and where none is under the key, none is found
  pub still_missing : (l : Slots W) (k : List ℕ) (j : ℕ) → None ≡ R.under W k (meaning W l) → None ≡ R.under W k (meaning W (set l j None))
  still_missing l k j e = sym (still_none l k j (sym e))

  -- ## A sweep over the slots

  -- where a flow is found among all, it is found among those that stay, if it stays
  pub kept_found : (test : R.Flow W → Bool) (l : Slots W) (k : List ℕ) (o : Option (R.Flow W)) → Distinct (R.by_key W) (occupied W l)
      → o ≡ R.under W k (meaning W l) → keep W test o ≡ R.under W k (meaning W (map (keep W test) l))
  kept_found test l k o d e =
      ap (keep W test) e ∙ sym (ap (R.under W k) (cleared W test l) ∙ under_those test k (meaning W l) (distinct_meaning l d))
