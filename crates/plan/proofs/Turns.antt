-- What `plan_one` and `gather_one` cite: the two ways that each deals with a slot. Assumes nothing.
use mathlib.Core.Path.{◌≡◌, refl, sym, ◌∙◌, subst}
use mathlib.Core.Logic.{inl, inr}
use mathlib.Core.List.{List}
use Prim.Native.Nat.{ℕ, ◌+◌, ◌*◌, ◌<◌, ◌≤◌}
use native.Mathlib.Omega.{arith}
use lib.ListN.{get_or, take, length-take}
use Rattle.queue.specs.Tree.{never}
use Rattle.slots.specs.Table.{slot}
use Rattle.slots.proofs.Laws.{used_yes, used_no}
use Rattle.table.specs.View.{view}
use Rattle.table.specs.Due.{end_of, due_of, due_for, DuePut}
use Rattle.rules.specs.Totals.{all_more}
use Rattle.plan.specs.Steps.{Fits, rank_at, key_at, PlaceAsked, PlaceFor, put_at, OneAsked, Dealt, SlotGathered}

-- a place in the first n is at most n
pub place_within : (rank : ℕ → List ℕ) (l : List ℕ) (n i k : ℕ) → PlaceFor rank (take n l) i k → k ≤ n
place_within rank l n i k place = omega (arith, place.within, length-take n l)

-- ## One slot of a sweep

module _ (c T : ℕ) (s l : List ℕ) (n i : ℕ) (asked : OneAsked c s l n i) where
  pub one_place : PlaceAsked s l n i
  one_place = record {
    fits = omega (arith, asked.size, asked.low);
    long = omega (arith, asked.few, asked.room);
    others = all_more (λ j. j < c) (Fits s) (λ j h. omega (arith, asked.size)) (take n l) asked.others;
  }

  module _ (due real : ℕ) (is-due : due ≡ due_of c (view c s).tree i) (is_real : real ≡ due_for (end_of (slot s i)) T) (s' : List ℕ) where
    pub one_back : (due ≡ real → ⊥) → DuePut c i real (view c s) (view c s') → Dealt c T i n s s' l l n
    one_back other put =
        inl
        (record {
          other = λ e. other (is-due ∙ e ∙ sym is_real);
          queue = subst (λ (d : ℕ). DuePut c i d (view c s) (view c s')) is_real put;
          count = refl;
          list = refl;
        })

    pub one_out : due ≡ real → (k : ℕ) → PlaceFor (rank_at s) (take n l) i k → (l' : List ℕ) → take (n + 1) l' ≡ put_at k i (take n l)
        → DuePut c i never (view c s) (view c s') → Dealt c T i n s s' l l' (n + 1)
    one_out same k place l' e put =
        inr (record { exact = sym is-due ∙ same ∙ is_real; queue = put; count = refl; list = record { k = k; place = place; is = e } })

-- ## One slot of a drain

module _ (s l : List ℕ) (n i : ℕ) (fits : Fits s i) where
  pub one_free : (get_or s (256 + 624 * i) 0 ≡ 1 → ⊥) → SlotGathered i n s l l n
  one_free h = inl (record { free = used_no s i fits h; count = refl; list = refl })

  pub one_used : get_or s (256 + 624 * i) 0 ≡ 1 → (k : ℕ) → PlaceFor (key_at s) (take n l) i k → (l' : List ℕ) → take (n + 1) l' ≡ put_at k i (take n l)
      → SlotGathered i n s l l' (n + 1)
  one_used h k place l' e = inr (record { used = used_yes s i fits h; count = refl; list = record { k = k; place = place; is = e } })
