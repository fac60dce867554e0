-- From the limit W − L to the rules' own test. Assumes nothing.
use Rattle.std.specs.Prelude.{None, Option, Some, is_none}
use mathlib.Core.Path.{◌≡◌, refl, sym, ap}
use mathlib.Core.Bool.{Bool, true, false, not, ◌&&◌}
use mathlib.Core.Logic.{◌⊎◌, ⊎_elim, inl, inr}
use mathlib.Core.List.{List, [], ◌∷◌}
use Prim.Native.Nat.{ℕ, ◌+◌, ◌-◌, ◌<◌, ◌≤◌}
use native.Mathlib.Omega.{arith}
use lib.Dec.{eqb, leb}
use borrow.Author.Tests.{ne_eqb, le-leb, lt-leb, leb-true, leb-false}
use Rattle.memory.specs.Decides.{Decides}
use Rattle.memory.proofs.Laws.{less_or, same_or, says_no, says_yes}
use Rattle.queue.specs.Tree.{never}
use Rattle.table.specs.View.{view, slot_of}
use Rattle.table.specs.Due.{NextDue}
use Rattle.state.specs.Slot.{flow_in}
use Rattle.state.specs.State.{slots_of}
use Rattle.rules.specs.Order.{sort, those}
use Rattle.rules.proofs.OrderLaws.{clash}
use Rattle.rules.specs.Rules.{Flow, by_end}
use Rattle.rules.specs.Due.{not_idle}
use Rattle.rules.specs.Engine.{engine}
use Rattle.rules.specs.Slots.{meaning}
use Rattle.plan.specs.Plan.{leaves_by, PlanAsked, PlanMade, NothingDue}
use Rattle.plan.specs.Steps.{goes, SweepAsked}
use Rattle.plan.proofs.Sweeping.{planned}

-- with a timeout, and from a clock of L on
goes_leaves : (T L w : ℕ) → (T ≡ 0 → ⊥) → L ≤ w → goes T (w - L) ≡ leaves_by T L w
goes_leaves T L w n h = λ t f. same (engine.latest f.held) t
  where
    same : (e : ℕ) → leb (e + T) (w - L) ≡ not (eqb T 0) && leb (e + T + L) w
    same e = rw (ne_eqb T 0 n) (go (leb (e + T) (w - L)) refl)
      where
        go : (b : Bool) → leb (e + T) (w - L) ≡ b → b ≡ leb (e + T + L) w
        go true k = sym (le-leb (e + T + L) w (omega (arith, leb-true (e + T) (w - L) k)))
        go false k = sym (lt-leb (e + T + L) w (omega (arith, leb-false (e + T) (w - L) k)))

those_nothing : {A : Type 0} (test : A → Bool) → ((x : A) → test x ≡ false) → (l : List A) → those test l ≡ []
those_nothing test h [] = refl
those_nothing test h (x ∷ l) = rw (h x) (those_nothing test h l)

module _ (c T L w : ℕ) (s l : List ℕ) (asked : PlanAsked c T L s l) where
  -- nothing leaves, and the list is empty
  nothing : ((f : Flow engine) → leaves_by T L w f ≡ false) → PlanMade c T (leaves_by T L w) (view c s) (view c s) [] 0
  nothing h = record {
    few = omega arith;
    same = refl;
    spare = refl;
    plan = record {
      names = asked.names;
      slots = tt;
      once = tt;
      all = λ i low u g. clash g (h (flow_in (slot_of (view c s).table i)));
      flows = sym (ap (sort (by_end engine)) (those_nothing (leaves_by T L w) h (meaning engine (slots_of (view c s).table))));
    };
  }

  pub none_leaves : (T ≡ 0) ⊎ ((T ≡ 0 → ⊥) × (w < L)) → PlanMade c T (leaves_by T L w) (view c s) (view c s) [] 0
  none_leaves h = nothing (λ f. not_idle (engine.latest f.held) T L w (⊎_elim inl (λ h. inr (omega (arith, h.1))) h))

  module _ (timed : T ≡ 0 → ⊥) (reached : L ≤ w) where
    pub by_limit : w ≤ never → SweepAsked c T (w - L) s l
    by_limit small =
        let wide = asked.wide timed in
        record {
          size = asked.size;
          some = asked.some;
          most = asked.most;
          room = asked.room;
          timed = timed;
          below = omega arith;
          flows = asked.flows;
          names = asked.names;
        }

    pub by_clock : (s' listed : List ℕ) (n : ℕ) → PlanMade c T (goes T (w - L)) (view c s) (view c s') listed n
        → PlanMade c T (leaves_by T L w) (view c s) (view c s') listed n
    by_clock s' listed n made = rw (goes_leaves T L w timed reached) at made

  -- no entry is due: nothing leaves, and nothing has changed
  pub nothing_leaves : NothingDue c T L w (view c s).tree → PlanMade c T (leaves_by T L w) (view c s) (view c s) [] 0
  nothing_leaves quiet =
      ⊎_elim (λ e. none_leaves (inl e))
      (λ timed. ⊎_elim (λ h. none_leaves (inr (timed, h)))
      (λ reached.
      by_clock timed reached s [] 0
      (record {
        few = omega arith;
        same = refl;
        spare = refl;
        plan =
            planned c T (w - L) s (view c s).tree [] timed asked.flows
            (record { names = asked.names; slots = tt; once = tt; ordered = tt }) (quiet timed reached);
      })) (less_or w L)) (same_or T 0)

-- ## Whether an entry is due

module _ (c T L w : ℕ) (tree : List ℕ) where
  pub none_due : (T ≡ 0) ⊎ ((T ≡ 0 → ⊥) × (w < L)) → Decides true (NothingDue c T L w tree)
  none_due h = says_yes (λ timed reached. ⊎_elim (λ e. absurd (timed e)) (λ h. absurd (omega (arith, h.1))) h)

  pub next_tells : (T ≡ 0 → ⊥) → L ≤ w → (r : Option ℕ) → NextDue c (w - L) tree r → Decides (is_none r) (NothingDue c T L w tree)
  next_tells timed reached None next = says_yes (λ t l. next)
  next_tells timed reached (Some i) next = says_no (λ quiet. omega (arith, next.1, quiet timed reached i next.0))
