-- Handing out the flows that leave: the state is in order, and its slots are those that stay. Assumes nothing.
use Rattle.std.specs.Prelude.{ℕ, ◌+◌, ◌*◌, ◌≤◌, ◌<◌, ◌≡◌, Bool, true, not, List, [], map, length, drop}
use Rattle.std.proofs.Common.{sym, ap, ◌∙◌, subst}
use Rattle.queue.specs.Tree.{node, never}
use Rattle.slots.specs.Table.{slots}
use Rattle.slots.proofs.Laws.{length_slots}
use Rattle.table.specs.View.{view, slot_of}
use Rattle.table.specs.Due.{due_of}
use Rattle.flow.specs.declared.time.EndReason.{EndReason}
use Rattle.rules.specs.Rules.{Flow}
use Rattle.rules.specs.Engine.{engine}
use Rattle.rules.specs.Slots.{keep}
use Rattle.rules.specs.Totals.{All, all_more}
use Rattle.state.specs.Slot.{flow_in}
use Rattle.state.specs.State.{slots_of}
use Rattle.state.specs.Names.{NamesAllBut}
use Rattle.state.specs.Ready.{Ready}
use Rattle.plan.specs.Plan.{Leaving, Planned}
use Rattle.hand.specs.Act.{Handed, freed_all}
use Rattle.hand.specs.Acting.{Acted}
use Rattle.hand.specs.Freed.{all_freed_names, freed_slots, cleared_keep, freed_spare}

module _ (c T : ℕ) (test : Flow engine → Bool) (s : List ℕ) (listed : List ℕ) (plan : Planned c T test (view c s).table (view c s).tree listed)
    (some : 0 < c) (most : c ≤ 4096) where
  many : length (slots s c) ≡ c
  many = length_slots s c 0

  pub handed_acted : (other : EndReason) (s' room out index free : List ℕ) (r : ℕ) → 256 + 640 * c ≤ length s' → Handed c other (view c s) (view c s') listed room out r
      → Ready s' c index free → Acted c T s s' index free (map (keep engine (λ f. not (test f))) (slots_of (slots s c)))
  handed_acted other s' room out index free r size h ready =
      let out_of : All (λ i. due_of c (view c s).tree i ≡ never) listed =
      all_more (Leaving c test (view c s).table (view c s).tree) (λ i. due_of c (view c s).tree i ≡ never) (λ i k. k.out) listed plan.slots in
      let names : NamesAllBut c T (freed_all listed (view c s).table) (view c s).tree [] =
      all_freed_names c T (view c s).table (view c s).tree listed plan.names many out_of in
      record {
        busy = record {
          size = size;
          some = some;
          most = most;
          ready = ready;
          names =
              subst (λ (t : List ℕ). NamesAllBut c T (view c s').table t []) (sym h.tree)
              (subst (λ (t : List (List ℕ)). NamesAllBut c T t (view c s).tree []) (sym h.table) names);
        };
        slots_are =
            ap slots_of h.table ∙ freed_slots listed (slots s c)
            ∙ cleared_keep c test (slots s c) listed many
            (all_more (Leaving c test (view c s).table (view c s).tree) (λ i. test (flow_in (slot_of (view c s).table i)) ≡ true) (λ i k. k.leaves) listed plan.slots)
            plan.all;
        same = record {
          header = h.header;
          spare_slots = ap (map (drop 376)) h.table ∙ freed_spare listed (slots s c);
          spare_node = ap (λ (t : List ℕ). node t 0) h.tree;
          rest = h.rest;
        };
      }
