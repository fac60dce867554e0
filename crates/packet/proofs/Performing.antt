-- A packet is taken: the flows that leave, the flow that takes it, and the clock. Assumes nothing.
use Rattle.std.specs.Prelude.{None, Option, Some, is_some}
use Prim.Native.Nat.{ℕ, ◌+◌, ◌-◌, ◌^◌, ◌≤◌, ◌<◌}
use mathlib.Core.Path.{◌≡◌, refl, sym, ap, ◌∙◌, subst}
use mathlib.Core.Bool.{Bool, not}
use mathlib.Core.List.{List, [], ◌∷◌, ◌++◌, append_assoc}
use native.Mathlib.Omega.{arith}
use lib.ListN.{length, take, drop, get_or, length-take, length-drop, length-append, length-map}
use borrow.Rule.Slice.PartMut.{put_mid}
use Rattle.memory.specs.Bytes.{part}
use Rattle.memory.proofs.Laws.{length_patch}
use Rattle.slots.specs.Table.{slot, slots}
use Rattle.slots.proofs.Laws.{length_slots}
use Rattle.table.specs.View.{view, with_header}
use Rattle.table.specs.Header.{header_of, with_clock}
use Rattle.flow.specs.declared.time.EndReason.TheVariants.{IdleTimeout}
use Rattle.key.specs.Key.{reversed_key}
use Rattle.key.specs.declared.key.FlowKey.{FlowKey}
use Rattle.rules.specs.Totals.{total, total_sort}
use Rattle.rules.specs.Rules.{Flow, Taker, old, new, by_key, beside, keeping, under, ended_for}
use Rattle.rules.specs.Engine.{engine, key_bytes, is_association, written}
use Rattle.rules.specs.Slots.{Slots, occupied, meaning}
use Rattle.flow.specs.declared.record.Direction.TheVariants.{Forward}
use Rattle.state.specs.Slot.{flow_in, slot_flow}
use Rattle.state.specs.State.{slots_of}
use Rattle.state.specs.Free.{free_count}
use Rattle.state.specs.Change.{last_free, open_and_free, absent_fresh, distinct_flows}
use Rattle.plan.proofs.Flows.{end_told}
use Rattle.hand.specs.Acting.{Acted}
use Rattle.hand.specs.Freed.{sizes_written}
use Rattle.decide.specs.Decide.{staying_slots, left_flows, Chosen}
use Rattle.decide.specs.Settle.{freed_by}
use Rattle.decide.specs.declared.decide.Decision.{Decision}
use Rattle.decide.proofs.Chosen.{taker_sits, new_own, new_turned, left_meaning}
use Rattle.act.specs.Clock.{clocked_at, Clocked, clock_acted}
use Rattle.act.specs.Free.{last_free_low, last_free_none, under_absent}
use Rattle.act.specs.Keep.{flow_under, OldFlow, NewFlow}
use Rattle.act.specs.Settle.{Filled, SettleAsked, settled_slots}
use Rattle.sweeps.specs.StateLaws.{listed_many}
use Rattle.rules.proofs.EngineTermsLaws.{written_both}
use Rattle.packet.specs.Meant.{OldTaker, NewTaker, settled_means}
use Rattle.packet.specs.Doing.{swept_by, ended_by, taken_by, finished_by, count_of, PlanStands, DecidedFor, LeavingAsked, left_slots, LeftHanded, Stepped, PerformAsked, beside_found, Performed}
use Rattle.packet.proofs.Output.{filled_both}
use Rattle.packet.proofs.Sizes.{finished_sizes}
use Rattle.packet.proofs.Leaving.{flow_at}
use Rattle.packet.proofs.Taking.{old_name, old_grows, new_name, new_room, taken_flow, taken_unended}
use Rattle.flow.specs.declared.time.EndReason.{EndReason}

-- ## Steps 3 and 4, and the clock

-- a step was made, and then the clock was put
pub step_clocked : (c T w : ℕ) (s s1 s2 index free : List ℕ) (l : Slots engine) → Acted c T s s1 index free l → w < 2 ^ 64
    → view c s2 ≡ with_header (with_clock w (view c s1).header) (view c s1) → Stepped c T w s s2 index free l
step_clocked c T w s s1 s2 index free l acted small put =
    let clocked : Clocked c T w s1 s2 index free = clock_acted c T w s1 s2 index free acted.busy small put in
    record {
      busy = clocked.busy;
      slots_are = clocked.slots_are ∙ acted.slots_are;
      header = clocked.header ∙ ap (λ (b : List ℕ). clocked_at w (header_of b)) acted.same.header;
      left = record {
        settings = clocked.settings ∙ ap (λ (b : List ℕ). part b 0 40) acted.same.header;
        spare_header = clocked.spare_header ∙ ap (drop 48) acted.same.header;
        spare_slots = clocked.spare_slots ∙ acted.same.spare_slots;
        spare_node = clocked.spare_node ∙ acted.same.spare_node;
        rest = clocked.rest ∙ acted.same.rest;
      };
    }

-- a step was made before it
step_since : (c T w : ℕ) (s s1 s2 index1 free1 index free : List ℕ) (l1 l : Slots engine) → Acted c T s s1 index1 free1 l1 → Stepped c T w s1 s2 index free l
    → Stepped c T w s s2 index free l
step_since c T w s s1 s2 index1 free1 index free l1 l acted step = record {
  busy = step.busy;
  slots_are = step.slots_are;
  header = step.header ∙ ap (λ (b : List ℕ). clocked_at w (header_of b)) acted.same.header;
  left = record {
    settings = step.left.settings ∙ ap (λ (b : List ℕ). part b 0 40) acted.same.header;
    spare_header = step.left.spare_header ∙ ap (drop 48) acted.same.header;
    spare_slots = step.left.spare_slots ∙ acted.same.spare_slots;
    spare_node = step.left.spare_node ∙ acted.same.spare_node;
    rest = step.left.rest ∙ acted.same.rest;
  };
}

-- ## How many records there are

ended_many : (s : List ℕ) (f : Option ℕ) → length (ended_by s f) ≡ freed_by f
ended_many s (Some i) = refl
ended_many s None = refl

ending_many : (r : Option EndReason) (f : Flow engine) → length (ended_for engine r f) ≡ count_of r
ending_many None f = refl
ending_many (Some e) f = refl

-- each ends one flow at most
pub few_freed : (f : Option ℕ) → freed_by f ≤ 1
few_freed (Some i) = omega arith
few_freed None = omega arith

pub few_ending : (r : Option EndReason) → count_of r ≤ 1
few_ending None = omega arith
few_ending (Some e) = omega arith

-- ## How many flows a table means

pub flows_one : (l : List (Flow engine)) → length l ≡ total (λ _. 1) l
flows_one [] = refl
flows_one (f ∷ l) = omega (arith, flows_one l)

pub meaning_many : (l : Slots engine) → length (meaning engine l) ≡ length (occupied engine l)
meaning_many l = flows_one (meaning engine l) ∙ total_sort (λ _. 1) (by_key engine) (occupied engine l) ∙ sym (flows_one (occupied engine l))

-- as many slots as the capacity
slots_many : (s : List ℕ) (c : ℕ) → length (slots_of (slots s c)) ≡ c
unfolding slots_of
slots_many s c = length-map (slots s c) slot_flow ∙ length_slots s c 0

-- ## The taker by its slot

abbrev taker_found : List ℕ → Option ℕ → Taker engine
taker_found s (Some i) = old Forward (flow_in (slot s i))
taker_found s None = new

beside_found_lem : (s : List ℕ) (f : Option ℕ) (fs : List (Flow engine)) → beside engine (taker_found s f) fs ≡ beside_found s f fs
beside_found_lem s (Some i) fs = refl
beside_found_lem s None fs = refl

-- ## The packet is taken

module _ (c T L w : ℕ) (s l : List ℕ) (n : ℕ) (d : Decision) (bytes index free out : List ℕ) (ask : PerformAsked c T L w s l n d bytes index free out) where
  abbrev stands : PlanStands c T L w s l n index free
  stands = ask.carry.stands

  abbrev h : DecidedFor c T L w s bytes d
  h = ask.carry.decision

  abbrev choice : Chosen s c T L w h.packet d.ended d.slot h.decided.direction
  choice = h.decided.chosen

  -- the bytes of all the records fit
  all_fits : length (written (swept_by s c (take n l))) + (length (written (ended_by s d.ended)) + length (written (taken_by d))) ≤ length out
  all_fits =
      omega (
        arith,
        ask.fits,
        finished_sizes s c (take n l) d,
        sizes_written (swept_by s c (take n l)),
        sizes_written (ended_by s d.ended),
        sizes_written (taken_by d),
      )

  pub perform_leaves : LeavingAsked c T L w s l n d.ended index free out
  perform_leaves = record { stands = stands; sits = choice.ended_sits; room = omega (arith, all_fits) }

  module _ (s1 index1 free1 out1 : List ℕ) (a : ℕ) (left : LeftHanded c T L w s s1 index1 free1 (take n l) d.ended out out1 a) where
    abbrev before : List ℕ
    before = written (swept_by s c (take n l)) ++ written (ended_by s d.ended)

    before_long : length before ≡ length (written (swept_by s c (take n l))) + length (written (ended_by s d.ended))
    before_long = length-append (written (swept_by s c (take n l))) (written (ended_by s d.ended))

    out_long : length out1 ≡ length out
    out_long = ap length left.filled.output ∙ length_patch out 0 before (omega (arith, all_fits, before_long))

    pub perform_behind : a ≤ length out1
    perform_behind = omega (arith, all_fits, before_long, out_long, left.filled.bytes)

    -- the flow that takes the packet sits where it sat
    there : (i : ℕ) → d.slot ≡ Some i → get_or (slots_of (slots s1 c)) i None ≡ Some (flow_in (slot s i))
    there i e = ap (λ (m : Slots engine). get_or m i None) left.acted.slots_are ∙ taker_sits choice i e

    same_flow : (i : ℕ) (e : d.slot ≡ Some i) → flow_in (slot s1 i) ≡ flow_in (slot s i)
    same_flow i e = (flow_at s1 c i (flow_in (slot s i)) (choice.slot_sits i e).low (there i e)).1

    -- the flows are those that step 1 leaves
    flows_left : meaning engine (slots_of (slots s1 c)) ≡ left_flows h.packet (staying_slots T L w (slots s c))
    flows_left = ap (meaning engine) left.acted.slots_are ∙ left_meaning choice stands.ready.flows

    old_then : (i : ℕ) → d.slot ≡ Some i → OldFlow c d.name d.«record» s1 i
    unfolding flow_in
    old_then i e = record {
      sits = record {
        low = (choice.slot_sits i e).low;
        used = (flow_at s1 c i (flow_in (slot s i)) (choice.slot_sits i e).low (there i e)).0;
      };
      own =
          ap (λ (f : Flow engine). f.name) (same_flow i e)
          ∙ sym (old_name c T L w s bytes d h stands.ready.flows ask.accepted i e);
      grows =
          omega (
            arith,
            end_told (slot s1 i),
            end_told (slot s i),
            ap (λ (f : Flow engine). engine.latest f.held) (same_flow i e),
            old_grows c T L w s bytes d h stands.ready.flows ask.accepted i e,
          );
    }

    own_key : d.slot ≡ None → d.name ≡ h.packet.key
    own_key e = new_name c T L w s bytes d h stands.ready.flows ask.accepted e

    new_alone : d.slot ≡ None → under engine (key_bytes d.name) (meaning engine (slots_of (slots s1 c))) ≡ None
    new_alone e =
        ap (λ (k : FlowKey). under engine (key_bytes k) (meaning engine (slots_of (slots s1 c)))) (own_key e)
        ∙ ap (under engine (key_bytes h.packet.key)) flows_left ∙ new_own choice e

    new_then : d.slot ≡ None → NewFlow c d.name bytes s1
    new_then e = record {
      alone = new_alone e;
      unturned = λ two.
          ap (λ (k : FlowKey). under engine (key_bytes (reversed_key k)) (meaning engine (slots_of (slots s1 c)))) (own_key e)
          ∙ ap (under engine (key_bytes (reversed_key h.packet.key))) flows_left
          ∙ new_turned choice e (ap is_association (sym (own_key e)) ∙ two);
      key = h.key ∙ ap key_bytes (sym (own_key e));
    }

    -- a slot is free for a flow that opens
    free_then : d.slot ≡ None → 0 < free_count free1
    free_then e =
        omega (
          arith,
          open_and_free s1 c index1 free1 left.acted.busy.ready,
          meaning_many (slots_of (slots s1 c)),
          ap length flows_left,
          new_room c T L w s bytes d h stands.ready.flows ask.accepted e,
        )

    pub perform_settles : SettleAsked c T d.slot d.name bytes d.«record» d.reason s1 index1 free1 (take (length out1 - a) (drop a out1))
    perform_settles = record {
      busy = left.acted.busy;
      flow = taken_flow c T L w s bytes d h stands.ready.flows ask.accepted;
      unended = taken_unended c T L w s bytes d h stands.ready.flows ask.accepted;
      old = old_then;
      new = new_then;
      open_room = λ e k. free_then e;
      room =
          omega (
            arith,
            all_fits,
            before_long,
            out_long,
            left.filled.bytes,
            length-take (length out1 - a) (drop a out1),
            length-drop a out1,
          );
    }

    module _ (s2 index2 free2 t : List ℕ) (b : ℕ)
        (step : Stepped c T w s1 s2 index2 free2 (settled_slots d.slot d.reason (last_free free1) d.name d.«record» (slots_of (slots s1 c))))
        (filled : Filled (written (taken_by d)) (take (length out1 - a) (drop a out1)) t b) where
      pub perform_sum : a + b ≤ length out1
      perform_sum = omega (arith, all_fits, before_long, out_long, left.filled.bytes, filled.bytes)

      abbrev flow : Flow engine
      flow = flow_under d.name d.«record»

      abbrev l1 : Slots engine
      l1 = slots_of (slots s1 c)

      old_taker : (i : ℕ) → d.slot ≡ Some i → OldTaker l1 (meaning engine l1) (taker_found s d.slot) flow i
      unfolding flow_in
      old_taker i e = record {
        was = flow_in (slot s i);
        low = omega (arith, (choice.slot_sits i e).low, slots_many s1 c);
        here = there i e;
        name = sym (old_name c T L w s bytes d h stands.ready.flows ask.accepted i e);
        others = ap (λ (f : Option ℕ). beside engine (taker_found s f) (meaning engine l1)) e;
      }

      new_taker : d.slot ≡ None → NewTaker l1 (meaning engine l1) (taker_found s d.slot) flow d.reason (last_free free1)
      new_taker e = record {
        others = ap (λ (f : Option ℕ). beside engine (taker_found s f) (meaning engine l1)) e;
        low = λ k. omega (arith, last_free_low s1 c index1 free1 left.acted.busy.ready (free_then e), slots_many s1 c);
        empty = λ k. last_free_none s1 c index1 free1 left.acted.busy.ready (free_then e);
        alone = λ k.
            absent_fresh s1 c (key_bytes d.name) left.acted.busy.ready.flows
            (under_absent s1 c (key_bytes d.name) left.acted.busy.ready.flows (new_alone e));
      }

      flows_then : meaning engine (settled_slots d.slot d.reason (last_free free1) d.name d.«record» l1)
          ≡ keeping engine d.reason flow (beside_found s d.slot (meaning engine (left_slots c T L w s d.ended)))
      flows_then =
          settled_means l1 (meaning engine l1) refl (distinct_flows s1 c left.acted.busy.ready.flows) (taker_found s d.slot) flow (last_free free1) d.slot
          d.reason old_taker new_taker
          ∙ ap (keeping engine d.reason flow)
          (beside_found_lem s d.slot (meaning engine l1) ∙ ap (λ (m : Slots engine). beside_found s d.slot (meaning engine m)) left.acted.slots_are)

      bytes_are : before ++ written (taken_by d) ≡ written (finished_by s c (take n l) d)
      bytes_are =
          append_assoc (written (swept_by s c (take n l))) (written (ended_by s d.ended)) (written (taken_by d))
          ∙ ap (λ (x : List ℕ). written (swept_by s c (take n l)) ++ x) (sym (written_both (ended_by s d.ended) (taken_by d)))
          ∙ sym (written_both (swept_by s c (take n l)) (ended_by s d.ended ++ taken_by d))

      pub performed : (found : Bool) (x y : ℕ) → found ≡ is_some d.slot → x ≡ freed_by d.ended → y ≡ count_of d.reason
          → Performed c T L w s (take n l) d out (record { refusal = None; opened = not found; records = n + x + y; bytes = a + b }) s2
          (put_mid a (length out1 - a) out1 t) index2 free2
      performed found x y e1 e2 e3 = record {
        accepted = refl;
        opened = ap not e1;
        records =
            omega (
              arith,
              listed_many IdleTimeout (view c s).table l n stands.long,
              ended_many s d.ended,
              ending_many d.reason flow,
              length-append (swept_by s c (take n l)) (ended_by s d.ended ++ taken_by d),
              length-append (ended_by s d.ended) (taken_by d),
            );
        after = settled_slots d.slot d.reason (last_free free1) d.name d.«record» l1;
        stepped = step_since c T w s s1 s2 index1 free1 index2 free2 (left_slots c T L w s d.ended) _ left.acted step;
        means = flows_then;
        filled =
            subst (λ (z : List ℕ). Filled z out (put_mid a (length out1 - a) out1 t) (a + b)) bytes_are
            (filled_both out before out1 a (written (taken_by d)) t b left.filled filled (omega (arith, all_fits, before_long)));
      }
