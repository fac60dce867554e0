-- The flows that leave are handed out, and behind them the one that step 1 ends. Assumes nothing.
use Rattle.std.specs.Prelude.{None, Option, Some}
use Prim.Native.Nat.{ℕ, ◌+◌, ◌-◌, ◌≤◌, ◌<◌}
use mathlib.Core.Path.{◌≡◌, refl, sym, ap, ◌∙◌, subst}
use mathlib.Core.Bool.{Bool, true, false, cond}
use mathlib.Core.List.{List}
use native.Mathlib.Omega.{arith}
use lib.ListN.{length, take, drop, get_or, length-take, length-drop}
use borrow.Rule.Slice.PartMut.{put_mid}
use Rattle.memory.proofs.Laws.{length_patch}
use Rattle.slots.specs.Table.{slot, slots, is_used}
use Rattle.slots.proofs.Laws.{get_d_slots}
use Rattle.table.specs.View.{view}
use Rattle.flow.specs.declared.time.EndReason.TheVariants.{IdleTimeout, Fin}
use Rattle.rules.specs.Totals.{All, all_more}
use Rattle.rules.specs.Rules.{Flow, ended}
use Rattle.rules.specs.Engine.{engine, written}
use Rattle.rules.specs.Slots.{Slots}
use Rattle.state.specs.Slot.{flow_in, slot_flow}
use Rattle.state.specs.State.{slots_of}
use Rattle.state.specs.Names.{OpenSlot}
use Rattle.state.specs.Ready.{Ready}
use Rattle.state.specs.Change.{slots_of_at}
use Rattle.plan.specs.Plan.{leaves_by, Leaving}
use Rattle.hand.specs.Act.{HandAsked, Handed, records_of}
use Rattle.hand.specs.Acting.{Acted, at, emptied_at, untouched_twice}
use Rattle.decide.specs.Decide.{staying_slots}
use Rattle.decide.proofs.Staying.{sits_flow}
use Rattle.act.specs.Size.{long_enough}
use Rattle.act.specs.Settle.{Filled, EndAsked}
use Rattle.packet.specs.Handed.{handed_acted}
use Rattle.packet.specs.Doing.{flow_found, swept_by, ended_by, PlanStands, LeavingAsked, LeftHanded}
use Rattle.packet.proofs.Output.{filled_both}

-- a slot that has a flow in the rules' words is used, and has it
pub flow_at : (s : List ℕ) (c i : ℕ) (f : Flow engine) → i < c → get_or (slots_of (slots s c)) i None ≡ Some f
    → (is_used (slot s i) ≡ true) × (flow_in (slot s i) ≡ f)
unfolding slot_flow
flow_at s c i f low e =
    go (is_used (slot s i)) refl (sym (slots_of_at (slots s c) i ∙ ap slot_flow (get_d_slots s c i low)) ∙ e)
  where
    go : (u : Bool) → is_used (slot s i) ≡ u → cond u (Some (flow_in (slot s i))) None ≡ Some f → (is_used (slot s i) ≡ true) × (flow_in (slot s i) ≡ f)
    go true used q = (used, cc)
    go false free q = absurd (let z : ◌≡◌ {A = ℕ} 0 1 = cc in omega arith)

-- the listed slots are open
pub open_slots : (c T L w : ℕ) (s l : List ℕ) (n : ℕ) (index free : List ℕ) (h : PlanStands c T L w s l n index free) → All (OpenSlot c (view c s).table) (take n l)
open_slots c T L w s l n index free h =
    all_more (Leaving c (leaves_by T L w) (view c s).table (view c s).tree) (OpenSlot c (view c s).table) (λ i k. record { low = k.low; used = k.used }) (take n l)
    h.plan.slots

module _ (c T L w : ℕ) (s l : List ℕ) (n : ℕ) (found : Option ℕ) (index free out : List ℕ) (ask : LeavingAsked c T L w s l n found index free out) where
  -- the list can be handed out
  pub leaving_hands : HandAsked c IdleTimeout s l n index free out
  leaving_hands = record {
    size = ask.stands.size;
    most = ask.stands.most;
    few = ask.stands.few;
    long = ask.stands.long;
    slots = open_slots c T L w s l n index free ask.stands;
    once = ask.stands.plan.once;
    ready = ask.stands.ready;
    room = omega (arith, ask.room);
  }

  module _ (s1 index1 free1 out1 : List ℕ) (a : ℕ) (handed : Handed c IdleTimeout (view c s) (view c s1) (take n l) out out1 a)
      (ready : Ready s1 c index1 free1) where
    abbrev rest : List ℕ
    rest = take (length out1 - a) (drop a out1)

    swept_acted : Acted c T s s1 index1 free1 (staying_slots T L w (slots s c))
    unfolding staying_slots
    swept_acted =
        handed_acted c T (leaves_by T L w) s (take n l) ask.stands.plan ask.stands.some ask.stands.most IdleTimeout s1 out out1 index1 free1 a
        (long_enough s1 c ask.stands.some (ap length handed.tree ∙ ask.stands.plan.names.sound.size)) handed ready

    -- the flow that step 1 ends sits where it sat
    there : (i : ℕ) → found ≡ Some i → get_or (slots_of (slots s1 c)) i None ≡ Some (flow_in (slot s i))
    there i e = ap (λ (m : Slots engine). get_or m i None) swept_acted.slots_are ∙ sits_flow s c T L w i (ask.sits i e)

    ended_is : at (slots_of (slots s1 c)) found ≡ flow_found s found
    ended_is = go found refl
      where
        go : (f : Option ℕ) → found ≡ f → at (slots_of (slots s1 c)) f ≡ flow_found s f
        go (Some i) e = there i e
        go None e = refl

    out_long : length out1 ≡ length out
    out_long =
        ap length handed.output ∙ length_patch out 0 (records_of IdleTimeout (view c s).table (take n l)) (omega (arith, ask.room))

    ended_long : length (written (ended engine Fin (at (slots_of (slots s1 c)) found))) ≡ length (written (ended_by s found))
    ended_long = ap (λ (o : Option (Flow engine)). length (written (ended engine Fin o))) ended_is

    pub leaving_behind : a ≤ length out1
    leaving_behind = omega (arith, ask.room, out_long, handed.bytes)

    -- it can be ended
    pub leaving_ends : EndAsked c T found s1 index1 free1 (take (length out1 - a) (drop a out1))
    leaving_ends = record {
      busy = swept_acted.busy;
      sits = λ i e. record { low = (ask.sits i e).low; used = (flow_at s1 c i (flow_in (slot s i)) (ask.sits i e).low (there i e)).0 };
      room =
          omega (
            arith,
            ask.room,
            out_long,
            ended_long,
            handed.bytes,
            length-take (length out1 - a) (drop a out1),
            length-drop a out1,
          );
    }

    module _ (s2 index2 free2 t : List ℕ) (b : ℕ) (acted : Acted c T s1 s2 index2 free2 (emptied_at found (slots_of (slots s1 c))))
        (filled : Filled (written (ended engine Fin (at (slots_of (slots s1 c)) found))) (take (length out1 - a) (drop a out1)) t b) where
      pub leaving_sum : a + b ≤ length out1
      leaving_sum = omega (arith, ask.room, out_long, ended_long, handed.bytes, filled.bytes)

      pub left_handed : LeftHanded c T L w s s2 index2 free2 (take n l) found out (put_mid a (length out1 - a) out1 t) (a + b)
      left_handed = record {
        acted = record {
          busy = acted.busy;
          slots_are = acted.slots_are ∙ ap (emptied_at found) swept_acted.slots_are;
          same = untouched_twice (view c s) (view c s1) (view c s2) swept_acted.same acted.same;
        };
        filled =
            filled_both out (written (swept_by s c (take n l))) out1 a (written (ended_by s found)) t b
            (record { output = handed.output; bytes = handed.bytes })
            (subst (λ (o : Option (Flow engine)). Filled (written (ended engine Fin o)) rest t b) ended_is filled) ask.room;
      }
