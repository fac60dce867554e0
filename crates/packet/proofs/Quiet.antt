-- A packet that is counted on an open flow where nothing leaves: it is what the rules tell of it. Assumes nothing.
use Rattle.std.specs.Prelude.{None, Some}
use Prim.Native.Nat.{ℕ, ◌+◌, ◌-◌, ◌^◌, ◌≤◌, ◌<◌}
use mathlib.Core.Path.{◌≡◌, refl, sym, ap, subst}
use mathlib.Core.Bool.{Bool, true, false, cond}
use mathlib.Core.List.{List, []}
use native.Mathlib.Omega.{arith}
use borrow.Author.Tests.{le-leb}
use borrow.Rule.Slice.PartMut.{put_same}
use lib.ListN.{length, take, drop}
use Rattle.memory.specs.Bytes.{patch, bytes_of}
use Rattle.slots.specs.Table.{slot, slots}
use Rattle.table.specs.View.{view, slot_of, with_slot, with_header}
use Rattle.table.specs.Header.{with_clock}
use Rattle.words.specs.Words.{words_of}
use Rattle.flow.specs.Counting.{counted_of, has_room}
use Rattle.flow.specs.declared.time.Idle.{Idle}
use Rattle.flow.specs.declared.time.TimeResolution.{TimeResolution}
use Rattle.flow.specs.declared.time.EndReason.TheVariants.{IdleTimeout}
use Rattle.flow.specs.declared.record.Direction.{Direction}
use Rattle.flow.specs.declared.record.FlowRecord.{FlowRecord}
use Rattle.wire.specs.PacketTheorems.{PacketInRange}
use Rattle.wire.specs.declared.packet.Packet.{Packet}
use Rattle.rules.specs.Engine.{engine, key_bytes, time_of, both_fins}
use Rattle.rules.specs.Slots.{Slots}
use Rattle.state.specs.Slot.{record_in}
use Rattle.state.specs.State.{slots_of}
use Rattle.state.specs.Change.{last_free}
use Rattle.state.specs.Free.{free_count}
use Rattle.plan.specs.Plan.{NothingDue}
use Rattle.plan.proofs.Clock.{nothing_leaves}
use Rattle.hand.specs.Acting.{Acted}
use Rattle.decide.specs.Decide.{staying_slots, Chosen, Decided}
use Rattle.decide.specs.Settle.{name_by, ending_by, Settled}
use Rattle.decide.specs.declared.decide.Decision.{Decision}
use Rattle.decide.proofs.Deciding.{decided}
use Rattle.act.specs.Keep.{flow_under, KeepAsked, kept_slots}
use Rattle.act.specs.Settle.{SettleAsked}
use Rattle.act.proofs.Opening.{seat_found, entry_kept}
use Rattle.act.proofs.Keeping.{entry_asked, keep_acted}
use Rattle.act.proofs.Leaving.{keep_asked}
use Rattle.packet.specs.declared.Plan.{Plan}
use Rattle.packet.specs.Step.{InCall, PacketDone}
use Rattle.packet.specs.Handed.{handed_acted}
use Rattle.packet.specs.Doing.{verdict_on, PlannedAt, PlanStands, LeftHanded, Stepped, CarryAsked, PerformAsked, Performed}
use Rattle.packet.specs.Steady.{clock_then, quiet_step}
use Rattle.packet.proofs.Performing.{step_clocked, perform_settles, performed}
use Rattle.packet.proofs.Done.{packet_plans, plan_stands, room_is, packet_carries, packet_done}

module _ (s index free : List ℕ) (c : ℕ) (idle : Idle) (resolution : TimeResolution) (call : InCall s index free c idle resolution)
    (p : Packet) (in_range : PacketInRange p) (w : ℕ) (clock : w ≡ clock_then s idle.timeout.0 p)
    (quiet : NothingDue c idle.timeout.0 idle.lateness.0 w (view c s).tree) (i : ℕ) (way : Direction)
    (choice : Chosen s c idle.timeout.0 idle.lateness.0 w p None (Some i) way)
    (room : has_room (record_in (slot s i)) p.facts ≡ true) (no_rst : engine.rst p ≡ false)
    (unclosed : both_fins (record_in (slot s i)) ≡ false) (l : List ℕ) (long : 4096 ≤ length l) where
  abbrev T : ℕ
  T = idle.timeout.0

  abbrev L : ℕ
  L = idle.lateness.0

  abbrev bytes : List ℕ
  bytes = key_bytes p.key

  -- the record with the packet counted
  abbrev after : FlowRecord
  after = counted_of (record_in (slot s i)) way p.facts

  abbrev d : Decision
  d = record { refusal = None; ended = None; slot = Some i; name = name_by p.key way; «record» = after; reason = None }

  -- ## Nothing leaves

  abbrev plan : Plan
  plan = record { clock = record { 0 = w }; count = 0 }

  made : PlannedAt c T L (time_of p) s s l plan
  made = record { clock = clock; made = nothing_leaves c T L w s l (packet_plans s index free c idle resolution call l long) quiet }

  stands : PlanStands c T L w s l 0 index free
  stands = plan_stands s index free c idle resolution call (time_of p) s l plan made long

  -- ## It is decided

  settled : Settled s (free_count free + 0) resolution p (record { ended = None; slot = Some i; direction = way }) d
  settled = record {
    ended = refl;
    slot = refl;
    refusal = sym (ap (λ (b : Bool). cond b 0 6) room);
    name = refl;
    record_is = refl;
    reason = sym (λ t. ending_by false (no_rst t) (unclosed t));
  }

  taken : Decided (record { T = T; L = L; resolution = resolution; capacity = c }) s w p d
  taken =
      decided (record { T = T; L = L; resolution = resolution; capacity = c }) s w p (free_count free + 0)
      (record { ended = None; slot = Some i; direction = way }) d choice stands.ready.flows in_range
      (room_is s index free c idle resolution call (time_of p) s l plan made long) settled

  carry : CarryAsked c T L w s l 0 d bytes index free
  carry = packet_carries s index free c idle resolution call (time_of p) s l plan made long p in_range bytes refl d taken refl

  -- ## It is done

  module _ (out : List ℕ) where
    ask : PerformAsked c T L w s l 0 d bytes index free out
    ask = record { carry = carry; accepted = refl; fits = omega arith }

    left : LeftHanded c T L w s s index free (take 0 l) None out out 0
    unfolding staying_slots patch
    left = record {
      acted =
          handed_acted c T _ s [] stands.plan stands.some stands.most IdleTimeout s out out index free 0 stands.size
          (record { header = refl; tree = refl; rest = refl; table = refl; output = refl; bytes = refl }) stands.ready;
      filled = record { output = refl; bytes = refl };
    }

    settles : SettleAsked c T (Some i) (name_by p.key way) bytes after None s index free (take (length out - 0) (drop 0 out))
    settles = perform_settles c T L w s l 0 d bytes index free out ask s index free out 0 left

    keeps : KeepAsked c T (Some i) (name_by p.key way) bytes after s index free
    keeps =
        keep_asked c T (Some i) (name_by p.key way) bytes after None s index free (take (length out - 0) (drop 0 out)) settles refl

    module _ (s1 s2 : List ℕ) (small : w < 2 ^ 64)
        (counted : view c s1 ≡ with_slot i (patch (slot_of (view c s).table i) 80 (bytes_of (words_of after))) (view c s))
        (clocked : view c s2 ≡ with_header (with_clock w (view c s1).header) (view c s1)) where
      -- the slots with the record in its place
      abbrev now : Slots engine
      now = kept_slots (Some i) (last_free free) (flow_under (name_by p.key way) after) (slots_of (slots s c))

      kept : Acted c T s s1 index free now
      kept =
          let seated = seat_found (Some i) c bytes s index free i refl in
          keep_acted c T (Some i) (name_by p.key way) bytes after s index free keeps s index free i seated (words_of after) s1 refl
          counted s1
          (entry_kept c T i (Some i) s1
          (entry_asked c T (Some i) (name_by p.key way) bytes after s index free keeps s index free i seated (words_of after) s1 refl
          counted) i refl)

      stepped : Stepped c T w s s2 index free now
      stepped = step_clocked c T w s s1 s2 index free now kept small clocked

      done : Performed c T L w s (take 0 l) d out quiet_step s2 out index free
      unfolding patch
      done =
          subst (λ (o : List ℕ). Performed c T L w s (take 0 l) d out quiet_step s2 o index free) (put_same 0 (length out - 0) out)
          (performed c T L w s l 0 d bytes index free out ask s index free out 0 left s2 index free (take (length out - 0) (drop 0 out)) 0
          stepped (record { output = refl; bytes = refl }) true 0 0 refl refl refl)

      -- no record is measured
      fits : verdict_on s c (take 0 l) d (length out) ≡ 0
      fits = ap (λ (b : Bool). cond b 0 7) (le-leb 0 (length out) (omega arith))

      pub counted_done : PacketDone p s out c idle resolution quiet_step s2 out index free
      counted_done =
          packet_done s index free c idle resolution call (time_of p) s l plan made long p in_range bytes refl d taken refl out quiet_step s2 out
          index free
          (record { taken = λ z. done; refused = λ m. absurd (m fits) })
