-- What was done on the plan is what the rules tell of the packet. Assumes nothing.
use Rattle.forms.specs.Refusals.{stop_number}
use Rattle.std.specs.Prelude.{None, Option, Some, is_some}
use Prim.Native.Nat.{ℕ, ◌+◌, ◌≤◌, max}
use mathlib.Core.Path.{◌≡◌, refl, sym, ap, ◌∙◌, subst}
use mathlib.Core.Bool.{Bool, true, false, not, cond}
use mathlib.Core.List.{List, ◌++◌, map}
use native.Mathlib.Omega.{arith}
use borrow.Author.Tests.{le-leb, eq-eqb, eqb-true, eqb-false}
use lib.Dec.{eqb, leb}
use lib.ListN.{length, take, drop, length-map, length-take}
use Rattle.memory.specs.Bytes.{part, patch}
use Rattle.slots.specs.Table.{slots}
use Rattle.table.specs.View.{View, view, slot_of}
use Rattle.table.specs.Header.{header_of}
use Rattle.table.specs.declared.Header.{Header}
use Rattle.flow.specs.declared.time.Idle.{Idle}
use Rattle.flow.specs.declared.time.Nanos.{Nanos}
use Rattle.flow.specs.declared.time.TimeResolution.{TimeResolution}
use Rattle.flow.specs.declared.time.EndReason.TheVariants.{IdleTimeout, Fin}
use Rattle.wire.specs.PacketTheorems.{PacketInRange}
use Rattle.wire.specs.declared.packet.Packet.{Packet}
use Rattle.rules.specs.Order.{sort, those}
use Rattle.rules.specs.Totals.{total_sort, total_those}
use Rattle.rules.specs.Rules.{Settings, Refusal, Room, number_of, Flow, Finished, Engine, Taker, Done, Answer, refused, done, by_end, finish_or, swept, ended, ended_for, ending, taking, beside, keeping, opens, sizes, steps34, clock_at, one_packet}
use Rattle.rules.specs.Engine.{engine, key_bytes, time_of, written}
use Rattle.rules.specs.EngineSlots.{engine_of}
use Rattle.rules.specs.Slots.{Slots, occupied}
use Rattle.rules.proofs.SlotsLaws.{cleared}
use Rattle.rules.specs.Slots
use Rattle.state.specs.Slot.{flow_in}
use Rattle.state.specs.State.{Sound, SoundFlows, SoundHeader, header_in, capacity_in, settings_of, settings_in, slots_of, meaning}
use Rattle.state.specs.Free.{free_count}
use Rattle.state.specs.Change.{open_and_free, ready_same}
use Rattle.plan.specs.Plan.{leaves_by, Planned, PlanAsked, PlanMade}
use Rattle.decide.specs.Decide.{staying_slots, ended_flow, left_flows, taker_on, DecideAsked, Chosen, Decided}
use Rattle.decide.specs.declared.decide.Decision.{Decision}
use Rattle.decide.proofs.Chosen.{ended_flow_lem, ended_none, takes_old, takes_new, beside_old, left_meaning}
use Rattle.decide.proofs.Answering.{answer_taken, answer_refused}
use Rattle.act.specs.Size.{long_enough}
use Rattle.act.specs.Whole.{untouched_sound}
use Rattle.act.specs.Clock.{clocked_at}
use Rattle.act.specs.Keep.{flow_under}
use Rattle.sweeps.specs.Promise.{Left}
use Rattle.sweeps.specs.StateLaws.{lateness_wide, slots_same, sound_names, meaning_view, means_after, left_queue, left_twice}
use Rattle.packet.specs.declared.Step.{Step}
use Rattle.packet.specs.declared.Plan.{Plan}
use Rattle.packet.specs.Step.{InCall, StepTold, PacketDone}
use Rattle.packet.specs.Doing.{flow_found, swept_by, finished_by, verdict_on, PlannedAt, PlanStands, Stepped, CarryAsked, beside_found, Performed, Unperformed, CarriedOut}
use Rattle.packet.proofs.Sizes.{verdict_refused, verdict_zero, verdict_seven}
use Rattle.packet.proofs.Performing.{meaning_many, flows_one}

-- as many flows stay as do not leave
stay_many : (T L w : ℕ) (table : List (List ℕ)) (k : ℕ)
    → k ≡ length (sort (by_end engine) (those (leaves_by T L w) (Slots.meaning engine (slots_of table))))
    → length (occupied engine (staying_slots T L w table)) + k ≡ length (occupied engine (slots_of table))
unfolding staying_slots
stay_many T L w table k e =
    let all = Slots.meaning engine (slots_of table) in
    let test = leaves_by T L w in
    let go = those test all in
    let stay = those (λ f. not (test f)) all in
    omega (
      arith,
      flows_one (sort (by_end engine) go),
      total_sort (λ _. 1) (by_end engine) go,
      total_those (λ _. 1) test all,
      flows_one all,
      flows_one stay,
      meaning_many (slots_of table),
      meaning_many (staying_slots T L w table),
      ap length (cleared engine (λ f. not (test f)) (slots_of table)),
    )

-- the clock that was loaded, and the plan
pub planned_at : (c T L time : ℕ) (s s1 l : List ℕ) (h : Header) → h ≡ header_of (part s 0 256) → (clock : Nanos)
    → clock.0 ≡ cond (eqb T 0) h.clock.0 (max h.clock.0 time) → (n : ℕ)
    → PlanMade c T (leaves_by T L clock.0) (view c s) (view c s1) (take n l) n → PlannedAt c T L time s s1 l (record { clock = clock; count = n })
planned_at c T L time s s1 l h is clock e n made = record {
  clock = e ∙ ap (λ (g : Header). cond (eqb T 0) g.clock.0 (max g.clock.0 time)) is;
  made = made;
}

module _ (s index free : List ℕ) (c : ℕ) (idle : Idle) (resolution : TimeResolution) (call : InCall s index free c idle resolution) where
  abbrev T : ℕ
  T = idle.timeout.0

  abbrev L : ℕ
  L = idle.lateness.0

  abbrev settings : Settings
  settings = record { T = T; L = L; resolution = resolution; capacity = c }

  settings_are : settings_in s ≡ settings
  unfolding settings_of
  settings_are = λ i. record {
    T = sym call.timeout i;
    L = sym call.lateness i;
    resolution = sym call.resolution_is i;
    capacity = sym call.capacity i;
  }

  flows_sound : SoundFlows s c
  flows_sound = subst (SoundFlows s) (sym call.capacity) call.sound.flows

  -- the sweep can be planned
  pub packet_plans : (l : List ℕ) → 4096 ≤ length l → PlanAsked c T L s l
  packet_plans l room = record {
    size = omega (arith, call.sound.header.long, call.capacity);
    some = omega (arith, call.sound.header.some, call.capacity);
    most = omega (arith, call.sound.header.most, call.capacity);
    room = omega (arith, call.sound.header.most, call.capacity);
    wide = λ timed. omega (arith, lateness_wide (header_in s) (length s) call.sound.header (λ z. timed (call.timeout ∙ z)), call.lateness);
    flows = flows_sound;
    names = sound_names s c T call.sound call.capacity call.timeout;
  }

  module _ (time : ℕ) (s1 l : List ℕ) (plan : Plan) (made : PlannedAt c T L time s s1 l plan) (room : 4096 ≤ length l) where
    abbrev w : ℕ
    w = plan.clock.0

    abbrev n : ℕ
    n = plan.count

    table_same : (view c s1).table ≡ (view c s).table
    table_same = ap (λ (v : View). v.table) made.made.same

    header_same : header_in s1 ≡ header_in s
    header_same = ap (λ (v : View). header_of v.header) made.made.same

    -- the plan stands
    pub plan_stands : PlanStands c T L w s1 l n index free
    plan_stands =
        let asked = packet_plans l room in
        record {
          size = long_enough s1 c asked.some made.made.plan.names.sound.size;
          some = asked.some;
          most = asked.most;
          ready = ready_same s s1 c index free call.ready (slots_same s s1 c table_same);
          few = made.made.few;
          long = omega (arith, made.made.few, asked.most);
          plan =
              subst (λ (t : List (List ℕ)). Planned c T (leaves_by T L w) t (view c s1).tree (take n l)) (sym table_same) made.made.plan;
        }

    -- there is room for as many flows as slots are free and flows leave
    pub room_is : length (occupied engine (staying_slots T L w (slots s1 c))) + (free_count free + n) ≡ c
    room_is =
        let many : n ≡ length (sort (by_end engine) (those (leaves_by T L w) (Slots.meaning engine (slots_of (slots s1 c))))) =
        omega (arith, plan_stands.long, length-take n l, length-map (take n l) (λ i. flow_in (slot_of (view c s1).table i)))
        ∙ ap length plan_stands.plan.flows in
        omega (arith, stay_many T L w (slots s1 c) n many, open_and_free s1 c index free plan_stands.ready)

    module _ (p : Packet) (in_range : PacketInRange p) (bytes : List ℕ) (key : bytes ≡ key_bytes p.key) where
      -- it can be decided
      pub packet_decides : DecideAsked s1 c index p bytes
      packet_decides = record {
        size = plan_stands.size;
        indexed = plan_stands.ready.indexed;
        flows = plan_stands.ready.flows;
        in_range = in_range;
        key = key;
      }

      module _ (d : Decision) (decided : Decided settings s1 w p d) (at-time : time ≡ time_of p) where
        -- it can be carried out
        pub packet_carries : CarryAsked c T L w s1 l n d bytes index free
        packet_carries = record {
          stands = plan_stands;
          decision = record { packet = p; resolution = resolution; in_range = in_range; key = key; decided = decided };
        }

        -- ## The rules' words

        abbrev staying : Slots engine
        staying = staying_slots T L w (slots s1 c)

        abbrev taker : Taker engine
        taker = taker_on p staying

        abbrev choice : Chosen s1 c T L w p d.ended d.slot decided.direction
        choice = decided.chosen

        flows_are : (meaning s).flows ≡ Slots.meaning engine (slots_of (slots s1 c))
        flows_are =
            ap (λ (e : Engine engine). e.flows) (meaning_view s c call.capacity)
            ∙ ap (λ (t : List (List ℕ)). Slots.meaning engine (slots_of t)) (sym table_same)

        clock_is : clock_at engine settings (meaning s).clock (time_of p) ≡ w
        clock_is =
            ap (λ (x : ℕ). clock_at engine settings x (time_of p)) (ap (λ (e : Engine engine). e.clock) (meaning_view s c call.capacity))
            ∙ ap (clock_at engine settings (header_in s).clock.0) (sym at-time) ∙ sym made.clock

        -- what the packet does if it is not refused
        abbrev deed : Done engine
        deed = steps34 engine settings w (swept engine settings w (meaning s).flows) (ended_flow p staying) p (left_flows p staying) taker

        ended_is : flow_found s1 d.ended ≡ ended_flow p staying
        ended_is = go d.ended refl
          where
            go : (f : Option ℕ) → d.ended ≡ f → flow_found s1 d.ended ≡ ended_flow p staying
            go (Some i) e = ap (flow_found s1) e ∙ sym (ended_flow_lem choice i e)
            go None e = ap (flow_found s1) e ∙ sym (ended_none choice e)

        reason_is : d.reason ≡ ending engine (ended_flow p staying) p taker
        reason_is = decided.reason

        swept_is : swept_by s1 c (take n l) ≡ swept engine settings w (meaning s).flows
        swept_is =
            ap (map (finish_or engine IdleTimeout))
            (plan_stands.plan.flows ∙ ap (λ (fs : List (Flow engine)). sort (by_end engine) (those (leaves_by T L w) fs)) (sym flows_are))

        module _ (accepted : stop_number d.refusal ≡ 0) where
          flow_is : flow_under d.name d.«record» ≡ taking engine settings p taker
          flow_is = λ i. record { name = decided.name i; held = decided.record_is accepted i }

          finished_are : finished_by s1 c (take n l) d ≡ deed.finished
          finished_are =
              λ i. swept_is i ++ (ended engine Fin (ended_is i) ++ ended_for engine (reason_is i) (flow_is i))

        -- ## The state afterwards, whether the packet is taken or refused

        module _ (v : ℕ) (still : T ≡ 0 → v ≡ 0) (s2 index2 free2 : List ℕ) (after : Slots engine) (step : Stepped c T v s1 s2 index2 free2 after) where
          header_then : header_in s2 ≡ clocked_at v (header_in s)
          header_then = step.header ∙ ap (clocked_at v) header_same

          capacity_then : c ≡ capacity_in s2
          capacity_then = call.capacity ∙ sym (ap (λ (h : Header). h.capacity) header_then)

          timeout_then : T ≡ (header_in s2).timeout.0
          timeout_then = call.timeout ∙ sym (ap (λ (h : Header). h.timeout.0) header_then)

          settings_then : settings_in s2 ≡ settings_in s
          unfolding settings_of
          settings_then = ap settings_of header_then

          sound_then : Sound s2
          sound_then =
              untouched_sound c T s2 index2 free2 capacity_then timeout_then
              (subst (λ (h : Header). SoundHeader h (length s2)) (sym header_then)
              (record {
                layout = call.sound.header.layout;
                some = call.sound.header.some;
                most = call.sound.header.most;
                long = omega (arith, step.busy.size, call.capacity);
                timeout = call.sound.header.timeout;
                lateness = call.sound.header.lateness;
                resolution = call.sound.header.resolution;
                still = λ z. still (call.timeout ∙ z);
              }))
              step.busy

          call_then : InCall s2 index2 free2 c idle resolution
          call_then = record {
            sound = sound_then;
            ready = step.busy.ready;
            capacity = capacity_then;
            timeout = timeout_then;
            lateness = call.lateness ∙ sym (ap (λ (h : Header). h.lateness.0) header_then);
            resolution_is = call.resolution_is ∙ sym (ap (λ (x : Settings). x.resolution) settings_then);
          }

          left_then : Left (view c s) (view c s2)
          left_then =
              left_twice (view c s) (view c s1) (view c s2) (left_queue (view c s) (view c s1) made.made.same made.made.spare) step.left

          means_then : meaning s2 ≡ engine_of v after
          means_then = means_after s s2 c v call.capacity header_then ∙ ap (engine_of v) step.slots_are

          done_then : (out : List ℕ) (r : Step) (room' : List ℕ)
              → StepTold (one_packet engine (settings_in s) (length room') p (meaning s)) s room' r s2 out → PacketDone p s room' c idle resolution r s2 out index2 free2
          done_then out r room' told = record { told = told; call = call_then; settings = settings_then; untouched = left_then }

        -- ## The packet is taken, or refused

        clock_still : T ≡ 0 → w ≡ 0
        clock_still z =
            made.clock
            ∙ ap (λ (b : Bool). cond b (header_in s).clock.0 (max (header_in s).clock.0 time)) (eq-eqb T 0 z)
            ∙ call.sound.header.still (sym call.timeout ∙ z)

        module _ (out : List ℕ) (r : Step) (s2 out2 index2 free2 : List ℕ) where
          abbrev answer : Answer engine
          answer = one_packet engine (settings_in s) (length out) p (meaning s)

          by_settings : answer ≡ one_packet engine settings (length out) p (meaning s)
          by_settings = ap (λ (x : Settings). one_packet engine x (length out) p (meaning s)) settings_are

          -- it is not Full and not Spent: by its records' size
          by_size : stop_number d.refusal ≡ 0 → (b : Bool) → leb (sizes engine (finished_by s1 c (take n l) d)) (length out) ≡ b
              → answer ≡ cond b (done deed) (refused Room)
          by_size accepted b e =
              by_settings ∙ answer_taken decided (length out) (meaning s) clock_is flows_are accepted
              ∙ ap (λ (x : Bool). cond x (done deed) (refused Room))
              (ap (λ (fs : List (Finished engine)). leb (sizes engine fs) (length out)) (sym (finished_are accepted)) ∙ e)

          opens_is : not (is_some d.slot) ≡ opens engine taker
          opens_is = go d.slot refl
            where
              go : (f : Option ℕ) → d.slot ≡ f → not (is_some d.slot) ≡ opens engine taker
              go (Some i) e = ap (λ (f : Option ℕ). not (is_some f)) e ∙ sym (ap (opens engine) (takes_old choice i e))
              go None e = ap (λ (f : Option ℕ). not (is_some f)) e ∙ sym (ap (opens engine) (takes_new choice e))

          beside_is : (fs : List (Flow engine)) → fs ≡ left_flows p staying → beside_found s1 d.slot fs ≡ beside engine taker (left_flows p staying)
          beside_is fs q = ap (beside_found s1 d.slot) q ∙ go d.slot refl
            where
              go : (f : Option ℕ) → d.slot ≡ f → beside_found s1 d.slot (left_flows p staying) ≡ beside engine taker (left_flows p staying)
              go (Some i) e = ap (λ (f : Option ℕ). beside_found s1 f (left_flows p staying)) e ∙ sym (beside_old choice i e)
              go None e =
                  ap (λ (f : Option ℕ). beside_found s1 f (left_flows p staying)) e
                  ∙ sym (ap (λ (x : Taker engine). beside engine x (left_flows p staying)) (takes_new choice e))

          taken_done : (accepted : stop_number d.refusal ≡ 0) → sizes engine (finished_by s1 c (take n l) d) ≤ length out
              → Performed c T L w s1 (take n l) d out r s2 out2 index2 free2 → PacketDone p s out c idle resolution r s2 out2 index2 free2
          unfolding patch
          taken_done accepted fits h =
              let finished = finished_are accepted in
              done_then w clock_still s2 index2 free2 h.after h.stepped out2 r out
              (subst (λ (x : Answer engine). StepTold x s out r s2 out2)
              (sym (by_size accepted true (le-leb (sizes engine (finished_by s1 c (take n l) d)) (length out) fits))) (
                h.accepted,
                h.opened ∙ opens_is,
                h.records ∙ ap length finished,
                h.filled.bytes ∙ ap (λ (fs : List (Finished engine)). length (written fs)) finished,
                means_then w clock_still s2 index2 free2 h.after h.stepped
                    ∙ ap (λ (fs : List (Flow engine)). record { clock = w; flows = fs })
                    (h.means
                    ∙ (λ i. keeping engine (reason_is i) (flow_is accepted i) (beside_is _ (left_meaning choice plan_stands.ready.flows) i))),
                h.filled.output ∙ ap (λ (k : ℕ). written (finished_by s1 c (take n l) d) ++ drop k out) (sym h.filled.bytes)
                    ∙ ap (λ (fs : List (Finished engine)). written fs ++ drop r.bytes out) finished,
              ))

          -- refused, by whatever the rules say
          refused_done : (why : Refusal) → answer ≡ refused why → (number : ℕ) → number_of why ≡ number → (number ≡ 0 → ⊥)
              → Unperformed c T s1 number out r s2 out2 index2 free2 → PacketDone p s out c idle resolution r s2 out2 index2 free2
          refused_done why is number e m h =
              let still : T ≡ 0 → (header_in s1).clock.0 ≡ 0 =
              λ z. ap (λ (x : Header). x.clock.0) header_same ∙ call.sound.header.still (sym call.timeout ∙ z) in
              let same : stop_number r.refusal ≡ number = h.number_is in
              done_then (header_in s1).clock.0 still s2 index2 free2 (slots_of (slots s1 c)) h.stepped out2 r out
              (subst (λ (x : Answer engine). StepTold x s out r s2 out2) (sym is) (
                same ∙ sym e,
                (λ z. m (sym same ∙ z)),
                h.nothing.0,
                h.nothing.1,
                h.nothing.2,
                means_then (header_in s1).clock.0 still s2 index2 free2 (slots_of (slots s1 c)) h.stepped
                    ∙ (λ i. engine_of (header_same i).clock.0 (slots_of (table_same i)))
                    ∙ sym (meaning_view s c call.capacity),
                h.output,
              ))

          abbrev verdict : ℕ
          verdict = verdict_on s1 c (take n l) d (length out)

          pub packet_done : CarriedOut c T L w s1 (take n l) d out r s2 out2 index2 free2 → PacketDone p s out c idle resolution r s2 out2 index2 free2
          packet_done carried = by_verdict (eqb verdict 0) refl
            where
              not_accepted : (verdict ≡ 0 → ⊥) → (b : Bool) → eqb (stop_number d.refusal) 0 ≡ b → PacketDone p s out c idle resolution r s2 out2 index2 free2
              not_accepted m true e =
                  let z = eqb-true (stop_number d.refusal) 0 e in
                  let (seven, over) = verdict_seven s1 c (take n l) d (length out) m z in
                  refused_done Room (by_size z false over) verdict (sym seven) m (carried.refused m)
              not_accepted m false e =
                  let k = eqb-false (stop_number d.refusal) 0 e in
                  let (why, is, number) = answer_refused decided (length out) (meaning s) clock_is flows_are k in
                  refused_done why (by_settings ∙ is) verdict (number ∙ verdict_refused s1 c (take n l) d (length out) k) m (carried.refused m)

              by_verdict : (b : Bool) → eqb verdict 0 ≡ b → PacketDone p s out c idle resolution r s2 out2 index2 free2
              by_verdict true e =
                  let z = eqb-true verdict 0 e in
                  let (accepted, fits) = verdict_zero s1 c (take n l) d (length out) z in
                  taken_done accepted fits (carried.taken z)
              by_verdict false e = not_accepted (eqb-false verdict 0 e) (eqb (stop_number d.refusal) 0) refl
