-- Whether a packet is counted on an open flow and nothing else happens, by what was found. Assumes nothing.
use Rattle.std.specs.Prelude.{None, Option, Some}
use Prim.Native.Nat.{ℕ, ◌+◌, ◌*◌, ◌^◌, ◌≤◌, ◌<◌, max}
use mathlib.Core.Path.{◌≡◌, refl, sym, ap, ◌∙◌, subst}
use mathlib.Core.Bool.{Bool, true, false, cond, false≢true}
use mathlib.Core.List.{List}
use native.Mathlib.Omega.{arith}
use lib.Dec.{eqb}
use lib.ListN.{length, replicate, length-replicate}
use Rattle.memory.specs.Bytes.{part, patch, bytes_of}
use Rattle.memory.specs.Decides.{Decides}
use Rattle.memory.proofs.Laws.{says_yes, says_no}
use Rattle.slots.specs.Table.{slot}
use Rattle.table.specs.View.{view, slot_of, with_slot, with_header}
use Rattle.table.specs.Header.{header_of, with_clock}
use Rattle.table.specs.declared.Header.{Header}
use Rattle.words.specs.Words.{words_of}
use Rattle.flow.specs.Counting.{counted_of, has_room}
use Rattle.flow.specs.declared.time.EndReason.TheVariants.{Fin, Rst}
use Rattle.flow.specs.declared.time.Idle.{Idle}
use Rattle.flow.specs.declared.time.Nanos.{Nanos}
use Rattle.flow.specs.RefusalLaws.{sound_with_room}
use Rattle.flow.specs.declared.record.Direction.{Direction}
use Rattle.flow.specs.declared.record.PacketFacts.{PacketFacts}
use Rattle.flow.specs.declared.record.FlowRecord.{FlowRecord}
use Rattle.wire.specs.PacketTheorems.{PacketInRange}
use Rattle.wire.specs.declared.packet.Packet.{Packet}
use Rattle.plain.specs.declared.Plain.{Plain}
use Rattle.rules.specs.Rules.{Flow, old, new, ending}
use Rattle.rules.specs.Engine.{engine, time_of, both_fins}
use Rattle.state.specs.Slot.{record_in, flow_in}
use Rattle.plan.specs.Plan.{NothingDue, DueAsked}
use Rattle.sweeps.specs.StateLaws.{sound_names}
use Rattle.decide.specs.Decide.{Chosen}
use Rattle.decide.specs.Search.{InState}
use Rattle.decide.specs.Steady.{stays_open}
use Rattle.decide.proofs.Ways.{sits_in}
use Rattle.decide.proofs.Chosen.{ended_flow_lem, ended_none, takes_old, takes_new}
use Rattle.decide.proofs.StaysOpen.{StaysFacts, stays_facts, facts_stay}
use Rattle.counting.specs.Count.{CountAsked}
use Rattle.packet.specs.Steady.{clock_then, SteadyAsked, Steady, SteadyTaken}
use Rattle.packet.proofs.Quiet.{counted_done}

-- ## What steps 1 and 2 chose

-- a flow that does not end: no RST, and not both FINs
unended_tests : (rst closed : Bool) → cond rst (Some Rst) (cond closed (Some Fin) None) ≡ None → (rst ≡ false) × (closed ≡ false)
unended_tests true closed e = absurd (let z : ◌≡◌ {A = ℕ} 0 1 = cc in omega arith)
unended_tests false true e = absurd (let z : ◌≡◌ {A = ℕ} 0 1 = cc in omega arith)
unended_tests false false e = (refl, refl)

module _ (s : List ℕ) (c T L w : ℕ) (p : Packet) (ended found : Option ℕ) (way : Direction) (choice : Chosen s c T L w p ended found way) where
  pub found_steady : (i : ℕ) → NothingDue c T L w (view c s).tree → StaysFacts s p.facts ended found i → Steady s c T L w p
  unfolding flow_in
  found_steady i quiet h = record {
    quiet = quiet;
    unended = ended_none choice h.none_ends;
    direction = way;
    flow = flow_in (slot s i);
    taker = takes_old choice i h.here;
    room = h.room;
    stays_open = λ t. cond (h.no_rst t) (Some Rst) (cond (h.unclosed t) (Some Fin) None);
  }

  held_facts : (i : ℕ) (f : Flow engine) (d : Direction) → ended ≡ None → found ≡ Some i → flow_in (slot s i) ≡ f
      → has_room f.held p.facts ≡ true → ending engine None p (old d f) ≡ None → StaysFacts s p.facts ended found i
  unfolding flow_in
  held_facts i f d e q same room unended =
      let held : record_in (slot s i) ≡ f.held = ap (λ (x : Flow engine). x.held) same in
      let (no_rst, unclosed) = unended_tests (engine.rst p) (both_fins f.held) unended in
      record {
        none_ends = e;
        here = q;
        no_rst = no_rst;
        unclosed = ap both_fins held ∙ unclosed;
        room = ap (λ (r : FlowRecord). has_room r p.facts) held ∙ room;
      }

  pub steady_found : Steady s c T L w p → stays_open s p.facts ended found ≡ None → ⊥
  steady_found st n = go ended found refl refl
    where
      at_slot : (i : ℕ) → ended ≡ None → found ≡ Some i → ⊥
      at_slot i e q =
          let told : old way (flow_in (slot s i)) ≡ old st.direction st.flow = sym (takes_old choice i q) ∙ st.taker in
          let same : flow_in (slot s i) ≡ st.flow = cc in
          let facts = held_facts i st.flow st.direction e q same st.room st.stays_open in
          let there = facts_stay s p.facts ended found i facts in
          let z : ◌≡◌ {A = ℕ} 0 1 = cc in
          omega arith

      go : (e f : Option ℕ) → ended ≡ e → found ≡ f → ⊥
      go (Some j) f e q =
          let told : Some (flow_in (slot s j)) ≡ None = sym (ended_flow_lem choice j e) ∙ st.unended in
          let z : ◌≡◌ {A = ℕ} 0 1 = cc in
          omega arith
      go None None e q =
          let told : new ≡ old st.direction st.flow = sym (takes_new choice q) ∙ st.taker in
          let z : ◌≡◌ {A = ℕ} 0 1 = cc in
          omega arith
      go None (Some i) e q = at_slot i e q

-- ## What is asked on the way

module _ (s index : List ℕ) (c : ℕ) (idle : Idle) (facts : PacketFacts) (batch : List ℕ) (from : ℕ) (key : Plain)
    (ask : SteadyAsked s index c idle facts batch from key) where
  pub steady_size : 256 + 640 * c ≤ length s
  steady_size = omega (arith, ask.call.sound.header.long, ask.call.capacity)

  -- the queue is in order
  pub steady_due : DueAsked c s
  steady_due = record {
    size = steady_size;
    some = omega (arith, ask.call.sound.header.some, ask.call.capacity);
    sound = (sound_names s c idle.timeout.0 ask.call.sound ask.call.capacity ask.call.timeout).sound;
  }

  module _ (T L w : ℕ) (p : Packet) (ended found : Option ℕ) (way : Direction) (choice : Chosen s c T L w p ended found way) where
    pub steady_found_in : InState s found
    steady_found_in = sits_in s c T L w found steady_size choice.slot_sits

    -- the slot has a record with room for the packet
    pub steady_counts : (r : Option ℕ) → r ≡ stays_open s facts ended found → (i : ℕ) → r ≡ Some i → CountAsked c i facts s
    steady_counts r stays i there =
        let h = stays_facts s facts ended found i (sym there ∙ stays) in
        let sits = choice.slot_sits i h.here in
        let sound = ask.call.ready.flows.slots i sits.low sits.used in
        record {
          size = steady_size;
          low = sits.low;
          record_there = record { size = omega (arith, steady_size, sits.low); fit = sound.fit };
          room = sound_with_room (record_in (slot s i)) facts sound.sound h.room;
        }

-- ## The answer

module _ (s index : List ℕ) (c : ℕ) (idle : Idle) (p : Packet) (h : Header) (header : h ≡ header_of (part s 0 256)) (clock : Nanos)
    (clock_is : clock.0 ≡ cond (eqb idle.timeout.0 0) h.clock.0 (max h.clock.0 (time_of p))) (due : Bool)
    (told : Decides due (NothingDue c idle.timeout.0 idle.lateness.0 clock.0 (view c s).tree)) where
  abbrev T : ℕ
  T = idle.timeout.0

  abbrev L : ℕ
  L = idle.lateness.0

  clock_then_lem : clock.0 ≡ clock_then s T p
  clock_then_lem = clock_is ∙ ap (λ (g : Header). cond (eqb T 0) g.clock.0 (max g.clock.0 (time_of p))) header

  -- it is not steady, and nothing was done
  not_taken : (Steady s c T L clock.0 p → ⊥) → SteadyTaken p s index c idle false s
  not_taken n = record {
    which = says_no (λ st. n (subst (λ (w : ℕ). Steady s c T L w p) (sym clock_then_lem) st));
    taken = λ e. absurd (false≢true e);
    left = λ e. refl;
  }

  pub due_left : due ≡ false → SteadyTaken p s index c idle false s
  due_left e = not_taken (λ st. false≢true (sym e ∙ told.1 st.quiet))

  module _ (ended found : Option ℕ) (way : Direction) (choice : Chosen s c T L clock.0 p ended found way) (r : Option ℕ)
      (stays : r ≡ stays_open s p.facts ended found) where
    pub other_left : r ≡ None → SteadyTaken p s index c idle false s
    other_left e = not_taken (λ st. steady_found s c T L clock.0 p ended found way choice st (sym stays ∙ e))

    module _ (i : ℕ) (there : r ≡ Some i) where
      abbrev facts : StaysFacts s p.facts ended found i
      facts = stays_facts s p.facts ended found i (sym there ∙ stays)

      at_slot : Chosen s c T L clock.0 p None (Some i) way
      at_slot =
          subst (λ (x : Option ℕ). Chosen s c T L clock.0 p None x way) facts.here
          (subst (λ (x : Option ℕ). Chosen s c T L clock.0 p x found way) facts.none_ends choice)

      pub counted_steady : due ≡ true → PacketInRange p → clock.0 < 2 ^ 64 → (s1 s2 : List ℕ)
          → view c s1
          ≡ with_slot i (patch (slot_of (view c s).table i) 80 (bytes_of (words_of (counted_of (record_in (slot s i)) way p.facts)))) (view c s)
          → view c s2 ≡ with_header (with_clock clock.0 (view c s1).header) (view c s1) → SteadyTaken p s index c idle true s2
      counted_steady e in_range small s1 s2 counted clocked =
          let quiet = told.0 e in
          record {
            which =
                says_yes
                (subst (λ (w : ℕ). Steady s c T L w p) clock_then_lem
                (found_steady s c T L clock.0 p ended found way choice i quiet facts));
            taken = λ _ room free resolution call.
                counted_done s index free c idle resolution call p in_range clock.0 clock_then_lem quiet i way at_slot facts.room
                facts.no_rst facts.unclosed (replicate 4096 0) (omega (arith, length-replicate {A = ℕ} 4096 0)) room s1 s2 small counted clocked;
            left = λ z. absurd (false≢true (sym z));
          }
