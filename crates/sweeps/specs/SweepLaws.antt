-- From a sweep's plan, and what is done on it, to the promise. Assumes nothing.
use Rattle.std.specs.Prelude.{ℕ, ◌+◌, ◌*◌, ◌^◌, ◌≤◌, ◌<◌, max, ◌≡◌, Bool, true, not, eqb, take, drop}
use Rattle.std.proofs.Math.Path.{refl, ap}
use Rattle.std.proofs.Common.{sym, ◌∙◌, subst, inl, arith, length-take, eq-eqb, ne_eqb}
use Rattle.std.proofs.Math.Bool.{false, cond}
use Rattle.std.proofs.lemmas.Bool.{false≢true}
use mathlib.Core.List.{List, [], ◌∷◌, map}
use Rattle.std.proofs.Math.ListN.{length}
use Rattle.memory.specs.Bytes.{le, part, patch}
use Rattle.memory.proofs.Laws.{length_part, length_le, part_elsewhere, drop_behind}
use Rattle.queue.specs.Tree.{node, never}
use Rattle.slots.proofs.Laws.{length_slots}
use Rattle.table.specs.declared.Header.{Header}
use Rattle.table.specs.Header.{header_of, with_clock}
use Rattle.table.specs.View.{View, view, slot_of, with_header}
use Rattle.table.specs.Due.{due_of}
use Rattle.table.proofs.HeaderLaws.{clock_stored}
use Rattle.flow.specs.declared.time.EndReason.TheVariants.{IdleTimeout}
use Rattle.rules.specs.Order.{sort, those}
use Rattle.rules.specs.Totals.{All, all_more}
use Rattle.rules.specs.Rules.{Settings, Flow, Finished, Engine, Told, clock_at, leaves, finish_or, by_end, swept, staying, sizes, sweep_at}
use Rattle.rules.specs.Engine.{engine, written}
use Rattle.rules.specs.EngineSlots.{engine_of}
use Rattle.rules.proofs.SlotsLaws.{cleared}
use Rattle.rules.specs.Slots
use Rattle.state.specs.Slot.{flow_in}
use Rattle.state.specs.State.{SoundHeader, header_in, capacity_in, settings_of, settings_in, slots_of, meaning}
use Rattle.state.specs.Ready.{Ready}
use Rattle.state.specs.Names.{flows_of, NamesAllBut, OpenSlot}
use Rattle.state.specs.Change.{ready_same}
use Rattle.state.specs.Check.{Checked}
use Rattle.plan.specs.Plan.{leaves_by, Leaving, Planned, PlanAsked, PlanMade}
use Rattle.hand.specs.Act.{Listed, Asked, PutBack, HandAsked, Handed, freed_all}
use Rattle.hand.specs.Freed.{open_sound, all_freed_names, freed_slots, cleared_keep, freed_spare, sizes_written}
use Rattle.sweeps.specs.Promise.{Left, Did, Swept}
use Rattle.sweeps.specs.Steps.{SoundReady, SweepPlanned, swept_to}
use Rattle.sweeps.specs.StateLaws.{lateness_wide, clocked, loaded_capacity, loaded_timeout, loaded_sound, loaded_flows, loaded_ready, slots_same, sound_names, meaning_view, settings_after, means_after, sound_after, left_queue, listed_many, did_refused, did_handed, did_since, nothing_done, checked_damaged}

-- ## The clock

-- with timeout 0 it stays
pub clock_stays : (T clock time : ℕ) → T ≡ 0 → clock ≡ cond (eqb T 0) clock (max clock time)
clock_stays T clock time e = rw (eq-eqb T 0 e)

-- else it is the greater
pub clock_moves : (T clock time r : ℕ) → (T ≡ 0 → ⊥) → r ≡ max clock time → r ≡ cond (eqb T 0) clock (max clock time)
clock_moves T clock time r n e = rw (ne_eqb T 0 n) e

-- ## What is done on the plan

module _ (c T w : ℕ) (s l : List ℕ) (n : ℕ) (index free : List ℕ) (p : SweepPlanned c T w s l n index free) where
  -- the flow leaves at the clock
  abbrev test : Flow engine → Bool
  test = leaves engine (settings_in s) w

  size : 256 + 640 * c ≤ length s
  size = omega (arith, p.header.long, p.own)

  most : c ≤ 4096
  most = omega (arith, p.header.most, p.own)

  many : length (view c s).table ≡ c
  many = length_slots s c 0

  -- the listed slots are open
  open_slots : All (OpenSlot c (view c s).table) (take n l)
  open_slots =
      all_more (Leaving c test (view c s).table (view c s).tree) (OpenSlot c (view c s).table) (λ i h. record { low = h.low; used = h.used })
      (take n l) p.plan.slots

  -- so the bytes of their records can be summed
  pub sweep_listed : Listed c s l n
  sweep_listed = record {
    size = size;
    most = most;
    few = p.few;
    long = p.long;
    slots = open_sound s c (take n l) p.ready.flows open_slots;
  }

  -- with timeout 0 nothing leaves
  none_leaves : T ≡ 0 → n ≡ 0
  unfolding settings_of
  none_leaves z = go (take n l) refl p.plan.slots
    where
      stays : (f : Flow engine) → test f ≡ false
      stays f = rw (eq-eqb (header_in s).timeout.0 0 (sym p.timeout ∙ z))

      go : (m : List ℕ) → m ≡ take n l → All (Leaving c test (view c s).table (view c s).tree) m → n ≡ 0
      go [] e a = omega (arith, p.long, ap length e, length-take n l)
      go (x ∷ m) e a = absurd (false≢true (sym (stays (flow_in (slot_of (view c s).table x))) ∙ a.0.leaves))

  -- the queue can name them again
  pub sweep_asked : Asked c T s l n
  sweep_asked = record {
    size = size;
    most = most;
    few = p.few;
    long = p.long;
    none = none_leaves;
    slots = open_slots;
    names = p.plan.names;
  }

  -- the records are the rules'
  finished_are : map (finish_or engine IdleTimeout) (flows_of (view c s).table (take n l)) ≡ swept engine (settings_in s) w (meaning s).flows
  finished_are =
      ap (map (finish_or engine IdleTimeout))
      (p.plan.flows ∙ ap (λ (e : Engine engine). sort (by_end engine) (those test e.flows)) (sym (meaning_view s c p.own)))

  module _ (out : List ℕ) (sum : ℕ) (e : sum ≡ sizes engine (map (finish_or engine IdleTimeout) (flows_of (view c s).table (take n l)))) where
    -- .. and so are their bytes
    sizes_are : sum ≡ sizes engine (swept engine (settings_in s) w (meaning s).flows)
    sizes_are = e ∙ ap (sizes engine) finished_are

    -- ## There is no room: the queue names the list again

    pub sweep_refused : length out < sum → (s' : List ℕ) → length s' ≡ length s → PutBack c T (view c s) (view c s')
        → Did (swept_to (settings_in s) (length out) w (meaning s)) s out 7 0 0 s' out
    sweep_refused h s' long back =
        let table : (view c s').table ≡ (view c s).table = ap (λ (v : View). v.table) back.same in
        let head : header_in s' ≡ clocked (header_in s).clock.0 (header_in s) = ap (λ (v : View). header_of v.header) back.same in
        let names = subst (λ (t : List (List ℕ)). NamesAllBut c T t (view c s').tree []) (sym table) back.names in
        let ready = ready_same s s' c index free p.ready (slots_same s s' c table) in
        did_refused s out c p.own (swept engine (settings_in s) w (meaning s).flows) _ s'
        (sound_after s s' c (header_in s).clock.0 p.own head T index free p.timeout p.header
        (λ z. p.header.still (sym p.timeout ∙ z)) long ready names)
        (settings_after s s' c (header_in s).clock.0 p.own head)
        (left_queue (view c s) (view c s') back.same back.spare)
        (omega (arith, sizes_are))
        (means_after s s' c (header_in s).clock.0 p.own head
        ∙ ap (λ (t : List (List ℕ)). engine_of (header_in s).clock.0 (slots_of t)) table ∙ sym (meaning_view s c p.own))

    -- ## There is room: the list is handed out, and the clock is put

    module _ (room : sum ≤ length out) where
      -- the list can be handed out
      pub sweep_hands : HandAsked c IdleTimeout s l n index free out
      sweep_hands = record {
        size = size;
        most = most;
        few = p.few;
        long = p.long;
        slots = open_slots;
        once = p.plan.once;
        ready = p.ready;
        room = omega (arith, e, sizes_written (map (finish_or engine IdleTimeout) (flows_of (view c s).table (take n l))));
      }

      module _ (s1 out' index' free' : List ℕ) (bytes : ℕ) (handed : Handed c IdleTimeout (view c s) (view c s1) (take n l) out out' bytes)
          (ready : Ready s1 c index' free') (s2 : List ℕ) (long : length s2 ≡ length s) (small : w < 2 ^ 64)
          (put : view c s2 ≡ with_header (with_clock w (view c s1).header) (view c s1)) where
        table_is : (view c s2).table ≡ freed_all (take n l) (view c s).table
        table_is = ap (λ (v : View). v.table) put ∙ handed.table

        tree_is : (view c s2).tree ≡ (view c s).tree
        tree_is = ap (λ (v : View). v.tree) put ∙ handed.tree

        header_is : (view c s2).header ≡ with_clock w (view c s).header
        header_is = ap (λ (v : View). v.header) put ∙ ap (with_clock w) handed.header

        header_long : length (view c s).header ≡ 256
        header_long = length_part s 0 256 (omega (arith, size))

        -- the header is as it was but for the clock
        head : header_in s2 ≡ clocked w (header_in s)
        head = ap header_of header_is ∙ clock_stored w (view c s).header (omega (arith, header_long)) small

        -- the queue names every open flow
        names_are : NamesAllBut c T (view c s2).table (view c s2).tree []
        names_are =
            let freed =
            all_freed_names c T (view c s).table (view c s).tree (take n l) p.plan.names many
            (all_more (Leaving c test (view c s).table (view c s).tree) (λ i. due_of c (view c s).tree i ≡ never) (λ i h. h.out)
            (take n l) p.plan.slots) in
            subst (λ (t : List (List ℕ)). NamesAllBut c T t (view c s2).tree []) (sym table_is)
            (subst (λ (t : List ℕ). NamesAllBut c T (freed_all (take n l) (view c s).table) t []) (sym tree_is) freed)

        -- the flows that stay
        flows_are : Slots.meaning engine (slots_of (view c s2).table) ≡ staying engine (settings_in s) w (meaning s).flows
        flows_are =
            ap (λ (t : List (List ℕ)). Slots.meaning engine (slots_of t)) table_is
            ∙ ap (Slots.meaning engine) (freed_slots (take n l) (view c s).table)
            ∙ ap (Slots.meaning engine)
            (cleared_keep c test (view c s).table (take n l) many
            (all_more (Leaving c test (view c s).table (view c s).tree) (λ i. test (flow_in (slot_of (view c s).table i)) ≡ true)
            (λ i h. h.leaves) (take n l) p.plan.slots)
            p.plan.all)
            ∙ cleared engine (λ f. not (test f)) (slots_of (view c s).table)
            ∙ ap (λ (e : Engine engine). those (λ f. not (test f)) e.flows) (sym (meaning_view s c p.own))

        -- all else is untouched
        left : Left (view c s) (view c s2)
        unfolding with_clock
        left =
            let fits : 40 + length (le 8 w) ≤ length (view c s).header = omega (arith, header_long, length_le 8 w) in
            record {
              settings = ap (λ (b : List ℕ). part b 0 40) header_is ∙ part_elsewhere (view c s).header 40 (le 8 w) fits 0 40 (inl (omega arith));
              spare_header = ap (drop 48) header_is ∙ drop_behind (view c s).header 40 (le 8 w) 48 (omega (arith, length_le 8 w)) (omega (arith, header_long));
              spare_slots = ap (map (drop 376)) table_is ∙ freed_spare (take n l) (view c s).table;
              spare_node = ap (λ (t : List ℕ). node t 0) tree_is;
              rest = ap (λ (v : View). v.rest) put ∙ handed.rest;
            }

        -- the sweep is done
        pub sweep_done : Did (swept_to (settings_in s) (length out) w (meaning s)) s out 0 n bytes s2 out'
        sweep_done =
            did_handed s out c p.own (swept engine (settings_in s) w (meaning s).flows) _ s2
            (sound_after s s2 c w p.own head T index' free' p.timeout p.header p.still long
            (ready_same s1 s2 c index' free' ready (slots_same s1 s2 c (ap (λ (v : View). v.table) put))) names_are)
            (settings_after s s2 c w p.own head) left (omega (arith, sizes_are))
            (means_after s s2 c w p.own head ∙ ap (λ (fs : List (Flow engine)). record { clock = w; flows = fs }) flows_are)
            n bytes out'
            (sym (sym (ap length finished_are) ∙ listed_many IdleTimeout (view c s).table l n p.long))
            (handed.bytes ∙ ap (λ (fs : List (Finished engine)). length (written fs)) finished_are)
            (handed.output ∙ ap (λ (fs : List (Finished engine)). patch out 0 (written fs)) finished_are)

-- ## A sweep of a sound state: its clock, and then its plan

-- the rules' own words
sweep_is : (settings : Settings) (room time w : ℕ) (e : Engine engine) → w ≡ clock_at engine settings e.clock time
    → swept_to settings room w e ≡ sweep_at engine settings room time e
unfolding sweep_at
sweep_is settings room time w e q = ap (λ (x : ℕ). swept_to settings room x e) q

module _ (s index free : List ℕ) (ask : SoundReady s index free) (h : Header) (is : h ≡ header_of (part s 0 256)) where
  own_capacity : h.capacity ≡ capacity_in s
  own_capacity = loaded_capacity s h is ask.sound

  own_sound : SoundHeader h (length s)
  own_sound = loaded_sound s h is ask.sound

  -- the plan can be made
  pub sweep_plans : (l : List ℕ) → length l ≡ 4096 → PlanAsked h.capacity h.timeout.0 h.lateness.0 s l
  sweep_plans l room = record {
    size = own_sound.long;
    some = own_sound.some;
    most = own_sound.most;
    room = omega (arith, room, own_sound.most);
    wide = lateness_wide h (length s) own_sound;
    flows = loaded_flows s h is ask.sound;
    names = sound_names s h.capacity h.timeout.0 ask.sound own_capacity (loaded_timeout s h is ask.sound);
  }

  module _ (time w : ℕ) (clock : w ≡ cond (eqb h.timeout.0 0) h.clock.0 (max h.clock.0 time)) (s1 l : List ℕ) (n : ℕ)
      (made : PlanMade h.capacity h.timeout.0 (leaves_by h.timeout.0 h.lateness.0 w) (view h.capacity s) (view h.capacity s1) (take n l) n) where
    same_table : (view h.capacity s1).table ≡ (view h.capacity s).table
    same_table = ap (λ (v : View). v.table) made.same

    kept_header : header_in s1 ≡ header_in s
    kept_header = ap (λ (v : View). header_of v.header) made.same

    planned_header : header_in s1 ≡ h
    planned_header = kept_header ∙ sym is

    -- its test is the rules'
    same_test : leaves engine (settings_in s1) w ≡ leaves_by h.timeout.0 h.lateness.0 w
    unfolding settings_of
    same_test = ap (λ (g : Header). leaves_by g.timeout.0 g.lateness.0 w) planned_header

    -- with timeout 0 the clock stays where it was, at 0
    clock_still : h.timeout.0 ≡ 0 → w ≡ 0
    clock_still z = clock ∙ sym (clock_stays h.timeout.0 h.clock.0 time z) ∙ own_sound.still z

    -- it can be acted on
    pub sweep_planned : length s1 ≡ length s → length l ≡ 4096 → SweepPlanned h.capacity h.timeout.0 w s1 l n index free
    sweep_planned long room = record {
      own = ap (λ (g : Header). g.capacity) (sym planned_header);
      timeout = ap (λ (g : Header). g.timeout.0) (sym planned_header);
      header =
          subst (λ (g : Header). SoundHeader g (length s1)) (sym planned_header) (subst (SoundHeader h) (sym long) own_sound);
      still = clock_still;
      ready =
          ready_same s s1 h.capacity index free (loaded_ready s h is ask.sound index free ask.ready)
          (slots_same s s1 h.capacity same_table);
      few = made.few;
      long = omega (arith, room, made.few, own_sound.most);
      plan =
          subst (λ (t : List (List ℕ)). Planned h.capacity h.timeout.0 (leaves engine (settings_in s1) w) t (view h.capacity s1).tree (take n l))
          (sym same_table)
          (subst (λ (test : Flow engine → Bool). Planned h.capacity h.timeout.0 test (view h.capacity s).table (view h.capacity s1).tree (take n l))
          (sym same_test) made.plan);
    }

    -- the plan changed neither the settings nor the meaning
    same_settings : settings_in s1 ≡ settings_in s
    same_settings = ap settings_of kept_header

    same_meaning : meaning s1 ≡ meaning s
    same_meaning =
        meaning_view s1 h.capacity (ap (λ (g : Header). g.capacity) (sym planned_header))
        ∙ ap (λ (g : Header). engine_of g.clock.0 (slots_of (view h.capacity s1).table)) kept_header
        ∙ ap (λ (t : List (List ℕ)). engine_of (header_in s).clock.0 (slots_of t)) same_table
        ∙ sym (meaning_view s h.capacity own_capacity)

    -- a sweep to the clock from here is the sweep at the time
    same_told : (room : ℕ) → swept_to (settings_in s1) room w (meaning s1) ≡ sweep_at engine (settings_in s) room time (meaning s)
    unfolding settings_of meaning
    same_told room =
        ap (λ (g : Settings). swept_to g room w (meaning s1)) same_settings
        ∙ ap (λ (e : Engine engine). swept_to (settings_in s) room w e) same_meaning
        ∙ sweep_is (settings_in s) room time w (meaning s)
        (clock ∙ ap (λ (g : Header). cond (eqb g.timeout.0 0) g.clock.0 (max g.clock.0 time)) is)

    -- .. and left all else untouched
    plan_left : Left (view (capacity_in s) s) (view (capacity_in s) s1)
    plan_left =
        subst (λ (k : ℕ). Left (view k s) (view k s1)) own_capacity
        (left_queue (view h.capacity s) (view h.capacity s1) made.same made.spare)

    -- what was done on the plan is what the sweep did
    pub sweep_told : (room : List ℕ) (refusal records bytes : ℕ) (after out : List ℕ)
        → Did (swept_to (settings_in s1) (length room) w (meaning s1)) s1 room refusal records bytes after out
        → Did (sweep_at engine (settings_in s) (length room) time (meaning s)) s room refusal records bytes after out
    sweep_told room refusal records bytes after out did =
        did_since s s1 room refusal records bytes after out _ same_settings (ap (λ (g : Header). g.capacity) kept_header) plan_left
        (subst (λ (x : Told engine). Did x s1 room refusal records bytes after out) (same_told (length room)) did)

-- ## A sweep of any bytes

module _ (time : ℕ) (s room : List ℕ) (r : Bool) (index free : List ℕ) (checked : Checked s r index free) where
  -- sound
  pub sweep_sound : r ≡ true → (refusal records bytes : ℕ) (after out : List ℕ)
      → Did (sweep_at engine (settings_in s) (length room) time (meaning s)) s room refusal records bytes after out
      → Swept time s room refusal records bytes after out
  sweep_sound e refusal records bytes after out did =
      record { damaged = λ n. absurd (n (checked.decides.0 e)); told = λ sound. did }

  -- damaged
  pub sweep_damaged : r ≡ false → Swept time s room 3 0 0 s room
  sweep_damaged e =
      record { damaged = λ n. nothing_done s room; told = λ sound. absurd (checked_damaged s r index free checked e sound) }
