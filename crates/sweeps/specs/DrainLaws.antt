-- From a drain's plan, and what is done on it, to the promise. Assumes nothing.
use Rattle.std.specs.Prelude.{ℕ, ◌+◌, ◌*◌, ◌≤◌, ◌<◌, ◌≡◌, Bool, true, false, take, drop}
use Rattle.std.proofs.Math.Path.{refl, ap}
use Rattle.std.proofs.Common.{sym, ◌∙◌, subst, arith}
use mathlib.Core.List.{List, [], map}
use Rattle.std.proofs.Math.ListN.{length}
use Rattle.memory.specs.Bytes.{part, patch}
use Rattle.memory.proofs.Laws.{length_part}
use Rattle.queue.specs.Tree.{node, never, Empty}
use Rattle.slots.proofs.Laws.{length_slots}
use Rattle.table.specs.declared.Header.{Header}
use Rattle.table.specs.Header.{header_of}
use Rattle.table.specs.View.{View, view}
use Rattle.table.specs.Due.{due_of, QueueCleared}
use Rattle.table.proofs.QueueLaws.{cleared_empty, cleared_spare_node}
use Rattle.flow.specs.declared.time.EndReason.TheVariants.{CaptureEnd}
use Rattle.rules.specs.Order.{sort}
use Rattle.rules.specs.Totals.{All, all_more}
use Rattle.rules.specs.Rules.{Flow, Finished, Engine, finish_or, by_key, drained, sizes, drain_all}
use Rattle.rules.specs.Engine.{engine, written}
use Rattle.rules.proofs.SlotsLaws.{in_order}
use Rattle.rules.specs.Slots
use Rattle.state.specs.State.{SoundHeader, header_in, slots_of, meaning}
use Rattle.state.specs.Ready.{Ready}
use Rattle.state.specs.Names.{flows_of, NamesAllBut, OpenSlot}
use Rattle.state.specs.Change.{ready_same}
use Rattle.state.specs.Check.{Checked}
use Rattle.plan.specs.Plan.{DrainAsked, Gathered}
use Rattle.hand.specs.Act.{Listed, HandAsked, Handed, freed_all}
use Rattle.hand.specs.Freed.{open_sound, all_freed_names, freed_slots, cleared_all, freed_spare, sizes_written}
use Rattle.sweeps.specs.Promise.{Left, Did, Drained}
use Rattle.sweeps.specs.Steps.{SoundReady, DrainPlanned}
use Rattle.sweeps.specs.StateLaws.{clocked, loaded_capacity, loaded_sound, loaded_flows, loaded_ready, slots_same, meaning_view, settings_after, means_after, sound_after, left_same, listed_many, did_refused, did_handed, nothing_done, checked_damaged}

-- ## What is done on the plan

module _ (c : ℕ) (s l : List ℕ) (n : ℕ) (index free : List ℕ) (p : DrainPlanned c s l n index free) where
  size : 256 + 640 * c ≤ length s
  size = omega (arith, p.sound.header.long, p.own)

  most : c ≤ 4096
  most = omega (arith, p.sound.header.most, p.own)

  some : 0 < c
  some = omega (arith, p.sound.header.some, p.own)

  -- the bytes of the records can be summed
  pub drain_listed : Listed c s l n
  drain_listed = record {
    size = size;
    most = most;
    few = p.all.few;
    long = p.long;
    slots = open_sound s c (take n l) p.ready.flows p.all.slots;
  }

  -- the records are the rules'
  finished_are : map (finish_or engine CaptureEnd) (flows_of (view c s).table (take n l)) ≡ drained engine (meaning s).flows
  finished_are =
      ap (map (finish_or engine CaptureEnd))
      (p.all.flows ∙ sym (in_order engine (slots_of (view c s).table))
      ∙ ap (λ (e : Engine engine). sort (by_key engine) e.flows) (sym (meaning_view s c p.own)))

  module _ (out : List ℕ) (sum : ℕ) (e : sum ≡ sizes engine (map (finish_or engine CaptureEnd) (flows_of (view c s).table (take n l)))) where
    -- .. and so are their bytes
    sizes_are : sum ≡ sizes engine (drained engine (meaning s).flows)
    sizes_are = e ∙ ap (sizes engine) finished_are

    -- ## There is no room

    pub drain_refused : length out < sum → Did (drain_all engine (length out) (meaning s)) s out 7 0 0 s out
    unfolding drain_all
    drain_refused h =
        did_refused s out c p.own (drained engine (meaning s).flows) (record { clock = (meaning s).clock; flows = [] }) s p.sound refl
        (left_same (view c s)) (omega (arith, sizes_are)) refl

    -- ## There is room: the queue is cleared, and the list is handed out

    module _ (room : sum ≤ length out) (s1 : List ℕ) (long1 : length s1 ≡ length s) (clear : QueueCleared c (view c s) (view c s1)) where
      same_table : (view c s1).table ≡ (view c s).table
      same_table = ap (λ (v : View). v.table) clear.same

      tree_long : length (view c s).tree ≡ 16 * c
      tree_long = length_part s (256 + 624 * c) (16 * c) (omega (arith, size))

      empty : Empty c (view c s1).tree
      empty = cleared_empty c (view c s) (view c s1) some tree_long clear

      ready1 : Ready s1 c index free
      ready1 = ready_same s s1 c index free p.ready (slots_same s s1 c same_table)

      -- the list can be handed out
      pub drain_hands : HandAsked c CaptureEnd s1 l n index free out
      drain_hands = record {
        size = omega (arith, size);
        most = most;
        few = p.all.few;
        long = p.long;
        slots = subst (λ (t : List (List ℕ)). All (OpenSlot c t) (take n l)) (sym same_table) p.all.slots;
        once = p.all.once;
        ready = ready1;
        room =
            omega (
              arith,
              e,
              sizes_written (map (finish_or engine CaptureEnd) (flows_of (view c s).table (take n l))),
              ap (λ (t : List (List ℕ)). length (written (map (finish_or engine CaptureEnd) (flows_of t (take n l))))) same_table,
            );
      }

      module _ (s2 out' index' free' : List ℕ) (bytes : ℕ) (given : Handed c CaptureEnd (view c s1) (view c s2) (take n l) out out' bytes)
          (ready : Ready s2 c index' free') (long2 : length s2 ≡ length s1) where
        table_is : (view c s2).table ≡ freed_all (take n l) (view c s).table
        table_is = given.table ∙ ap (freed_all (take n l)) same_table

        header_is : (view c s2).header ≡ (view c s).header
        header_is = given.header ∙ ap (λ (v : View). v.header) clear.same

        head : header_in s2 ≡ clocked (header_in s).clock.0 (header_in s)
        head = ap header_of header_is

        records_are : map (finish_or engine CaptureEnd) (flows_of (view c s1).table (take n l)) ≡ drained engine (meaning s).flows
        records_are = ap (λ (t : List (List ℕ)). map (finish_or engine CaptureEnd) (flows_of t (take n l))) same_table ∙ finished_are

        -- the empty queue names nothing, and every open slot is listed
        listed_names : NamesAllBut c (header_in s).timeout.0 (view c s).table (view c s1).tree (take n l)
        listed_names = record {
          sound = empty.sound;
          placed = λ i low.
              record {
                empty = λ z. empty.none i low;
                free = λ f. empty.none i low;
                waits = λ t u d. p.all.all i low u;
                early = λ t u d. absurd (d (empty.none i low));
              };
        }

        -- so with every listed slot given back it names every open flow: none
        names_are : NamesAllBut c (header_in s).timeout.0 (view c s2).table (view c s2).tree []
        names_are =
            let freed =
            all_freed_names c (header_in s).timeout.0 (view c s).table (view c s1).tree (take n l) listed_names (length_slots s c 0)
            (all_more (OpenSlot c (view c s).table) (λ i. due_of c (view c s1).tree i ≡ never) (λ i h. empty.none i h.low) (take n l)
            p.all.slots) in
            subst (λ (t : List (List ℕ)). NamesAllBut c (header_in s).timeout.0 t (view c s2).tree []) (sym table_is)
            (subst (λ (t : List ℕ). NamesAllBut c (header_in s).timeout.0 (freed_all (take n l) (view c s).table) t []) (sym given.tree) freed)

        -- no flow is open
        no_flow : Slots.meaning engine (slots_of (view c s2).table) ≡ []
        no_flow =
            ap (λ (t : List (List ℕ)). Slots.meaning engine (slots_of t)) table_is
            ∙ ap (Slots.meaning engine) (freed_slots (take n l) (view c s).table)
            ∙ ap (sort (by_key engine)) (cleared_all c (view c s).table (take n l) (length_slots s c 0) p.all.all)

        -- all else is untouched
        left : Left (view c s) (view c s2)
        left = record {
          settings = ap (λ (b : List ℕ). part b 0 40) header_is;
          spare_header = ap (drop 48) header_is;
          spare_slots = ap (map (drop 376)) table_is ∙ freed_spare (take n l) (view c s).table;
          spare_node =
              ap (λ (t : List ℕ). node t 0) given.tree ∙ cleared_spare_node c (view c s) (view c s1) some tree_long clear;
          rest = given.rest ∙ ap (λ (v : View). v.rest) clear.same;
        }

        -- the drain is done
        pub drain_done : Did (drain_all engine (length out) (meaning s)) s out 0 n bytes s2 out'
        unfolding drain_all
        drain_done =
            let w = (header_in s).clock.0 in
            did_handed s out c p.own (drained engine (meaning s).flows) (record { clock = (meaning s).clock; flows = [] }) s2
            (sound_after s s2 c w p.own head (header_in s).timeout.0 index' free' refl p.sound.header p.sound.header.still
            (long2 ∙ long1) ready names_are)
            (settings_after s s2 c w p.own head) left (omega (arith, sizes_are))
            (means_after s s2 c w p.own head ∙ ap (λ (fs : List (Flow engine)). record { clock = w; flows = fs }) no_flow
            ∙ ap (λ (e : Engine engine). record { clock = e.clock; flows = [] }) (sym (meaning_view s c p.own)))
            n bytes out'
            (sym (sym (ap length finished_are) ∙ listed_many CaptureEnd (view c s).table l n p.long))
            (given.bytes ∙ ap (λ (fs : List (Finished engine)). length (written fs)) records_are)
            (given.output ∙ ap (λ (fs : List (Finished engine)). patch out 0 (written fs)) records_are)

-- ## A drain of a sound state: its plan

module _ (s index free : List ℕ) (ask : SoundReady s index free) (h : Header) (is : h ≡ header_of (part s 0 256)) where
  own_sound : SoundHeader h (length s)
  own_sound = loaded_sound s h is ask.sound

  -- the plan can be made
  pub drain_plans : (l : List ℕ) → length l ≡ 4096 → DrainAsked h.capacity s l
  drain_plans l room = record {
    size = own_sound.long;
    most = own_sound.most;
    room = omega (arith, room, own_sound.most);
    flows = loaded_flows s h is ask.sound;
  }

  -- it can be acted on
  pub drain_planned : (l : List ℕ) (n : ℕ) → length l ≡ 4096 → Gathered h.capacity (view h.capacity s).table (take n l) n
      → DrainPlanned h.capacity s l n index free
  drain_planned l n room all = record {
    own = loaded_capacity s h is ask.sound;
    sound = ask.sound;
    ready = loaded_ready s h is ask.sound index free ask.ready;
    long = omega (arith, room, all.few, own_sound.most);
    all = all;
  }

-- ## A drain of any bytes

module _ (s room : List ℕ) (r : Bool) (index free : List ℕ) (checked : Checked s r index free) where
  -- sound
  pub drain_sound : r ≡ true → (refusal records bytes : ℕ) (after out : List ℕ)
      → Did (drain_all engine (length room) (meaning s)) s room refusal records bytes after out
      → Drained s room refusal records bytes after out
  drain_sound e refusal records bytes after out did =
      record { damaged = λ n. absurd (n (checked.decides.0 e)); told = λ sound. did }

  -- damaged
  pub drain_damaged : r ≡ false → Drained s room 3 0 0 s room
  drain_damaged e =
      record { damaged = λ n. nothing_done s room; told = λ sound. absurd (checked_damaged s r index free checked e sound) }
