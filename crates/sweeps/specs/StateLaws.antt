-- A state before and after a call: its header, its soundness, its meaning; and what the call did. Assumes nothing.
use Rattle.std.specs.Prelude.{ℕ, ◌≤◌, ◌<◌, ◌≡◌, refl, Bool, true, false, List, [], map, ◌++◌, length, take}
use Rattle.std.proofs.Common.{sym, ◌∙◌, arith, length-take, le-leb}
use Rattle.std.proofs.Math.Path.{ap, subst}
use Rattle.std.proofs.lemmas.Bool.{false≢true, lt-leb}
use Rattle.std.proofs.Math.ListN.{drop}
use Rattle.std.proofs.lemmas.List.{length-map}
use Rattle.memory.specs.Bytes.{part, patch}
use Rattle.queue.specs.Tree as Tree
use Rattle.queue.specs.Tree.{node}
use Rattle.slots.specs.Table.{slot, slots}
use Rattle.table.specs.declared.Header.{Header}
use Rattle.table.specs.Header.{header_of}
use Rattle.table.specs.View.{View, view, slot_of}
use Rattle.table.specs.Due.{due_of}
use Rattle.table.proofs.Laws.{slot_view}
use Rattle.flow.specs.declared.time.EndReason.{EndReason}
use Rattle.rules.specs.Rules.{Finished, Engine, Told, Accepted, Room, finish_or, sizes, handed, stopped}
use Rattle.rules.specs.Engine.{engine, written}
use Rattle.rules.specs.EngineSlots.{engine_of}
use Rattle.state.specs.State.{Sound, SoundHeader, SoundFlows, Queued, header_in, capacity_in, settings_of, settings_in, slots_of, meaning}
use Rattle.state.specs.Ready.{Ready}
use Rattle.state.specs.Names.{flows_of, NamesAllBut, QueueOnly}
use Rattle.state.specs.Check.{Checked}
use Rattle.plan.specs.PlanLaws.{names_queued, queued_names}
use Rattle.sweeps.specs.Promise.{Left, Did, NothingDone}
use Rattle.sweeps.specs.Steps.{SoundReady}

-- ## A sound header

-- a timeout is at least a millisecond, so L is not below 2
pub lateness_wide : (h : Header) (bytes : ℕ) → SoundHeader h bytes → (h.timeout.0 ≡ 0 → ⊥) → 2 ≤ h.lateness.0
lateness_wide h bytes sound timed = omega (arith, sound.timeout.gives, sound.lateness)

-- the header with the clock at w
abbrev pub clocked : ℕ → Header → Header
clocked w h =
    record {
      layout = h.layout;
      capacity = h.capacity;
      timeout = h.timeout;
      lateness = h.lateness;
      resolution = h.resolution;
      clock = record { 0 = w };
    }

-- it is sound where the clock may stand there
clocked_sound : (w : ℕ) (h : Header) (bytes : ℕ) → SoundHeader h bytes → (h.timeout.0 ≡ 0 → w ≡ 0) → SoundHeader (clocked w h) bytes
clocked_sound w h bytes sound still = record {
  layout = sound.layout;
  some = sound.some;
  most = sound.most;
  long = sound.long;
  timeout = sound.timeout;
  lateness = sound.lateness;
  resolution = sound.resolution;
  still = still;
}

-- ## The header that was loaded from a sound state

module _ (s : List ℕ) (h : Header) (is : h ≡ header_of (part s 0 256)) (sound : Sound s) where
  pub loaded_capacity : h.capacity ≡ capacity_in s
  loaded_capacity = ap (λ (g : Header). g.capacity) is

  pub loaded_timeout : h.timeout.0 ≡ (header_in s).timeout.0
  loaded_timeout = ap (λ (g : Header). g.timeout.0) is

  pub loaded_sound : SoundHeader h (length s)
  loaded_sound = subst (λ (g : Header). SoundHeader g (length s)) (sym is) sound.header

  pub loaded_flows : SoundFlows s h.capacity
  loaded_flows = subst (SoundFlows s) (sym loaded_capacity) sound.flows

  pub loaded_ready : (index free : List ℕ) → Ready s (capacity_in s) index free → Ready s h.capacity index free
  loaded_ready index free ready = subst (λ (k : ℕ). Ready s k index free) (sym loaded_capacity) ready

-- ## The slots of a state

-- where the tables are the same, so is each slot
pub slots_same : (s s' : List ℕ) (c : ℕ) → (view c s').table ≡ (view c s).table → (j : ℕ) → j < c → slot s' j ≡ slot s j
slots_same s s' c e j low = sym (slot_view s' c j low) ∙ ap (λ (t : List (List ℕ)). slot_of t j) e ∙ slot_view s c j low

-- a queue that names every open flow
pub sound_names : (s : List ℕ) (c T : ℕ) → Sound s → c ≡ capacity_in s → T ≡ (header_in s).timeout.0
    → NamesAllBut c T (view c s).table (view c s).tree []
sound_names s c T sound own timeout =
    subst (λ (t : ℕ). NamesAllBut c t (view c s).table (view c s).tree []) (sym timeout)
    (subst (λ (k : ℕ). NamesAllBut k (header_in s).timeout.0 (view k s).table (view k s).tree []) (sym own)
    (queued_names (capacity_in s) (header_in s).timeout.0 s sound.tree sound.queue))

-- what a state of capacity c means, by its regions
pub meaning_view : (s : List ℕ) (c : ℕ) → c ≡ capacity_in s → meaning s ≡ engine_of (header_in s).clock.0 (slots_of (view c s).table)
unfolding meaning
meaning_view s c own = ap (λ (k : ℕ). engine_of (header_in s).clock.0 (slots_of (slots s k))) (sym own)

-- ## A state after its header had the clock put to w, perhaps where it stood

module _ (s s' : List ℕ) (c w : ℕ) (own : c ≡ capacity_in s) (head : header_in s' ≡ clocked w (header_in s)) where
  -- its capacity is as it was
  own_after : c ≡ capacity_in s'
  own_after = own ∙ sym (ap (λ (h : Header). h.capacity) head)

  -- its settings are as they were
  pub settings_after : settings_in s' ≡ settings_in s
  unfolding settings_of
  settings_after = ap settings_of head

  -- it means its clock and its slots
  pub means_after : meaning s' ≡ engine_of w (slots_of (view c s').table)
  means_after = meaning_view s' c own_after ∙ ap (λ (h : Header). engine_of h.clock.0 (slots_of (view c s').table)) head

  -- it is sound where its flows are ready and the queue names them all
  pub sound_after : (T : ℕ) (index free : List ℕ) → T ≡ (header_in s).timeout.0 → SoundHeader (header_in s) (length s) → (T ≡ 0 → w ≡ 0)
      → length s' ≡ length s → Ready s' c index free → NamesAllBut c T (view c s').table (view c s').tree [] → Sound s'
  sound_after T index free timeout sound still long ready names =
      let timeout-after : T ≡ (header_in s').timeout.0 = timeout ∙ sym (ap (λ (h : Header). h.timeout.0) head) in
      record {
        header =
            subst (λ (h : Header). SoundHeader h (length s')) (sym head)
            (subst (SoundHeader (clocked w (header_in s))) (sym long)
            (clocked_sound w (header_in s) (length s) sound (λ z. still (timeout ∙ z))));
        flows = subst (SoundFlows s') own_after ready.flows;
        tree = subst (λ (k : ℕ). Tree.Sound (view k s').tree k) own_after names.sound;
        queue =
            subst (λ (k : ℕ). (i : ℕ) → i < k → Queued (header_in s').timeout.0 (slot s' i) (due_of k (view k s').tree i)) own_after
            (subst (λ (t : ℕ). (i : ℕ) → i < c → Queued t (slot s' i) (due_of c (view c s').tree i)) timeout-after (names_queued c T s' names));
      }

-- ## What is left untouched

-- where nothing has changed
pub left_same : (v : View) → Left v v
left_same v = record { settings = refl; spare_header = refl; spare_slots = refl; spare_node = refl; rest = refl }

-- where nothing but the queue has changed, and not its spare node
pub left_queue : (v v' : View) → QueueOnly v v' → node v'.tree 0 ≡ node v.tree 0 → Left v v'
left_queue v v' same spare =
    let header : v'.header ≡ v.header = ap (λ (u : View). u.header) same in
    record {
      settings = ap (λ (b : List ℕ). part b 0 40) header;
      spare_header = ap (drop 48) header;
      spare_slots = ap (λ (u : View). map (drop 376) u.table) same;
      spare_node = spare;
      rest = ap (λ (u : View). u.rest) same;
    }

-- one step after another
pub left_twice : (v v1 v2 : View) → Left v v1 → Left v1 v2 → Left v v2
left_twice v v1 v2 p q = record {
  settings = q.settings ∙ p.settings;
  spare_header = q.spare_header ∙ p.spare_header;
  spare_slots = q.spare_slots ∙ p.spare_slots;
  spare_node = q.spare_node ∙ p.spare_node;
  rest = q.rest ∙ p.rest;
}

-- ## What a call did

-- as many records as slots listed
pub listed_many : (other : EndReason) (table : List (List ℕ)) (l : List ℕ) (n : ℕ) → n ≤ length l
    → length (map (finish_or engine other) (flows_of table (take n l))) ≡ n
listed_many other table l n long =
    length-map (flows_of table (take n l)) (finish_or engine other) ∙ length-map (take n l) _ ∙ omega (arith, length-take n l)

module _ (s room : List ℕ) (c : ℕ) (own : c ≡ capacity_in s) (fs : List (Finished engine)) (after : Engine engine) (s' : List ℕ)
    (sound : Sound s') (settings : settings_in s' ≡ settings_in s) (left : Left (view c s) (view c s')) where
  -- by the state's own capacity
  left_own : Left (view (capacity_in s) s) (view (capacity_in s) s')
  left_own = subst (λ (k : ℕ). Left (view k s) (view k s')) own left

  -- the records do not fit: the state means what it meant, and the output is as it was
  pub did_refused : length room < sizes engine fs → meaning s' ≡ meaning s
      → Did (handed engine (length room) fs (meaning s) after) s room 7 0 0 s' room
  did_refused h means =
      let is : handed engine (length room) fs (meaning s) after ≡ stopped engine Room (meaning s) =
      rw (lt-leb (sizes engine fs) (length room) h) in
      subst (λ (x : Told engine). Did x s room 7 0 0 s' room) (sym is)
      (record { answer = refl; count = refl; filled = refl; sound = sound; means = means; settings = settings; output = refl; untouched = left_own })

  -- they fit, and stand at the front of the output
  pub did_handed : sizes engine fs ≤ length room → meaning s' ≡ after → (n bytes : ℕ) (out : List ℕ) → n ≡ length fs → bytes ≡ length (written fs)
      → out ≡ patch room 0 (written fs) → Did (handed engine (length room) fs (meaning s) after) s room 0 n bytes s' out
  unfolding patch
  did_handed h means n bytes out many filled output =
      let is : handed engine (length room) fs (meaning s) after
      ≡ record { refusal = Accepted; taken = 0; opens = 0; finished = fs; engine = after } =
      rw (le-leb (sizes engine fs) (length room) h) in
      subst (λ (x : Told engine). Did x s room 0 n bytes s' out) (sym is)
      (record {
        answer = refl;
        count = many;
        filled = filled;
        sound = sound;
        means = means;
        settings = settings;
        output = output ∙ ap (λ (k : ℕ). written fs ++ drop k room) (sym filled);
        untouched = left_own;
      })

-- what a call did from s1 on it did from its beginning, where from s to s1 nothing was done that counts
pub did_since : (s s1 room : List ℕ) (refusal records bytes : ℕ) (after out : List ℕ) (told : Told engine) → settings_in s1 ≡ settings_in s
    → capacity_in s1 ≡ capacity_in s → Left (view (capacity_in s) s) (view (capacity_in s) s1) → Did told s1 room refusal records bytes after out
    → Did told s room refusal records bytes after out
did_since s s1 room refusal records bytes after out told settings own left did = record {
  answer = did.answer;
  count = did.count;
  filled = did.filled;
  sound = did.sound;
  means = did.means;
  settings = did.settings ∙ settings;
  output = did.output;
  untouched =
      left_twice (view (capacity_in s) s) (view (capacity_in s) s1) (view (capacity_in s) after) left
      (subst (λ (k : ℕ). Left (view k s1) (view k after)) own did.untouched);
}

-- ## A state that was checked

-- 3 Damaged: nothing is done
pub nothing_done : (s room : List ℕ) → NothingDone s room 3 0 0 s room
nothing_done s room = record { answer = refl; count = refl; filled = refl; state = refl; output = refl }

-- the check said so
pub checked_damaged : (s : List ℕ) (r : Bool) (index free : List ℕ) → Checked s r index free → r ≡ false → Sound s → ⊥
checked_damaged s r index free checked e sound = false≢true (sym e ∙ checked.decides.1 sound)

-- the check passed
pub checked_ready : (s : List ℕ) (r : Bool) (index free : List ℕ) → Checked s r index free → r ≡ true → SoundReady s index free
checked_ready s r index free checked e = record { sound = checked.decides.0 e; ready = checked.ready e }
