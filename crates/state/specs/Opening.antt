-- Opening a state: what it answers, every byte that it leaves, and that what it leaves is a fresh engine. Assumes nothing.
use Rattle.std.specs.Prelude.{ℕ, suc, ◌-◌, ◌+◌, ◌*◌, ◌^◌, ◌≤◌, ◌<◌, ◌≡◌, ◌⊎◌, Bool, true, false, ◌||◌, eqb, ltb, get_or, Err, Ok, Result}
use Rattle.std.proofs.Math.Path.{refl, ap}
use Rattle.std.proofs.Common.{sym, ◌∙◌, subst, inl, inr, arith, eqb-true, ltb-true}
use Rattle.std.proofs.lemmas.Bool.{false≢true, eqb-false}
use mathlib.Core.List.{List, [], ◌∷◌}
use Rattle.std.proofs.Math.ListN.{length}
use Rattle.queue.specs.Tree as Tree
use Rattle.slots.proofs.Laws.{get_d_slots, length_slots}
use Rattle.slots.specs.Table.{slot, slots, is_used, NoKeyTwice}
use Rattle.table.specs.View.{View, view, Cleared}
use Rattle.table.specs.Header.{HeaderFits, blank_header}
use Rattle.table.specs.Due.{due_of}
use Rattle.table.specs.declared.Header.{Header}
use Rattle.table.proofs.Laws.{slot_view}
use Rattle.table.proofs.HeaderLaws.{cleared_header, cleared_free, cleared_queue}
use Rattle.wire.specs.RecordForm.{resolution_number}
use Rattle.words.specs.FieldLaws.{resolution_back, resolution_fits}
use Rattle.flow.specs.Idle.{timeout_of, lateness_of, idle_of}
use Rattle.flow.specs.declared.time.Idle.{Idle}
use Rattle.flow.specs.declared.time.Millis.{Millis}
use Rattle.flow.specs.declared.time.TimeResolution.{TimeResolution}
use Rattle.rules.specs.Order.{sort}
use Rattle.rules.specs.Rules.{by_key, settings, fresh}
use Rattle.rules.specs.Engine.{engine}
use Rattle.rules.specs.Slots.{occupied}
use Rattle.state.specs.State.{header_in, capacity_in, SoundHeader, Queued, SoundFlows, Sound, settings_of, settings_in, slots_of, meaning}
use Rattle.state.specs.HeaderTest.{capacity_small}
use Rattle.state.specs.Change.{free_flow}
use Rattle.forms.specs.declared.refusal.Refusal.{Refusal}
use Rattle.forms.specs.Refusals.{refusal_number}

-- document 01's number of each answer
abbrev pub opening_number : Result Unit Refusal → ℕ
opening_number (Ok done) = 0
opening_number (Err why) = refusal_number why

-- the header of an engine that was just opened with a timeout and a resolution
abbrev pub opened_header : ℕ → Millis → TimeResolution → Header
opened_header c ms resolution =
    blank_header c (record { 0 = timeout_of ms }) (record { 0 = lateness_of (timeout_of ms) }) (resolution_number resolution)

-- P4: 18,446,744,073,709 ms is exact; 18,446,744,073,710 is held at the top
p4_exact : (c : ℕ) (resolution : TimeResolution) → (opened_header c (record { 0 = 18446744073709 }) resolution).timeout.0 ≡ 18446744073709000000
p4_exact c resolution = refl

p4_held : (c : ℕ) (resolution : TimeResolution) → (opened_header c (record { 0 = 18446744073710 }) resolution).timeout.0 ≡ 2 ^ 64 - 1
p4_held c resolution = refl

-- "Order: 1, 2 at opening"; "Refusals 1, 2, 3 write nothing." Opened, every byte of the four regions is given: header, slots and queue; what
-- lies beyond is as it was.
pub record Opened (before : List ℕ) (c : ℕ) (ms : Millis) (resolution : TimeResolution) (r : Result Unit Refusal) (after : List ℕ) : Type 0 where
  -- 1 Capacity: "opening with 0 or above 4096"
  pub refused_capacity : (c ≡ 0) ⊎ (4096 < c) → (opening_number r ≡ 1) × (after ≡ before)
  -- 2 Memory: "opening with too few bytes"
  pub refused_memory : 1 ≤ c → c ≤ 4096 → length before < 256 + 640 * c → (opening_number r ≡ 2) × (after ≡ before)
  pub opened : 1 ≤ c → c ≤ 4096 → 256 + 640 * c ≤ length before
      → (opening_number r ≡ 0) × (length after ≡ length before) × Cleared c (opened_header c ms resolution) (view c before) (view c after)

-- ## The ways out of opening

either_true : (a b : Bool) → (a || b) ≡ true → (a ≡ true) ⊎ (b ≡ true)
either_true true b e = inl refl
either_true false b e = inr e

module _ (s : List ℕ) (c : ℕ) (ms : Millis) (resolution : TimeResolution) where
  pub opens_refused : (eqb c 0 || ltb 4096 c) ≡ true → Opened s c ms resolution (Err Refusal.Capacity) s
  opens_refused e = record {
    refused_capacity = λ z. (refl, refl);
    refused_memory = λ l m z. absurd (outside l m (either_true (eqb c 0) (ltb 4096 c) e));
    opened = λ l m z. absurd (outside l m (either_true (eqb c 0) (ltb 4096 c) e));
  }
    where
      outside : 1 ≤ c → c ≤ 4096 → (eqb c 0 ≡ true) ⊎ (ltb 4096 c ≡ true) → ⊥
      outside l m (inl w) = omega (arith, eqb-true c 0 w)
      outside l m (inr w) = omega (arith, ltb-true 4096 c w)

  inside : (eqb c 0 || ltb 4096 c) ≡ false → (c ≡ 0) ⊎ (4096 < c) → ⊥
  inside e (inl z) = go (eqb c 0) refl
    where
      go : (t : Bool) → eqb c 0 ≡ t → ⊥
      go true q = false≢true (sym e ∙ ap (λ (x : Bool). x || ltb 4096 c) q)
      go false q = eqb-false c 0 q z
  inside e (inr z) = omega (arith, capacity_small c e)

  pub opens_short : (eqb c 0 || ltb 4096 c) ≡ false → length s < 256 + 640 * c → Opened s c ms resolution (Err Refusal.Memory) s
  opens_short e short = record {
    refused_capacity = λ z. absurd (inside e z);
    refused_memory = λ l m z. (refl, refl);
    opened = λ l m z. absurd (omega arith);
  }

  pub opens : (eqb c 0 || ltb 4096 c) ≡ false → 256 + 640 * c ≤ length s → (idle : Idle) → idle ≡ idle_of ms → (word : ℕ) → word ≡ resolution_number resolution
      → (s' : List ℕ) → length s' ≡ length s → Cleared c (blank_header c idle.timeout idle.lateness word) (view c s) (view c s')
      → Opened s c ms resolution (Ok tt) s'
  opens e long idle i word w s' same k = record {
    refused_capacity = λ z. absurd (inside e z);
    refused_memory = λ l m z. absurd (omega arith);
    opened = λ l m z. (
      refl,
      same,
      subst (λ (n : ℕ). Cleared c (blank_header c (record { 0 = timeout_of ms }) (record { 0 = lateness_of (timeout_of ms) }) n) (view c s) (view c s')) w
          (subst (λ (x : Idle). Cleared c (blank_header c x.timeout x.lateness word) (view c s) (view c s')) i k),
    );
  }

-- ## "Opening, unrefused, leaves a sound state with the settings asked for, every clock 0 and no flow open"

header_fits : (c : ℕ) (ms : Millis) (resolution : TimeResolution) → c ≤ 4096 → HeaderFits (opened_header c ms resolution)
header_fits c ms resolution m = record {
  layout = omega arith;
  capacity = omega arith;
  timeout = omega arith;
  lateness = omega arith;
  resolution = omega (arith, resolution_fits resolution);
  clock = omega arith;
}

module _ (c : ℕ) (ms : Millis) (resolution : TimeResolution) (v : View) (s : List ℕ) (small : ms.0 < 2 ^ 64) (some : 1 ≤ c) (most : c ≤ 4096)
    (long : 256 + 640 * c ≤ length s) (k : Cleared c (opened_header c ms resolution) v (view c s)) where
  header_is : header_in s ≡ opened_header c ms resolution
  header_is = cleared_header c (opened_header c ms resolution) v (view c s) k (header_fits c ms resolution most)

  capacity_is : capacity_in s ≡ c
  capacity_is = ap (λ (h : Header). h.capacity) header_is

  unused : (i : ℕ) → i < c → is_used (slot s i) ≡ false
  unused i l = ap is_used (sym (slot_view s c i l)) ∙ cleared_free c (opened_header c ms resolution) v (view c s) k i l

  -- the flows of slots that are not used
  no_flows : (n : ℕ) → ((i : ℕ) → i < n → is_used (slot s i) ≡ false) → SoundFlows s n
  unfolding NoKeyTwice
  no_flows n free = record {
    slots = λ i l u. absurd (false≢true (sym (free i l) ∙ u));
    once = λ i j l m u w. absurd (false≢true (sym (free i l) ∙ u));
    not_reversed = record { alone = λ i j l m u w. absurd (false≢true (sym (free i l) ∙ u)) };
  }

  nothing_queued : (T i : ℕ) → i < c → Queued T (slot s i) (due_of c (view c s).tree i)
  nothing_queued T i l =
      let d = (cleared_queue c (opened_header c ms resolution) v (view c s) k).none i l in
      record {
        empty = λ z. d;
        nothing_else = λ z. d;
        named = λ z u. absurd (false≢true (sym (unused i l) ∙ u));
        early = λ z u. absurd (false≢true (sym (unused i l) ∙ u));
      }

  header_sound : SoundHeader (opened_header c ms resolution) (length s)
  header_sound = record {
    layout = refl;
    some = some;
    most = most;
    long = long;
    timeout = record { timeout = ms; small = small; gives = refl };
    lateness = refl;
    resolution = resolution_fits resolution;
    still = λ z. refl;
  }

  pub opened_sound : Sound s
  opened_sound = record {
    header = subst (λ (h : Header). SoundHeader h (length s)) (sym header_is) header_sound;
    flows = subst (SoundFlows s) (sym capacity_is) (no_flows c unused);
    tree =
        subst (λ (n : ℕ). Tree.Sound (view n s).tree n) (sym capacity_is)
        (cleared_queue c (opened_header c ms resolution) v (view c s) k).sound;
    queue =
        subst (λ (n : ℕ). (i : ℕ) → i < n → Queued (header_in s).timeout.0 (slot s i) (due_of n (view n s).tree i)) (sym capacity_is)
        (nothing_queued (header_in s).timeout.0);
  }

  pub opened_settings : settings_in s ≡ settings ms resolution c
  unfolding settings_of
  opened_settings =
      ap settings_of header_is
      ∙ ap (λ (r : TimeResolution). record { T = timeout_of ms; L = lateness_of (timeout_of ms); resolution = r; capacity = c }) (resolution_back resolution)

  nothing_open : occupied engine (slots_of (slots s c)) ≡ []
  unfolding slots_of
  nothing_open = go (slots s c) (λ i l. ap is_used (get_d_slots s c i (omega (arith, length_slots s c 0))) ∙ unused i (omega (arith, length_slots s c 0)))
    where
      go : (l : List (List ℕ)) → ((i : ℕ) → i < length l → is_used (get_or l i []) ≡ false) → occupied engine (slots_of l) ≡ []
      go [] free = refl
      go (b ∷ l) free = rw (free_flow b (free 0 (omega arith))) (go l (λ i h. free (suc i) (omega arith)))

  pub opened_fresh : meaning s ≡ fresh engine
  unfolding meaning
  opened_fresh = λ t. record {
    clock = ap (λ (h : Header). h.clock.0) header_is t;
    flows = sort (by_key engine) ((ap (λ (n : ℕ). occupied engine (slots_of (slots s n))) capacity_is ∙ nothing_open) t);
  }
