-- Steps 1 and 2 on slots are those of the rules. Assumes nothing.
use Rattle.std.specs.Prelude.{None, Option, Some, is_some}
use mathlib.Core.Path.{◌≡◌, refl, sym, ap, ◌∙◌, subst}
use mathlib.Core.Bool.{Bool, true, false, not, cond, ◌&&◌, ◌||◌, false≢true}
use mathlib.Core.List.{List}
use Prim.Native.Nat.{ℕ}
use native.Mathlib.Omega.{arith}
use lib.Dec.{eqb}
use lib.ListN.{get_or, set}
use lib.Seq.{get_or-set_other}
use borrow.Author.Tests.{eqb-true, eqb-false}
use Rattle.slots.specs.Table.{slot, slots}
use Rattle.flow.specs.declared.record.Direction.TheVariants.{Forward, Reverse}
use Rattle.key.specs.Endpoints.{has_reverse_direction}
use Rattle.key.specs.Key.{reversed_key}
use Rattle.wire.specs.declared.packet.Packet.{Packet}
use Rattle.rules.specs.Rules.{Flow, under, if_closed, or_else, apart, chosen}
use Rattle.rules.specs.Engine.{engine, key_bytes, both_fins}
use Rattle.rules.specs.Slots.{Slots, meaning}
use Rattle.rules.proofs.SlotsLaws.{freed}
use Rattle.state.specs.Slot.{flow_in, record_in}
use Rattle.state.specs.State.{SoundFlows}
use Rattle.hand.specs.Acting.{at, emptied_at}
use Rattle.decide.specs.declared.choose.Choice.{Choice}
use Rattle.decide.specs.Search.{FoundStaying}
use Rattle.decide.specs.Choose.{if_closed_at, first_found, reused_at, unless_ended, taken_by, choice_at, TurnedIf}
use Rattle.decide.specs.Decide.{staying_slots, Stays, ended_flow, left_flows, taker_on, taker_of, DecideAsked, Chosen}
use Rattle.decide.proofs.Finding.{still_found, still_missing, none_here}
use Rattle.decide.proofs.Staying.{sits_flow, distinct_staying}

nowhere : {A : Type 0} {i : ℕ} → None ≡ Some i → A
nowhere e = absurd (let z : ◌≡◌ {A = ℕ} 0 1 = cc in omega arith)

same_place : {i j : ℕ} → Some i ≡ Some j → i ≡ j
same_place e = cc

-- ## Slots that were found

-- without the ended one, the flow is what the emptied slots have
unless_at : (l : Slots engine) (e r : Option ℕ) → at (emptied_at e l) (unless_ended r e) ≡ at (emptied_at e l) r
unless_at l (Some j) (Some i) = go (eqb i j) refl
  where
    go : (b : Bool) → eqb i j ≡ b → at (set l j None) (cond b None (Some i)) ≡ get_or (set l j None) i None
    go true q = sym (ap (λ (x : ℕ). get_or (set l j None) x None) (eqb-true i j q) ∙ none_here engine l j)
    go false q = refl
unless_at l None (Some i) = refl
unless_at l (Some j) None = refl
unless_at l None None = refl

-- it is another slot
unless_apart : (e r : Option ℕ) (i : ℕ) → unless_ended r e ≡ Some i → e ≡ Some i → ⊥
unless_apart (Some j) (Some k) i q z = go (eqb k j) refl q
  where
    go : (b : Bool) → eqb k j ≡ b → cond b None (Some k) ≡ Some i → ⊥
    go true t y = nowhere y
    go false t y = eqb-false k j t (same_place y ∙ sym (same_place z))
unless_apart None r i q z = nowhere z
unless_apart (Some j) None i q z = nowhere q

-- the slot is one of those that were found, or none
taken_slot : (P : Option ℕ → Type 0) (e own : Option ℕ) (two : Bool) (turned : Option ℕ) → P own → P turned → P None → P (taken_by e own two turned).slot
taken_slot P e (Some i) two turned a b z = a
taken_slot P e None true (Some i) a b z = b
taken_slot P e None true None a b z = z
taken_slot P e None false turned a b z = z

taken_ended : (e own : Option ℕ) (two : Bool) (turned : Option ℕ) → (taken_by e own two turned).ended ≡ e
taken_ended e (Some i) two turned = refl
taken_ended e None true (Some i) = refl
taken_ended e None true None = refl
taken_ended e None false turned = refl

-- a flow opens forward
taken_forward : (e own : Option ℕ) (two : Bool) (turned : Option ℕ) → (taken_by e own two turned).slot ≡ None → (taken_by e own two turned).direction ≡ Forward
taken_forward e (Some i) two turned q = refl
taken_forward e None true (Some i) q = nowhere (sym q)
taken_forward e None true None q = refl
taken_forward e None false turned q = refl

-- ## The flow of each slot that was found

module _ (s : List ℕ) (c T L w : ℕ) where
  -- the slots as the sweep will leave them
  abbrev table : Slots engine
  table = staying_slots T L w (slots s c)

  -- a slot that was found has a flow that stays
  abbrev pub Sits : Option ℕ → Type 0
  Sits r = (i : ℕ) → r ≡ Some i → Stays s c T L w i

  sits_nothing : Sits None
  sits_nothing i e = nowhere e

  pub turned_sits : (needed : Bool) (bytes : List ℕ) (r : Option ℕ) → TurnedIf needed s c T L w bytes r → Sits r
  turned_sits true bytes r h = (h.found refl).sits
  turned_sits false bytes r h = λ i e. nowhere (sym (h.unasked refl) ∙ e)

  flow_at : (i : ℕ) → Sits (Some i) → get_or table i None ≡ Some (flow_in (slot s i))
  flow_at i h = sits_flow s c T L w i (h i refl)

  -- the flow, if it has seen both FINs
  closed_at : (r : Option ℕ) → Sits r → at table (if_closed_at s r) ≡ if_closed engine (at table r)
  unfolding flow_in
  closed_at (Some i) h =
      go (both_fins (record_in (slot s i))) ∙ ap (if_closed engine) (sym (flow_at i h))
    where
      go : (b : Bool) → at table (cond b (Some i) None) ≡ cond b (Some (flow_in (slot s i))) None
      go true = flow_at i h
      go false = refl
  closed_at None h = refl

  closed_sits : (r : Option ℕ) → Sits r → Sits (if_closed_at s r)
  closed_sits (Some i) h = go (both_fins (record_in (slot s i)))
    where
      go : (b : Bool) → Sits (cond b (Some i) None)
      go true = h
      go false = sits_nothing
  closed_sits None h = h

  -- the first of two
  first_at : (a b : Option ℕ) → Sits a → at table (first_found a b) ≡ or_else engine (at table a) (at table b)
  first_at (Some i) b h = flow_at i h ∙ ap (λ (o : Option (Flow engine)). or_else engine o (at table b)) (sym (flow_at i h))
  first_at None b h = refl

  first_sits : (a b : Option ℕ) → Sits a → Sits b → Sits (first_found a b)
  first_sits (Some i) b h k = h
  first_sits None b h k = k

  -- ## Step 1

  reused_sits : (syn : Bool) (own turned : Option ℕ) → Sits own → Sits turned → Sits (reused_at s syn own turned)
  reused_sits true own turned h k = first_sits (if_closed_at s own) (if_closed_at s turned) (closed_sits own h) (closed_sits turned k)
  reused_sits false own turned h k = sits_nothing

  -- what it ends, by what is under the key and under the reversed key
  reused_at_lem : (p : Packet) (own turned : Option ℕ) → Sits own → Sits turned → at table own ≡ under engine (key_bytes p.key) (meaning engine table)
      → at table turned ≡ under engine (key_bytes (reversed_key p.key)) (meaning engine table)
      → at table (first_found (if_closed_at s own) (if_closed_at s turned))
      ≡ or_else engine (if_closed engine (under engine (key_bytes p.key) (meaning engine table)))
      (if_closed engine (under engine (key_bytes (reversed_key p.key)) (meaning engine table)))
  reused_at_lem p own turned h k a b =
      first_at (if_closed_at s own) (if_closed_at s turned) (closed_sits own h)
      ∙ (λ t. or_else engine ((closed_at own h ∙ ap (if_closed engine) a) t) ((closed_at turned k ∙ ap (if_closed engine) b) t))

  -- ## The slots without the flow that step 1 ended

  pub emptied_meaning : (e : Option ℕ) (g : Option (Flow engine)) → SoundFlows s c → Sits e → at table e ≡ g
      → meaning engine (emptied_at e table) ≡ apart engine g (meaning engine table)
  emptied_meaning (Some i) g flows h q =
      freed engine table i (flow_in (slot s i)) (flow_at i h) (distinct_staying s c T L w flows)
      ∙ ap (λ (o : Option (Flow engine)). apart engine o (meaning engine table)) (sym (flow_at i h) ∙ q)
  emptied_meaning None g flows h q = ap (λ (o : Option (Flow engine)). apart engine o (meaning engine table)) q

  -- what was found under a key is found there still
  emptied_found : (k : List ℕ) (e r : Option ℕ) → SoundFlows s c → at table r ≡ under engine k (meaning engine table)
      → at (emptied_at e table) r ≡ under engine k (meaning engine (emptied_at e table))
  emptied_found k (Some j) (Some i) flows q = still_found engine table k i j (distinct_staying s c T L w flows) q
  emptied_found k (Some j) None flows q = still_missing engine table k j q
  emptied_found k None r flows q = q

  unless_sits : (e r : Option ℕ) → Sits r → Sits (unless_ended r e)
  unless_sits (Some j) (Some i) h = go (eqb i j)
    where
      go : (b : Bool) → Sits (cond b None (Some i))
      go true = sits_nothing
      go false = h
  unless_sits None (Some i) h = h
  unless_sits e None h = h

  -- another slot that stays has its flow still
  pub left_flow : (e : Option ℕ) (i : ℕ) → Stays s c T L w i → (e ≡ Some i → ⊥) → get_or (emptied_at e table) i None ≡ Some (flow_in (slot s i))
  left_flow (Some j) i h n =
      get_or-set_other table j i None None (λ q. n (ap Some (sym q))) ∙ sits_flow s c T L w i h
  left_flow None i h n = sits_flow s c T L w i h

  -- ## Step 2

  -- the slots that were found have their flows in a table
  abbrev Holds : Slots engine → Option ℕ → Type 0
  Holds l r = (i : ℕ) → r ≡ Some i → get_or l i None ≡ Some (flow_in (slot s i))

  -- what takes the packet, by what was found
  taken_at : (l : Slots engine) (e own : Option ℕ) (two : Bool) (turned : Option ℕ) → Holds l own → Holds l turned
      → taker_of (at l (taken_by e own two turned).slot) (taken_by e own two turned).direction ≡ chosen engine (at l own) (not two) (at l turned)
  taken_at l e (Some i) two turned h k =
      ap (λ (o : Option (Flow engine)). taker_of o Forward) (h i refl)
      ∙ sym (ap (λ (o : Option (Flow engine)). chosen engine o (not two) (at l turned)) (h i refl))
  taken_at l e None true (Some i) h k =
      ap (λ (o : Option (Flow engine)). taker_of o Reverse) (k i refl)
      ∙ sym (ap (chosen engine None false) (k i refl))
  taken_at l e None true None h k = refl
  taken_at l e None false turned h k = refl

-- the reversed key matters only where the key has no flow and its endpoints are not one-way
chosen_same : (o : Option (Flow engine)) (a : Bool) (x y : Option (Flow engine)) → (a ≡ false → o ≡ None → x ≡ y) → chosen engine o a x ≡ chosen engine o a y
chosen_same (Some f) a x y h = refl
chosen_same None true x y h = refl
chosen_same None false x y h = ap (chosen engine None false) (h refl refl)

-- where the search under the reversed key is not made, SYN is not set, and the key has a flow if its endpoints are not one-way
not_needed : (syn two found : Bool) → (syn || (two && not found)) ≡ false → not two ≡ false → (syn ≡ false) × (found ≡ true)
not_needed true two found e q = absurd (false≢true (sym e))
not_needed false true true e q = (refl, refl)
not_needed false true false e q = absurd (false≢true (sym e))
not_needed false false found e q = absurd (false≢true (sym q))

-- ## Both steps

module _ (s : List ℕ) (c T L w : ℕ) (index : List ℕ) (p : Packet) (bytes : List ℕ) (ask : DecideAsked s c index p bytes) (own turned : Option ℕ)
    (syn two there : Bool) (syn-is : syn ≡ engine.syn p) (two_is : two ≡ has_reverse_direction p.key.endpoints)
    (first : FoundStaying s c T L w bytes own) (there-is : there ≡ is_some own)
    (second : TurnedIf (syn || (two && not there)) s c T L w (key_bytes (reversed_key p.key)) turned) where
  abbrev before : Slots engine
  before = staying_slots T L w (slots s c)

  abbrev gone : Option ℕ
  gone = reused_at s syn own turned

  abbrev after : Slots engine
  after = emptied_at gone before

  own_under : at before own ≡ under engine (key_bytes p.key) (meaning engine before)
  own_under = first.under ∙ ap (λ (k : List ℕ). under engine k (meaning engine before)) ask.key

  second_sits : Sits s c T L w turned
  second_sits = turned_sits s c T L w (syn || (two && not there)) (key_bytes (reversed_key p.key)) turned second

  gone_sits : Sits s c T L w gone
  gone_sits = reused_sits s c T L w syn own turned first.sits second_sits

  -- step 1 of the rules, by whether SYN is set
  abbrev ended_by : Bool → Option (Flow engine)
  ended_by set =
      cond set
      (or_else engine (if_closed engine (under engine (key_bytes p.key) (meaning engine before)))
      (if_closed engine (under engine (key_bytes (reversed_key p.key)) (meaning engine before))))
      None

  gone_is : at before gone ≡ ended_flow p before
  gone_is = go syn refl ∙ ap ended_by syn-is
    where
      go : (b : Bool) → syn ≡ b → at before gone ≡ ended_by syn
      go true e =
          ap (λ (x : Bool). at before (reused_at s x own turned)) e
          ∙ reused_at_lem s c T L w p own turned first.sits second_sits own_under (second.found (ap (λ (x : Bool). x || (two && not there)) e)).under
          ∙ sym (ap ended_by e)
      go false e = ap (λ (x : Bool). at before (reused_at s x own turned)) e ∙ sym (ap ended_by e)

  left_is : meaning engine after ≡ left_flows p before
  left_is = emptied_meaning s c T L w gone (ended_flow p before) ask.flows gone_sits gone_is

  -- what is found under a key when step 1 is done
  found_left : (k : List ℕ) (r : Option ℕ) → at before r ≡ under engine k (meaning engine before) → at after (unless_ended r gone) ≡ under engine k (left_flows p before)
  found_left k r q =
      unless_at before gone r ∙ emptied_found s c T L w k gone r ask.flows q
      ∙ ap (under engine k) left_is

  -- a slot that was found and did not end has its flow
  holds_left : (r : Option ℕ) → Sits s c T L w r → Holds s c T L w after (unless_ended r gone)
  holds_left r h i q = left_flow s c T L w gone i (unless_sits s c T L w gone r h i q) (unless_apart gone r i q)

  -- where the reversed key was not looked for, it does not matter
  turned_left : not two ≡ false → at after (unless_ended own gone) ≡ None
      → at after (unless_ended turned gone) ≡ under engine (key_bytes (reversed_key p.key)) (left_flows p before)
  turned_left both q = go (syn || (two && not there)) refl
    where
      own_there : (r : Option ℕ) (e : Option ℕ) → is_some r ≡ true → e ≡ None → Sits s c T L w r → at (emptied_at e before) (unless_ended r e) ≡ None → ⊥
      own_there (Some i) (Some j) f z h y = nowhere (sym z)
      own_there (Some i) None f z h y =
          let e = sym (flow_at s c T L w i h) ∙ y in
          let n : ◌≡◌ {A = ℕ} 0 1 = cc in
          omega arith
      own_there None e f z h y = false≢true f

      go : (b : Bool) → (syn || (two && not there)) ≡ b
          → at after (unless_ended turned gone) ≡ under engine (key_bytes (reversed_key p.key)) (left_flows p before)
      go true e = found_left (key_bytes (reversed_key p.key)) turned (second.found e).under
      go false e =
          let (unset, seen) = not_needed syn two there e both in
          absurd (own_there own gone (sym there-is ∙ seen) (ap (λ (x : Bool). reused_at s x own turned) unset) first.sits q)

  taker_left : chosen engine (at after (unless_ended own gone)) (not two) (at after (unless_ended turned gone)) ≡ taker_on p before
  taker_left =
      chosen_same (at after (unless_ended own gone)) (not two) (at after (unless_ended turned gone))
      (under engine (key_bytes (reversed_key p.key)) (left_flows p before)) turned_left
      ∙ (λ t.
      chosen engine (found_left (key_bytes p.key) own own_under t) (not (two_is t)) (under engine (key_bytes (reversed_key p.key)) (left_flows p before)))

  abbrev choice : Choice
  choice = taken_by gone (unless_ended own gone) two (unless_ended turned gone)

  choice_chosen : Chosen s c T L w p gone choice.slot choice.direction
  choice_chosen = record {
    ended_is = gone_is;
    ended_sits = gone_sits;
    slot_sits =
        taken_slot (Sits s c T L w) gone (unless_ended own gone) two (unless_ended turned gone) (unless_sits s c T L w gone own first.sits)
        (unless_sits s c T L w gone turned second_sits) (sits_nothing s c T L w);
    apart =
        taken_slot (λ r. (i : ℕ) → r ≡ Some i → gone ≡ Some i → ⊥) gone (unless_ended own gone) two (unless_ended turned gone)
        (unless_apart gone own) (unless_apart gone turned) (λ i q z. nowhere q);
    taker_is =
        taken_at s c T L w after gone (unless_ended own gone) two (unless_ended turned gone) (holds_left own first.sits) (holds_left turned second_sits)
        ∙ taker_left;
    opens_forward = taken_forward gone (unless_ended own gone) two (unless_ended turned gone);
  }

  pub choice_told : (r : Choice) → r ≡ choice_at s syn own two turned → Chosen s c T L w p r.ended r.slot r.direction
  unfolding choice_at
  choice_told r e =
      subst (λ (x : Choice). Chosen s c T L w p x.ended x.slot x.direction) (sym e)
      (subst (λ (x : Option ℕ). Chosen s c T L w p x choice.slot choice.direction)
      (sym (taken_ended gone (unless_ended own gone) two (unless_ended turned gone))) choice_chosen)
