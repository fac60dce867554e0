-- The verdict is given: the packet is taken, or where it is refused the plan of its sweep is undone. Assumes nothing.
use Rattle.packet.proofs.Sizes.{some_number}
use Rattle.std.specs.Prelude.{Option, None, Some}
use Rattle.forms.specs.Refusals.{stop_number}
use Rattle.forms.specs.declared.refusal.Refusal.{Refusal}
use Prim.Native.Nat.{ℕ}
use mathlib.Core.Path.{◌≡◌, refl, sym, ap, ◌∙◌, subst}
use mathlib.Core.Bool.{false, false≢true}
use mathlib.Core.List.{List, [], ◌∷◌}
use native.Mathlib.Omega.{arith}
use borrow.Author.Tests.{eq-eqb}
use lib.ListN.{length, take, length-take}
use Rattle.slots.specs.Table.{slots}
use Rattle.table.specs.View.{View, view, slot_of}
use Rattle.table.specs.Header.{header_of}
use Rattle.rules.specs.Totals.{All}
use Rattle.rules.specs.Rules.{Flow}
use Rattle.rules.specs.Engine.{engine}
use Rattle.state.specs.Slot.{flow_in}
use Rattle.state.specs.State.{header_in, slots_of}
use Rattle.state.specs.Names.{NamesAllBut}
use Rattle.state.specs.Change.{ready_same}
use Rattle.plan.specs.Plan.{leaves_by, Leaving}
use Rattle.hand.specs.Act.{Asked, PutBack}
use Rattle.hand.specs.Freed.{open_sound}
use Rattle.decide.specs.Decide.{Chosen}
use Rattle.decide.specs.Settle.{SlotSound}
use Rattle.decide.specs.declared.decide.Decision.{Decision}
use Rattle.act.specs.Size.{long_enough}
use Rattle.sweeps.specs.StateLaws.{slots_same, left_queue}
use Rattle.packet.specs.declared.Step.{Step}
use Rattle.packet.specs.Doing.{verdict_on, VerdictAsked, PlanStands, Stepped, CarryAsked, PerformAsked, Performed, refused_step, CarriedOut}
use Rattle.packet.proofs.Sizes.{verdict_zero}
use Rattle.packet.proofs.Leaving.{open_slots}

module _ (c T L w : ℕ) (s l : List ℕ) (n : ℕ) (d : Decision) (bytes index free : List ℕ) (ask : CarryAsked c T L w s l n d bytes index free) where
  abbrev stands : PlanStands c T L w s l n index free
  stands = ask.stands

  abbrev choice : Chosen s c T L w ask.decision.packet d.ended d.slot ask.decision.decided.direction
  choice = ask.decision.decided.chosen

  ended_there : SlotSound s d.ended
  ended_there i e = record {
    size = omega (arith, stands.size, (choice.ended_sits i e).low);
    sound = stands.ready.flows.slots i (choice.ended_sits i e).low (choice.ended_sits i e).used;
  }

  pub carry_verdict : VerdictAsked c s l n d
  carry_verdict = record {
    listed = record {
      size = stands.size;
      most = stands.most;
      few = stands.few;
      long = stands.long;
      slots = open_sound s c (take n l) stands.ready.flows (open_slots c T L w s l n index free stands);
    };
    sound = ended_there;
  }

  -- with timeout 0 nothing leaves
  none_leaves : T ≡ 0 → n ≡ 0
  none_leaves z = go (take n l) refl stands.plan.slots
    where
      stays : (f : Flow engine) → leaves_by T L w f ≡ false
      stays f = rw (eq-eqb T 0 z)

      go : (m : List ℕ) → m ≡ take n l → All (Leaving c (leaves_by T L w) (view c s).table (view c s).tree) m → n ≡ 0
      go [] e k = omega (arith, stands.long, ap length e, length-take n l)
      go (x ∷ m) e k = absurd (false≢true (sym (stays (flow_in (slot_of (view c s).table x))) ∙ k.0.leaves))

  -- the queue can name the listed slots again
  pub carry_puts : Asked c T s l n
  carry_puts = record {
    size = stands.size;
    most = stands.most;
    few = stands.few;
    long = stands.long;
    none = none_leaves;
    slots = open_slots c T L w s l n index free stands;
    names = stands.plan.names;
  }

  module _ (s' : List ℕ) (back : PutBack c T (view c s) (view c s')) where
    table_same : (view c s').table ≡ (view c s).table
    table_same = ap (λ (v : View). v.table) back.same

    names_all : NamesAllBut c T (view c s').table (view c s').tree []
    names_all = subst (λ (m : List (List ℕ)). NamesAllBut c T m (view c s').tree []) (sym table_same) back.names

    put_stepped : Stepped c T (header_in s).clock.0 s s' index free (slots_of (slots s c))
    put_stepped = record {
      busy = record {
        size = long_enough s' c stands.some back.names.sound.size;
        some = stands.some;
        most = stands.most;
        ready = ready_same s s' c index free stands.ready (slots_same s s' c table_same);
        names = names_all;
      };
      slots_are = ap slots_of table_same;
      header = ap (λ (v : View). header_of v.header) back.same;
      left = left_queue (view c s) (view c s') back.same back.spare;
    }

  module _ (room : List ℕ) (verdict : Option Refusal) (told : stop_number verdict ≡ verdict_on s c (take n l) d (length room)) where
    pub carry_performs : verdict ≡ None → PerformAsked c T L w s l n d bytes index free room
    carry_performs z =
        let (accepted, fits) = verdict_zero s c (take n l) d (length room) (sym told ∙ ap stop_number z) in
        record { carry = ask; accepted = accepted; fits = fits }

    pub carried_taken : verdict ≡ None → (step : Step) (s' out index' free' : List ℕ) → Performed c T L w s (take n l) d room step s' out index' free'
        → CarriedOut c T L w s (take n l) d room step s' out index' free'
    carried_taken z step s' out index' free' done = record { taken = λ q. done; refused = λ m. absurd (m (sym told ∙ ap stop_number z)) }

    pub carried_refused : (why : Refusal) → verdict ≡ Some why → (s' : List ℕ) → PutBack c T (view c s) (view c s') → (step : Step) → step ≡ refused_step why
        → CarriedOut c T L w s (take n l) d room step s' room index free
    carried_refused why v s' back step e = record {
      taken = λ q. absurd (some_number why (sym (ap stop_number v) ∙ told ∙ q));
      refused = λ k. record {
        number_is = ap (λ (x : Step). stop_number x.refusal) e ∙ sym (ap stop_number v) ∙ told;
        nothing = (ap (λ (x : Step). x.opened) e, ap (λ (x : Step). x.records) e, ap (λ (x : Step). x.bytes) e);
        stepped = put_stepped s' back;
        output = refl;
      };
    }
