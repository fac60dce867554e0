-- The bytes of the records that a packet finishes, and the verdict. Assumes nothing.
use Rattle.forms.specs.Refusals.{refusal_number, stop_number}
use Rattle.forms.specs.declared.refusal.Refusal.{Refusal}
use Rattle.std.specs.Prelude.{None, Option, Some}
use Prim.Native.Nat.{ℕ, ◌+◌, ◌-◌, ◌≤◌, ◌<◌}
use mathlib.Core.Path.{◌≡◌, refl, sym, ap, ◌∙◌}
use mathlib.Core.Bool.{Bool, true, false, cond}
use mathlib.Core.List.{List, ◌++◌}
use native.Mathlib.Omega.{arith}
use borrow.Author.Tests.{le-leb, lt-leb, leb-true, leb-false, eq-eqb, ne_eqb, eqb-true, eqb-false}
use lib.Dec.{leb, eqb}
use lib.ListN.{length}
use Rattle.forms.specs.Length.{Sized}
use Rattle.slots.specs.Table.{slot}
use Rattle.key.specs.declared.key.FlowKey.{FlowKey}
use Rattle.flow.specs.declared.time.EndReason.{EndReason}
use Rattle.flow.specs.declared.time.EndReason.TheVariants.{Fin}
use Rattle.flow.specs.declared.record.FlowRecord.{FlowRecord}
use Rattle.wire.specs.declared.record.Flow as Wire
use Rattle.wire.specs.RecordForm.{record_bytes}
use Rattle.rules.proofs.BatchLaws.{sizes_both}
use Rattle.rules.specs.Rules.{ended_for, finish_or, sizes}
use Rattle.rules.specs.Engine.{engine, both_fins, finished_flow}
use Rattle.state.specs.Slot.{flow_in}
use Rattle.hand.specs.Slot.{flow_as}
use Rattle.decide.specs.declared.decide.Decision.{Decision}
use Rattle.act.specs.Keep.{flow_under}
use Rattle.packet.specs.Doing.{swept_by, ended_by, taken_by, finished_by, verdict_on}

-- ## Sums

pub finished_sizes : (s : List ℕ) (c : ℕ) (listed : List ℕ) (d : Decision)
    → sizes engine (finished_by s c listed d) ≡ sizes engine (swept_by s c listed) + (sizes engine (ended_by s d.ended) + sizes engine (taken_by d))
finished_sizes s c listed d =
    omega (arith, sizes_both engine (swept_by s c listed) (ended_by s d.ended ++ taken_by d), sizes_both engine (ended_by s d.ended) (taken_by d))

-- ## The record that step 1 finishes

-- Fin, whether or not both FINs were seen
fin_either : (b : Bool) → cond b Fin Fin ≡ Fin
fin_either true = refl
fin_either false = refl

pub ended_measured : (s : List ℕ) (found : Option ℕ) (i : ℕ) → found ≡ Some i → (f : Wire.Flow) → f ≡ flow_as (finish_or engine Fin (flow_in (slot s i)))
    → (r : ℕ) → Sized (record_bytes f) 473 r → r ≡ sizes engine (ended_by s found)
ended_measured s found i e f is r z =
    let g = flow_in (slot s i) in
    let same : length (record_bytes f) ≡ length (record_bytes (finished_flow g.name Fin g.held)) =
    ap (λ (x : Wire.Flow). length (record_bytes x)) is
    ∙ ap (λ (x : EndReason). length (record_bytes (finished_flow g.name x g.held))) (fin_either (both_fins g.held)) in
    let all : sizes engine (ended_by s found) ≡ length (record_bytes (finished_flow g.name Fin g.held)) + 0 =
    ap (λ (x : Option ℕ). sizes engine (ended_by s x)) e in
    omega (arith, z.length_is, same, all)

pub nothing_ended : (s : List ℕ) (found : Option ℕ) → found ≡ None → 0 ≡ sizes engine (ended_by s found)
nothing_ended s found e = sym (ap (λ (x : Option ℕ). sizes engine (ended_by s x)) e)

-- ## The record that step 4 finishes

module _ (name : FlowKey) (held : FlowRecord) (reason : Option EndReason) where
  pub ending_measured : (why : EndReason) → reason ≡ Some why → (f : Wire.Flow) → f ≡ finished_flow name why held → (r : ℕ) → Sized (record_bytes f) 473 r
      → r ≡ sizes engine (ended_for engine reason (flow_under name held))
  ending_measured why e f is r z =
      let same : length (record_bytes f) ≡ length (record_bytes (finished_flow name why held)) = ap (λ (x : Wire.Flow). length (record_bytes x)) is in
      let all : sizes engine (ended_for engine reason (flow_under name held)) ≡ length (record_bytes (finished_flow name why held)) + 0 =
      ap (λ (x : Option EndReason). sizes engine (ended_for engine x (flow_under name held))) e in
      omega (arith, z.length_is, same, all)

  pub nothing_ends : reason ≡ None → 0 ≡ sizes engine (ended_for engine reason (flow_under name held))
  nothing_ends e = sym (ap (λ (x : Option EndReason). sizes engine (ended_for engine x (flow_under name held))) e)

-- ## Whether three sizes fit

module _ (room first second third : ℕ) where
  pub first_over : room < first → false ≡ leb (first + (second + third)) room
  first_over h = sym (lt-leb (first + (second + third)) room (omega arith))

  pub second_over : first ≤ room → room - first < second → false ≡ leb (first + (second + third)) room
  second_over g h = sym (lt-leb (first + (second + third)) room (omega arith))

  pub third_tells : first ≤ room → second ≤ room - first → leb third (room - first - second) ≡ leb (first + (second + third)) room
  third_tells g h = go (leb third (room - first - second)) refl
    where
      go : (b : Bool) → leb third (room - first - second) ≡ b → b ≡ leb (first + (second + third)) room
      go true e = sym (le-leb (first + (second + third)) room (omega (arith, leb-true third (room - first - second) e)))
      go false e = sym (lt-leb (first + (second + third)) room (omega (arith, leb-false third (room - first - second) e)))

-- ## The verdict

-- a refusal's number is not 0
pub some_number : (why : Refusal) → refusal_number why ≡ 0 → ⊥
some_number Refusal.Capacity e = omega arith
some_number Refusal.Memory e = omega arith
some_number Refusal.Damaged e = omega arith
some_number Refusal.Packet e = omega arith
some_number Refusal.Full e = omega arith
some_number Refusal.Spent e = omega arith
some_number Refusal.Room e = omega arith
some_number Refusal.Record e = omega arith
some_number Refusal.Short e = omega arith

module _ (s : List ℕ) (c : ℕ) (listed : List ℕ) (d : Decision) (room : ℕ) where
  pub verdict_refused : ((stop_number d.refusal) ≡ 0 → ⊥) → (stop_number d.refusal) ≡ verdict_on s c listed d room
  verdict_refused n =
      sym (ap (λ (b : Bool). cond b (cond (leb (sizes engine (finished_by s c listed d)) room) 0 7) (stop_number d.refusal)) (ne_eqb (stop_number d.refusal) 0 n))

  pub verdict_given : (why : Refusal) → d.refusal ≡ Some why → refusal_number why ≡ verdict_on s c listed d room
  verdict_given why e = sym (ap stop_number e) ∙ verdict_refused (λ z. some_number why (sym (ap stop_number e) ∙ z))

  -- the packet is not refused yet, and its records are measured
  module _ (accepted : stop_number d.refusal ≡ 0) (first second third : ℕ) (e1 : first ≡ sizes engine (swept_by s c listed)) (e2 : second ≡ sizes engine (ended_by s d.ended))
      (e3 : third ≡ sizes engine (taken_by d)) (b : Bool) (test : b ≡ leb (first + (second + third)) room) where
    measured : sizes engine (finished_by s c listed d) ≡ first + (second + third)
    measured = omega (arith, finished_sizes s c listed d)

    by_test : verdict_on s c listed d room ≡ cond b 0 7
    by_test =
        ap (λ (x : Bool). cond x (cond (leb (sizes engine (finished_by s c listed d)) room) 0 7) (stop_number d.refusal)) (eq-eqb (stop_number d.refusal) 0 accepted)
        ∙ ap (λ (k : ℕ). cond {A = ℕ} (leb k room) 0 7) measured ∙ ap (λ (x : Bool). cond {A = ℕ} x 0 7) (sym test)

    pub verdict_taken : b ≡ true → 0 ≡ verdict_on s c listed d room
    verdict_taken e = sym (by_test ∙ ap (λ (x : Bool). cond {A = ℕ} x 0 7) e)

    pub verdict_room : b ≡ false → 7 ≡ verdict_on s c listed d room
    verdict_room e = sym (by_test ∙ ap (λ (x : Bool). cond {A = ℕ} x 0 7) e)

  -- what the verdict says
  pub verdict_zero : verdict_on s c listed d room ≡ 0 → ((stop_number d.refusal) ≡ 0) × (sizes engine (finished_by s c listed d) ≤ room)
  verdict_zero z = go (eqb (stop_number d.refusal) 0) refl (leb (sizes engine (finished_by s c listed d)) room) refl z
    where
      go : (a : Bool) → eqb (stop_number d.refusal) 0 ≡ a → (b : Bool) → leb (sizes engine (finished_by s c listed d)) room ≡ b
          → cond a (cond b 0 7) (stop_number d.refusal) ≡ 0 → ((stop_number d.refusal) ≡ 0) × (sizes engine (finished_by s c listed d) ≤ room)
      go true e true q h = (eqb-true (stop_number d.refusal) 0 e, leb-true (sizes engine (finished_by s c listed d)) room q)
      go true e false q h = absurd (omega arith)
      go false e b q h = absurd (eqb-false (stop_number d.refusal) 0 e h)

  -- a packet that the decision accepts is refused only for want of room
  pub verdict_seven : (verdict_on s c listed d room ≡ 0 → ⊥) → (stop_number d.refusal) ≡ 0
      → (verdict_on s c listed d room ≡ 7) × (leb (sizes engine (finished_by s c listed d)) room ≡ false)
  verdict_seven n z = go (leb (sizes engine (finished_by s c listed d)) room) refl
    where
      is : (b : Bool) → leb (sizes engine (finished_by s c listed d)) room ≡ b → verdict_on s c listed d room ≡ cond b 0 7
      is b q =
          ap (λ (x : Bool). cond x (cond (leb (sizes engine (finished_by s c listed d)) room) 0 7) (stop_number d.refusal)) (eq-eqb (stop_number d.refusal) 0 z)
          ∙ ap (λ (x : Bool). cond {A = ℕ} x 0 7) q

      go : (b : Bool) → leb (sizes engine (finished_by s c listed d)) room ≡ b → (verdict_on s c listed d room ≡ 7) × (leb (sizes engine (finished_by s c listed d)) room ≡ false)
      go true q = absurd (n (is true q))
      go false q = (is false q, q)
