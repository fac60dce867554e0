-- The answers of the calls, case by case. Assumes nothing.
use Rattle.std.specs.Prelude.{Err, Ok, Result}
use Prim.Native.Nat.{ℕ, ◌+◌, ◌*◌}
use mathlib.Core.Path.{◌≡◌, sym, ap, subst}
use mathlib.Core.Bool.{Bool, true, false, ◌||◌, cond}
use mathlib.Core.List.{List}
use lib.Dec.{eqb, ltb}
use Rattle.flow.specs.declared.time.TimeResolution.{TimeResolution}
use Rattle.wire.specs.RecordForm.{resolution_from}
use Rattle.state.specs.Opening.{Opened, opening_number}
use Rattle.braidpuddle.specs.Calls.{state_bytes, OpenedBy}
use Rattle.forms.specs.Refusals.{refusal_number}
use Rattle.forms.specs.declared.refusal.Refusal.{Refusal}

pub bytes_refused : (c : ℕ) → (eqb c 0 || ltb 4096 c) ≡ true → 0 ≡ state_bytes c
bytes_refused c e = sym (ap (λ (t : Bool). cond t 0 (256 + 640 * c)) e)

pub bytes_told : (c : ℕ) → (eqb c 0 || ltb 4096 c) ≡ false → 256 + 640 * c ≡ state_bytes c
bytes_told c e = sym (ap (λ (t : Bool). cond t 0 (256 + 640 * c)) e)

-- ## Opening, by what it answers

module _ (before : List ℕ) (capacity timeout number : ℕ) (resolution : TimeResolution) (told : resolution ≡ resolution_from number)
    (opening : Result Unit Refusal) (after : List ℕ) (promise : Opened before capacity (record { 0 = timeout }) resolution opening after) where
  says : (o : Result Unit Refusal) → opening ≡ o → OpenedBy before capacity timeout number (opening_number o) after
  says o e = record {
    opening = opening;
    promise = subst (λ (x : TimeResolution). Opened before capacity (record { 0 = timeout }) x opening after) told promise;
    number = ap opening_number (sym e);
  }

  pub says_opened : opening ≡ Ok tt → OpenedBy before capacity timeout number 0 after
  says_opened e = says (Ok tt) e

  pub says_refused : (why : Refusal) → opening ≡ Err why → OpenedBy before capacity timeout number (refusal_number why) after
  says_refused why e = says (Err why) e
