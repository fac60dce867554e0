-- The last case of each number that stands for cases.
use Rattle.std.specs.Prelude.{ℕ, zero, suc, ◌≡◌, true}
use Rattle.std.proofs.Math.Path.{refl}
use Rattle.flow.specs.declared.time.EndReason.{EndReason}
use Rattle.flow.specs.declared.time.StartState.{StartState}
use Rattle.flow.specs.declared.time.TimeResolution.{TimeResolution}
use Rattle.wire.specs.RecordForm.{reason_from, state_from, resolution_from, bit_from}

pub last_reason : (n : ℕ) → (n ≡ 0 → ⊥) → (n ≡ 1 → ⊥) → (n ≡ 2 → ⊥) → EndReason.CaptureEnd ≡ reason_from n
last_reason zero a b c = absurd (a refl)
last_reason (suc zero) a b c = absurd (b refl)
last_reason (suc (suc zero)) a b c = absurd (c refl)
last_reason (suc (suc (suc n))) a b c = refl

pub last_state : (n : ℕ) → (n ≡ 0 → ⊥) → (n ≡ 1 → ⊥) → StartState.NotApplicable ≡ state_from n
last_state zero a b = absurd (a refl)
last_state (suc zero) a b = absurd (b refl)
last_state (suc (suc n)) a b = refl

pub last_resolution : (n : ℕ) → (n ≡ 0 → ⊥) → TimeResolution.Nanoseconds ≡ resolution_from n
last_resolution zero a = absurd (a refl)
last_resolution (suc n) a = refl

pub last_bit : (n : ℕ) → (n ≡ 0 → ⊥) → true ≡ bit_from n
last_bit zero a = absurd (a refl)
last_bit (suc n) a = refl
