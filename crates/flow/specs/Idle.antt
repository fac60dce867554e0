-- Times (document 01): T and L from the timeout.
use Rattle.std.specs.Prelude.{ℕ, min, ◌*◌, ◌/◌, ◌^◌, ◌-◌, ◌≡◌, refl}
use Rattle.flow.specs.declared.time.Millis.{Millis}
use Rattle.flow.specs.declared.time.Idle.{Idle}

-- "T is milliseconds times 1,000,000, held at 2^64 − 1."
abbrev pub timeout_of : Millis → ℕ
timeout_of ms = min (ms.0 * 1000000) (2 ^ 64 - 1)

-- "L is the lesser of 1,000,000,000 and T / 2."
abbrev pub lateness_of : ℕ → ℕ
lateness_of t = min 1000000000 (t / 2)

abbrev pub idle_of : Millis → Idle
idle_of ms = record { timeout = record { 0 = timeout_of ms }; lateness = record { 0 = lateness_of (timeout_of ms) } }

-- P4: 18,446,744,073,709 ms is exact; 18,446,744,073,710 is held at the top
exact : timeout_of (record { 0 = 18446744073709 }) ≡ 18446744073709000000
exact = refl

held : timeout_of (record { 0 = 18446744073710 }) ≡ 2 ^ 64 - 1
held = refl
