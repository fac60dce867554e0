-- The refusals' numbers.
use Rattle.std.specs.Prelude.{ℕ, Option, None, Some}
use Rattle.forms.specs.declared.stop.Stop.{Stop}
use Rattle.forms.specs.declared.refusal.Refusal.{Refusal}

abbrev pub refusal_number : Refusal → ℕ
refusal_number Refusal.Capacity = 1
refusal_number Refusal.Memory = 2
refusal_number Refusal.Damaged = 3
refusal_number Refusal.Packet = 4
refusal_number Refusal.Full = 5
refusal_number Refusal.Spent = 6
refusal_number Refusal.Room = 7
refusal_number Refusal.Record = 8
refusal_number Refusal.Short = 9

-- 0 where nothing is refused
abbrev pub stop_number : Option Refusal → ℕ
stop_number None = 0
stop_number (Some refusal) = refusal_number refusal

-- what is no form is no packet
abbrev pub refusal_of : Stop → Refusal
refusal_of Stop.Short = Refusal.Short
refusal_of Stop.Refused = Refusal.Packet
