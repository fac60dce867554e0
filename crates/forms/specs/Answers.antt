-- What the answers of the calls say, in the refusals' numbers.
use Rattle.std.specs.Prelude.{ℕ, ◌≤◌, ◌<◌, ◌≡◌, List, leb, length, Err, Ok, Result}
use Rattle.std.proofs.Common.{le-leb}
use Rattle.std.proofs.lemmas.Bool.{lt-leb}
use Rattle.forms.specs.Form.{Read, got}
use Rattle.forms.specs.Number.{number_bytes}
use Rattle.forms.specs.Length.{Sized}
use Rattle.forms.specs.Lone.{Answer, value, refusal, Written, wrote, unwritten, write_one, not_allowed, no_room}
use Rattle.forms.specs.declared.refusal.Refusal.{Refusal}
use Rattle.forms.specs.declared.stop.Stop.{Stop}
use Rattle.forms.specs.Refusals.{refusal_number}
use Rattle.forms.specs.Form.{stop}

-- what stands at a place: a value and the place behind it, or why there is none
abbrev pub stands : {A : Type 0} → Result (A × ℕ) Stop → Read A ℕ
stands (Ok (a, next)) = got a next
stands (Err why) = stop why

-- one form read: a value and the bytes used, or the refusal's number
abbrev pub answer_of : {A : Type 0} → Result (A × ℕ) Refusal → Answer A
answer_of (Ok (a, used)) = value a used
answer_of (Err why) = refusal (refusal_number why)

-- one form written: the bytes written, or the refusal's number
abbrev pub written_of : Result ℕ Refusal → Written
written_of (Ok n) = wrote n
written_of (Err why) = unwritten (refusal_number why)

-- what is next behind a tag that stands for nothing
abbrev pub refuse : {A : Type 0} → Result A Stop → Result A Stop
refuse (Ok a) = Err Stop.Refused
refuse (Err why) = Err why

-- the ways out of write_lone_number
module _ (out : List ℕ) (v most : ℕ) where
  pub lone_above : most < v → (written_of (Err Refusal.Packet), out) ≡ write_one 4 (leb v most) (number_bytes v) out
  lone_above h = not_allowed 4 (leb v most) (number_bytes v) out (lt-leb v most h)

  module _ (within : v ≤ most) (n : ℕ) (size : Sized (number_bytes v) 10 n) where
    pub lone_room : length out < n → (written_of (Err Refusal.Room), out) ≡ write_one 4 (leb v most) (number_bytes v) out
    lone_room h = no_room 4 (leb v most) (number_bytes v) out (le-leb v most within) n size.length_is h
