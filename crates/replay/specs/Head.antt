-- What the input begins with: the timeout, a number of 64 bits, then the resolution, 0 or 1. Where they cannot be read, a refusal's
-- number stands for both: 4 (Packet), or 9 (Short) if they are cut off.
use Rattle.std.specs.Prelude.{ℕ, ◌+◌, ◌-◌, ◌^◌, ◌≤◌, ◌<◌, ◌≡◌, refl, List, [], ◌∷◌, Bool, true, false, ◌&&◌, ltb, length, take, drop, Err, Ok, Result}
use Rattle.std.proofs.Common.{sym, ◌∙◌, ltb-false, arith, length-drop, take_all}
use Rattle.forms.specs.Form.{Read, got}
use Rattle.forms.specs.Number.{number}
use Rattle.forms.specs.At.{read_at, at_inside}
use Rattle.forms.specs.Lone.{Answer, value, refusal, answered, read_one}
use Rattle.flow.specs.declared.time.TimeResolution.{TimeResolution}
use Rattle.wire.specs.RecordForm.{resolution_from}
use Rattle.replay.specs.Input.{Inside, Refilled, is_going}
use Rattle.replay.specs.declared.input.Source.{Source}
use Rattle.replay.specs.declared.input.Input.{Input}
use Rattle.replay.specs.declared.head.Settings.{Settings}
use Rattle.forms.specs.Answers.{answer_of}
use Rattle.forms.specs.declared.refusal.Refusal.{Refusal}
use Rattle.forms.specs.Refusals.{refusal_number}
use Rattle.forms.specs.Form.{stop}
use Rattle.forms.specs.declared.stop.Stop.{Stop}

-- the settings, or the refusal's number
abbrev pub numbered : Result Settings Refusal → Result Settings ℕ
numbered (Ok settings) = Ok settings
numbered (Err why) = Err (refusal_number why)

-- the head, by what reading the resolution answers, `behind` bytes from the front
abbrev pub with_resolution : ℕ → ℕ → Answer ℕ → Result Settings ℕ
with_resolution timeout behind (value number used) =
    Ok (record { timeout = record { 0 = timeout }; resolution = resolution_from number; length = behind + used })
with_resolution timeout behind (refusal number) = Err number

-- the head, where the timeout takes `behind` bytes
unfoldable pub behind_timeout : List ℕ → ℕ → ℕ → Result Settings ℕ
behind_timeout bytes timeout behind = with_resolution timeout behind (read_one 4 (number 1) (drop behind bytes))

-- the head, by what reading the timeout answers
abbrev pub with_timeout : List ℕ → Answer ℕ → Result Settings ℕ
with_timeout bytes (value timeout used) = behind_timeout bytes timeout used
with_timeout bytes (refusal number) = Err number

-- the head of an input
unfoldable pub head_of : List ℕ → Result Settings ℕ
head_of bytes = with_timeout bytes (read_one 4 (number (2 ^ 64 - 1)) bytes)

-- the head may still be cut off, and more may come: the longest timeout takes 10 bytes, a resolution 1
abbrev pub lacks_head : Input → Bool
lacks_head i = is_going i.source && ltb (i.end - i.at) 11

-- a lone number ends within the bytes that it is read from
pub number_inside : (most : ℕ) (bytes : List ℕ) (v used : ℕ) → value v used ≡ read_one 4 (number most) bytes → used ≤ length bytes
number_inside most [] v used e = let z : ◌≡◌ {A = ℕ} 0 1 = cc in absurd (omega arith)
number_inside most (b ∷ s) v used e = go (read_at (number most) (b ∷ s) 0) refl e
  where
    go : (r : Read ℕ ℕ) → read_at (number most) (b ∷ s) 0 ≡ r → value v used ≡ answered 4 r → used ≤ length (b ∷ s)
    go (got x n) k h =
        let same : n ≡ used = cc in
        let inside = at_inside (number most) (b ∷ s) 0 x n k in
        omega arith
    go (stop Stop.Short) k h = let z : ◌≡◌ {A = ℕ} 0 1 = cc in absurd (omega arith)
    go (stop Stop.Refused) k h = let z : ◌≡◌ {A = ℕ} 0 1 = cc in absurd (omega arith)

-- the ways out of reading the resolution
module _ (bytes : List ℕ) (timeout behind : ℕ) (n : Result (ℕ × ℕ) Refusal) (says : answer_of n ≡ read_one 4 (number 1) (take (length bytes - behind) (drop behind bytes))) where
  rest : take (length bytes - behind) (drop behind bytes) ≡ drop behind bytes
  rest = take_all (length bytes - behind) (drop behind bytes) (rw length-drop (omega arith))

  pub resolution_value : (v used : ℕ) (r : TimeResolution) → n ≡ Ok (v, used) → r ≡ resolution_from v
      → Ok (record { timeout = record { 0 = timeout }; resolution = r; length = behind + used }) ≡ behind_timeout bytes timeout behind
  unfolding behind_timeout
  resolution_value v used r e k = rw (k, ← rest, ← says, e)

  pub resolution_refused : (why : Refusal) → n ≡ Err why → Err (refusal_number why) ≡ behind_timeout bytes timeout behind
  unfolding behind_timeout
  resolution_refused why e = rw (← rest, ← says, e)

  -- it ends within the bytes
  pub resolution_inside : (v used : ℕ) → n ≡ Ok (v, used) → used ≤ length bytes - behind
  resolution_inside v used e =
      let inside : used ≤ length (drop behind bytes) = rw (← rest) (number_inside 1 (take (length bytes - behind) (drop behind bytes)) v used (rw e at says)) in
      rw length-drop at inside

-- the ways out of reading the timeout
module _ (bytes : List ℕ) (n : Result (ℕ × ℕ) Refusal) (says : answer_of n ≡ read_one 4 (number (2 ^ 64 - 1)) bytes) where
  pub timeout_value : (v used : ℕ) (h : Result Settings ℕ) → n ≡ Ok (v, used) → h ≡ behind_timeout bytes v used → h ≡ head_of bytes
  unfolding head_of
  timeout_value v used h e k = rw (k, ← says, e)

  pub timeout_refused : (why : Refusal) → n ≡ Err why → Err (refusal_number why) ≡ head_of bytes
  unfolding head_of
  timeout_refused why e = rw (← says, e)

  pub timeout_inside : (v used : ℕ) → n ≡ Ok (v, used) → used ≤ length bytes
  timeout_inside v used e = number_inside (2 ^ 64 - 1) bytes v used (rw e at says)

-- the test by its two parts
pub lacks : (i : Input) (going : Bool) → going ≡ is_going i.source → going && ltb (i.end - i.at) 11 ≡ lacks_head i
lacks i going e = rw e

-- the head is there, or nothing more comes
pub record HeadThere (i : Input) (window : List ℕ) : Type 0 where
  pub inside : Inside i window
  pub enough : i.source ≡ Source.Going → 11 ≤ i.end - i.at

-- with so many reads to go, each of which brings a byte at least
pub record Reaching (i : Input) (turns : ℕ) : Type 0 where
  pub enough : i.source ≡ Source.Going → 11 ≤ i.end - i.at + turns

-- the loop that reads the head: it begins, goes on, ends
pub reach_begins : (i : Input) → Reaching i 11
reach_begins i = record { enough = λ g. omega arith }

pub reach_goes_on : (i j : Input) (window after : List ℕ) (turns : ℕ) (test : Bool) → 0 < turns → test ≡ lacks_head i → test ≡ true → Reaching i turns → Refilled i window j after → Reaching j (turns - 1)
reach_goes_on i j window after turns test some e passed r f =
    record { enough = λ g. omega (arith, r.enough (is_going_lem i.source (sym e ∙ passed)), f.more g, f.front) }
  where
    is_going_lem : (s : Source) → is_going s && ltb (i.end - i.at) 11 ≡ true → s ≡ Source.Going
    is_going_lem Source.Going e = refl
    is_going_lem Source.Over e = let z : ◌≡◌ {A = ℕ} 0 1 = cc in absurd (omega arith)
    is_going_lem Source.Failed e = let z : ◌≡◌ {A = ℕ} 0 1 = cc in absurd (omega arith)

pub reach_ends : (i : Input) (window : List ℕ) (turns : ℕ) → turns ≤ 0 → Inside i window → Reaching i turns → HeadThere i window
reach_ends i window turns none h r = record { inside = h; enough = λ g. omega (arith, r.enough g) }

pub reach_ends_early : (i : Input) (window : List ℕ) (test : Bool) → test ≡ lacks_head i → test ≡ false → Inside i window → HeadThere i window
reach_ends_early i window test e failed h = record { inside = h; enough = λ g. ltb-false (i.end - i.at) 11 (rw g at (sym e ∙ failed)) }
