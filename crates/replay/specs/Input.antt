-- Input in pieces: what was read and is not used yet is a part of a window. No byte of it is lost when more is read.
use Rattle.std.specs.Prelude.{ℕ, zero, suc, ◌+◌, ◌-◌, ◌≤◌, ◌<◌, min, ◌≡◌, refl, List, Bool, true, false, length, take, drop, Result, Ok, Err, ℤ, pos, negsuc}
use Rattle.std.proofs.Common.{ap, ◌∙◌, arith, ltb-true, ltb-false, length-drop}
use Rattle.std.specs.Int.Signed.{lt_z}
use Rattle.std.specs.List.{copy_within}
use Rattle.std.specs.Result.{result_unwrap_or}
use Rattle.std.specs.Io.{ReadsAtMost}
use Rattle.std.proofs.Math.Seq.{take-take}
use Rattle.std.proofs.lemmas.List.Edits.{take-paste}
use Rattle.replay.specs.declared.input.Input.{Input}
use Rattle.replay.specs.declared.input.Source.{Source}

-- before the first read
abbrev pub nothing_read : Input
nothing_read = record { at = 0; end = 0; source = Source.Going }

-- what a read's answer says: below 0 it failed, 0 is the end
abbrev pub source_after : ℤ → Source
source_after (negsuc k) = Source.Failed
source_after (pos zero) = Source.Over
source_after (pos (suc k)) = Source.Going

-- a read's answer as a number: an error is one below 0
abbrev pub answer_of : {E : Type 0} → Result ℕ E → ℤ
answer_of (Err e) = negsuc zero
answer_of (Ok n) = pos n

-- more may come
abbrev pub is_going : Source → Bool
is_going Source.Going = true
is_going Source.Over = false
is_going Source.Failed = false

-- it cannot be read
abbrev pub is_failed : Source → Bool
is_failed Source.Going = false
is_failed Source.Over = false
is_failed Source.Failed = true

-- so many bytes more are used, all of them at most
abbrev pub used_up : Input → ℕ → Input
used_up i count = record { at = min (i.at + count) i.end; end = i.end; source = i.source }

-- the unused bytes are a part of the window
pub record Inside (i : Input) (window : List ℕ) : Type 0 where
  pub ordered : i.at ≤ i.end
  pub within : i.end ≤ length window

-- what was read and is not used yet
unfoldable pub unused_of : Input → List ℕ → List ℕ
unused_of i window = take (i.end - i.at) (drop i.at window)

-- the first n bytes of the window are those that stood from `at` on
pub record AtFront (window : List ℕ) (at n : ℕ) (after : List ℕ) : Type 0 where
  pub size : length after ≡ length window
  pub front : take n after ≡ take n (drop at window)

-- the unused bytes, copied to the front
pub moved_to_front : (window after : List ℕ) (at end : ℕ) → at ≤ end → end ≤ length window → length after ≡ length window → after ≡ copy_within window at end 0
    → AtFront window at (end - at) after
moved_to_front window after at end h within size e =
    let left : end - at ≤ length (drop at window) = rw length-drop (omega arith) in
    let same : end - at ≡ 0 + (end - at) = omega arith in
    let front : take (end - at) (copy_within window at end 0) ≡ take (end - at) (drop at window)
    = ap (λ (n : ℕ). take n (copy_within window at end 0)) same ∙ take-paste window 0 (drop at window) (end - at) (omega arith) left in
    record { size = size; front = rw e front }

-- more was read once: the unused bytes stand at the front, what came behind them
pub record Refilled (before : Input) (window : List ℕ) (i : Input) (after : List ℕ) : Type 0 where
  pub kept : take (before.end - before.at) after ≡ unused_of before window
  pub front : i.at ≡ 0
  pub behind : before.end - before.at ≤ i.end
  pub within : i.end ≤ length after
  pub size : length after ≡ length window
  -- where more may come, some did
  pub more : i.source ≡ Source.Going → before.end - before.at < i.end

-- no byte is lost: what was not used comes first in what is not used now
pub record Kept (before : Input) (window : List ℕ) (i : Input) (after : List ℕ) : Type 0 where
  pub inside : Inside i after
  pub first : take (before.end - before.at) (unused_of i after) ≡ unused_of before window

module _ (i : Input) (window : List ℕ) where
  pub kept_as_it_is : Inside i window → Kept i window i window
  unfolding unused_of
  kept_as_it_is h = record { inside = h; first = take-take (i.end - i.at) (i.end - i.at) (drop i.at window) (omega arith) }

  pub kept_by_reading : (j : Input) (after : List ℕ) → Refilled i window j after → Kept i window j after
  unfolding unused_of
  kept_by_reading j after r =
      record {
        inside = record { ordered = rw r.front (omega arith); within = r.within };
        first = rw r.front (take-take (i.end - i.at) (j.end - 0) after (omega (arith, r.behind)) ∙ r.kept);
      }

-- the ways out of using bytes up
module _ (i : Input) (count : ℕ) (ordered : i.at ≤ i.end) where
  pub used_all : i.end - i.at < count → record { at = i.end; end = i.end; source = i.source } ≡ used_up i count
  used_all h = ap (λ (n : ℕ). record { at = n; end = i.end; source = i.source }) (omega arith)

  pub used_some : count ≤ i.end - i.at → record { at = i.at + count; end = i.end; source = i.source } ≡ used_up i count
  used_some h = ap (λ (n : ℕ). record { at = n; end = i.end; source = i.source }) (omega arith)

-- what stays inside the window
pub nothing_inside : (i : Input) (window : List ℕ) → i ≡ nothing_read → Inside i window
nothing_inside i window e = rw e (record { ordered = omega arith; within = omega arith })

pub used_inside : (i j : Input) (window : List ℕ) (count : ℕ) → Inside i window → j ≡ used_up i count → Inside j window
used_inside i j window count h e = rw e (record { ordered = omega arith; within = h.within })

-- the ways out of telling what a read says
module _ (got : ℤ) where
  pub read_failed : lt_z got (pos 0) ≡ true → Source.Failed ≡ source_after got
  read_failed h = go got h
    where
      go : (z : ℤ) → lt_z z (pos 0) ≡ true → Source.Failed ≡ source_after z
      go (negsuc k) e = refl
      go (pos k) e = absurd (omega (arith, ltb-true k 0 e))

  pub read_going : lt_z (pos 0) got ≡ true → Source.Going ≡ source_after got
  read_going h = go got h
    where
      go : (z : ℤ) → lt_z (pos 0) z ≡ true → Source.Going ≡ source_after z
      go (negsuc k) e = let z : ◌≡◌ {A = ℕ} 0 1 = cc in absurd (omega arith)
      go (pos zero) e = absurd (omega (arith, ltb-true 0 0 e))
      go (pos (suc k)) e = refl

  pub read_over : lt_z got (pos 0) ≡ false → lt_z (pos 0) got ≡ false → Source.Over ≡ source_after got
  read_over h g = go got h g
    where
      go : (z : ℤ) → lt_z z (pos 0) ≡ false → lt_z (pos 0) z ≡ false → Source.Over ≡ source_after z
      go (negsuc k) e f = let z : ◌≡◌ {A = ℕ} 0 1 = cc in absurd (omega arith)
      go (pos zero) e f = refl
      go (pos (suc k)) e f = absurd (omega (arith, ltb-false 0 (suc k) f))

-- what a read brought, behind an error nothing: bytes that were there to be read, and some where more may come
module _ {E : Type 0} where
  pub came_within : (got : Result ℕ E) (came : ℕ) (room : List ℕ) → ReadsAtMost got room → came ≡ result_unwrap_or got 0 → came ≤ length room
  came_within (Err e) came room r k = omega arith
  came_within (Ok n) came room r k = omega (arith, r.0)

  pub brought : (got : Result ℕ E) (source : Source) (came : ℕ) → source ≡ source_after (answer_of got) → came ≡ result_unwrap_or got 0 → source ≡ Source.Going → 0 < came
  brought (Err e) source came k c g = let z : ◌≡◌ {A = ℕ} 0 1 = cc in absurd (omega arith)
  brought (Ok zero) source came k c g = let z : ◌≡◌ {A = ℕ} 0 1 = cc in absurd (omega arith)
  brought (Ok (suc n)) source came k c g = omega arith
