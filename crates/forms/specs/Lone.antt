-- One form read from a buffer, and one written into it, with document 01's refusals.
use Rattle.std.specs.Prelude.{ℕ, ◌≤◌, ◌<◌, ◌≡◌, refl, List, [], ◌∷◌, ◌++◌, Bool, true, false, cond, leb, length, drop, Option, Some}
use Rattle.std.proofs.Common.{ap, arith, le-leb}
use Rattle.std.proofs.lemmas.Bool.{lt-leb}
use Rattle.forms.specs.Form.{Form, Read, got}
use Rattle.forms.specs.At.{read_at}
use Rattle.forms.specs.Put.{Put, put_front}
use Rattle.forms.specs.Form.{stop}
use Rattle.forms.specs.declared.stop.Stop.{Stop}

-- ---- reading

-- what reading one form answers: a value and the bytes used, or a refusal's number
pub data Answer (A : Type 0) : Type 0 where
  value : A → ℕ → Answer A
  refusal : ℕ → Answer A

-- 9 is Short; `other`, the refusal of what has no such form, is 4 (Packet), for a record 8 (Record)
abbrev pub answered : {A : Type 0} → ℕ → Read A ℕ → Answer A
answered other (got a used) = value a used
answered other (stop Stop.Short) = refusal 9
answered other (stop Stop.Refused) = refusal other

-- "Reading one form from an empty buffer answers 4, for a record 8."
abbrev pub read_one : {A : Type 0} → ℕ → Form A → List ℕ → Answer A
read_one other f [] = refusal other
read_one other f (b ∷ s) = answered other (read_at f (b ∷ s) 0)

-- ---- writing

-- what writing one form alone answers: the bytes written, or a refusal's number
pub data Written : Type 0 where
  wrote : ℕ → Written
  unwritten : ℕ → Written

-- The form's bytes, and behind them the output as it was; `other` (4, for a record 3) where the value may not be written, then 7
-- (Room) where the bytes need more than the output has. Refused, the output stays as it was.
abbrev pub write_one : ℕ → Bool → List ℕ → List ℕ → Written × List ℕ
write_one other allowed bytes out =
    cond allowed (cond (leb (length bytes) (length out)) (wrote (length bytes), bytes ++ drop (length bytes) out) (unwritten 7, out)) (unwritten other, out)

-- the three ways out of writing one form alone
module _ (other : ℕ) (allowed : Bool) (bytes out : List ℕ) where
  pub not_allowed : allowed ≡ false → (unwritten other, out) ≡ write_one other allowed bytes out
  not_allowed e = rw e

  pub no_room : allowed ≡ true → (n : ℕ) → n ≡ length bytes → length out < n → (unwritten 7, out) ≡ write_one other allowed bytes out
  no_room e n l h = rw (e, lt-leb (length bytes) (length out) (omega arith))

  pub wrote_front : allowed ≡ true → (n : ℕ) {after : List ℕ} {r : Option ℕ} → n ≡ length bytes → n ≤ length out → Put out (Some 0) bytes after r
      → (wrote n, after) ≡ write_one other allowed bytes out
  wrote_front e n l h p =
      let fits : length bytes ≤ length out = omega arith in
      rw (e, le-leb (length bytes) (length out) fits, l) (ap (λ (x : List ℕ). (wrote (length bytes), x)) (put_front p fits))

-- the ways out of reading one form from a buffer
module _ {A : Type 0} (other : ℕ) (f : Form A) (s : List ℕ) where
  pub read_empty : length s ≡ 0 → refusal other ≡ read_one other f s
  read_empty e = go s e
    where
      go : (l : List ℕ) → length l ≡ 0 → refusal other ≡ read_one other f l
      go [] h = refl
      go (b ∷ l) h = absurd (omega arith)

  pub read_some : (r : Read A ℕ) → (length s ≡ 0 → ⊥) → r ≡ read_at f s 0 → answered other r ≡ read_one other f s
  read_some r h e = rw e (go s h)
    where
      go : (l : List ℕ) → (length l ≡ 0 → ⊥) → answered other (read_at f l 0) ≡ read_one other f l
      go [] h = absurd (h refl)
      go (b ∷ l) h = refl
