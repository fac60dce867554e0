-- Why the input may come in pieces: what a piece shows stays so, whatever comes behind it. Only a form that is cut off (9) waits for more
-- bytes, and 11 bytes are enough for the timeout and the resolution.
use Rattle.std.specs.Prelude.{ℕ, suc, ◌-◌, ◌^◌, ◌≤◌, ◌<◌, ◌≡◌, refl, List, [], ◌∷◌, ◌++◌, length, drop}
use Rattle.std.proofs.Common.{sym, ap, ◌∙◌, append_assoc, arith, length-append, length-drop}
use Rattle.std.proofs.lemmas.List.{drop-append-le}
use Rattle.forms.specs.Form.{Form, Read, got, and_then}
use Rattle.forms.specs.Number.{number, number_ends, number_writes, number_below}
use Rattle.forms.specs.At.{placed_front}
use Rattle.forms.specs.Length.{number_at_most}
use Rattle.forms.specs.Lone.{Answer, value, refusal, answered, read_one}
use Rattle.forms.specs.Theorems.{Beginning, short_only, number_was_written}
use Rattle.wire.specs.PacketForm.{packet}
use Rattle.wire.specs.PacketTheorems.{packet_ends}
use Rattle.replay.specs.Head.{head_of, behind_timeout, with_timeout}
use Rattle.forms.specs.Form.{stop}
use Rattle.forms.specs.declared.stop.Stop.{Stop}

module _ {A : Type 0} (f : Form A) (ends : f.read [] ≡ stop Stop.Short) where
  -- the answer, by what reading the bytes finds
  by_read : (b : ℕ) (s : List ℕ) (r : Read A (List ℕ)) → f.read (b ∷ s) ≡ r
      → read_one 4 f (b ∷ s) ≡ answered 4 (and_then r (λ a rest. got a (length (b ∷ s) - length rest)))
  by_read b s r e = rw (placed_front f.read (b ∷ s), e)

  -- what begins with a form, or can begin none, stays so
  pub settled : (s t : List ℕ) → (s ≡ [] → ⊥) → (Beginning f s → ⊥) → read_one 4 f (s ++ t) ≡ read_one 4 f s
  settled [] t some whole = absurd (some refl)
  settled (b ∷ s) t some whole = go (f.read (b ∷ s)) refl
    where
      go : (r : Read A (List ℕ)) → f.read (b ∷ s) ≡ r → read_one 4 f ((b ∷ s) ++ t) ≡ read_one 4 f (b ∷ s)
      go (got a rest) q =
          let (v, w) = f.back (b ∷ s) a rest q in
          let apart : (b ∷ s) ++ t ≡ f.write a ++ (rest ++ t) = ap (λ (l : List ℕ). l ++ t) w ∙ append_assoc (f.write a) rest t in
          let more : f.read ((b ∷ s) ++ t) ≡ got a (rest ++ t) = ap f.read apart ∙ f.there a (rest ++ t) v in
          let size : length ((b ∷ s) ++ t) - length (rest ++ t) ≡ length (b ∷ s) - length rest = omega (arith, length-append (b ∷ s) t, length-append rest t) in
          by_read b (s ++ t) (got a (rest ++ t)) more ∙ ap (λ (n : ℕ). value a n) size ∙ sym (by_read b s (got a rest) q)
      go (stop Stop.Short) q = absurd (whole (short_only 4 f ends (λ e. omega arith) (b ∷ s) (by_read b s (stop Stop.Short) q)))
      go (stop Stop.Refused) q = by_read b (s ++ t) (stop Stop.Refused) (f.stays (b ∷ s) t q) ∙ sym (by_read b s (stop Stop.Refused) q)

-- of packets: only one that is cut off may be read otherwise once more bytes are there
pub packet_settled : (s t : List ℕ) → (s ≡ [] → ⊥) → (Beginning packet s → ⊥) → read_one 4 packet (s ++ t) ≡ read_one 4 packet s
packet_settled s t some whole = settled packet packet_ends s t some whole

-- no number of at most n + 1 groups has a longer beginning
long_enough : (most n : ℕ) (s : List ℕ) → most < 128 ^ suc n → suc n ≤ length s → Beginning (number most) s → ⊥
long_enough most n s m l h =
    let size = ap length (h.bytes ∙ number_writes most h.whole) in
    let below : h.whole < 128 ^ suc n = omega (arith, number_below most h.whole h.valid) in
    omega (arith, number_at_most n h.whole below, length-append s (h.missing ∷ h.behind))

-- the head is the same, whatever stands behind 11 bytes
pub head_settled : (s t : List ℕ) → 11 ≤ length s → head_of (s ++ t) ≡ head_of s
unfolding head_of behind_timeout
head_settled s t l = rw (settled (number (2 ^ 64 - 1)) (number_ends (2 ^ 64 - 1)) s t (λ e. omega (arith, ap length e)) (long_enough (2 ^ 64 - 1) 9 s (omega arith) (omega arith))) (go (read_one 4 (number (2 ^ 64 - 1)) s) refl)
  where
    go : (r : Answer ℕ) → read_one 4 (number (2 ^ 64 - 1)) s ≡ r → with_timeout (s ++ t) r ≡ with_timeout s r
    go (value v n) e =
        let (rest, most, bytes, used) = number_was_written (2 ^ 64 - 1) s v n e in
        let short-enough : n ≤ 10 = omega (arith, number_at_most 9 v (omega arith)) in
        let left : 1 ≤ length (drop n s) = rw length-drop (omega arith) in
        rw (drop-append-le n s t (omega arith), settled (number 1) (number_ends 1) (drop n s) t (λ k. omega (arith, ap length k)) (long_enough 1 0 (drop n s) (omega arith) left))
    go (refusal k) e = refl
