-- How far a key agrees with what stands in memory, byte by byte or eight bytes at a time, and what that says of a slot. Assumes nothing.
use mathlib.Core.Path.{◌≡◌, refl, sym, ap, ◌∙◌}
use mathlib.Core.Bool.{Bool, true, false}
use mathlib.Core.Logic.{⊎_elim}
use mathlib.Core.List.{List, [], ◌∷◌}
use Prim.Native.Nat.{ℕ, suc, ◌+◌, ◌-◌, ◌*◌, ◌≤◌, ◌<◌}
use native.Mathlib.Omega.{arith}
use lib.ListN.{length, get_or}
use lib.Seq.{ext_get_or}
use Rattle.memory.specs.Bytes.{num, part}
use Rattle.memory.proofs.Laws.{length_part, get_d_part, less_or}
use Rattle.slots.specs.Table.{slot, holds}
use Rattle.slots.proofs.Laws.{holds_true, key_part}

-- as many bytes that stand for the same number are the same
num_same : (xs ys : List ℕ) → length xs ≡ length ys → ((k : ℕ) → k < length xs → get_or xs k 0 < 256)
    → ((k : ℕ) → k < length ys → get_or ys k 0 < 256) → num xs ≡ num ys → xs ≡ ys
unfolding num
num_same [] [] long bx by e = refl
num_same [] (y ∷ ys) long bx by e = absurd (omega arith)
num_same (x ∷ xs) [] long bx by e = absurd (omega arith)
num_same (x ∷ xs) (y ∷ ys) long bx by e =
    let low : x < 256 = bx 0 (omega arith) in
    let low' : y < 256 = by 0 (omega arith) in
    let first : x ≡ y = omega arith in
    let rest : xs ≡ ys =
    num_same xs ys (omega arith) (λ k h. bx (suc k) (omega arith)) (λ k h. by (suc k) (omega arith)) (omega arith) in
    cc

-- so are the bytes of two words that are the same
word_same : (s t : List ℕ) (a b : ℕ) → a + 8 ≤ length s → b + 8 ≤ length t → ((k : ℕ) → get_or s k 0 < 256) → ((k : ℕ) → get_or t k 0 < 256)
    → num (part s a 8) ≡ num (part t b 8) → (j : ℕ) → j < 8 → get_or s (a + j) 0 ≡ get_or t (b + j) 0
word_same s t a b fits fits' bs bt e j h =
    let long : length (part s a 8) ≡ 8 = length_part s a 8 fits in
    let long' : length (part t b 8) ≡ 8 = length_part t b 8 fits' in
    let same : part s a 8 ≡ part t b 8 =
    num_same (part s a 8) (part t b 8) (long ∙ sym long')
    (λ k l. omega (arith, get_d_part s a 8 k (omega arith), bs (a + k)))
    (λ k l. omega (arith, get_d_part t b 8 k (omega arith), bt (b + k))) e in
    sym (get_d_part s a 8 j h) ∙ ap (λ (l : List ℕ). get_or l j 0) same ∙ get_d_part t b 8 j h

-- bytes that are the same make the same word
same_word : (s t : List ℕ) (a b : ℕ) → a + 8 ≤ length s → b + 8 ≤ length t → ((j : ℕ) → j < 8 → get_or s (a + j) 0 ≡ get_or t (b + j) 0)
    → part s a 8 ≡ part t b 8
same_word s t a b fits fits' e =
    ext_get_or 0 (part s a 8) (part t b 8) (length_part s a 8 fits ∙ sym (length_part t b 8 fits')) λ k h.
    let low : k < 8 = omega (arith, length_part s a 8 fits) in
    get_d_part s a 8 k low ∙ e k low ∙ sym (get_d_part t b 8 k low)

-- ---- a run of bytes or words

-- where key would stand in s from `at` on, its bytes from `first` to before `last` do
pub record Agrees (s : List ℕ) (at : ℕ) (key : List ℕ) (first last : ℕ) : Type 0 where
  pub same : (j : ℕ) → first ≤ j → j < last → get_or s (at + j) 0 ≡ get_or key j 0

module _ {s : List ℕ} {at : ℕ} {key : List ℕ} where
  -- one byte more
  pub agree_byte : {first k : ℕ} → Agrees s at key first k → get_or s (at + k) 0 ≡ get_or key k 0 → Agrees s at key first (k + 1)
  agree_byte {first} {k} was here =
      record {
        same = λ j lo hi.
            ⊎_elim (λ (l : j < k). was.same j lo l)
            (λ g. let e : j ≡ k = omega arith in ap (λ (m : ℕ). get_or s (at + m) 0) e ∙ here ∙ ap (λ (m : ℕ). get_or key m 0) (sym e)) (less_or j k);
      }

  module _ (k : ℕ) (fits : at + 8 * k + 8 ≤ length s) (fits' : 8 * k + 8 ≤ length key) where
    -- eight bytes more
    pub agree_word : {w w' : ℕ} → ((j : ℕ) → get_or s j 0 < 256) → ((j : ℕ) → get_or key j 0 < 256) → Agrees s at key 0 (8 * k)
        → w ≡ num (part s (at + 8 * k) 8) → w' ≡ num (part key (8 * k) 8) → w ≡ w' → Agrees s at key 0 (8 * (k + 1))
    agree_word bs bt was is is' e =
        record {
          same = λ j lo hi.
              ⊎_elim (λ (l : j < 8 * k). was.same j lo l)
              (λ g.
              let i : ℕ = j - 8 * k in
              let p : at + j ≡ at + 8 * k + i = omega arith in
              let q : 8 * k + i ≡ j = omega arith in
              ap (λ (m : ℕ). get_or s m 0) p
              ∙ word_same s key (at + 8 * k) (8 * k) fits fits' bs bt (sym is ∙ e ∙ is') i (omega arith)
              ∙ ap (λ (m : ℕ). get_or key m 0) q)
              (less_or j (8 * k));
        }

    -- eight bytes differ
    pub not_word : (num (part s (at + 8 * k) 8) ≡ num (part key (8 * k) 8) → ⊥) → Agrees s at key 0 (8 * (k + 1)) → ⊥
    not_word other all =
        other
        (ap num
        (same_word s key (at + 8 * k) (8 * k) fits fits' λ j low.
        let p : at + 8 * k + j ≡ at + (8 * k + j) = omega arith in
        ap (λ (m : ℕ). get_or s m 0) p ∙ all.same (8 * k + j) (omega arith) (omega arith)))

-- ---- slot i, whose key's length is a byte: one that lacks some of the key's bytes does not hold it
module _ (s : List ℕ) (i : ℕ) (key : List ℕ) (fits : 256 + 624 * i + 624 ≤ length s) (byte : get_or s (256 + 624 * i + 1) 0 < 256)
    (long : get_or s (256 + 624 * i + 1) 0 ≡ length key) where
  holds_agrees : holds key (slot s i) ≡ true → Agrees s (256 + 624 * i + 2) key 0 (length key)
  holds_agrees e =
      let is : part s (256 + 624 * i + 2) (length key) ≡ key =
      sym (key_part s i (length key) fits (omega arith) long) ∙ (holds_true key (slot s i) e).1 in
      record { same = λ j lo hi. sym (get_d_part s (256 + 624 * i + 2) (length key) j hi) ∙ ap (λ (l : List ℕ). get_or l j 0) is }

  pub lacks : {first last : ℕ} → last ≤ length key → (Agrees s (256 + 624 * i + 2) key first last → ⊥) → holds key (slot s i) ≡ false
  lacks {first} {last} h other = go (holds key (slot s i)) refl
    where
      go : (t : Bool) → holds key (slot s i) ≡ t → holds key (slot s i) ≡ false
      go false e = e
      go true e = absurd (other (record { same = λ j lo hi. (holds_agrees e).same j (omega arith) (omega arith) }))
