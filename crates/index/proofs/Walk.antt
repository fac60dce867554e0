-- The search for a key from its home on. Assumes nothing.
use Rattle.std.specs.Prelude.{None, Some}
use mathlib.Core.Path.{◌≡◌, sym, ap, ◌∙◌, subst}
use mathlib.Core.Logic.{⊎_elim}
use mathlib.Core.Bool.{true, false, false≢true}
use mathlib.Core.List.{List}
use Prim.Native.Nat.{ℕ, ◌+◌, ◌-◌, ◌*◌, ◌/◌, ◌%◌, ◌≤◌, ◌<◌}
use native.Mathlib.Omega.{arith}
use lib.ListN.{length, get_or, get_or-eq_default}
use Rattle.memory.proofs.Laws.{less_or}
use Rattle.slots.specs.Table.{slot, slots, holds, first_where, NoKeyTwice}
use Rattle.slots.proofs.Laws.{first_here, holds_true, not_used, not_long, matches}
use Rattle.index.specs.Index.{home, entry_of, slot_in, Indexed}
use Rattle.index.specs.Reversed.{Absent}
use Rattle.index.proofs.Agree.{Agrees, lacks, not_word}
use Rattle.memory.specs.Bytes.{num, part}
use Rattle.index.proofs.Laws.{used_holds, absent_unless, absent_not_found, twice, key_stands}

-- no slot whose entry under the hash h stands at place p has the key
pub record Passed (index s key : List ℕ) (h p : ℕ) : Type 0 where
  pub other : (i : ℕ) → i < 4096 → get_or index p 0 ≡ entry_of h i → holds key (slot s i) ≡ false

-- the search for key has passed the places from its home to before `place`
pub record Walked (index s key : List ℕ) (h place : ℕ) : Type 0 where
  pub begun : home h ≤ place
  pub within : place ≤ 16384
  pub passed : (p : ℕ) → home h ≤ p → p < place → Passed index s key h p

pub walk_begins : (index s key : List ℕ) (h : ℕ) → Walked index s key h (home h)
walk_begins index s key h = record { begun = omega arith; within = omega arith; passed = λ p lo hi. absurd (omega arith) }

walk_goes_on : {index s key : List ℕ} {h place : ℕ} → place < 16384 → Walked index s key h place → Passed index s key h place
    → Walked index s key h (place + 1)
walk_goes_on {index} {s} {key} {h} {place} more walked here =
    record {
      begun = omega (arith, walked.begun);
      within = omega arith;
      passed = λ p lo hi.
          ⊎_elim (λ (l : p < place). walked.passed p lo l)
          (λ g. let q : place ≡ p = omega arith in subst (Passed index s key h) q here) (less_or p place);
    }

-- another hash's entry
pub pass_tag : {index s key : List ℕ} {h place : ℕ} → place < 16384 → Walked index s key h place
    → ((get_or index place 0 - 1) / 8192 ≡ h % 524288 → ⊥) → Walked index s key h (place + 1)
pass_tag more walked differs = walk_goes_on more walked (record { other = λ i low e. absurd (differs (omega arith)) })

-- a slot with another key
pass_other : {index s key : List ℕ} {h place : ℕ} → place < 16384 → Walked index s key h place
    → holds key (slot s (slot_in (get_or index place 0))) ≡ false → Walked index s key h (place + 1)
pass_other {index} {s} {key} {h} {place} more walked bad =
    walk_goes_on more walked
    (record { other = λ i low e. let q : i ≡ slot_in (get_or index place 0) = omega arith in ap (λ (k : ℕ). holds key (slot s k)) q ∙ bad })

-- where slot i begins
abbrev pub base : ℕ → ℕ
base i = 256 + 624 * i

module _ {index s key : List ℕ} {h place i : ℕ} (is : i ≡ slot_in (get_or index place 0)) (more : place < 16384) (walked : Walked index s key h place)
    (fits : base i + 624 ≤ length s) (byte : get_or s (base i + 1) 0 < 256) where
  pass_slot : holds key (slot s i) ≡ false → Walked index s key h (place + 1)
  pass_slot bad = pass_other more walked (ap (λ (k : ℕ). holds key (slot s k)) (sym is) ∙ bad)

  -- it is not used
  pub pass_unused : (get_or s (base i) 0 ≡ 1 → ⊥) → Walked index s key h (place + 1)
  pass_unused n = pass_slot (not_used s i fits byte key n)

  -- its key has another length
  pub pass_length : (get_or s (base i + 1) 0 ≡ length key → ⊥) → Walked index s key h (place + 1)
  pass_length n = pass_slot (not_long s i fits byte key n)

  module _ (long : get_or s (base i + 1) 0 ≡ length key) where
    pass_agree : {last : ℕ} → last ≤ length key → (Agrees s (base i + 2) key 0 last → ⊥) → Walked index s key h (place + 1)
    pass_agree low other = pass_slot (lacks s i key fits byte long low other)

    -- eight bytes differ
    pub pass_word : (k w w' : ℕ) → 8 * k + 8 ≤ length key → w ≡ num (part s (base i + 2 + 8 * k) 8) → w' ≡ num (part key (8 * k) 8)
        → (w ≡ w' → ⊥) → Walked index s key h (place + 1)
    pass_word k w w' low is_w is_w' other =
        pass_agree {last = 8 * (k + 1)} (omega arith) (not_word k (omega arith) low (λ e. other (is_w ∙ e ∙ sym is_w')))

    -- a byte differs
    pub pass_byte : (k : ℕ) → k < length key → (get_or s (base i + 2 + k) 0 ≡ get_or key k 0 → ⊥) → Walked index s key h (place + 1)
    pass_byte k low other = pass_agree {last = k + 1} (omega arith) (λ all. other (all.same k (omega arith) (omega arith)))

module _ {hash : List ℕ → ℕ} {index s : List ℕ} {c : ℕ} (ix : Indexed hash index s c) (place : ℕ) (full : get_or index place 0 ≡ 0 → ⊥) where
  -- the slot is used under the key: where no key stands twice, it is the first
  pub walk_hits : (key : List ℕ) {i k : ℕ} → i ≡ slot_in (get_or index place 0) → NoKeyTwice s c → 256 + 640 * c ≤ length s
      → get_or s (base i + 1) 0 < 256 → get_or s (base i) 0 ≡ 1 → get_or s (base i + 1) 0 ≡ length key
      → Agrees s (base i + 2) key 0 k → length key ≤ k → Some i ≡ first_where (holds key) 0 (slots s c)
  unfolding Absent
  walk_hits key {i} {k} is once size byte used long all end =
      let low : i < c = omega (arith, ix.inside place full) in
      let fits : base i + 624 ≤ length s = omega (arith, ix.small) in
      let hit : holds key (slot s i) ≡ true = matches s i fits byte key used long (λ j l. all.same j (omega arith) (omega arith)) in
      let w = holds_true key (slot s i) hit in
      sym (first_here s (holds key) c i low hit (subst (Absent s i) w.1 (twice s i once low w.0)))

module _ {hash : List ℕ → ℕ} {index s : List ℕ} {c : ℕ} (key : List ℕ) (h place : ℕ) where
  -- an empty place ends the search: no slot has the key
  pub walk_misses : h ≡ hash key → Indexed hash index s c → Walked index s key h place → get_or index place 0 ≡ 0
      → None ≡ first_where (holds key) 0 (slots s c)
  walk_misses e ix walked end =
      sym
      (absent_not_found s c key
      (absent_unless s c key λ k low used own.
      let st = key_stands h key k ix e low used own in
      ⊎_elim
      (λ (l : st.place < place).
      let missed = (walked.passed st.place st.behind l).other k (omega (arith, ix.small)) st.here in
      false≢true (sym missed ∙ used_holds s key k used own))
      (λ g. st.full place walked.begun g end) (less_or st.place place)))

  -- so does the end of the index
  pub walk_ends : h ≡ hash key → Indexed hash index s c → Walked index s key h place → 16384 ≤ place
      → None ≡ first_where (holds key) 0 (slots s c)
  walk_ends e ix walked end = walk_misses e ix walked (get_or-eq_default index 0 (omega (arith, ix.tight.size)))
