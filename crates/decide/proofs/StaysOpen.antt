-- What the tests of an open flow that stays open answer. Assumes nothing.
use Rattle.std.specs.Prelude.{None, Option, Some}
use mathlib.Core.Path.{◌≡◌, refl, sym, ap, ◌∙◌, subst}
use mathlib.Core.Bool.{Bool, true, false, not, cond, ◌&&◌, false≢true}
use mathlib.Core.List.{List}
use Prim.Native.Nat.{ℕ, ◌+◌, ◌*◌, ◌^◌, ◌≤◌, ◌<◌}
use native.Mathlib.Omega.{arith}
use lib.Dec.{eqb, ltb}
use lib.ListN.{length, get_or}
use Rattle.memory.specs.Bytes.{num, part}
use Rattle.slots.specs.Table.{slot}
use Rattle.words.specs.Words.{record_of, direction_at}
use Rattle.flow.specs.Counting.{mask_of, has_room}
use Rattle.flow.specs.Summary.{rst, bit_of}
use Rattle.flow.specs.declared.record.PacketFacts.{PacketFacts}
use Rattle.rules.specs.Engine.{both_fins}
use Rattle.state.specs.Slot.{words_in, record_in}
use Rattle.decide.specs.Search.{InState}
use Rattle.decide.specs.Steady.{stays_at, stays_open}
use Rattle.decide.proofs.Ways.{word_in}

-- ## The words of a slot

pub word_told : (s : List ℕ) (i k : ℕ) {r : ℕ} → 256 + 624 * i + 624 ≤ length s → k < 37 → r ≡ num (part s (256 + 624 * i + 80 + 8 * k) 8)
    → r ≡ get_or (words_in (slot s i)) k 0
word_told s i k size low e = e ∙ word_in s i k size low

-- packets are words 11 and 24, octets 12 and 25, captured octets word 9
pub room_told : (s : List ℕ) (i : ℕ) (facts : PacketFacts) {a b c d e : ℕ} {x y z : Bool} → a ≡ get_or (words_in (slot s i)) 11 0
    → b ≡ get_or (words_in (slot s i)) 24 0 → x ≡ ltb (a + b + 1) (2 ^ 64) → c ≡ get_or (words_in (slot s i)) 12 0
    → d ≡ get_or (words_in (slot s i)) 25 0 → y ≡ ltb (c + d + facts.frame_octets) (2 ^ 64) → e ≡ get_or (words_in (slot s i)) 9 0
    → z ≡ ltb (e + facts.captured_octets) (2 ^ 64) → (x && y && z) ≡ has_room (record_in (slot s i)) facts
unfolding has_room record_in record_of direction_at
room_told s i facts a b x c d y e z =
    λ t.
    (x ∙ (λ u. ltb (a u + b u + 1) (2 ^ 64))) t
    && (y ∙ (λ u. ltb (c u + d u + facts.frame_octets) (2 ^ 64))) t
    && (z ∙ (λ u. ltb (e u + facts.captured_octets) (2 ^ 64))) t

pub stays_told : (s : List ℕ) (i : ℕ) (facts : PacketFacts) {a b d : Bool} → a ≡ eqb (bit_of rst (mask_of facts.tcp_flags)) 1
    → b ≡ both_fins (record_in (slot s i)) → d ≡ has_room (record_in (slot s i)) facts → (not a && not b && d) ≡ stays_at s facts i
stays_told s i facts a b d = λ t. not (a t) && not (b t) && d t

-- ## The slot

module _ (s : List ℕ) (facts : PacketFacts) (ended found : Option ℕ) where
  pub one_ends : (j : ℕ) → ended ≡ Some j → None ≡ stays_open s facts ended found
  one_ends j e = sym (ap (λ (x : Option ℕ). stays_open s facts x found) e)

  module _ (none_ends : ended ≡ None) where
    pub one_opens : found ≡ None → None ≡ stays_open s facts ended found
    one_opens e = sym (λ t. stays_open s facts (none_ends t) (e t))

    module _ (i : ℕ) (here : found ≡ Some i) where
      pub in_state : InState s found → 256 + 624 * i + 624 ≤ length s
      in_state h = h i here

      module _ (b : Bool) (test : b ≡ stays_at s facts i) where
        by_test : (x : Bool) → b ≡ x → stays_open s facts ended found ≡ cond x (Some i) None
        by_test x e =
            (λ t. stays_open s facts (none_ends t) (here t)) ∙ ap (λ (y : Bool). cond y (Some i) None) (sym test ∙ e)

        pub stays_there : b ≡ true → Some i ≡ stays_open s facts ended found
        stays_there y = sym (by_test true y)

        pub stays_not : b ≡ false → None ≡ stays_open s facts ended found
        stays_not y = sym (by_test false y)

-- ## What it says

-- step 1 ends none, slot i takes the packet, and its flow stays open
pub record StaysFacts (s : List ℕ) (facts : PacketFacts) (ended found : Option ℕ) (i : ℕ) : Type 0 where
  pub none_ends : ended ≡ None
  pub here : found ≡ Some i
  pub no_rst : eqb (bit_of rst (mask_of facts.tcp_flags)) 1 ≡ false
  pub unclosed : both_fins (record_in (slot s i)) ≡ false
  pub room : has_room (record_in (slot s i)) facts ≡ true

three_tests : (a b d : Bool) → (not a && not b && d) ≡ true → (a ≡ false) × (b ≡ false) × (d ≡ true)
three_tests true b d e = absurd (false≢true e)
three_tests false true d e = absurd (false≢true e)
three_tests false false d e = (refl, refl, e)

pub stays_facts : (s : List ℕ) (facts : PacketFacts) (ended found : Option ℕ) (i : ℕ) → Some i ≡ stays_open s facts ended found
    → StaysFacts s facts ended found i
stays_facts s facts (Some j) found i e = absurd (let z : ◌≡◌ {A = ℕ} 0 1 = cc in omega arith)
stays_facts s facts None None i e = absurd (let z : ◌≡◌ {A = ℕ} 0 1 = cc in omega arith)
stays_facts s facts None (Some j) i e = go (stays_at s facts j) refl e
  where
    go : (b : Bool) → stays_at s facts j ≡ b → Some i ≡ cond b (Some j) None
        → StaysFacts s facts None (Some j) i
    go true q h =
        let same : j ≡ i = cc in
        let (no_rst, unclosed, room) = three_tests _ _ _ (subst (λ (x : ℕ). stays_at s facts x ≡ true) same q) in
        record { none_ends = refl; here = ap Some same; no_rst = no_rst; unclosed = unclosed; room = room }
    go false q h = absurd (let z : ◌≡◌ {A = ℕ} 0 1 = cc in omega arith)

pub facts_stay : (s : List ℕ) (facts : PacketFacts) (ended found : Option ℕ) (i : ℕ) → StaysFacts s facts ended found i
    → stays_open s facts ended found ≡ Some i
facts_stay s facts ended found i h =
    (λ t. stays_open s facts (h.none_ends t) (h.here t))
    ∙ ap (λ (b : Bool). cond b (Some i) None) (λ t. not (h.no_rst t) && not (h.unclosed t) && h.room t)
