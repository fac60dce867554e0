-- An entry leaves, and what stands behind it moves up. Assumes nothing.
use mathlib.Core.Path.{◌≡◌, refl, sym, ap, ◌∙◌, subst}
use mathlib.Core.Logic.{⊎_elim}
use mathlib.Core.List.{List}
use Prim.Native.Nat.{ℕ, ◌+◌, ◌≤◌, ◌<◌}
use native.Mathlib.Nat.{eq-or-lt_of_le}
use native.Mathlib.Omega.{arith}
use lib.ListN.{length, get_or, set, length-set, get_or-eq_default}
use lib.Seq.{get_or-set_same, get_or-set_other}
use Rattle.memory.proofs.Laws.{less_or, same_or}
use Rattle.index.specs.Index.{home, entry_of, home_in, taken, Has, Tight, Forgotten, FirstPlace}
use Rattle.index.proofs.Laws.{sign_none, sign_some, taken_set, stands}

-- d stands at another place than the hole
pub record HasOff (index : List ℕ) (d hole : ℕ) : Type 0 where
  pub has : Has index d
  pub off : has.place ≡ hole → ⊥

-- the entry e of index₀ has left place `hole`, which still holds a number; the places up to before `place` have been looked at, and what
-- stands at those behind the hole has its home behind the hole
pub record Shifting (index₀ : List ℕ) (e : ℕ) (index : List ℕ) (hole place : ℕ) : Type 0 where
  pub begun : hole < place
  pub within : place ≤ 16384
  pub tight : Tight index
  pub count : taken index ≡ taken index₀
  pub filled : get_or index hole 0 ≡ 0 → ⊥
  pub behind : (p : ℕ) → hole < p → p < place → (get_or index p 0 ≡ 0 → ⊥) → hole < home_in (get_or index p 0)
  pub kept : (d : ℕ) → (d ≡ e → ⊥) → Has index₀ d → HasOff index d hole
  pub fresh : (p : ℕ) → (get_or index p 0 ≡ 0 → ⊥) → Has index₀ (get_or index p 0)

module _ {index : List ℕ} (h x r v : ℕ) (low : x < 4096) (tight : Tight index) (has : Has index (entry_of h x)) (is : v ≡ entry_of h x)
    (first : FirstPlace index (home h) v r) where
  pub first_within : r < 16384
  first_within =
      let st = stands h x low tight has in
      ⊎_elim (λ (l : r < 16384). l)
      (λ g. absurd (first.before st.place st.behind (omega (arith, st.within)) (st.here ∙ sym is))) (less_or r 16384)

  pub shift_begins : Shifting index (entry_of h x) index r (r + 1)
  shift_begins =
      let in_place : r < 16384 = first_within in
      let own : get_or index r 0 ≡ entry_of h x = first.here in_place ∙ is in
      record {
        begun = omega arith;
        within = omega arith;
        tight = tight;
        count = refl;
        filled = λ z. omega arith;
        behind = λ p lo hi. absurd (omega arith);
        kept = λ d n there. record { has = there; off = λ q. n (sym there.here ∙ ap (λ (k : ℕ). get_or index k 0) q ∙ own) };
        fresh = λ p full.
            ⊎_elim (λ (l : p < 16384). record { place = p; within = l; here = refl })
            (λ g. absurd (full (get_or-eq_default index 0 (omega (arith, tight.size))))) (less_or p 16384);
      }

module _ {index₀ : List ℕ} {e : ℕ} {index : List ℕ} {hole place : ℕ} where
  -- the entry at place stands rightly where the hole is empty
  pub shift_stays : (own : ℕ) → place < 16384 → own ≡ home_in (get_or index place 0) → hole < own → Shifting index₀ e index hole place
      → Shifting index₀ e index hole (place + 1)
  shift_stays own low is right was =
      record {
        begun = omega (arith, was.begun);
        within = omega arith;
        tight = was.tight;
        count = was.count;
        filled = was.filled;
        behind = λ p lo hi full.
            ⊎_elim (λ (l : p < place). was.behind p lo l full)
            (λ g. let q : place ≡ p = omega arith in subst (λ (k : ℕ). hole < home_in (get_or index k 0)) q (omega arith))
            (less_or p place);
        kept = was.kept;
        fresh = was.fresh;
      }

  -- the entry at place moves to the hole, and place is the hole now
  pub shift_moves : (own : ℕ) → place < 16384 → (get_or index place 0 ≡ 0 → ⊥) → own ≡ home_in (get_or index place 0) → own ≤ hole
      → Shifting index₀ e index hole place → Shifting index₀ e (set index hole (get_or index place 0)) place (place + 1)
  shift_moves own low full is mine was =
      record {
        begun = omega arith;
        within = omega arith;
        tight = record {
          size = length-set index hole e₀ ∙ was.tight.size;
          behind = λ p some.
              ⊎_elim (λ (q : p ≡ hole). subst (λ (d : ℕ). home_in d ≤ p) (sym (now_is p q)) (omega arith))
              (λ n. subst (λ (d : ℕ). home_in d ≤ p) (sym (away p n)) (was.tight.behind p (λ z. some (away p n ∙ z)))) (same_or p hole);
          full = λ p q some lo hi.
              ⊎_elim
              (λ (at : p ≡ hole). fills q (was.tight.full place q full (subst (λ (d : ℕ). home_in d ≤ q) (now_is p at) lo) (omega (arith, was.begun))))
              (λ n. fills q (was.tight.full p q (λ z. some (away p n ∙ z)) (subst (λ (d : ℕ). home_in d ≤ q) (away p n) lo) hi)) (same_or p hole);
        };
        count = omega (arith, taken_set index hole e₀ hole_low, sign_some e₀ full, sign_some (get_or index hole 0) was.filled, was.count);
        filled = fills place full;
        behind = λ p lo hi. absurd (omega arith);
        kept = λ d n there. move_one d (was.kept d n there);
        fresh = λ p some.
            ⊎_elim (λ (q : p ≡ hole). subst (Has index₀) (sym (now_is p q)) (was.fresh place full))
            (λ n. subst (Has index₀) (sym (away p n)) (was.fresh p (λ z. some (away p n ∙ z)))) (same_or p hole);
      }
    where
      e₀ : ℕ
      e₀ = get_or index place 0

      hole_low : hole < length index
      hole_low = omega (arith, was.begun, was.tight.size)

      now_is : (p : ℕ) → p ≡ hole → get_or (set index hole e₀) p 0 ≡ e₀
      now_is p q = ap (λ (k : ℕ). get_or (set index hole e₀) k 0) q ∙ get_or-set_same index hole e₀ 0 hole_low

      away : (p : ℕ) → (p ≡ hole → ⊥) → get_or (set index hole e₀) p 0 ≡ get_or index p 0
      away p n = get_or-set_other index hole p e₀ 0 n

      fills : (q : ℕ) → (get_or index q 0 ≡ 0 → ⊥) → get_or (set index hole e₀) q 0 ≡ 0 → ⊥
      fills q some z = ⊎_elim (λ (at : q ≡ hole). full (sym (now_is q at) ∙ z)) (λ n. some (sym (away q n) ∙ z)) (same_or q hole)

      move_one : (d : ℕ) → HasOff index d hole → HasOff (set index hole e₀) d place
      move_one d ho =
          ⊎_elim
          (λ (q : ho.has.place ≡ place).
          record {
            has = record { place = hole; within = omega (arith, was.begun); here = now_is hole refl ∙ ap (λ (k : ℕ). get_or index k 0) (sym q) ∙ ho.has.here };
            off = λ z. omega (arith, was.begun);
          })
          (λ n. record { has = record { place = ho.has.place; within = ho.has.within; here = away ho.has.place ho.off ∙ ho.has.here }; off = n })
          (same_or ho.has.place place)

  -- an empty place: nothing behind the hole needs it
  pub shift_ends : get_or index place 0 ≡ 0 → Shifting index₀ e index hole place → Forgotten e index₀ (set index hole 0)
  shift_ends end was =
      record {
        tight = record {
          size = length-set index hole 0 ∙ was.tight.size;
          behind = λ p some. subst (λ (d : ℕ). home_in d ≤ p) (sym (same p some)) (was.tight.behind p (λ z. some (same p some ∙ z)));
          full = λ p q some lo hi z.
              let some' : get_or index p 0 ≡ 0 → ⊥ = λ y. some (same p some ∙ y) in
              let lo' : home_in (get_or index p 0) ≤ q = subst (λ (d : ℕ). home_in d ≤ q) (same p some) lo in
              ⊎_elim (λ (at : q ≡ hole). across p some' (omega arith) (omega arith))
              (λ n. was.tight.full p q some' lo' hi (sym (away q n) ∙ z)) (same_or q hole);
        };
        count = omega (arith, taken_set index hole 0 hole_low, sign_none 0 refl, sign_some (get_or index hole 0) was.filled, was.count);
        kept = λ d n there.
            let ho = was.kept d n there in
            record { place = ho.has.place; within = ho.has.within; here = away ho.has.place ho.off ∙ ho.has.here };
        fresh = λ p some. subst (Has index₀) (sym (same p some)) (was.fresh p (λ z. some (same p some ∙ z)));
      }
    where
      hole_low : hole < length index
      hole_low = omega (arith, was.begun, was.within, was.tight.size)

      away : (p : ℕ) → (p ≡ hole → ⊥) → get_or (set index hole 0) p 0 ≡ get_or index p 0
      away p n = get_or-set_other index hole p 0 0 n

      -- a place that is not empty is not the hole
      same : (p : ℕ) → (get_or (set index hole 0) p 0 ≡ 0 → ⊥) → get_or (set index hole 0) p 0 ≡ get_or index p 0
      same p some = away p (λ q. some (ap (λ (k : ℕ). get_or (set index hole 0) k 0) q ∙ get_or-set_same index hole 0 0 hole_low))

      -- no entry stands across the hole
      across : (p : ℕ) → (get_or index p 0 ≡ 0 → ⊥) → home_in (get_or index p 0) ≤ hole → hole < p → ⊥
      across p some lo hi =
          ⊎_elim (λ (l : p < place). omega (arith, was.behind p hi l some))
          (λ g.
          ⊎_elim (λ (q : place ≡ p). some (ap (λ (k : ℕ). get_or index k 0) (sym q) ∙ end))
          (λ l. was.tight.full p place some (omega (arith, was.begun)) l end) (eq-or-lt_of_le g))
          (less_or p place)

  pub shift_ends_last : 16384 ≤ place → Shifting index₀ e index hole place → Forgotten e index₀ (set index hole 0)
  shift_ends_last end was = shift_ends (get_or-eq_default index 0 (omega (arith, was.tight.size))) was
