-- Looking for the first place that holds a number, and for an entry with a tag. Assumes nothing.
use mathlib.Core.Path.{◌≡◌, refl, sym, ap, ◌∙◌}
use mathlib.Core.Logic.{⊎_elim}
use mathlib.Core.Bool.{true, false}
use mathlib.Core.List.{List, ◌∷◌}
use Prim.Native.Nat.{ℕ, ◌+◌, ◌≤◌, ◌<◌}
use native.Mathlib.Numerals.{add-one}
use native.Mathlib.Omega.{arith}
use lib.ListN.{length, drop, get_or, set, drop_of_length-le}
use lib.Seq.{drop-cons}
use Rattle.memory.proofs.Laws.{less_or}
use Rattle.index.specs.Index.{tag_in, tag_absent, taken, Inserted, FirstPlace}
use Rattle.index.proofs.Laws.{absent_empty, absent_tagged, absent_other, taken_all}

-- v stands at none of the places from `from` to before `place`
pub record Sought (index : List ℕ) (from v place : ℕ) : Type 0 where
  pub begun : from ≤ place
  pub within : place ≤ 16384
  pub passed : (p : ℕ) → from ≤ p → p < place → get_or index p 0 ≡ v → ⊥

pub seek_begins : (index : List ℕ) (from v : ℕ) → from ≤ 16384 → Sought index from v from
seek_begins index from v h = record { begun = omega arith; within = h; passed = λ p lo hi. absurd (omega arith) }

module _ {index : List ℕ} {from v place : ℕ} where
  pub seek_goes_on : place < 16384 → Sought index from v place → (get_or index place 0 ≡ v → ⊥) → Sought index from v (place + 1)
  seek_goes_on more sought other =
      record {
        begun = omega (arith, sought.begun);
        within = omega arith;
        passed = λ p lo hi z.
            ⊎_elim (λ (l : p < place). sought.passed p lo l z)
            (λ g. let q : place ≡ p = omega arith in other (ap (λ (k : ℕ). get_or index k 0) q ∙ z)) (less_or p place);
      }

  pub seek_hits : Sought index from v place → get_or index place 0 ≡ v → FirstPlace index from v place
  seek_hits sought here = record { within = sought.within; here = λ l. here; before = sought.passed }

  pub seek_ends : Sought index from v place → 16384 ≤ place → FirstPlace index from v 16384
  seek_ends sought end =
      record { within = omega arith; here = λ l. absurd (omega arith); before = λ p lo hi. sought.passed p lo (omega arith) }

-- an empty place is sought from a home on
pub record Looked (index : List ℕ) (from place : ℕ) : Type 0 where
  pub low : from < 8192
  pub within : place < 16384
  pub sought : Sought index from 0 place

pub look_begins : (index : List ℕ) (from : ℕ) → from < 8192 → Looked index from from
look_begins index from h = record { low = h; within = omega arith; sought = seek_begins index from 0 (omega arith) }

-- at most half the places are taken, so an empty one comes
pub look_goes_on : {index : List ℕ} {from place : ℕ} → length index ≡ 16384 → taken index ≤ 8192 → Looked index from place
    → (get_or index place 0 ≡ 0 → ⊥) → Looked index from (place + 1)
look_goes_on {index} {from} {place} size room looked full =
    let on : Sought index from 0 (place + 1) = seek_goes_on looked.within looked.sought full in
    record {
      low = looked.low;
      within =
          ⊎_elim (λ (l : place + 1 < 16384). l)
          (λ g. absurd (omega (arith, looked.low, taken_all index from (λ p lo hi. on.passed p lo (omega arith)))))
          (less_or (place + 1) 16384);
      sought = on;
    }

pub look_ends : {index : List ℕ} {from place : ℕ} (v e : ℕ) → v ≡ e → Looked index from place → get_or index place 0 ≡ 0
    → Inserted from e index (set index place v)
look_ends {index} {from} {place} v e q looked free =
    record {
      place = place;
      behind = looked.sought.begun;
      within = looked.within;
      free = free;
      full = looked.sought.passed;
      changed = ap (set index place) q;
    }

-- whether an entry from `from` on has the tag is decided from `place` on
pub record Scanned (index : List ℕ) (tag from place : ℕ) : Type 0 where
  pub within : place ≤ 16384
  pub same : tag_absent tag (drop from index) ≡ tag_absent tag (drop place index)

pub scan_begins : (index : List ℕ) (tag from : ℕ) → from ≤ 16384 → Scanned index tag from from
scan_begins index tag from h = record { within = h; same = refl }

module _ {index : List ℕ} {tag from place : ℕ} (size : length index ≡ 16384) (scanned : Scanned index tag from place) where
  scan_next : place < 16384 → tag_absent tag (drop from index) ≡ tag_absent tag (get_or index place 0 ∷ drop (place + 1) index)
  scan_next more =
      scanned.same
      ∙ ap (tag_absent tag) (drop-cons index place 0 (omega arith) ∙ ap (λ (k : ℕ). get_or index place 0 ∷ drop k index) (sym (add-one place)))

  pub scan_empty : place < 16384 → get_or index place 0 ≡ 0 → true ≡ tag_absent tag (drop from index)
  scan_empty more empty = sym (scan_next more ∙ absent_empty tag _ _ empty)

  pub scan_hits : place < 16384 → (get_or index place 0 ≡ 0 → ⊥) → tag_in (get_or index place 0) ≡ tag → false ≡ tag_absent tag (drop from index)
  scan_hits more some own = sym (scan_next more ∙ absent_tagged tag _ _ some own)

  pub scan_goes_on : place < 16384 → (get_or index place 0 ≡ 0 → ⊥) → (tag_in (get_or index place 0) ≡ tag → ⊥)
      → Scanned index tag from (place + 1)
  scan_goes_on more some other = record { within = omega arith; same = scan_next more ∙ absent_other tag _ _ some other }

  pub scan_ends : 16384 ≤ place → true ≡ tag_absent tag (drop from index)
  unfolding tag_absent
  scan_ends end = sym (scanned.same ∙ ap (tag_absent tag) (drop_of_length-le index {i = place} (omega arith)))
