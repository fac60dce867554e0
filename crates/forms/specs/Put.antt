-- Writing bytes one behind the other: each goes where the one before ended, and nothing more is stored once there is no room.
use Rattle.std.specs.Prelude.{ℕ, suc, ◌+◌, ◌≤◌, ◌<◌, ◌≡◌, refl, List, [], ◌∷◌, ◌++◌, Bool, true, false, cond, leb, length, set, take, drop, None, Option, Some}
use Rattle.std.proofs.Common.{sym, ap, ◌∙◌, arith, zero-add, add_assoc, add-zero, leb-false, le-leb, length-append}
use Rattle.std.proofs.lemmas.Bool.{lt-leb}
use Rattle.std.proofs.lemmas.List.Edits.{sets, sets-eq}
use Rattle.std.proofs.Math.Seq.{set_out, length-sets}

-- what is stored; `sets` stores element by element, and past the end nothing
abbrev pub stored : List ℕ → Option ℕ → List ℕ → List ℕ
stored l (Some i) bytes = sets l i bytes
stored l None bytes = l

-- the place behind n bytes, where there is room for them in `size`
abbrev pub behind : ℕ → Option ℕ → ℕ → Option ℕ
behind size (Some i) n = cond (leb (i + n) size) (Some (i + n)) None
behind size None n = None

pub record Put (before : List ℕ) (place : Option ℕ) (bytes after : List ℕ) (r : Option ℕ) : Type 0 where
  pub holds : after ≡ stored before place bytes
  pub next : r ≡ behind (length before) place (length bytes)

pub sets_append : (l : List ℕ) (i : ℕ) (xs ys : List ℕ) → sets l i (xs ++ ys) ≡ sets (sets l i xs) (i + length xs) ys
sets_append l i [] ys = ap (λ (k : ℕ). sets l k ys) (sym (add-zero i))
sets_append l i (x ∷ xs) ys =
    let e : suc i + length xs ≡ i + length (x ∷ xs) = omega arith in
    sets_append (set l i x) (suc i) xs ys ∙ ap (λ (k : ℕ). sets (sets (set l i x) (suc i) xs) k ys) e

pub sets_out : (l : List ℕ) (i : ℕ) (xs : List ℕ) → length l ≤ i → sets l i xs ≡ l
sets_out l i [] h = refl
sets_out l i (x ∷ xs) h = rw (set_out l i x h) (sets_out l (suc i) xs (omega arith))

stored_length : (l : List ℕ) (place : Option ℕ) (xs : List ℕ) → length (stored l place xs) ≡ length l
stored_length l (Some i) xs = length-sets l i xs
stored_length l None xs = refl

stored_then : (l : List ℕ) (place : Option ℕ) (xs ys : List ℕ) → stored (stored l place xs) (behind (length l) place (length xs)) ys ≡ stored l place (xs ++ ys)
stored_then l None xs ys = refl
stored_then l (Some i) xs ys = go (leb (i + length xs) (length l)) refl
  where
    go : (t : Bool) → leb (i + length xs) (length l) ≡ t → stored (sets l i xs) (cond t (Some (i + length xs)) None) ys ≡ sets l i (xs ++ ys)
    go true e = sym (sets_append l i xs ys)
    go false e =
        let past = leb-false (i + length xs) (length l) e in
        sym (sets_append l i xs ys ∙ sets_out (sets l i xs) (i + length xs) ys (omega (arith, length-sets l i xs)))

behind_then : (size : ℕ) (place : Option ℕ) (a b : ℕ) → behind size (behind size place a) b ≡ behind size place (a + b)
behind_then size None a b = refl
behind_then size (Some i) a b = go (leb (i + a) size) refl
  where
    go : (t : Bool) → leb (i + a) size ≡ t → behind size (cond t (Some (i + a)) None) b ≡ cond (leb (i + (a + b)) size) (Some (i + (a + b))) None
    go true e = rw add_assoc
    go false e = let past = leb-false (i + a) size e in rw (lt-leb (i + (a + b)) size (omega arith))

-- one behind the other
pub put_then : {l m n : List ℕ} {p q r : Option ℕ} {xs ys : List ℕ} → Put l p xs m q → Put m q ys n r → Put l p (xs ++ ys) n r
put_then {l} {m} {n} {p} {q} {r} {xs} {ys} a b =
    record {
      holds = b.holds ∙ rw (a.holds, a.next) (stored_then l p xs ys);
      next = b.next ∙ rw (a.holds, stored_length, a.next, length-append) (behind_then (length l) p (length xs) (length ys));
    }

-- nothing grows
pub put_length : {l m xs : List ℕ} {p r : Option ℕ} → Put l p xs m r → length m ≡ length l
put_length {l} {m} {xs} {p} a = ap length a.holds ∙ stored_length l p xs

-- a byte
module _ (l : List ℕ) (place : Option ℕ) (b i : ℕ) (here : place ≡ Some i) where
  pub byte_stored : i < length l → Put l place (b ∷ []) (set l i b) (Some (i + 1))
  byte_stored h = record { holds = rw here; next = rw (here, le-leb (i + 1) (length l) (omega arith)) }

  pub byte_full : length l ≤ i → Put l place (b ∷ []) l None
  byte_full h = record { holds = rw (here, set_out l i b h); next = rw (here, lt-leb (i + 1) (length l) (omega arith)) }

-- at the front, where there is room
pub put_front : {l m bytes : List ℕ} {r : Option ℕ} → Put l (Some 0) bytes m r → length bytes ≤ length l → m ≡ bytes ++ drop (length bytes) l
put_front {l} {m} {bytes} p h = p.holds ∙ sets-eq bytes l 0 (omega arith) ∙ rw (zero-add (length bytes))

-- ---- where there is room

-- old with these bytes stored from `at` on
unfoldable pub written : ℕ → List ℕ → List ℕ → List ℕ
written at bytes old = take at old ++ (bytes ++ drop (at + length bytes) old)

-- new is old with these bytes stored from `at` on, where there was room, and they end at `end`
pub record Writes (at : ℕ) (bytes old new : List ℕ) (end : ℕ) : Type 0 where
  pub room : at + length bytes ≤ length old
  pub stored : new ≡ written at bytes old
  pub ends : end ≡ at + length bytes
