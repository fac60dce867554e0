-- The flow table as a list of slots, and the search in it.
use Rattle.std.specs.Prelude.{ℕ, zero, suc, ◌+◌, ◌*◌, ◌<◌, ◌≡◌, Bool, true, false, List, [], ◌∷◌, get_or, eqb, None, Option, Some}
use Rattle.memory.specs.Bytes.{part}

-- ---- slot i of the state s

unfoldable pub slot : List ℕ → ℕ → List ℕ
slot s i = part s (256 + 624 * i) 624

-- the n slots from slot i
unfoldable pub slots_from : List ℕ → ℕ → ℕ → List (List ℕ)
slots_from s i zero = []
slots_from s i (suc n) = slot s i ∷ slots_from s (i + 1) n

abbrev pub slots : List ℕ → ℕ → List (List ℕ)
slots s capacity = slots_from s 0 capacity

-- ---- what a slot b says

unfoldable pub key_of : List ℕ → List ℕ
key_of b = part b 2 (get_or b 1 0)

unfoldable pub is_used : List ℕ → Bool
is_used b = eqb (get_or b 0 0) 1

unfoldable pub both : Bool → Bool → Bool
both true b = b
both false b = false

unfoldable pub same : List ℕ → List ℕ → Bool
same [] [] = true
same [] (y ∷ ys) = false
same (x ∷ xs) [] = false
same (x ∷ xs) (y ∷ ys) = both (eqb x y) (same xs ys)

unfoldable pub holds : List ℕ → List ℕ → Bool
holds key b = both (is_used b) (same (key_of b) key)

-- ---- the first slot that passes a test, counted from i

unfoldable pub pick : Bool → Option ℕ → Option ℕ → Option ℕ
pick true here later = here
pick false here later = later

unfoldable pub first_where : (List ℕ → Bool) → ℕ → List (List ℕ) → Option ℕ
first_where test i [] = None
first_where test i (b ∷ bs) = pick (test b) (Some i) (first_where test (i + 1) bs)

-- ---- no key twice

unfoldable pub NoKeyTwice : List ℕ → ℕ → Type 0
NoKeyTwice s c =
    (i j : ℕ) → i < c → j < c → is_used (slot s i) ≡ true → is_used (slot s j) ≡ true → key_of (slot s i) ≡ key_of (slot s j) → i ≡ j
