-- No flow stands under another's reversed key. What reversed means, and which keys are exempt, is the caller's.
use Rattle.std.specs.Prelude.{ℕ, ◌<◌, ◌≡◌, Bool, true, false, List}
use Rattle.slots.specs.Table.{slot, is_used, key_of, holds}

-- none of the first c slots is used under the key
unfoldable pub Absent : List ℕ → ℕ → List ℕ → Type 0
Absent state c key = (k : ℕ) → k < c → holds key (slot state k) ≡ false

-- where a slot's key is not exempt, no other slot of the first c is used under that key reversed
pub record Unreversed (reversed : List ℕ → List ℕ) (exempt : List ℕ → Bool) (state : List ℕ) (c : ℕ) : Type 0 where
  pub alone : (i j : ℕ) → i < c → j < c → is_used (slot state i) ≡ true → is_used (slot state j) ≡ true
      → exempt (key_of (slot state i)) ≡ false → key_of (slot state j) ≡ reversed (key_of (slot state i)) → i ≡ j
