-- The index of a table's slots by their keys' hash: 16,384 places. A place is 0 (empty) or an entry: 19 bits of the key's hash, and
-- the slot. Places 0 to 8191 are homes; a search goes forward from its home and never wraps.
use Rattle.std.specs.Prelude.{ℕ, zero, suc, ◌+◌, ◌-◌, ◌*◌, ◌/◌, ◌%◌, ◌≤◌, ◌<◌, ◌≡◌, Bool, true, false, cond, List, [], ◌∷◌, eqb, length, drop, get_or, set}
use Rattle.slots.specs.Table.{slot, is_used, key_of}

-- ---- an entry

-- where a search for a key with this hash begins
abbrev pub home : ℕ → ℕ
home hash = hash % 8192

-- the entry of slot i under a key with this hash
abbrev pub entry_of : ℕ → ℕ → ℕ
entry_of hash i = hash % 524288 * 8192 + i + 1

-- the home that an entry names
abbrev pub home_in : ℕ → ℕ
home_in e = (e - 1) / 8192 % 8192

-- the slot that an entry names
abbrev pub slot_in : ℕ → ℕ
slot_in e = (e - 1) % 8192

-- the 19 bits of a hash that an entry holds
abbrev pub tag_in : ℕ → ℕ
tag_in e = (e - 1) / 8192

-- ---- no entry has a hash

-- no entry before the next empty place has the tag
unfoldable pub tag_absent : ℕ → List ℕ → Bool
tag_absent tag [] = true
tag_absent tag (e ∷ es) = cond (eqb e 0) true (cond (eqb (tag_in e) tag) false (tag_absent tag es))

-- no entry from the hash's home to the next empty place has the hash
abbrev pub hash_absent : List ℕ → ℕ → Bool
hash_absent index hash = tag_absent (hash % 524288) (drop (home hash) index)

-- ---- how many

-- 1 for a place that is not empty
unfoldable pub sign : ℕ → ℕ
sign zero = 0
sign (suc e) = 1

-- how many places are not empty
unfoldable pub taken : List ℕ → ℕ
taken [] = 0
taken (e ∷ es) = sign e + taken es

-- 1 for true
abbrev pub bit : Bool → ℕ
bit true = 1
bit false = 0

-- how many of the first c slots are used
unfoldable pub used_in : List ℕ → ℕ → ℕ
used_in state zero = 0
used_in state (suc c) = used_in state c + bit (is_used (slot state c))

-- ---- the invariant

-- some place holds the entry e
pub record Has (index : List ℕ) (e : ℕ) : Type 0 where
  pub place : ℕ
  pub within : place < 16384
  pub here : get_or index place 0 ≡ e

-- each entry stands at or behind its home, with no empty place between
pub record Tight (index : List ℕ) : Type 0 where
  pub size : length index ≡ 16384
  pub behind : (p : ℕ) → (get_or index p 0 ≡ 0 → ⊥) → home_in (get_or index p 0) ≤ p
  pub full : (p q : ℕ) → (get_or index p 0 ≡ 0 → ⊥) → home_in (get_or index p 0) ≤ q → q < p → get_or index q 0 ≡ 0 → ⊥

-- the index has the entry of every used slot of the first c, and no more entries than those
pub record Indexed (hash : List ℕ → ℕ) (index state : List ℕ) (c : ℕ) : Type 0 where
  pub tight : Tight index
  pub small : c ≤ 4096
  pub inside : (p : ℕ) → (get_or index p 0 ≡ 0 → ⊥) → slot_in (get_or index p 0) < c
  pub count : taken index ≡ used_in state c
  pub named : (i : ℕ) → i < c → is_used (slot state i) ≡ true → Has index (entry_of (hash (key_of (slot state i))) i)

-- ---- what the functions do

-- the entry e has been put at the first empty place from `from` on
pub record Inserted (from e : ℕ) (index index' : List ℕ) : Type 0 where
  pub place : ℕ
  pub behind : from ≤ place
  pub within : place < 16384
  pub free : get_or index place 0 ≡ 0
  pub full : (p : ℕ) → from ≤ p → p < place → get_or index p 0 ≡ 0 → ⊥
  pub changed : index' ≡ set index place e

-- the entry e has left: all others are there still, and nothing else
pub record Forgotten (e : ℕ) (index index' : List ℕ) : Type 0 where
  pub tight : Tight index'
  pub count : taken index' + 1 ≡ taken index
  pub kept : (d : ℕ) → (d ≡ e → ⊥) → Has index d → Has index' d
  pub fresh : (p : ℕ) → (get_or index' p 0 ≡ 0 → ⊥) → Has index (get_or index' p 0)

-- r is the first place from `from` on that holds e, or 16384 where there is none
pub record FirstPlace (index : List ℕ) (from e r : ℕ) : Type 0 where
  pub within : r ≤ 16384
  pub here : r < 16384 → get_or index r 0 ≡ e
  pub before : (p : ℕ) → from ≤ p → p < r → get_or index p 0 ≡ e → ⊥
