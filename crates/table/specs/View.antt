-- State memory of a capacity c seen as its four regions: a header, c slots, the queue's tree, and what is the caller's.
use Rattle.std.specs.Prelude.{ℕ, ◌+◌, ◌*◌, ◌≡◌, List, [], drop, set, get_or, replicate}
use Rattle.memory.specs.Bytes.{part}
use Rattle.slots.specs.Table.{slots}
use Rattle.table.specs.declared.Header.{Header}
use Rattle.table.specs.Header.{header_bytes}

-- the regions
pub record View : Type 0 where
  pub header : List ℕ
  pub table : List (List ℕ)
  pub tree : List ℕ
  pub rest : List ℕ

-- the regions of the state s
abbrev pub view : ℕ → List ℕ → View
view c s = record { header = part s 0 256; table = slots s c; tree = part s (256 + 624 * c) (16 * c); rest = drop (256 + 640 * c) s }

-- slot i of a table
abbrev pub slot_of : List (List ℕ) → ℕ → List ℕ
slot_of table i = get_or table i []

-- the view with another header
abbrev pub with_header : List ℕ → View → View
with_header h v = record { header = h; table = v.table; tree = v.tree; rest = v.rest }

-- the view with another slot i
abbrev pub with_slot : ℕ → List ℕ → View → View
with_slot i b v = record { header = v.header; table = set v.table i b; tree = v.tree; rest = v.rest }

-- the view with another tree
abbrev pub with_tree : List ℕ → View → View
with_tree t v = record { header = v.header; table = v.table; tree = t; rest = v.rest }

-- a state with no flow: the header's bytes are b, those of the slots 0, those of the tree 255, and the caller's as they were
pub record NoFlow (c : ℕ) (b : List ℕ) (v v' : View) : Type 0 where
  pub header : v'.header ≡ b
  pub table : v'.table ≡ replicate c (replicate 624 0)
  pub tree : v'.tree ≡ replicate (16 * c) 255
  pub rest : v'.rest ≡ v.rest

-- the same with the header h
abbrev pub Cleared : ℕ → Header → View → View → Type 0
Cleared c h v v' = NoFlow c (header_bytes h) v v'
