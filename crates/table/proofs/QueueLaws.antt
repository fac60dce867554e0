-- A queue that names nothing. Assumes nothing.
use mathlib.Core.Path.{◌≡◌, sym, ap, ◌∙◌}
use mathlib.Core.List.{List, ◌++◌, append-nil}
use Prim.Native.Nat.{ℕ, ◌+◌, ◌-◌, ◌*◌, ◌≤◌, ◌<◌}
use native.Mathlib.Omega.{arith}
use lib.ListN.{length, take, drop, replicate, length-replicate, length-append, length-drop, drop_of_length-le}
use lib.Seq.{drop-append-add, take_at}
use borrow.Rule.Slice.PartMut.{put_mid}
use Rattle.memory.specs.Bytes.{num, part, patch}
use Rattle.memory.proofs.Laws.{length_part, length_patch, part_replicate, put_part, patch_within, lent}
use Rattle.queue.specs.Tree.{node, never, Empty}
use Rattle.table.specs.View.{View, view, with_tree}
use Rattle.table.specs.Due.{QueueCleared}
use Rattle.table.proofs.Laws.{view_tree}

-- ---- what it is

module _ (c : ℕ) (v v' : View) (some : 0 < c) (size : length v.tree ≡ 16 * c) (clear : QueueCleared c v v') where
  front : length (part v.tree 0 8) ≡ 8
  front = length_part v.tree 0 8 (omega arith)

  all_never : (k : ℕ) → 1 ≤ k → k < 2 * c → node v'.tree k ≡ never
  unfolding node num part
  all_never k lo hi =
      let at : 8 * k ≡ length (part v.tree 0 8) + 8 * (k - 1) = omega (arith, front) in
      let r : List ℕ = replicate (16 * c - 8) 255 in
      ap (λ (t : List ℕ). num (take 8 (drop (8 * k) t))) clear.tree
      ∙ ap (λ (m : ℕ). num (take 8 (drop m (part v.tree 0 8 ++ r)))) at
      ∙ ap (λ (t : List ℕ). num (take 8 t)) (drop-append-add (part v.tree 0 8) r (8 * (k - 1)))
      ∙ ap num (part_replicate (16 * c - 8) 255 (8 * (k - 1)) 8 (omega arith))

  -- no slot is due
  pub cleared_empty : Empty c v'.tree
  cleared_empty = record {
    sound = record {
      size =
          ap length clear.tree ∙ length-append (part v.tree 0 8) (replicate (16 * c - 8) 255)
          ∙ omega (arith, front, length-replicate {A = ℕ} (16 * c - 8) 255);
      inner = λ k lo hi.
          all_never k lo (omega arith)
          ∙ sym (cc (all_never (2 * k) (omega arith) (omega arith), all_never (2 * k + 1) (omega arith) (omega arith)));
    };
    none = λ i low. all_never (c + i) (omega arith) (omega arith);
  }

  -- the spare node is as it was
  pub cleared_spare_node : node v'.tree 0 ≡ node v.tree 0
  unfolding node part
  cleared_spare_node =
      ap (λ (t : List ℕ). num (take 8 t)) clear.tree
      ∙ ap num (take_at (part v.tree 0 8) (replicate (16 * c - 8) 255) 8 front)

-- ---- the part of the tree behind node 0, lent, filled and given back

-- the tree filled behind node 0
filled_behind : (tree t : List ℕ) (c n : ℕ) → length tree ≡ 16 * c → length t ≡ 16 * c - 8 → t ≡ replicate n 255
    → patch tree 8 t ≡ part tree 0 8 ++ replicate n 255
unfolding patch part
filled_behind tree t c n long many is =
    ap (λ (x : List ℕ). take 8 tree ++ (t ++ x)) (drop_of_length-le (drop 8 tree) {i = length t} (omega (arith, length-drop 8 tree)))
    ∙ ap (λ (x : List ℕ). take 8 tree ++ x) (append-nil t ∙ is)

module _ (s : List ℕ) (c : ℕ) (size : 256 + 640 * c ≤ length s) (some : 0 < c) where
  pub cleared_back : (t : List ℕ)
      → t ≡ replicate (length (take (256 + 624 * c + 8 + (16 * c - 8) - (256 + 624 * c + 8)) (drop (256 + 624 * c + 8) s))) 255
      → QueueCleared c (view c s) (view c (put_mid (256 + 624 * c + 8) (256 + 624 * c + 8 + (16 * c - 8) - (256 + 624 * c + 8)) s t))
  cleared_back t filled =
      let n : ℕ = 16 * c - 8 in
      let at : ℕ = 256 + 624 * c + 8 in
      let tree : List ℕ = part s (256 + 624 * c) (16 * c) in
      let long : length tree ≡ 16 * c = length_part s (256 + 624 * c) (16 * c) (omega arith) in
      let is : t ≡ replicate n 255 =
      filled ∙ ap (λ (l : List ℕ). replicate (length l) 255) (lent s at n)
      ∙ ap (λ (k : ℕ). replicate k 255) (length_part s at n (omega arith)) in
      let many : length t ≡ n = ap length is ∙ length-replicate n 255 in
      let whole : length (patch tree 8 t) ≡ 16 * c = length_patch tree 8 t (omega arith) ∙ long in
      let back : view c (put_mid at (at + n - at) s t) ≡ with_tree (patch tree 8 t) (view c s) =
      ap (view c) (put_part s t at n many ∙ sym (patch_within s (256 + 624 * c) (16 * c) 8 t (omega arith) (omega arith)))
      ∙ view_tree s c size (patch tree 8 t) whole in
      let new : (view c (put_mid at (at + n - at) s t)).tree ≡ patch tree 8 t = ap (λ (v : View). v.tree) back in
      record { same = back ∙ ap (λ (u : List ℕ). with_tree u (view c s)) (sym new); tree = new ∙ filled_behind tree t c n long many is }
