-- What a patch of the state does to the view, one law for each region; and the queue's region lent and given back. Assumes nothing.
use Rattle.std.specs.Prelude.{None, Option, Some}
use mathlib.Core.Path.{◌≡◌, sym, ap, ◌∙◌, subst}
use mathlib.Core.Logic.{inl, inr}
use mathlib.Core.Bool.{Bool}
use mathlib.Core.List.{List, [], ◌++◌}
use Prim.Native.Nat.{ℕ, ◌+◌, ◌*◌, ◌-◌, ◌≤◌, ◌<◌}
use native.Mathlib.Nat.{zero-add, add-zero}
use native.Mathlib.Omega.{arith}
use lib.ListN.{length, take, drop, set, get_or, replicate, length-replicate, get_or-replicate}
use lib.Seq.{length-take-le, get_or-set_same, get_or-set_other}
use borrow.Rule.Slice.PartMut.{put_mid}
use Rattle.memory.specs.Bytes.{num, part, patch}
use Rattle.memory.specs.Decides.{Decides}
use Rattle.memory.proofs.Laws.{length_part, part_elsewhere, part_inside, part_patched, drop_behind, lent, put_part, put_front, part_part, part_replicate, length_patch}
use Rattle.queue.specs.Tree.{node, DueSet, Sound, LeastDue}
use Rattle.slots.specs.Table.{slot, slots}
use Rattle.slots.proofs.Laws.{slots_elsewhere, slots_patched, slots_ext, get_d_slots, length_slots}
use Rattle.table.specs.View.{View, view, slot_of, with_header, with_slot, with_tree, NoFlow}
use Rattle.table.specs.Due.{due_of, DuePut, NextDue}

-- two views are equal where their regions are
pub view_ext : {v w : View} → v.header ≡ w.header → v.table ≡ w.table → v.tree ≡ w.tree → v.rest ≡ w.rest → v ≡ w
view_ext h t q r = λ i. record { header = h i; table = t i; tree = q i; rest = r i }

module _ (s : List ℕ) (c : ℕ) (size : 256 + 640 * c ≤ length s) where
  pub view_header : (a : ℕ) (bs : List ℕ) → a + length bs ≤ 256 → view c (patch s a bs) ≡ with_header (patch (part s 0 256) a bs) (view c s)
  view_header a bs h =
      view_ext
      (ap (λ (k : ℕ). part (patch s k bs) 0 256) (sym (zero-add a)) ∙ part_inside s 0 256 a bs h (omega arith))
      (slots_elsewhere s c a bs (omega arith) (omega arith) (inl h))
      (part_elsewhere s a bs (omega arith) (256 + 624 * c) (16 * c) (inr (omega arith)))
      (drop_behind s a bs (256 + 640 * c) (omega arith) size)

  pub view_slot : (i a : ℕ) (bs : List ℕ) → i < c → a + length bs ≤ 624
      → view c (patch s (256 + 624 * i + a) bs) ≡ with_slot i (patch (slot s i) a bs) (view c s)
  view_slot i a bs low h =
      view_ext
      (part_elsewhere s (256 + 624 * i + a) bs (omega arith) 0 256 (inl (omega arith)))
      (slots_patched s c i a bs low (omega arith) h)
      (part_elsewhere s (256 + 624 * i + a) bs (omega arith) (256 + 624 * c) (16 * c) (inr (omega arith)))
      (drop_behind s (256 + 624 * i + a) bs (256 + 640 * c) (omega arith) size)

  pub view_tree : (t : List ℕ) → length t ≡ 16 * c → view c (patch s (256 + 624 * c) t) ≡ with_tree t (view c s)
  view_tree t n =
      view_ext
      (part_elsewhere s (256 + 624 * c) t (omega arith) 0 256 (inl (omega arith)))
      (slots_elsewhere s c (256 + 624 * c) t (omega arith) (omega arith) (inr (omega arith)))
      (part_patched s (256 + 624 * c) t (omega arith) (16 * c) n)
      (drop_behind s (256 + 624 * c) t (256 + 640 * c) (omega arith) size)

-- ---- slots

-- slot i of the table is slot i of the state
pub slot_view : (s : List ℕ) (c i : ℕ) → i < c → slot_of (view c s).table i ≡ slot s i
slot_view s c i low = get_d_slots s c i low

-- where one slot of the table was replaced, the others are as they were
pub slots_apart : (s s' : List ℕ) (c i : ℕ) (b : List ℕ) → slots s' c ≡ set (slots s c) i b → i < c
    → (slot s' i ≡ b) × ((j : ℕ) → j < c → (j ≡ i → ⊥) → slot s' j ≡ slot s j)
slots_apart s s' c i b e low = (
  sym (get_d_slots s' c i low) ∙ ap (λ (l : List (List ℕ)). get_or l i []) e
      ∙ get_or-set_same (slots s c) i b [] (omega (arith, length_slots s c 0)),
  λ j h other.
      sym (get_d_slots s' c j h) ∙ ap (λ (l : List (List ℕ)). get_or l j []) e
      ∙ get_or-set_other (slots s c) i j b [] other ∙ get_d_slots s c j h,
)

-- bytes were put into slot i, from a
pub slot_put : (s s' : List ℕ) (c i a : ℕ) (bs : List ℕ) → 256 + 640 * c ≤ length s → i < c → a + length bs ≤ 624
    → s' ≡ patch s (256 + 624 * i + a) bs → view c s' ≡ with_slot i (patch (slot_of (view c s).table i) a bs) (view c s)
slot_put s s' c i a bs size low h e =
    ap (view c) e ∙ view_slot s c size i a bs low h
    ∙ ap (λ (b : List ℕ). with_slot i (patch b a bs) (view c s)) (sym (slot_view s c i low))

-- bytes were put at the beginning of slot i
pub slot_begun : (s s' : List ℕ) (c i : ℕ) (bs : List ℕ) → 256 + 640 * c ≤ length s → i < c → length bs ≤ 624
    → s' ≡ patch s (256 + 624 * i) bs → view c s' ≡ with_slot i (patch (slot_of (view c s).table i) 0 bs) (view c s)
slot_begun s s' c i bs size low h e =
    slot_put s s' c i 0 bs size low (omega arith) (e ∙ ap (λ (k : ℕ). patch s k bs) (sym (add-zero (256 + 624 * i))))

-- ---- the queue

-- a slot's due time where it lies in the state
pub due_view : (s : List ℕ) (c i : ℕ) → 256 + 640 * c ≤ length s → i < c
    → num (part s (256 + 624 * c + 8 * (c + i)) 8) ≡ due_of c (view c s).tree i
unfolding node
due_view s c i size low = sym (ap num (part_part s (256 + 624 * c) (16 * c) (8 * (c + i)) 8 (omega arith) (omega arith)))

-- where a due time was put, that slot has it, and the others have theirs
pub due_set : (c i due : ℕ) (v v' : View) → DuePut c i due v v'
    → (due_of c v'.tree i ≡ due) × ((j : ℕ) → j < c → (j ≡ i → ⊥) → due_of c v'.tree j ≡ due_of c v.tree j)
due_set c i due v v' put = (put.queue.here, put.queue.others)

due_put : (c i due : ℕ) (v v' : View) (t : List ℕ) → v' ≡ with_tree t v → DueSet c i due v.tree t → DuePut c i due v v'
due_put c i due v v' t e set-it =
    let q : t ≡ v'.tree = ap (λ (w : View). w.tree) (sym e) in
    record { same = e ∙ ap (λ (u : List ℕ). with_tree u v) q; queue = subst (DueSet c i due v.tree) q set-it }

-- the tree, lent as a part of the state
module _ (s : List ℕ) (c : ℕ) where
  is_tree : take (256 + 624 * c + 16 * c - (256 + 624 * c)) (drop (256 + 624 * c) s) ≡ (view c s).tree
  is_tree = lent s (256 + 624 * c) (16 * c)

  pub tree_lent : Sound (view c s).tree c → Sound (take (256 + 624 * c + 16 * c - (256 + 624 * c)) (drop (256 + 624 * c) s)) c
  tree_lent sound = subst (λ (t : List ℕ). Sound t c) (sym is_tree) sound

  pub tree_told : (r : Bool) → Decides r (Sound (take (256 + 624 * c + 16 * c - (256 + 624 * c)) (drop (256 + 624 * c) s)) c)
      → Decides r (Sound (view c s).tree c)
  tree_told r told = subst (λ (t : List ℕ). Decides r (Sound t c)) is_tree told

  pub next_told : (limit : ℕ) (r : Option ℕ) → LeastDue (take (256 + 624 * c + 16 * c - (256 + 624 * c)) (drop (256 + 624 * c) s)) c limit r
      → NextDue c limit (view c s).tree r
  next_told limit r h = go r (subst (λ (t : List ℕ). LeastDue t c limit r) is_tree h)
    where
      go : (r : Option ℕ) → LeastDue (view c s).tree c limit r → NextDue c limit (view c s).tree r
      go (Some i) d = (d.0, d.1)
      go None d = d

  -- and given back
  module _ (size : 256 + 640 * c ≤ length s) where
    pub tree_back : (t : List ℕ) → length t ≡ 16 * c
        → view c (put_mid (256 + 624 * c) (256 + 624 * c + 16 * c - (256 + 624 * c)) s t) ≡ with_tree t (view c s)
    tree_back t n = ap (view c) (put_part s t (256 + 624 * c) (16 * c) n) ∙ view_tree s c size t n

    pub due_back : (i due : ℕ) (t : List ℕ) → DueSet c i due (take (256 + 624 * c + 16 * c - (256 + 624 * c)) (drop (256 + 624 * c) s)) t
        → DuePut c i due (view c s) (view c (put_mid (256 + 624 * c) (256 + 624 * c + 16 * c - (256 + 624 * c)) s t))
    due_back i due t set-it =
        due_put c i due (view c s) _ t (tree_back t set-it.sound.size) (subst (λ (u : List ℕ). DueSet c i due u t) is_tree set-it)

-- ---- regions that hold one byte throughout

module _ (s : List ℕ) (c : ℕ) (size : 256 + 640 * c ≤ length s) where
  zeros : List ℕ
  zeros = patch s 0 (replicate (256 + 624 * c) 0)

  long : length {A = ℕ} (replicate (256 + 624 * c) 0) ≡ 256 + 624 * c
  long = length-replicate (256 + 624 * c) 0

  kept : length zeros ≡ length s
  unfolding zeros
  kept = length_patch s 0 (replicate (256 + 624 * c) 0) (omega (arith, long))

  zeroed : (b n : ℕ) → b + n ≤ 256 + 624 * c → part zeros b n ≡ replicate n 0
  unfolding zeros
  zeroed b n h =
      ap (λ (k : ℕ). part zeros k n) (sym (zero-add b))
      ∙ sym (part_part zeros 0 (256 + 624 * c) b n h (omega (arith, kept)))
      ∙ ap (λ (l : List ℕ). part l b n) (part_patched s 0 (replicate (256 + 624 * c) 0) (omega (arith, long)) (256 + 624 * c) long)
      ∙ part_replicate (256 + 624 * c) 0 b n h

  -- header and slots are zero
  view_zeroed : view c zeros ≡ record { header = replicate 256 0; table = replicate c (replicate 624 0); tree = (view c s).tree; rest = (view c s).rest }
  unfolding zeros slot
  view_zeroed =
      view_ext
      (zeroed 0 256 (omega arith))
      (slots_ext zeros c (replicate c (replicate 624 0)) (length-replicate c (replicate 624 0))
      (λ i h. zeroed (256 + 624 * i) 624 (omega arith) ∙ sym (get_or-replicate c i (replicate 624 0) [] h)))
      (part_elsewhere s 0 (replicate (256 + 624 * c) 0) (omega (arith, long)) (256 + 624 * c) (16 * c) (inr (omega (arith, long))))
      (drop_behind s 0 (replicate (256 + 624 * c) 0) (256 + 640 * c) (omega (arith, long)) size)

  -- the two parts, lent, filled and given back
  pub emptied_back : (u t : List ℕ) → u ≡ replicate (length (take (256 + 624 * c) s)) 0
      → t ≡ replicate (length (take (256 + 624 * c + 16 * c - (256 + 624 * c)) (drop (256 + 624 * c) (u ++ drop (256 + 624 * c) s)))) 255
      → NoFlow c (replicate 256 0) (view c s)
      (view c (put_mid (256 + 624 * c) (256 + 624 * c + 16 * c - (256 + 624 * c)) (u ++ drop (256 + 624 * c) s) t))
  unfolding zeros
  emptied_back u t filled filled-tree =
      let e : u ≡ replicate (256 + 624 * c) 0 = filled ∙ ap (λ (n : ℕ). replicate n 0) (length-take-le (256 + 624 * c) s (omega arith)) in
      let front : u ++ drop (256 + 624 * c) s ≡ zeros = put_front s u (256 + 624 * c) (ap length e ∙ long) ∙ ap (patch s 0) e in
      let n : length (part zeros (256 + 624 * c) (16 * c)) ≡ 16 * c = length_part zeros (256 + 624 * c) (16 * c) (omega (arith, kept)) in
      let f : t ≡ replicate (16 * c) 255 =
      filled-tree
      ∙ ap (λ (l : List ℕ). replicate (length l) 255)
      (lent (u ++ drop (256 + 624 * c) s) (256 + 624 * c) (16 * c) ∙ ap (λ (l : List ℕ). part l (256 + 624 * c) (16 * c)) front)
      ∙ ap (λ (k : ℕ). replicate k 255) n in
      let both =
      ap (λ (l : List ℕ). view c (put_mid (256 + 624 * c) (256 + 624 * c + 16 * c - (256 + 624 * c)) l t)) front
      ∙ tree_back zeros c (omega (arith, kept)) t (ap length f ∙ length-replicate (16 * c) 255)
      ∙ ap (with_tree t) view_zeroed in
      record {
        header = ap (λ (w : View). w.header) both;
        table = ap (λ (w : View). w.table) both;
        tree = ap (λ (w : View). w.tree) both ∙ f;
        rest = ap (λ (w : View). w.rest) both;
      }
