-- The laws of `specs/Tree.antt`. Assumes nothing.
use Rattle.std.specs.Prelude.{Some}
use mathlib.Core.Path.{◌≡◌, refl, sym, ap, ◌∙◌, subst}
use mathlib.Core.Logic.{⊎_elim, inl, inr}
use mathlib.Core.List.{List}
use Prim.Native.Nat.{ℕ, zero, suc, ◌+◌, ◌-◌, ◌*◌, ◌/◌, ◌%◌, ◌^◌, ◌≤◌, ◌<◌, min}
use native.Mathlib.Omega.{arith}
use lib.ListN.{length, replicate, length-replicate}
use lib.Arith.{bin_ind}
use Rattle.memory.specs.Bytes.{num, le, part}
use Rattle.memory.proofs.Laws.{length_le, num_le, length_patch, part_patched, part_elsewhere, apart, less_or, same_or, part_replicate}
use Rattle.queue.specs.Tree.{node, with_node, Lesser, Sound, Refreshed, DueSet, LeastDue, Empty, never}

module _ (t : List ℕ) (k v : ℕ) (fits : 8 * k + 8 ≤ length t) where
  within : 8 * k + length (le 8 v) ≤ length t
  within = omega (arith, length_le 8 v)

  pub size_kept : length (with_node t k v) ≡ length t
  unfolding with_node
  size_kept = length_patch t (8 * k) (le 8 v) within

  pub node_same : v < 2 ^ 64 → node (with_node t k v) k ≡ v
  unfolding node with_node
  node_same h = ap num (part_patched t (8 * k) (le 8 v) within 8 (length_le 8 v)) ∙ num_le 8 v h

  pub node_other : (j : ℕ) → (j ≡ k → ⊥) → node (with_node t k v) j ≡ node t j
  unfolding node with_node
  node_other j other =
      ap num (part_elsewhere t (8 * k) (le 8 v) within (8 * j) 8
      (⊎_elim (λ l. inl (omega arith)) (λ r. inr (omega (arith, length_le 8 v))) (apart j k other)))

-- the root is at most every node
pub root_least : (t : List ℕ) (c : ℕ) → Sound t c → (k : ℕ) → 1 ≤ k → k < 2 * c → node t 1 ≤ node t k
root_least t c sound = bin_ind (λ (k : ℕ). 1 ≤ k → k < 2 * c → node t 1 ≤ node t k) (λ lo hi. omega arith) step
  where
    step : (n : ℕ) → (1 ≤ n / 2 → n / 2 < 2 * c → node t 1 ≤ node t (n / 2)) → 1 ≤ n → n < 2 * c → node t 1 ≤ node t n
    step n above lo hi =
        ⊎_elim (λ (small : n < 2). let e : 1 ≡ n = omega arith in omega (arith, ap (node t) e))
        (λ big.
        let k : ℕ = n / 2 in
        let up : node t 1 ≤ node t k = above (omega arith) (omega arith) in
        let least : Lesser t k = sound.inner k (omega arith) (omega arith) in
        ⊎_elim (λ (even : n % 2 < 1). let e : 2 * k ≡ n = omega arith in omega (arith, ap (node t) e))
        (λ odd. let e : 2 * k + 1 ≡ n = omega arith in omega (arith, ap (node t) e))
        (less_or (n % 2) 1))
        (less_or n 2)

-- ---- the climb of `set_due`

-- the tree is sound but perhaps for node k
pub record SoundBut (t : List ℕ) (c k : ℕ) : Type 0 where
  pub size : length t ≡ 16 * c
  pub inner : (j : ℕ) → 1 ≤ j → j < c → (j ≡ k → ⊥) → Lesser t j

-- a change of node m leaves a node right that is neither m nor above it
lesser_kept : (t : List ℕ) (m v j : ℕ) → 8 * m + 8 ≤ length t → (j ≡ m → ⊥) → (j ≡ m / 2 → ⊥) → Lesser t j → Lesser (with_node t m v) j
lesser_kept t m v j fits own above h =
    node_other t m v fits j own ∙ h
    ∙ sym (cc (node_other t m v fits (2 * j) (λ e. above (omega arith)), node_other t m v fits (2 * j + 1) (λ e. above (omega arith))))

pub climb_start : (t : List ℕ) (c slot due : ℕ) → slot < c → Sound t c → SoundBut (with_node t (c + slot) due) c ((c + slot) / 2)
climb_start t c slot due low sound =
    let fits : 8 * (c + slot) + 8 ≤ length t = omega (arith, sound.size) in
    record {
      size = size_kept t (c + slot) due fits ∙ sound.size;
      inner = λ j lo hi other. lesser_kept t (c + slot) due j fits (λ e. omega arith) other (sound.inner j lo hi);
    }

pub climb_step : (t t' : List ℕ) (c k : ℕ) → 0 < k → k < c → Refreshed k t t' → SoundBut t c k → SoundBut t' c (k / 2)
climb_step t t' c k pos low done nearly =
    let fits : 8 * k + 8 ≤ length t = omega (arith, nearly.size) in
    let v : ℕ = min (node t (2 * k)) (node t (2 * k + 1)) in
    record {
      size = ap length done.changed ∙ size_kept t k v fits ∙ nearly.size;
      inner = λ j lo hi other.
          ⊎_elim (λ e. subst (Lesser t') (sym e) done.lesser)
          (λ own. subst (λ (u : List ℕ). Lesser u j) (sym done.changed) (lesser_kept t k v j fits own other (nearly.inner j lo hi own)))
          (same_or j k);
    }

pub climb_end : (t : List ℕ) (c k : ℕ) → k ≡ 0 → SoundBut t c k → Sound t c
climb_end t c k top nearly = record { size = nearly.size; inner = λ j lo hi. nearly.inner j lo hi (λ e. omega arith) }

pub refreshed : (t t' : List ℕ) (k v : ℕ) → 0 < k → 16 * k + 16 ≤ length t → v < 2 ^ 64
    → v ≡ min (node t (2 * k)) (node t (2 * k + 1)) → t' ≡ with_node t k v → Refreshed k t t'
refreshed t t' k v pos fits small least e =
    let own : 8 * k + 8 ≤ length t = omega arith in
    record {
      changed = cc;
      lesser = subst (λ (u : List ℕ). Lesser u k) (sym e)
          (node_same t k v own small ∙ least
          ∙ sym (cc (node_other t k v own (2 * k) (λ q. omega arith), node_other t k v own (2 * k + 1) (λ q. omega arith))));
    }

-- what the climb keeps: node k is the one that may be wrong, and the leaves are those that it began with
pub record Climb (t₀ : List ℕ) (c k : ℕ) (t : List ℕ) : Type 0 where
  pub low : k < c
  pub nearly : SoundBut t c k
  pub leaves : (j : ℕ) → c ≤ j → j < 2 * c → node t j ≡ node t₀ j
  pub spare : node t 0 ≡ node t₀ 0

pub climb_begins : (s t : List ℕ) (c slot due : ℕ) → slot < c → Sound s c → t ≡ with_node s (c + slot) due → Climb t c ((c + slot) / 2) t
climb_begins s t c slot due low sound e =
    record {
      low = omega arith;
      nearly = subst (λ (u : List ℕ). SoundBut u c ((c + slot) / 2)) (sym e) (climb_start s c slot due low sound);
      leaves = λ j lo hi. refl;
      spare = refl;
    }

pub climb_goes_on : (t₀ t t' : List ℕ) (c k : ℕ) → 0 < k → Refreshed k t t' → Climb t₀ c k t → Climb t₀ c (k / 2) t'
climb_goes_on t₀ t t' c k pos done climb =
    let fits : 8 * k + 8 ≤ length t = omega (arith, climb.low, climb.nearly.size) in
    record {
      low = omega (arith, climb.low);
      nearly = climb_step t t' c k pos climb.low done climb.nearly;
      leaves = λ j lo hi.
          ap (λ (u : List ℕ). node u j) done.changed
          ∙ node_other t k _ fits j (λ e. omega (arith, climb.low)) ∙ climb.leaves j lo hi;
      spare = ap (λ (u : List ℕ). node u 0) done.changed ∙ node_other t k _ fits 0 (λ e. omega arith) ∙ climb.spare;
    }

pub climb_ends : (s t₀ t : List ℕ) (c slot due k : ℕ) → slot < c → due < 2 ^ 64 → k ≡ 0
    → Sound s c → t₀ ≡ with_node s (c + slot) due → Climb t₀ c k t → DueSet c slot due s t
climb_ends s t₀ t c slot due k low small top sound e climb =
    let fits : 8 * (c + slot) + 8 ≤ length s = omega (arith, sound.size) in
    record {
      sound = climb_end t c k top climb.nearly;
      here = climb.leaves (c + slot) (omega arith) (omega arith) ∙ ap (λ (u : List ℕ). node u (c + slot)) e ∙ node_same s (c + slot) due fits small;
      others = λ i below other.
          climb.leaves (c + i) (omega arith) (omega arith) ∙ ap (λ (u : List ℕ). node u (c + i)) e
          ∙ node_other s (c + slot) due fits (c + i) (λ q. other (omega arith));
      spare = climb.spare ∙ ap (λ (u : List ℕ). node u 0) e ∙ node_other s (c + slot) due fits 0 (λ q. omega arith);
    }

-- ---- the walk of `first_due`

-- the child that is not the left one where the left one is not least
pub walk_right : (t : List ℕ) (c k least left : ℕ) → Sound t c → 1 ≤ k → k < c → node t k ≡ least
    → left ≡ node t (2 * k) → (left ≡ least → ⊥) → node t (2 * k + 1) ≡ least
walk_right t c k least left sound lo hi own e other =
    let h : Lesser t k = sound.inner k lo hi in
    ⊎_elim (λ (l : node t (2 * k + 1) < node t (2 * k)). omega arith) (λ g. absurd (other (omega arith)))
    (less_or (node t (2 * k + 1)) (node t (2 * k)))

pub walk_ends : (t : List ℕ) (c k limit least : ℕ) → Sound t c → c ≤ k → k < 2 * c → node t k ≡ least → least ≡ node t 1 → least ≤ limit
    → LeastDue t c limit (Some (k - c))
walk_ends t c k limit least sound lo hi own root due =
    let e : c + (k - c) ≡ k = omega arith in
    (omega arith, omega (arith, ap (node t) e), λ j h. omega (arith, ap (node t) e, root_least t c sound (c + j) (omega arith) (omega arith)))

pub inner_more : (t : List ℕ) (k : ℕ) → ((j : ℕ) → 1 ≤ j → j < k → Lesser t j) → Lesser t k → (j : ℕ) → 1 ≤ j → j < k + 1 → Lesser t j
inner_more t k all here j lo hi = ⊎_elim (λ l. all j lo l) (λ g. let e : k ≡ j = omega arith in subst (Lesser t) e here) (less_or j k)

-- ---- a cleared tree

pub cleared : (c : ℕ) (t : List ℕ) → t ≡ replicate (16 * c) 255 → Empty c t
unfolding node num
cleared c t e =
    let all : (k : ℕ) → k < 2 * c → node t k ≡ never =
    λ k h. ap num (ap (λ (l : List ℕ). part l (8 * k) 8) e ∙ part_replicate (16 * c) 255 (8 * k) 8 (omega arith)) in
    record {
      sound = record {
        size = ap length e ∙ length-replicate (16 * c) 255;
        inner = λ k lo hi. all k (omega arith) ∙ sym (cc (all (2 * k) (omega arith), all (2 * k + 1) (omega arith)));
      };
      none = λ i h. all (c + i) (omega arith);
    }

-- ---- a sound tree is determined by its leaves

same_from : (t u : List ℕ) (c : ℕ) → Sound t c → Sound u c → ((j : ℕ) → c ≤ j → j < 2 * c → node t j ≡ node u j)
    → (n k : ℕ) → 2 * c ≤ k + n → 1 ≤ k → k < 2 * c → node t k ≡ node u k
same_from t u c st su leaves zero k far lo hi = absurd (omega arith)
same_from t u c st su leaves (suc n) k far lo hi =
    ⊎_elim
    (λ (l : k < c).
    let left : node t (2 * k) ≡ node u (2 * k) = same_from t u c st su leaves n (2 * k) (omega arith) (omega arith) (omega arith) in
    let right : node t (2 * k + 1) ≡ node u (2 * k + 1) = same_from t u c st su leaves n (2 * k + 1) (omega arith) (omega arith) (omega arith) in
    st.inner k lo l ∙ cc (left, right) ∙ sym (su.inner k lo l))
    (λ g. leaves k g hi) (less_or k c)

pub same_tree : (t u : List ℕ) (c : ℕ) → Sound t c → Sound u c → ((j : ℕ) → c ≤ j → j < 2 * c → node t j ≡ node u j)
    → (k : ℕ) → 1 ≤ k → k < 2 * c → node t k ≡ node u k
same_tree t u c st su leaves k lo hi = same_from t u c st su leaves (2 * c) k (omega arith) lo hi
