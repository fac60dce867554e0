-- The free slots of a state, in the call's own memory: how many there are, and behind that number their list. Assumes nothing.
use Rattle.std.specs.Prelude.{ℕ, ◌+◌, ◌-◌, ◌≤◌, ◌<◌, ◌≡◌, refl, Bool, true, false, List, length, get_or, set, replicate}
use Rattle.std.proofs.Common.{sym, ap, ◌∙◌, subst, ⊎_elim, arith, length-set, get_or-set_same, get_or-set_other}
use Rattle.std.proofs.lemmas.List.{length-replicate}
use Rattle.memory.proofs.Laws.{less_or}
use Rattle.slots.specs.Table.{slot, is_used}
use Rattle.index.specs.Index.{bit, used_in}
use Rattle.index.proofs.Laws.{used_next, used_changed}

abbrev pub free_count : List ℕ → ℕ
free_count free = get_or free 0 0

-- the slot at place k of the list
abbrev pub free_at : List ℕ → ℕ → ℕ
free_at free k = get_or free (k + 1) 0

-- each of the first c slots that is not used is listed once, and nothing else is
pub record FreeSlots (s : List ℕ) (c : ℕ) (free : List ℕ) : Type 0 where
  pub size : length free ≡ 4097
  pub most : c ≤ 4096
  pub low : (k : ℕ) → k < free_count free → free_at free k < c
  pub unused : (k : ℕ) → k < free_count free → is_used (slot s (free_at free k)) ≡ false
  pub once : (j k : ℕ) → j < free_count free → k < free_count free → free_at free j ≡ free_at free k → j ≡ k
  pub count : free_count free + used_in s c ≡ c

-- slot x behind those that are listed
abbrev pub pushed : ℕ → List ℕ → List ℕ
pushed x free = set (set free (free_count free + 1) x) 0 (free_count free + 1)

-- the list without its last slot
abbrev pub popped : List ℕ → List ℕ
popped free = set free 0 (free_count free - 1)

-- ## What the functions on the list ask and promise

-- there is room for slot i
pub record FreeRoom (free : List ℕ) (i : ℕ) : Type 0 where
  pub size : length free ≡ 4097
  pub room : free_count free < 4096
  pub low : i < 4096

-- some slot is listed
pub record SomeFree (free : List ℕ) : Type 0 where
  pub size : length free ≡ 4097
  pub some : 0 < free_count free
  pub most : free_count free ≤ 4096

-- the last slot of the list was taken out
pub record Popped (free free' : List ℕ) (r : ℕ) : Type 0 where
  pub slot : r ≡ get_or free (free_count free) 0
  pub list : free' ≡ popped free

-- ## Laws

same_flag : {A : Type 0} {b : Bool} → b ≡ true → b ≡ false → A
same_flag {b} p q = absurd (let z : ◌≡◌ {A = ℕ} 0 1 = cc in omega arith)

pub free_begins : (s : List ℕ) → FreeSlots s 0 (replicate 4097 0)
unfolding used_in
free_begins s = record {
  size = length-replicate {A = ℕ} 4097 0;
  most = omega arith;
  low = λ k h. absurd (omega arith);
  unused = λ k h. absurd (omega arith);
  once = λ j k h g e. absurd (omega arith);
  count = refl;
}

pub free_used : (s : List ℕ) (i : ℕ) (free : List ℕ) → FreeSlots s i free → i < 4096 → is_used (slot s i) ≡ true → FreeSlots s (i + 1) free
free_used s i free h low used = record {
  size = h.size;
  most = omega arith;
  low = λ k l. omega (arith, h.low k l);
  unused = h.unused;
  once = h.once;
  count = omega (arith, h.count, used_next s i, ap bit used);
}

-- what stands in the list after a push
module _ (free : List ℕ) (x : ℕ) (size : length free ≡ 4097) (room : free_count free < 4096) where
  pub pushed_size : length (pushed x free) ≡ 4097
  pushed_size = length-set (set free (free_count free + 1) x) 0 (free_count free + 1) ∙ length-set free (free_count free + 1) x ∙ size

  pub pushed_count : free_count (pushed x free) ≡ free_count free + 1
  pushed_count =
      get_or-set_same (set free (free_count free + 1) x) 0 (free_count free + 1) 0 (omega (arith, length-set free (free_count free + 1) x))

  pub pushed_here : free_at (pushed x free) (free_count free) ≡ x
  pushed_here =
      get_or-set_other (set free (free_count free + 1) x) 0 (free_count free + 1) (free_count free + 1) 0 (λ e. omega arith)
      ∙ get_or-set_same free (free_count free + 1) x 0 (omega arith)

  pub pushed_before : (k : ℕ) → k < free_count free → free_at (pushed x free) k ≡ free_at free k
  pushed_before k h =
      get_or-set_other (set free (free_count free + 1) x) 0 (k + 1) (free_count free + 1) 0 (λ e. omega arith)
      ∙ get_or-set_other free (free_count free + 1) (k + 1) x 0 (λ e. omega arith)

-- a slot more, in a state where the others of the list are as they were
module _ (s s' : List ℕ) (c c' : ℕ) (free : List ℕ) (x : ℕ) (h : FreeSlots s c free) (more : c ≤ c') (most : c' ≤ 4096) (low : x < c')
    (others : (k : ℕ) → k < free_count free → (is_used (slot s' (free_at free k)) ≡ false) × (free_at free k ≡ x → ⊥))
    (now : is_used (slot s' x) ≡ false) (count : free_count free + 1 + used_in s' c' ≡ c') where
  room : free_count free < 4096
  room = omega (arith, count)

  listed : (P : ℕ → Type 0) → ((k : ℕ) → k < free_count free → P (free_at free k)) → P x → (k : ℕ) → k < free_count (pushed x free) → P (free_at (pushed x free) k)
  listed P old new k g = ⊎_elim
      (λ (l : k < free_count free). subst P (sym (pushed_before free x h.size room k l)) (old k l))
      (λ m.
      let e : free_count free ≡ k = omega (arith, pushed_count free x h.size room) in
      subst (λ (j : ℕ). P (free_at (pushed x free) j)) e (subst P (sym (pushed_here free x h.size room)) new))
      (less_or k (free_count free))

  -- which of the list's places has the slot
  at_place : (k : ℕ) → k < free_count (pushed x free) → free_at (pushed x free) k ≡ x → k ≡ free_count free
  at_place k g e = ⊎_elim
      (λ (l : k < free_count free). absurd ((others k l).1 (sym (pushed_before free x h.size room k l) ∙ e)))
      (λ m. omega (arith, pushed_count free x h.size room)) (less_or k (free_count free))

  once_more : (j k : ℕ) → j < free_count (pushed x free) → k < free_count (pushed x free) → free_at (pushed x free) j ≡ free_at (pushed x free) k → j ≡ k
  once_more j k hj hk e = ⊎_elim
      (λ (lj : j < free_count free). ⊎_elim
      (λ (lk : k < free_count free).
      h.once j k lj lk (sym (pushed_before free x h.size room j lj) ∙ e ∙ pushed_before free x h.size room k lk))
      (λ mk.
      let q : k ≡ free_count free = omega (arith, pushed_count free x h.size room) in
      at_place j hj (e ∙ ap (free_at (pushed x free)) q ∙ pushed_here free x h.size room) ∙ sym q)
      (less_or k (free_count free)))
      (λ mj.
      let q : j ≡ free_count free = omega (arith, pushed_count free x h.size room) in
      q ∙ sym (at_place k hk (sym e ∙ ap (free_at (pushed x free)) q ∙ pushed_here free x h.size room)))
      (less_or j (free_count free))

  push_free : FreeSlots s' c' (pushed x free)
  push_free = record {
    size = pushed_size free x h.size room;
    most = most;
    low = listed (λ i. i < c') (λ k l. omega (arith, h.low k l)) low;
    unused = listed (λ i. is_used (slot s' i) ≡ false) (λ k l. (others k l).0) now;
    once = once_more;
    count = omega (arith, pushed_count free x h.size room, count);
  }

-- the next slot of a pass over the slots is free
pub free_unused : (s : List ℕ) (i : ℕ) (free : List ℕ) → FreeSlots s i free → i < 4096 → is_used (slot s i) ≡ false → FreeSlots s (i + 1) (pushed i free)
free_unused s i free h low now =
    push_free s s i (i + 1) free i h (omega arith) (omega arith) (omega arith) (λ k l. (h.unused k l, λ e. omega (arith, h.low k l))) now
    (omega (arith, h.count, used_next s i, ap bit now))

-- slot x is given back
pub given_back : (s s' : List ℕ) (c : ℕ) (free : List ℕ) (x : ℕ) → FreeSlots s c free → x < c → is_used (slot s x) ≡ true → is_used (slot s' x) ≡ false
    → ((j : ℕ) → j < c → (j ≡ x → ⊥) → slot s' j ≡ slot s j) → FreeSlots s' c (pushed x free)
given_back s s' c free x h low was now others =
    push_free s s' c c free x h (omega arith) h.most low
    (λ k l.
    let n : free_at free k ≡ x → ⊥ = λ e. same_flag was (ap (λ (j : ℕ). is_used (slot s j)) (sym e) ∙ h.unused k l) in
    (ap is_used (others (free_at free k) (h.low k l) n) ∙ h.unused k l, n)) now
    (omega (arith, h.count, used_changed s s' c x low others, ap bit was, ap bit now))

-- the last of the list is a free slot
module _ (s : List ℕ) (c : ℕ) (free : List ℕ) (h : FreeSlots s c free) (some : 0 < free_count free) where
  last : free_count free - 1 + 1 ≡ free_count free
  last = omega arith

  pub last_low : get_or free (free_count free) 0 < c
  last_low = subst (λ (k : ℕ). get_or free k 0 < c) last (h.low (free_count free - 1) (omega arith))

  pub last_unused : is_used (slot s (get_or free (free_count free) 0)) ≡ false
  last_unused = subst (λ (k : ℕ). is_used (slot s (get_or free k 0)) ≡ false) last (h.unused (free_count free - 1) (omega arith))

  popped_count : free_count (popped free) ≡ free_count free - 1
  popped_count = get_or-set_same free 0 (free_count free - 1) 0 (omega (arith, h.size))

  popped_at : (k : ℕ) → free_at (popped free) k ≡ free_at free k
  popped_at k = get_or-set_other free 0 (k + 1) (free_count free - 1) 0 (λ e. omega arith)

  -- .. which is used from now on
  pub taken_up : (s' : List ℕ) → is_used (slot s' (get_or free (free_count free) 0)) ≡ true
      → ((j : ℕ) → j < c → (j ≡ get_or free (free_count free) 0 → ⊥) → slot s' j ≡ slot s j) → FreeSlots s' c (popped free)
  taken_up s' now others = record {
    size = length-set free 0 (free_count free - 1) ∙ h.size;
    most = h.most;
    low = λ k l. subst (λ (i : ℕ). i < c) (sym (popped_at k)) (h.low k (omega (arith, popped_count)));
    unused = λ k l.
        let l' : k < free_count free - 1 = omega (arith, popped_count) in
        ap (λ (i : ℕ). is_used (slot s' i)) (popped_at k)
        ∙ ap is_used
        (others (free_at free k) (h.low k (omega arith))
        (λ e.
        let q : k ≡ free_count free - 1 = h.once k (free_count free - 1) (omega arith) (omega arith) (e ∙ ap (λ (m : ℕ). get_or free m 0) (sym last)) in
        omega arith))
        ∙ h.unused k (omega arith);
    once = λ j k lj lk e.
        h.once j k (omega (arith, popped_count)) (omega (arith, popped_count)) (sym (popped_at j) ∙ e ∙ popped_at k);
    count =
        omega (
          arith,
          h.count,
          popped_count,
          used_changed s s' c (get_or free (free_count free) 0) last_low others,
          ap bit last_unused,
          ap bit now,
        );
  }
