-- The laws of `specs/Index.antt` and `specs/Reversed.antt`, for any hash. Assumes nothing.
use Rattle.std.specs.Prelude.{None}
use mathlib.Core.Path.{◌≡◌, refl, sym, ap, ◌∙◌, subst}
use mathlib.Core.Logic.{⊎_elim}
use mathlib.Core.Bool.{Bool, true, false, cond, false≢true}
use mathlib.Core.List.{List, [], ◌∷◌}
use Prim.Native.Nat.{ℕ, zero, suc, ◌+◌, ◌-◌, ◌%◌, ◌≤◌, ◌<◌}
use native.Mathlib.Nat.{eq-or-lt_of_le}
use native.Mathlib.Numerals.{add-one}
use native.Mathlib.Omega.{arith}
use lib.Dec.{eqb}
use lib.ListN.{length, drop, get_or, set, replicate, length-set, length-replicate, get_or-replicate, get_or-eq_default}
use lib.Seq.{get_or-drop, get_or-set_same, get_or-set_other}
use borrow.Author.Tests.{eq-eqb, ne_eqb}
use Rattle.memory.proofs.Laws.{less_or, same_or}
use Rattle.slots.specs.Table.{slot, slots, is_used, key_of, holds, first_where, NoKeyTwice}
use Rattle.slots.proofs.Laws.{first_none, not_found, holds_true, holds_own}
use Rattle.index.specs.Index.{home, entry_of, home_in, slot_in, tag_in, tag_absent, hash_absent, sign, taken, bit, used_in, Has, Tight, Indexed, Inserted, Forgotten}
use Rattle.index.specs.Reversed.{Absent, Unreversed}

-- ---- how many places are taken

pub sign_none : (e : ℕ) → e ≡ 0 → sign e ≡ 0
unfolding sign
sign_none zero q = refl
sign_none (suc e) q = absurd (omega arith)

pub sign_some : (e : ℕ) → (e ≡ 0 → ⊥) → sign e ≡ 1
unfolding sign
sign_some zero n = absurd (n refl)
sign_some (suc e) n = refl

pub taken_set : (l : List ℕ) (p v : ℕ) → p < length l → taken (set l p v) + sign (get_or l p 0) ≡ taken l + sign v
unfolding taken
taken_set [] p v h = absurd (omega arith)
taken_set (e ∷ es) zero v h = omega arith
taken_set (e ∷ es) (suc p) v h = omega (arith, taken_set es p v (omega arith))

-- where no place from a on is empty, all of them are taken
pub taken_all : (l : List ℕ) (a : ℕ) → ((p : ℕ) → a ≤ p → p < length l → get_or l p 0 ≡ 0 → ⊥) → length l ≤ a + taken l
unfolding taken
taken_all [] a all = omega arith
taken_all (e ∷ es) zero all =
    omega (arith, sign_some e (all 0 (omega arith) (omega arith)), taken_all es 0 (λ p lo hi. all (suc p) (omega arith) (omega arith)))
taken_all (e ∷ es) (suc a) all = omega (arith, taken_all es a (λ p lo hi. all (suc p) (omega arith) (omega arith)))

taken_zeros : (n : ℕ) → taken (replicate n 0) ≡ 0
unfolding taken sign
taken_zeros zero = refl
taken_zeros (suc n) = omega (arith, taken_zeros n)

-- ---- how many slots are used

bit_few : (b : Bool) → bit b ≤ 1
bit_few true = omega arith
bit_few false = omega arith

pub used_few : (s : List ℕ) (c : ℕ) → used_in s c ≤ c
unfolding used_in
used_few s zero = omega arith
used_few s (suc c) = omega (arith, used_few s c, bit_few (is_used (slot s c)))

pub used_next : (s : List ℕ) (i : ℕ) → used_in s (i + 1) ≡ used_in s i + bit (is_used (slot s i))
unfolding used_in
used_next s i = ap (used_in s) (add-one i)

pub used_same : (s s' : List ℕ) (c : ℕ) → ((j : ℕ) → j < c → is_used (slot s' j) ≡ is_used (slot s j)) → used_in s' c ≡ used_in s c
unfolding used_in
used_same s s' zero same = refl
used_same s s' (suc c) same = cc (used_same s s' c (λ j h. same j (omega arith)), same c (omega arith))

-- one slot changed
pub used_changed : (s s' : List ℕ) (c i : ℕ) → i < c → ((j : ℕ) → j < c → (j ≡ i → ⊥) → slot s' j ≡ slot s j)
    → used_in s' c + bit (is_used (slot s i)) ≡ used_in s c + bit (is_used (slot s' i))
unfolding used_in
used_changed s s' zero i h same = absurd (omega arith)
used_changed s s' (suc c) i h same =
    ⊎_elim
    (λ (l : i < c).
    let e : bit (is_used (slot s' c)) ≡ bit (is_used (slot s c)) = ap (λ (b : List ℕ). bit (is_used b)) (same c (omega arith) (λ q. omega arith)) in
    omega (arith, used_changed s s' c i l (λ j low n. same j (omega arith) n)))
    (λ g.
    let q : i ≡ c = omega arith in
    let e : bit (is_used (slot s i)) ≡ bit (is_used (slot s c)) = ap (λ (k : ℕ). bit (is_used (slot s k))) q in
    let e' : bit (is_used (slot s' i)) ≡ bit (is_used (slot s' c)) = ap (λ (k : ℕ). bit (is_used (slot s' k))) q in
    omega (arith, used_same s s' c (λ j low. ap is_used (same j (omega arith) (λ z. omega arith)))))
    (less_or i c)

-- ---- which keys stand in the table

-- a slot that is used under the key holds it
pub used_holds : (s key : List ℕ) (k : ℕ) → is_used (slot s k) ≡ true → key_of (slot s k) ≡ key → holds key (slot s k) ≡ true
used_holds s key k used own = ap (λ (l : List ℕ). holds l (slot s k)) (sym own) ∙ holds_own (slot s k) used

-- a key that no slot is used under is absent
pub absent_unless : (s : List ℕ) (c : ℕ) (key : List ℕ)
    → ((k : ℕ) → k < c → is_used (slot s k) ≡ true → key_of (slot s k) ≡ key → ⊥) → Absent s c key
unfolding Absent
absent_unless s c key never k low = go (holds key (slot s k)) refl
  where
    go : (t : Bool) → holds key (slot s k) ≡ t → holds key (slot s k) ≡ false
    go false e = e
    go true e = let w = holds_true key (slot s k) e in absurd (never k low w.0 w.1)

-- and no slot is used under a key that is absent
pub absent_never : (s : List ℕ) (c : ℕ) (key : List ℕ) → Absent s c key
    → (k : ℕ) → k < c → is_used (slot s k) ≡ true → key_of (slot s k) ≡ key → ⊥
unfolding Absent
absent_never s c key none k low used own = false≢true (sym (none k low) ∙ used_holds s key k used own)

-- absent is what a search does not find
pub absent_not_found : (s : List ℕ) (c : ℕ) (key : List ℕ) → Absent s c key → first_where (holds key) 0 (slots s c) ≡ None
unfolding Absent
absent_not_found s c key none = first_none s (holds key) c none

pub not_found_absent : (s : List ℕ) (c : ℕ) (key : List ℕ) → first_where (holds key) 0 (slots s c) ≡ None → Absent s c key
unfolding Absent
not_found_absent s c key none = not_found s (holds key) c none

module _ (s : List ℕ) (i : ℕ) where
  -- no key stands twice where none of the slots before the last has the last one's
  pub once_more : NoKeyTwice s i → (is_used (slot s i) ≡ true → Absent s i (key_of (slot s i))) → NoKeyTwice s (i + 1)
  unfolding NoKeyTwice
  once_more once new a b ha hb ua ub e =
      ⊎_elim
      (λ (la : a < i).
      ⊎_elim (λ (lb : b < i). once a b la lb ua ub e)
      (λ gb.
      let q : b ≡ i = omega arith in
      absurd (differs a la ua (subst (λ (k : ℕ). is_used (slot s k) ≡ true) q ub) (e ∙ ap (λ (k : ℕ). key_of (slot s k)) q)))
      (less_or b i))
      (λ ga.
      let q : a ≡ i = omega arith in
      ⊎_elim
      (λ (lb : b < i). absurd (differs b lb ub (subst (λ (k : ℕ). is_used (slot s k) ≡ true) q ua) (sym e ∙ ap (λ (k : ℕ). key_of (slot s k)) q)))
      (λ gb. omega arith) (less_or b i))
      (less_or a i)
    where
      differs : (k : ℕ) → k < i → is_used (slot s k) ≡ true → is_used (slot s i) ≡ true → key_of (slot s k) ≡ key_of (slot s i) → ⊥
      differs k low used own = absent_never s i (key_of (slot s i)) (new own) k low used

  -- where no key stands twice, none of the slots before one has its key
  pub twice : {c : ℕ} → NoKeyTwice s c → i < c → is_used (slot s i) ≡ true → Absent s i (key_of (slot s i))
  unfolding NoKeyTwice
  twice once low used =
      absent_unless s i (key_of (slot s i)) λ k before own same.
      let q : k ≡ i = once k i (omega arith) low own used same in
      omega arith

module _ {reversed : List ℕ → List ℕ} {exempt : List ℕ → Bool} {s : List ℕ} {i : ℕ} where
  -- one slot more, whose reversed key none of those before it has
  pub unreversed_more : ((j : ℕ) → j < i + 1 → is_used (slot s j) ≡ true → reversed (reversed (key_of (slot s j))) ≡ key_of (slot s j))
      → ((j : ℕ) → j < i + 1 → is_used (slot s j) ≡ true → exempt (reversed (key_of (slot s j))) ≡ exempt (key_of (slot s j)))
      → Unreversed reversed exempt s i
      → (is_used (slot s i) ≡ true → exempt (key_of (slot s i)) ≡ false → Absent s i (reversed (key_of (slot s i))))
      → Unreversed reversed exempt s (i + 1)
  unreversed_more back same was new =
      record {
        alone = λ a b ha hb ua ub free e.
            ⊎_elim
            (λ (la : a < i).
            ⊎_elim (λ (lb : b < i). was.alone a b la lb ua ub free e)
            (λ gb.
            let q : b ≡ i = omega arith in
            let ui : is_used (slot s i) ≡ true = subst (λ (k : ℕ). is_used (slot s k) ≡ true) q ub in
            let ki : key_of (slot s i) ≡ reversed (key_of (slot s a)) = ap (λ (k : ℕ). key_of (slot s k)) (sym q) ∙ e in
            let fi : exempt (key_of (slot s i)) ≡ false = ap exempt ki ∙ same a ha ua ∙ free in
            absurd (differs ui fi a la ua (sym (back a ha ua) ∙ ap reversed (sym ki))))
            (less_or b i))
            (λ ga.
            let q : a ≡ i = omega arith in
            let ui : is_used (slot s i) ≡ true = subst (λ (k : ℕ). is_used (slot s k) ≡ true) q ua in
            let fi : exempt (key_of (slot s i)) ≡ false = ap (λ (k : ℕ). exempt (key_of (slot s k))) (sym q) ∙ free in
            ⊎_elim (λ (lb : b < i). absurd (differs ui fi b lb ub (e ∙ ap (λ (k : ℕ). reversed (key_of (slot s k))) q)))
            (λ gb. omega arith) (less_or b i))
            (less_or a i);
      }
    where
      differs : is_used (slot s i) ≡ true → exempt (key_of (slot s i)) ≡ false
          → (k : ℕ) → k < i → is_used (slot s k) ≡ true → key_of (slot s k) ≡ reversed (key_of (slot s i)) → ⊥
      differs used free = absent_never s i (reversed (key_of (slot s i))) (new used free)

  -- where no flow stands under another's reversed key, none of the slots before one has its reversed key
  pub unreversed_absent : {c : ℕ} → Unreversed reversed exempt s c → i < c → is_used (slot s i) ≡ true → exempt (key_of (slot s i)) ≡ false
      → Absent s i (reversed (key_of (slot s i)))
  unreversed_absent all low used free =
      absent_unless s i (reversed (key_of (slot s i))) λ k before own turned.
      let q : i ≡ k = all.alone i k low (omega arith) used own free turned in
      omega arith

-- ---- where an entry stands

-- the entry of slot i under the hash h stands at or behind its home, with no empty place from there on
pub record Stands (index : List ℕ) (h i : ℕ) : Type 0 where
  pub place : ℕ
  pub within : place < 16384
  pub here : get_or index place 0 ≡ entry_of h i
  pub behind : home h ≤ place
  pub full : (q : ℕ) → home h ≤ q → q ≤ place → get_or index q 0 ≡ 0 → ⊥

-- an entry names the home of its hash
entry_home : (h i e : ℕ) → i < 4096 → e ≡ entry_of h i → home_in e ≡ home h
entry_home h i e low q = omega arith

-- an entry that the index has stands so
pub stands : {index : List ℕ} (h i : ℕ) → i < 4096 → Tight index → Has index (entry_of h i) → Stands index h i
stands {index} h i low tight has =
    record {
      place = has.place;
      within = has.within;
      here = has.here;
      behind = omega (arith, own, tight.behind has.place some);
      full = λ q lo hi z.
          ⊎_elim (λ (e : q ≡ has.place). some (ap (λ (p : ℕ). get_or index p 0) (sym e) ∙ z))
          (λ l. tight.full has.place q some (omega (arith, own)) l z) (eq-or-lt_of_le hi);
    }
  where
    some : get_or index has.place 0 ≡ 0 → ⊥
    some z = omega (arith, has.here)

    own : home_in (get_or index has.place 0) ≡ home h
    own = entry_home h i (get_or index has.place 0) low has.here

-- ---- no entry has a hash

-- the first entry decides, or is passed
module _ (tag e : ℕ) (es : List ℕ) where
  pub absent_empty : e ≡ 0 → tag_absent tag (e ∷ es) ≡ true
  unfolding tag_absent
  absent_empty empty = ap (λ (t : Bool). cond t true (cond (eqb (tag_in e) tag) false (tag_absent tag es))) (eq-eqb e 0 empty)

  not_empty : (e ≡ 0 → ⊥) → tag_absent tag (e ∷ es) ≡ cond (eqb (tag_in e) tag) false (tag_absent tag es)
  unfolding tag_absent
  not_empty some = ap (λ (t : Bool). cond t true (cond (eqb (tag_in e) tag) false (tag_absent tag es))) (ne_eqb e 0 some)

  pub absent_tagged : (e ≡ 0 → ⊥) → tag_in e ≡ tag → tag_absent tag (e ∷ es) ≡ false
  absent_tagged some own = not_empty some ∙ ap (λ (t : Bool). cond t false (tag_absent tag es)) (eq-eqb (tag_in e) tag own)

  pub absent_other : (e ≡ 0 → ⊥) → (tag_in e ≡ tag → ⊥) → tag_absent tag (e ∷ es) ≡ tag_absent tag es
  absent_other some other = not_empty some ∙ ap (λ (t : Bool). cond t false (tag_absent tag es)) (ne_eqb (tag_in e) tag other)

-- where no entry before the next empty place has the tag, none that stands before it has
never_tagged : (tag : ℕ) (es : List ℕ) (p : ℕ) → tag_absent tag es ≡ true → ((q : ℕ) → q ≤ p → get_or es q 0 ≡ 0 → ⊥)
    → tag_in (get_or es p 0) ≡ tag → ⊥
never_tagged tag [] p none full own = full p (omega arith) refl
never_tagged tag (e ∷ es) zero none full own = false≢true (sym (absent_tagged tag e es (full 0 (omega arith)) own) ∙ none)
never_tagged tag (e ∷ es) (suc p) none full own =
    let some : e ≡ 0 → ⊥ = full 0 (omega arith) in
    ⊎_elim (λ (q : tag_in e ≡ tag). false≢true (sym (absent_tagged tag e es some q) ∙ none))
    (λ other. never_tagged tag es p (sym (absent_other tag e es some other) ∙ none) (λ q before. full (suc q) (omega arith)) own)
    (same_or (tag_in e) tag)

-- ---- what the index says of the table

module _ {hash : List ℕ → ℕ} {index s : List ℕ} {c : ℕ} where
  -- every used slot has its entry
  pub has_entry : {x : ℕ} → Indexed hash index s c → x < c → is_used (slot s x) ≡ true → Has index (entry_of (hash (key_of (slot s x))) x)
  has_entry {x} ix low used = ix.named x low used

  -- a slot that is used under a key has its entry under the key's hash
  pub key_stands : (h : ℕ) (key : List ℕ) (k : ℕ) → Indexed hash index s c → h ≡ hash key → k < c → is_used (slot s k) ≡ true
      → key_of (slot s k) ≡ key → Stands index h k
  key_stands h key k ix e low used own =
      let q : hash (key_of (slot s k)) ≡ h = ap hash own ∙ sym e in
      stands h k (omega (arith, ix.small)) ix.tight (subst (λ (f : ℕ). Has index (entry_of f k)) q (ix.named k low used))

  -- where no entry from a hash's home to the next empty place has it, no slot is used under a key with that hash
  pub hash_absent_lem : {h : ℕ} {key : List ℕ} → Indexed hash index s c → hash_absent index h ≡ true → hash key ≡ h → Absent s c key
  hash_absent_lem {h} {key} ix none e =
      absent_unless s c key λ k low used own.
      let st = key_stands h key k ix (sym e) low used own in
      let p : ℕ = st.place - home h in
      let at : home h + p ≡ st.place = omega (arith, st.behind) in
      let here : get_or (drop (home h) index) p 0 ≡ entry_of h k =
      get_or-drop (home h) index p 0 ∙ ap (λ (q : ℕ). get_or index q 0) at ∙ st.here in
      never_tagged (h % 524288) (drop (home h) index) p none
      (λ q before z. st.full (home h + q) (omega arith) (omega arith) (sym (get_or-drop (home h) index q 0) ∙ z))
      (omega (arith, ix.small))

  -- there is room for one slot more
  pub room_to_insert : Indexed hash index s c → taken index ≤ 8192
  room_to_insert ix = omega (arith, ix.count, ix.small, used_few s c)

-- each of n zeros is zero, and so is what stands behind them
zero_at : (n p : ℕ) → get_or {A = ℕ} (replicate n 0) p 0 ≡ 0
zero_at n p =
    ⊎_elim (λ (l : p < n). get_or-replicate n p 0 0 l)
    (λ g. get_or-eq_default (replicate n 0) 0 {n = p} (omega (arith, length-replicate {A = ℕ} n 0))) (less_or p n)

-- the empty index is the one of no slots
pub empty_indexed : {hash : List ℕ → ℕ} {s : List ℕ} → Indexed hash (replicate 16384 0) s 0
unfolding used_in
empty_indexed =
    record {
      tight = record { size = size; behind = λ p full. absurd (full (all p)); full = λ p q full. absurd (full (all p)) };
      small = omega arith;
      inside = λ p full. absurd (full (all p));
      count = taken_zeros 16384;
      named = λ i h. absurd (omega arith);
    }
  where
    size : length (replicate {A = ℕ} 16384 0) ≡ 16384
    size = length-replicate {A = ℕ} 16384 0

    all : (p : ℕ) → get_or {A = ℕ} (replicate 16384 0) p 0 ≡ 0
    all p = zero_at 16384 p

-- ---- an entry is put in

-- two tables differ in slot i alone; the second may have more slots than the first
record SameBut (s s' : List ℕ) (c c' i : ℕ) : Type 0 where
  more : c ≤ c'
  low : i < c'
  others : (j : ℕ) → j < c' → (j ≡ i → ⊥) → (j < c) × (slot s' j ≡ slot s j)

module _ {index index' : List ℕ} (h i : ℕ) (small : i < 4096) (tight : Tight index) (put : Inserted (home h) (entry_of h i) index index') where
  in_range : put.place < length index
  in_range = omega (arith, put.within, tight.size)

  there : get_or index' put.place 0 ≡ entry_of h i
  there = ap (λ (l : List ℕ). get_or l put.place 0) put.changed ∙ get_or-set_same index put.place (entry_of h i) 0 in_range

  else : (p : ℕ) → (p ≡ put.place → ⊥) → get_or index' p 0 ≡ get_or index p 0
  else p n = ap (λ (l : List ℕ). get_or l p 0) put.changed ∙ get_or-set_other index put.place p (entry_of h i) 0 n

  -- what was not empty is not empty now
  fills : (q : ℕ) → (get_or index q 0 ≡ 0 → ⊥) → get_or index' q 0 ≡ 0 → ⊥
  fills q n z =
      ⊎_elim (λ (e : q ≡ put.place). n (ap (λ (k : ℕ). get_or index k 0) e ∙ put.free)) (λ m. n (sym (else q m) ∙ z)) (same_or q put.place)

  -- the index is tight still
  put_tight : Tight index'
  put_tight =
      record {
        size = ap length put.changed ∙ length-set index put.place (entry_of h i) ∙ tight.size;
        behind = λ p full.
            ⊎_elim (λ (e : p ≡ put.place). let v = ap (λ (k : ℕ). get_or index' k 0) e ∙ there in omega (arith, put.behind, entry_home h i (get_or index' p 0) small v))
            (λ n. let v = else p n in
            let b = tight.behind p (λ z. full (v ∙ z)) in
            subst (λ (d : ℕ). home_in d ≤ p) (sym v) b) (same_or p put.place);
        full = λ p q full lo hi.
            ⊎_elim
            (λ (e : p ≡ put.place).
            let v = ap (λ (k : ℕ). get_or index' k 0) e ∙ there in
            fills q (put.full q (omega (arith, entry_home h i (get_or index' p 0) small v)) (omega arith)))
            (λ n. let v = else p n in
            fills q (tight.full p q (λ z. full (v ∙ z)) (subst (λ (d : ℕ). home_in d ≤ q) v lo) hi)) (same_or p put.place);
      }

  -- one place more is taken
  put_count : taken index' ≡ taken index + 1
  put_count =
      omega (
        arith,
        ap taken put.changed,
        taken_set index put.place (entry_of h i) in_range,
        sign_none (get_or index put.place 0) put.free,
        sign_some (entry_of h i) (λ z. omega arith),
      )

  -- the entry is there
  put_has : Has index' (entry_of h i)
  put_has = record { place = put.place; within = put.within; here = there }

  -- and so are all others
  put_kept : (d : ℕ) → (d ≡ 0 → ⊥) → Has index d → Has index' d
  put_kept d some has =
      record {
        place = has.place;
        within = has.within;
        here = else has.place (λ e. some (sym has.here ∙ ap (λ (k : ℕ). get_or index k 0) e ∙ put.free)) ∙ has.here;
      }

  -- each entry names a slot of the table
  put_inside : {c c' : ℕ} → c ≤ c' → i < c' → ((p : ℕ) → (get_or index p 0 ≡ 0 → ⊥) → slot_in (get_or index p 0) < c)
      → (p : ℕ) → (get_or index' p 0 ≡ 0 → ⊥) → slot_in (get_or index' p 0) < c'
  put_inside more low inside p full =
      ⊎_elim (λ (e : p ≡ put.place). let v = ap (λ (k : ℕ). get_or index' k 0) e ∙ there in omega arith)
      (λ n. let v = else p n in
      let b = inside p (λ z. full (v ∙ z)) in
      omega arith) (same_or p put.place)

module _ {hash : List ℕ → ℕ} {index index' s s' : List ℕ} {c c' i : ℕ} where
  -- the index of the second table
  put_indexed : SameBut s s' c c' i → c' ≤ 4096 → used_in s' c' ≡ used_in s c + 1 → Indexed hash index s c
      → Inserted (home (hash (key_of (slot s' i)))) (entry_of (hash (key_of (slot s' i))) i) index index' → Indexed hash index' s' c'
  put_indexed same small grows ix put =
      record {
        tight = put_tight (hash (key_of (slot s' i))) i tiny ix.tight put;
        small = small;
        inside = put_inside (hash (key_of (slot s' i))) i tiny ix.tight put same.more same.low ix.inside;
        count = omega (arith, put_count (hash (key_of (slot s' i))) i tiny ix.tight put, ix.count);
        named = λ j low used.
            ⊎_elim (λ (e : j ≡ i). subst (λ (k : ℕ). Has index' (entry_of (hash (key_of (slot s' k))) k)) (sym e) (put_has (hash (key_of (slot s' i))) i tiny ix.tight put))
            (λ n. let o = same.others j low n in
            subst (λ (b : List ℕ). Has index' (entry_of (hash (key_of b)) j)) (sym o.1)
            (put_kept (hash (key_of (slot s' i))) i tiny ix.tight put _ (λ z. omega arith) (ix.named j o.0 (ap is_used (sym o.1) ∙ used)))) (same_or j i);
      }
    where
      tiny : i < 4096
      tiny = omega (arith, same.low)

-- ---- one slot more, or one slot changed

-- the next slot is not used
pub not_used_more : {hash : List ℕ → ℕ} {index s : List ℕ} {i : ℕ} → Indexed hash index s i → i < 4096 → is_used (slot s i) ≡ false
    → Indexed hash index s (i + 1)
not_used_more {hash} {index} {s} {i} ix low free =
    record {
      tight = ix.tight;
      small = omega arith;
      inside = λ p full. let b = ix.inside p full in omega arith;
      count = omega (arith, ix.count, used_next s i, ap bit free);
      named = λ j below used.
          ⊎_elim (λ (l : j < i). ix.named j l used)
          (λ g. let e : i ≡ j = omega arith in absurd (false≢true (sym free ∙ ap (λ (k : ℕ). is_used (slot s k)) e ∙ used)))
          (less_or j i);
    }

module _ {hash : List ℕ → ℕ} {index index' s : List ℕ} {i h : ℕ} where
  -- the next slot is used, and was put in
  pub used_more : Indexed hash index s i → i < 4096 → is_used (slot s i) ≡ true → Inserted (home h) (entry_of h i) index index'
      → h ≡ hash (key_of (slot s i)) → Indexed hash index' s (i + 1)
  used_more ix low used put e =
      put_indexed (record { more = omega arith; low = omega arith; others = λ j below n. (before j below n, refl) }) (omega arith)
      (omega (arith, used_next s i, ap bit used)) ix (subst (λ (f : ℕ). Inserted (home f) (entry_of f i) index index') e put)
    where
      before : (j : ℕ) → j < i + 1 → (j ≡ i → ⊥) → j < i
      before j below n = ⊎_elim (λ (l : j < i). l) (λ g. absurd (n (omega arith))) (less_or j i)

-- a flow opens in slot i under key
pub opened : {hash : List ℕ → ℕ} {index index' s s' : List ℕ} {c i h : ℕ} {key : List ℕ} → Indexed hash index s c → i < c → is_used (slot s i) ≡ false
    → is_used (slot s' i) ≡ true → key_of (slot s' i) ≡ key → ((j : ℕ) → j < c → (j ≡ i → ⊥) → slot s' j ≡ slot s j)
    → Inserted (home h) (entry_of h i) index index' → h ≡ hash key → Indexed hash index' s' c
opened {hash} {index} {index'} {s} {s'} {c} {i} {h} {key} ix low free used own others put e =
    put_indexed (record { more = omega arith; low = low; others = λ j below n. (below, others j below n) }) ix.small
    (omega (arith, used_changed s s' c i low others, ap bit free, ap bit used)) ix
    (subst (λ (f : ℕ). Inserted (home f) (entry_of f i) index index') (e ∙ ap hash (sym own)) put)

-- the flow in slot x leaves
pub closed : {hash : List ℕ → ℕ} {index index' s s' : List ℕ} {c x : ℕ} → Indexed hash index s c → x < c → is_used (slot s x) ≡ true
    → is_used (slot s' x) ≡ false → ((j : ℕ) → j < c → (j ≡ x → ⊥) → slot s' j ≡ slot s j)
    → Forgotten (entry_of (hash (key_of (slot s x))) x) index index' → Indexed hash index' s' c
closed {hash} {index} {index'} {s} {s'} {c} {x} ix low used free others gone =
    record {
      tight = gone.tight;
      small = ix.small;
      inside = λ p full.
          let has = gone.fresh p full in
          subst (λ (d : ℕ). slot_in d < c) has.here (ix.inside has.place (λ z. full (sym has.here ∙ z)));
      count = omega (arith, used_changed s s' c x low others, ap bit free, ap bit used, ix.count, gone.count);
      named = λ j below own.
          ⊎_elim (λ (e : j ≡ x). absurd (false≢true (sym free ∙ ap (λ (k : ℕ). is_used (slot s' k)) (sym e) ∙ own)))
          (λ n.
          let same : slot s' j ≡ slot s j = others j below n in
          subst (λ (b : List ℕ). Has index' (entry_of (hash (key_of b)) j)) (sym same)
          (gone.kept (entry_of (hash (key_of (slot s j))) j) (λ q. n (omega (arith, ix.small))) (ix.named j below (ap is_used (sym same) ∙ own))))
          (same_or j x);
    }

-- the slots change, and neither a used byte nor a key does
pub stays_indexed : {hash : List ℕ → ℕ} {index s s' : List ℕ} {c : ℕ} → Indexed hash index s c
    → ((j : ℕ) → j < c → (is_used (slot s' j) ≡ is_used (slot s j)) × (key_of (slot s' j) ≡ key_of (slot s j))) → Indexed hash index s' c
stays_indexed {hash} {index} {s} {s'} {c} ix same =
    record {
      tight = ix.tight;
      small = ix.small;
      inside = ix.inside;
      count = ix.count ∙ sym (used_same s s' c (λ j low. (same j low).0));
      named = λ j low used.
          subst (λ (key : List ℕ). Has index (entry_of (hash key) j)) (sym (same j low).1) (ix.named j low (sym (same j low).0 ∙ used));
    }
