-- The check of a state is exact: it goes on from slot to slot with the index and the list ready for those behind it, and where it stops the
-- state is not sound. Assumes nothing.
use Rattle.std.specs.Prelude.{ℕ, ◌+◌, ◌*◌, ◌^◌, ◌≤◌, ◌<◌, ◌≡◌, refl, Bool, List, length, get_or, replicate, None, Some}
use Rattle.std.proofs.Common.{sym, ◌∙◌, ⊎_elim, arith}
use Rattle.std.proofs.Math.Path.{ap, subst}
use Rattle.std.proofs.Math.Bool.{true, false, cond, false≢true}
use Rattle.memory.specs.Bytes.{part}
use Rattle.memory.specs.Decides.{Decides}
use Rattle.memory.proofs.Laws.{less_or}
use Rattle.slots.specs.Table.{slot, key_of, is_used, NoKeyTwice}
use Rattle.slots.proofs.Laws.{used_yes, used_no}
use Rattle.index.specs.Index.{Indexed, Inserted, home, entry_of, hash_absent, taken}
use Rattle.index.specs.Hash.{key_from, hash_of, key_from_lem}
use Rattle.index.proofs.Laws.{empty_indexed, not_used_more, used_more, once_more, twice, unreversed_more, unreversed_absent}
use Rattle.queue.specs.Tree as Tree
use Rattle.table.specs.View.{view}
use Rattle.table.specs.Header.{header_of}
use Rattle.table.specs.Due.{due_of}
use Rattle.table.specs.declared.Header.{Header}
use Rattle.words.specs.Words.{record_of, words_fit}
use Rattle.flow.specs.Sound.{sound_aside}
use Rattle.key.specs.KeyTheorems.{KeyInRange}
use Rattle.key.specs.declared.key.FlowKey.{FlowKey}
use Rattle.rules.specs.Engine.{key_bytes}
use Rattle.state.specs.Slot.{key_in, words_in, record_in, SoundSlot}
use Rattle.state.specs.State.{header_in, capacity_in, SoundHeader, turned, one_way, Queued, SoundFlows, Sound}
use Rattle.state.specs.Free.{FreeSlots, FreeRoom, pushed, free_begins, free_used, free_unused}
use Rattle.state.specs.Ready.{Ready}
use Rattle.state.specs.HeaderTest.{sound_header, header_yes, header_no}
use Rattle.state.specs.SlotTest.{whole_key, whole_yes, whole_no, HashSpelt, WordsTested, Alone, KeyAdded, Adding, turned_twice, one_way_turned}
use Rattle.state.specs.SlotTest.{adding_room, added_absent}

-- ## One used slot

-- it holds a sound flow, and its key is alone among those before it
pub record UsedChecked (s : List ℕ) (i : ℕ) (r : Bool) (index index' : List ℕ) : Type 0 where
  pub slot_sound : r ≡ true → SoundSlot (slot s i)
  pub alone : r ≡ true → Alone s i (key_of (slot s i))
  pub put : r ≡ true → Inserted (home (hash_of (key_of (slot s i)))) (entry_of (hash_of (key_of (slot s i))) i) index index'
  pub damaged : r ≡ false → SoundSlot (slot s i) → Alone s i (key_of (slot s i)) → ⊥

some_none : {A : Type 0} {k : FlowKey} → Some k ≡ None → A
some_none e = absurd (let z : ◌≡◌ {A = ℕ} 0 1 = cc in omega arith)

-- a sound slot's key bytes are a key's
slot_whole : (b : List ℕ) → SoundSlot b → whole_key (key_of b) ≡ Some (key_in b)
slot_whole b h = whole_no (key_of b) (key_in b) h.in_range h.key

-- the ways out of the test of a used slot
module _ (s : List ℕ) (i : ℕ) (bytes : List ℕ) (lies : bytes ≡ key_of (slot s i)) (index : List ℕ) where
  pub no_key : whole_key bytes ≡ None → UsedChecked s i false index index
  no_key e = record {
    slot_sound = λ z. absurd (false≢true z);
    alone = λ z. absurd (false≢true z);
    put = λ z. absurd (false≢true z);
    damaged = λ z h a. some_none (sym (slot_whole (slot s i) h) ∙ ap whole_key (sym lies) ∙ e);
  }

  module _ (k : FlowKey) (spelt : whole_key bytes ≡ Some k) (t : Bool) (tested : WordsTested (words_in (slot s i)) t) where
    in_range : KeyInRange k
    in_range = (whole_yes bytes k spelt).0

    own : key_bytes k ≡ key_of (slot s i)
    own = (whole_yes bytes k spelt).1 ∙ lies

    pub no_record : t ≡ false → UsedChecked s i false index index
    unfolding record_in
    no_record e = record {
      slot_sound = λ z. absurd (false≢true z);
      alone = λ z. absurd (false≢true z);
      put = λ z. absurd (false≢true z);
      damaged = λ z h a.
          false≢true (sym e ∙ tested.answer ∙ ap (λ (x : Bool). cond x (sound_aside (record_of (words_in (slot s i)))) false) h.fit ∙ h.sound);
    }

    made : t ≡ true → SoundSlot (slot s i)
    unfolding key_in record_in
    made e =
        let is : key_in (slot s i) ≡ k = ap key_from (sym own) ∙ key_from_lem k in_range in
        let w = both (words_fit (words_in (slot s i))) (sound_aside (record_of (words_in (slot s i)))) (sym tested.answer ∙ e) in
        record {
          in_range = subst KeyInRange (sym is) in_range;
          key = ap key_bytes is ∙ own;
          words = tested.words;
          fit = w.0;
          sound = w.1;
        }
      where
        both : (a b : Bool) → cond a b false ≡ true → (a ≡ true) × (b ≡ true)
        both true b e = (refl, e)
        both false b e = absurd (false≢true e)

    pub key_checked : t ≡ true → (r : Bool) (index' : List ℕ) → KeyAdded s i (key_bytes k) r index index' → UsedChecked s i r index index'
    key_checked e r index' added = record {
      slot_sound = λ z. made e;
      alone = λ y. subst (Alone s i) own (added.yes_alone y);
      put = λ y. subst (λ (x : List ℕ). Inserted (home (hash_of x)) (entry_of (hash_of x) i) index index') own (added.yes_put y);
      damaged = λ z h a. added.other z (subst (Alone s i) (sym own) a);
    }

-- what is asked for a used slot
pub record UsedAsked (s : List ℕ) (i : ℕ) (index : List ℕ) : Type 0 where
  pub low : i < 4096
  pub slots_size : 256 + 640 * i ≤ length s
  pub slot_size : 256 + 624 * i + 624 ≤ length s
  pub indexed : Indexed hash_of index s i
  pub once : NoKeyTwice s i

pub used_adding : (s : List ℕ) (i : ℕ) (index bytes : List ℕ) (k : FlowKey) → UsedAsked s i index → bytes ≡ key_of (slot s i) → whole_key bytes ≡ Some k → Adding s i k index
used_adding s i index bytes k ask lies spelt =
    let w = whole_yes bytes k spelt in
    record {
      low = ask.low;
      slots_size = ask.slots_size;
      slot_size = ask.slot_size;
      indexed = ask.indexed;
      once = ask.once;
      in_range = w.0;
      own = w.1 ∙ lies;
    }

-- the ways out of the test of a used slot whose key has a hash that the index does not have
module _ (s : List ℕ) (i h : ℕ) (index : List ℕ) (ask : UsedAsked s i index) (own : HashSpelt (slot s i) h) where
  adding : Adding s i own.own_key index
  adding = used_adding s i index (key_of (slot s i)) own.own_key ask refl own.spelt

  pub new_room : (length index ≡ 16384) × (taken index ≤ 8192) × (i < 4096)
  new_room = adding_room s i own.own_key index adding h own.hash

  module _ (t : Bool) (tested : WordsTested (words_in (slot s i)) t) where
    pub new_unsound : t ≡ false → UsedChecked s i false index index
    new_unsound = no_record s i (key_of (slot s i)) refl index own.own_key own.spelt t tested

    pub new_checked : t ≡ true → hash_absent index h ≡ true → (index' : List ℕ) → Inserted (home h) (entry_of h i) index index'
        → UsedChecked s i true index index'
    new_checked e absent index' put =
        key_checked s i (key_of (slot s i)) refl index own.own_key own.spelt t tested e true index'
        (added_absent s i own.own_key index adding h own.hash true (sym absent) refl index' put)

-- ## One slot more

-- what is asked for slot i
pub record PlaceAsked (s : List ℕ) (i : ℕ) (index free : List ℕ) : Type 0 where
  pub low : i < 4096
  pub slots_size : 256 + 640 * i ≤ length s
  pub slot_size : 256 + 624 * i + 624 ≤ length s
  pub ready : Ready s i index free

pub place_asks : (s : List ℕ) (i : ℕ) (index free : List ℕ) → PlaceAsked s i index free → UsedAsked s i index
place_asks s i index free h = record {
  low = h.low;
  slots_size = h.slots_size;
  slot_size = h.slot_size;
  indexed = h.ready.indexed;
  once = h.ready.flows.once;
}

pub place_pushes : (s : List ℕ) (i : ℕ) (index free : List ℕ) → PlaceAsked s i index free → FreeRoom free i
place_pushes s i index free h = record { size = h.ready.unused.size; room = omega (arith, h.ready.unused.count, h.low); low = h.low }

flows_more : (s : List ℕ) (i : ℕ) → SoundFlows s i → (is_used (slot s i) ≡ true → SoundSlot (slot s i))
    → (is_used (slot s i) ≡ true → Alone s i (key_of (slot s i))) → SoundFlows s (i + 1)
flows_more s i h own alone =
    let all : (j : ℕ) → j < i + 1 → is_used (slot s j) ≡ true → SoundSlot (slot s j) =
    λ j l u. ⊎_elim (λ (b : j < i). h.slots j b u)
    (λ m. let e : i ≡ j = omega arith in subst (λ (x : ℕ). SoundSlot (slot s x)) e (own (ap (λ (x : ℕ). is_used (slot s x)) e ∙ u))) (less_or j i) in
    record {
      slots = all;
      once = once_more s i h.once (λ u. (alone u).own);
      not_reversed =
          unreversed_more
          (λ j l u.
          let b = all j l u in
          ap (λ (x : List ℕ). turned (turned x)) (sym b.key) ∙ turned_twice (key_in (slot s j)) b.in_range ∙ b.key)
          (λ j l u.
          let b = all j l u in
          ap (λ (x : List ℕ). one_way (turned x)) (sym b.key) ∙ one_way_turned (key_in (slot s j)) b.in_range ∙ ap one_way b.key)
          h.not_reversed (λ u. (alone u).other);
    }

-- what is alone in the whole state is alone before it
alone_before : (s : List ℕ) (c i : ℕ) → SoundFlows s c → i < c → is_used (slot s i) ≡ true → Alone s i (key_of (slot s i))
alone_before s c i h low u = record { own = twice s i h.once low u; other = λ e. unreversed_absent h.not_reversed low u e }

-- slot i has been put into the index or the list
pub record PlaceChecked (s : List ℕ) (i : ℕ) (r : Bool) (index free : List ℕ) : Type 0 where
  pub ready : r ≡ true → Ready s (i + 1) index free
  pub damaged : r ≡ false → (c : ℕ) → i < c → SoundFlows s c → ⊥

module _ (s : List ℕ) (i : ℕ) (index free : List ℕ) (ask : PlaceAsked s i index free) where
  h : Ready s i index free
  h = ask.ready

  low : i < 4096
  low = ask.low

  size : 256 + 624 * i + 624 ≤ length s
  size = ask.slot_size

  pub place_used : get_or s (256 + 624 * i) 0 ≡ 1 → (r : Bool) (index' : List ℕ) → UsedChecked s i r index index' → PlaceChecked s i r index' free
  place_used one r index' k =
      let u = used_yes s i size one in
      record {
        ready = λ y. record {
          flows = flows_more s i h.flows (λ v. k.slot_sound y) (λ v. k.alone y);
          indexed = used_more h.indexed low u (k.put y) refl;
          unused = free_used s i free h.unused low u;
        };
        damaged = λ z c l f. k.damaged z (f.slots i l u) (alone_before s c i f l u);
      }

  pub place_free : (get_or s (256 + 624 * i) 0 ≡ 1 → ⊥) → (free' : List ℕ) → free' ≡ pushed i free → PlaceChecked s i true index free'
  place_free n free' e =
      let f = used_no s i size n in
      record {
        ready = λ y. record {
          flows = flows_more s i h.flows (λ u. absurd (false≢true (sym f ∙ u))) (λ u. absurd (false≢true (sym f ∙ u)));
          indexed = not_used_more h.indexed low f;
          unused = subst (FreeSlots s (i + 1)) (sym e) (free_unused s i free h.unused low f);
        };
        damaged = λ z. absurd (false≢true (sym z));
      }

-- ## The slots up to i

abbrev pub AllQueued : List ℕ → ℕ → ℕ → ℕ → Type 0
AllQueued s c T n = (j : ℕ) → j < n → Queued T (slot s j) (due_of c (view c s).tree j)

pub record CheckedTo (s : List ℕ) (c T i : ℕ) (r : Bool) (index free : List ℕ) : Type 0 where
  pub ready : r ≡ true → Ready s i index free
  pub queued : r ≡ true → AllQueued s c T i
  pub damaged : r ≡ false → SoundFlows s c → AllQueued s c T c → ⊥

pub check_begins : (s : List ℕ) (c T : ℕ) (index free : List ℕ) → index ≡ replicate 16384 0 → free ≡ replicate 4097 0 → CheckedTo s c T 0 true index free
unfolding NoKeyTwice
check_begins s c T index free e f = record {
  ready = λ y. record {
    flows = record {
      slots = λ i l. absurd (omega arith);
      once = λ i j l. absurd (omega arith);
      not_reversed = record { alone = λ i j l. absurd (omega arith) };
    };
    indexed = subst (λ (x : List ℕ). Indexed hash_of x s 0) (sym e) empty_indexed;
    unused = subst (FreeSlots s 0) (sym f) (free_begins s);
  };
  queued = λ y j l. absurd (omega arith);
  damaged = λ z. absurd (false≢true (sym z));
}

module _ (s : List ℕ) (c T i : ℕ) (low : i < c) (entry : Bool) (told : Decides entry (Queued T (slot s i) (due_of c (view c s).tree i))) where
  pub entry_damaged : (index free : List ℕ) → entry ≡ false → CheckedTo s c T (i + 1) false index free
  entry_damaged index free e = record {
    ready = λ y. absurd (false≢true y);
    queued = λ y. absurd (false≢true y);
    damaged = λ z f q. false≢true (sym e ∙ told.1 (q i low));
  }

  pub check_goes : (index₀ free₀ index free : List ℕ) → CheckedTo s c T i true index₀ free₀ → entry ≡ true → (r : Bool) → PlaceChecked s i r index free
      → CheckedTo s c T (i + 1) r index free
  check_goes index₀ free₀ index free h e r k = record {
    ready = k.ready;
    queued = λ y j l. ⊎_elim
        (λ (b : j < i). h.queued refl j b)
        (λ m. let q : i ≡ j = omega arith in subst (λ (x : ℕ). Queued T (slot s x) (due_of c (view c s).tree x)) q (told.0 e)) (less_or j i);
    damaged = λ z f q. k.damaged z c low f;
  }

pub record SlotAsked (s : List ℕ) (c T i : ℕ) (index free : List ℕ) : Type 0 where
  pub size : 256 + 640 * c ≤ length s
  pub most : c ≤ 4096
  pub low : i < c
  pub before : CheckedTo s c T i true index free

pub slot_asks : (s : List ℕ) (c T i : ℕ) (index free : List ℕ) → SlotAsked s c T i index free → PlaceAsked s i index free
slot_asks s c T i index free h = record {
  low = omega (arith, h.most, h.low);
  slots_size = omega (arith, h.size, h.low);
  slot_size = omega (arith, h.size, h.low);
  ready = h.before.ready refl;
}

pub record SlotsAsked (s : List ℕ) (c : ℕ) (index free : List ℕ) : Type 0 where
  pub size : 256 + 640 * c ≤ length s
  pub most : c ≤ 4096
  pub index_empty : index ≡ replicate 16384 0
  pub free_empty : free ≡ replicate 4097 0

-- the slots below i have been checked, of a call's own memory that was index₀ and free₀
pub record Checking (s : List ℕ) (c T : ℕ) (index₀ free₀ index free : List ℕ) (i : ℕ) : Type 0 where
  pub within : i ≤ c
  pub so_far : CheckedTo s c T i true index free
  pub index_long : length index ≡ length index₀
  pub free_long : length free ≡ length free₀

module _ (s : List ℕ) (c T : ℕ) (index₀ free₀ : List ℕ) (ask : SlotsAsked s c index₀ free₀) where
  pub checking_begins : Checking s c T index₀ free₀ index₀ free₀ 0
  checking_begins = record {
    within = omega arith;
    so_far = check_begins s c T index₀ free₀ ask.index_empty ask.free_empty;
    index_long = refl;
    free_long = refl;
  }

  module _ (index free : List ℕ) (i : ℕ) (h : Checking s c T index₀ free₀ index free i) where
    pub checking_asks : i < c → SlotAsked s c T i index free
    checking_asks l = record { size = ask.size; most = ask.most; low = l; before = h.so_far }

    pub checking_goes : i < c → (r : Bool) (index' free' : List ℕ) → length index' ≡ length index → length free' ≡ length free → r ≡ true
        → CheckedTo s c T (i + 1) r index' free' → Checking s c T index₀ free₀ index' free' (i + 1)
    checking_goes l r index' free' p q e k = record {
      within = omega arith;
      so_far = subst (λ (b : Bool). CheckedTo s c T (i + 1) b index' free') e k;
      index_long = p ∙ h.index_long;
      free_long = q ∙ h.free_long;
    }

    pub checking_stops : i < c → (r : Bool) (index' free' : List ℕ) → r ≡ false → CheckedTo s c T (i + 1) r index' free' → CheckedTo s c T c false index' free'
    checking_stops l r index' free' e k = record {
      ready = λ y. absurd (false≢true y);
      queued = λ y. absurd (false≢true y);
      damaged = λ z f q. k.damaged e f q;
    }

    pub checking_ends : c ≤ i → CheckedTo s c T c true index free
    checking_ends g =
        let e : i ≡ c = omega (arith, h.within) in
        subst (λ (x : ℕ). CheckedTo s c T x true index free) e h.so_far

-- ## The whole state

-- the call's own memory, not yet used
pub record CheckAsked (index free : List ℕ) : Type 0 where
  pub index_empty : index ≡ replicate 16384 0
  pub free_empty : free ≡ replicate 4097 0

pub record Checked (s : List ℕ) (r : Bool) (index free : List ℕ) : Type 0 where
  pub decides : Decides r (Sound s)
  pub ready : r ≡ true → Ready s (capacity_in s) index free

-- the ways out of the check
pub too_short : (s : List ℕ) (index free : List ℕ) → length s < 256 → Checked s false index free
too_short s index free h = record {
  decides = (λ y. absurd (false≢true y), λ k. absurd (omega (arith, k.header.long)));
  ready = λ y. absurd (false≢true y);
}

module _ (s : List ℕ) (h : Header) (is : h ≡ header_of (part s 0 256)) (t : Bool) (tested : t ≡ sound_header h (length s)) where
  pub header_damaged : (index free : List ℕ) → t ≡ false → Checked s false index free
  header_damaged index free e = record {
    decides = (
      λ y. absurd (false≢true y),
      λ k. absurd (false≢true (sym e ∙ tested ∙ header_no h (length s) (subst (λ (x : Header). SoundHeader x (length s)) (sym is) k.header))),
    );
    ready = λ y. absurd (false≢true y);
  }

  module _ (small : h.timeout.0 < 2 ^ 64) (yes-header : t ≡ true) where
    pub header_good : SoundHeader h (length s)
    header_good = header_yes h (length s) small (sym tested ∙ yes-header)

    module _ (c : ℕ) (cap : c ≡ h.capacity) (tree : Bool) (decided : Decides tree (Tree.Sound (view c s).tree c)) where
      same : c ≡ capacity_in s
      same = cap ∙ ap (λ (x : Header). x.capacity) is

      same_timeout : h.timeout.0 ≡ (header_in s).timeout.0
      same_timeout = ap (λ (x : Header). x.timeout.0) is

      pub tree_damaged : (index free : List ℕ) → tree ≡ false → Checked s false index free
      tree_damaged index free e = record {
        decides = (
          λ y. absurd (false≢true y),
          λ k. absurd (false≢true (sym e ∙ decided.1 (subst (λ (x : ℕ). Tree.Sound (view x s).tree x) (sym same) k.tree))),
        );
        ready = λ y. absurd (false≢true y);
      }

      pub checked_all : tree ≡ true → (r : Bool) (index free : List ℕ) → CheckedTo s c h.timeout.0 c r index free → Checked s r index free
      checked_all e r index free k =
          let q = subst (λ (x : ℕ). CheckedTo s x h.timeout.0 x r index free) same k in
          let q2 = subst (λ (x : ℕ). CheckedTo s (capacity_in s) x (capacity_in s) r index free) same_timeout q in
          record {
            decides = (
              λ y. record {
                header = subst (λ (x : Header). SoundHeader x (length s)) is header_good;
                flows = (q2.ready y).flows;
                tree = subst (λ (x : ℕ). Tree.Sound (view x s).tree x) same (decided.0 e);
                queue = q2.queued y;
              },
              λ good. settle r refl q2 good,
            );
            ready = λ y. q2.ready y;
          }
        where
          settle : (b : Bool) → r ≡ b → CheckedTo s (capacity_in s) (header_in s).timeout.0 (capacity_in s) r index free → Sound s → r ≡ true
          settle true e q good = e
          settle false e q good = absurd (q.damaged e good.flows good.queue)

-- what the slots' check is asked, of a sound header
pub slots_asked : (s : List ℕ) (h : Header) (c : ℕ) (index free : List ℕ) → SoundHeader h (length s) → c ≡ h.capacity → CheckAsked index free → SlotsAsked s c index free
slots_asked s h c index free good cap ask = record {
  size = omega (arith, good.long);
  most = omega (arith, good.most);
  index_empty = ask.index_empty;
  free_empty = ask.free_empty;
}
