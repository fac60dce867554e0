-- The tests of one slot are exact. Assumes nothing.
use Rattle.std.specs.Prelude.{ℕ, ◌+◌, ◌*◌, ◌-◌, ◌^◌, ◌≤◌, ◌<◌, ◌≡◌, refl, Bool, true, false, not, cond, ◌&&◌, List, [], ◌∷◌, ◌++◌, eqb, leb, length, get_or, take, drop, None, Option, Some, Err, Ok, Result, is_some}
use Rattle.std.proofs.Math.Path.{sym, ap}
use Rattle.std.proofs.Common.{◌∙◌, subst, append-nil, arith, length-append, take_at, eq-eqb, ne_eqb, eqb-true, le-leb, leb-true}
use Rattle.std.proofs.lemmas.Bool.{false≢true}
use Rattle.memory.specs.Decides.{Decides}
use Rattle.queue.specs.Tree.{never}
use Rattle.forms.specs.Lone.{Answer, value, refusal, read_one}
use Rattle.forms.specs.Length.{Sized}
use Rattle.forms.specs.Put.{Put, put_front}
use Rattle.slots.specs.Table.{slot, slots, key_of, holds, first_where, NoKeyTwice}
use Rattle.index.specs.Index.{Indexed, Inserted, home, entry_of, hash_absent, taken}
use Rattle.index.specs.Hash.{hash_of, key_from_lem, hash_of_lem, hash_reversed}
use Rattle.index.specs.Reversed.{Absent}
use Rattle.index.proofs.Laws.{hash_absent_lem, room_to_insert, absent_not_found, not_found_absent}
use Rattle.slots.proofs.Laws.{used_yes, used_no, key_part}
use Rattle.memory.specs.Bytes.{part, words_at}
use Rattle.table.specs.Due.{end_of}
use Rattle.words.specs.Words.{record_of, words_fit}
use Rattle.flow.specs.Sound.{sound_aside}
use Rattle.flow.specs.declared.record.FlowRecord.{FlowRecord}
use Rattle.key.specs.Endpoints.{has_reverse_direction}
use Rattle.key.specs.Key.{reversed_key, reversed_twice}
use Rattle.key.specs.Shard.{shard_of}
use Rattle.key.specs.KeyForm.{key}
use Rattle.key.specs.KeyTheorems.{KeyInRange, key_in_range, key_read_back, key_was_written}
use Rattle.key.specs.declared.key.FlowKey.{FlowKey}
use Rattle.rules.specs.Engine.{key_bytes, is_association}
use Rattle.rules.proofs.EngineTermsLaws.{reversed_in_range, engine_keys}
use Rattle.plain.specs.Plain as Plainly
use Rattle.plain.specs.Plain.{plain_at}
use Rattle.plain.specs.Laid.{at_back}
use Rattle.plain.specs.PlainLaws.{plain_read, plain_hash_lem, plain_bytes_lem}
use Rattle.plain.specs.declared.Plain.{Plain}
use Rattle.state.specs.Slot.{words_in}
use Rattle.state.specs.State.{turned, one_way, Queued}
use Rattle.forms.specs.Answers.{answer_of}
use Rattle.forms.specs.declared.refusal.Refusal.{Refusal}

-- ## The key that all of some bytes spell

abbrev pub whole_of : Answer FlowKey → ℕ → Option FlowKey
whole_of (value k used) n = cond (eqb used n) (Some k) None
whole_of (refusal r) n = None

unfoldable pub whole_key : List ℕ → Option FlowKey
whole_key bytes = whole_of (read_one 4 key bytes) (length bytes)

module _ (bytes : List ℕ) (r : Result (FlowKey × ℕ) Refusal) (answer : answer_of r ≡ read_one 4 key bytes) where
  pub whole_read : (k : FlowKey) (used : ℕ) → r ≡ Ok (k, used) → used ≡ length bytes → Some k ≡ whole_key bytes
  unfolding whole_key
  whole_read k used e full =
      sym (ap (λ (x : Answer FlowKey). whole_of x (length bytes)) (sym answer) ∙ ap (λ (x : Result (FlowKey × ℕ) Refusal). whole_of (answer_of x) (length bytes)) e ∙ rw (eq-eqb used (length bytes) full))

  pub part_read : (k : FlowKey) (used : ℕ) → r ≡ Ok (k, used) → (used ≡ length bytes → ⊥) → None ≡ whole_key bytes
  unfolding whole_key
  part_read k used e less =
      sym (ap (λ (x : Answer FlowKey). whole_of x (length bytes)) (sym answer) ∙ ap (λ (x : Result (FlowKey × ℕ) Refusal). whole_of (answer_of x) (length bytes)) e ∙ rw (ne_eqb used (length bytes) less))

  pub refused_read : (why : Refusal) → r ≡ Err why → None ≡ whole_key bytes
  unfolding whole_key
  refused_read why e =
      sym (ap (λ (x : Answer FlowKey). whole_of x (length bytes)) (sym answer) ∙ ap (λ (x : Result (FlowKey × ℕ) Refusal). whole_of (answer_of x) (length bytes)) e)

pub whole_yes : (bytes : List ℕ) (k : FlowKey) → whole_key bytes ≡ Some k → KeyInRange k × (key_bytes k ≡ bytes)
unfolding whole_key
whole_yes bytes k e = go (read_one 4 key bytes) refl e
  where
    full : (t : Bool) (l : FlowKey) (used : ℕ) → read_one 4 key bytes ≡ value l used → eqb used (length bytes) ≡ t → cond t (Some l) None ≡ Some k
        → KeyInRange k × (key_bytes k ≡ bytes)
    full true l used a q w =
        let (rest, ok, is, many) = key_was_written bytes l used a in
        let same : l ≡ k = cc in
        let none_left : length rest ≡ 0 = omega (arith, eqb-true used (length bytes) q, ap length is, length-append (key_bytes l) rest) in
        (subst KeyInRange same ok, ap key_bytes (sym same) ∙ sym (append-nil (key_bytes l)) ∙ ap (λ (x : List ℕ). key_bytes l ++ x) (sym (empty rest none_left)) ∙ sym is)
      where
        empty : (x : List ℕ) → length x ≡ 0 → x ≡ []
        empty [] z = refl
        empty (y ∷ x) z = absurd (omega arith)
    full false l used a q w = absurd (let z : ◌≡◌ {A = ℕ} 0 1 = cc in omega arith)

    go : (a : Answer FlowKey) → read_one 4 key bytes ≡ a → whole_of a (length bytes) ≡ Some k → KeyInRange k × (key_bytes k ≡ bytes)
    go (value l used) q w = full (eqb used (length bytes)) l used q refl w
    go (refusal n) q w = absurd (let z : ◌≡◌ {A = ℕ} 0 1 = cc in omega arith)

pub whole_no : (bytes : List ℕ) (k : FlowKey) → KeyInRange k → key_bytes k ≡ bytes → whole_key bytes ≡ Some k
unfolding whole_key
whole_no bytes k ok e =
    ap (λ (x : List ℕ). whole_of (read_one 4 key x) (length x)) (sym e)
    ∙ ap (λ (a : Answer FlowKey). whole_of a (length (key_bytes k)))
    (ap (read_one 4 key) (sym (append-nil (key_bytes k))) ∙ key_read_back k [] ok)
    ∙ rw (eq-eqb (length (key_bytes k)) (length (key_bytes k)) refl)

-- ## The hash of a slot's key

-- h is the hash of the key that the slot's key bytes spell
pub record HashSpelt (b : List ℕ) (h : ℕ) : Type 0 where
  pub own_key : FlowKey
  pub spelt : whole_key (key_of b) ≡ Some own_key
  pub hash : h ≡ shard_of own_key 524288

-- nothing is said of a slot where the answer is Other
abbrev pub PlainHashed : List ℕ → Option ℕ → Type 0
PlainHashed b (Some h) = HashSpelt b h
PlainHashed b None = Unit {0}

pub hash_told : (b : List ℕ) (r : Option ℕ) (h : ℕ) → PlainHashed b r → r ≡ Some h → HashSpelt b h
hash_told b r h told e = subst (PlainHashed b) e told

-- a plain key that ends where the slot's key bytes do is what they spell, though its reader may look at what stands behind them
pub plain_spelt : (s : List ℕ) (i n : ℕ) (p : Plain) → 256 + 624 * i + 624 ≤ length s → n < 256 → get_or s (256 + 624 * i + 1) 0 ≡ n
    → Some p ≡ plain_at s (256 + 624 * i + 2) → p.next ≡ 256 + 624 * i + 2 + n → HashSpelt (slot s i) p.hash
unfolding part
plain_spelt s i n p fits byte long seen ends =
    let from = 256 + 624 * i + 2 in
    let k = Plainly.key_read s from in
    let valid = (at_back key s from k p.next (omega arith) (plain_read s from (sym seen))).0 in
    let size : p.next - from ≡ n = omega arith in
    let bytes : take n (drop from s) ≡ key_bytes k = rw size at (plain_bytes_lem s from (sym seen)) in
    record {
      own_key = k;
      spelt = whole_no (key_of (slot s i)) k (key_in_range k valid) (sym (key_part s i n fits byte long ∙ bytes));
      hash = plain_hash_lem s from (sym seen);
    }

-- ## A slot's record

abbrev pub sound_words : List ℕ → Bool
sound_words ws = cond (words_fit ws) (sound_aside (record_of ws)) false

-- the test's answer, and that each word is one
pub record WordsTested (ws : List ℕ) (r : Bool) : Type 0 where
  pub answer : r ≡ sound_words ws
  pub words : (k : ℕ) → k < 37 → get_or ws k 0 < 2 ^ 64

-- the two ways out of the test
module _ (ws : List ℕ) (words : (k : ℕ) → k < 37 → get_or ws k 0 < 2 ^ 64) (fit : Bool) (tested : fit ≡ words_fit ws) where
  pub words_sound : (f : FlowRecord) → fit ≡ true → f ≡ record_of ws → (r : Bool) → r ≡ sound_aside f → WordsTested ws r
  words_sound f e is r a = record {
    answer = a ∙ ap sound_aside is ∙ sym (ap (λ (t : Bool). cond t (sound_aside (record_of ws)) false) (sym tested ∙ e));
    words = words;
  }

  pub words_unfit : fit ≡ false → WordsTested ws false
  words_unfit e = record { answer = sym (ap (λ (t : Bool). cond t (sound_aside (record_of ws)) false) (sym tested ∙ e)); words = words }

pub slot_tested : (b ws : List ℕ) (r : Bool) → ws ≡ words_at b 80 37 → WordsTested ws r → WordsTested (words_in b) r
unfolding words_in
slot_tested b ws r e h = subst (λ (x : List ℕ). WordsTested x r) e h

-- ## The queue's entry

both : (a b : Bool) → (a && b) ≡ true → (a ≡ true) × (b ≡ true)
both true b e = (refl, e)
both false b e = absurd (false≢true e)

and_true : (a b : Bool) → a ≡ true → b ≡ true → (a && b) ≡ true
and_true true b p q = q
and_true false b p q = absurd (false≢true p)

-- `due` is what the queue says of slot i of the state s
module _ (s : List ℕ) (c i T due d : ℕ) (is : due ≡ d) where
  pub still_told : T ≡ 0 → Decides (eqb due never) (Queued T (slot s i) d)
  still_told z = (
    λ y.
        let e : d ≡ never = sym is ∙ eqb-true due never y in
        record { empty = λ q. e; nothing_else = λ f. e; named = λ n u. absurd (n z); early = λ n u. absurd (n z) },
    λ q. eq-eqb due never (is ∙ q.empty z),
  )

  module _ (size : 256 + 640 * c ≤ length s) (low : i < c) where
    fits : 256 + 624 * i + 624 ≤ length s
    fits = omega arith

    pub free_told : (get_or s (256 + 624 * i) 0 ≡ 1 → ⊥) → Decides (eqb due never) (Queued T (slot s i) d)
    free_told n =
        let free = used_no s i fits n in (
          λ y.
              let e : d ≡ never = sym is ∙ eqb-true due never y in
              record { empty = λ q. e; nothing_else = λ f. e; named = λ m u. absurd (false≢true (sym free ∙ u)); early = λ m u. absurd (false≢true (sym free ∙ u)) },
          λ q. eq-eqb due never (is ∙ q.nothing_else free),
        )

    -- an entry of a used slot: there is one, and it is not late
    pub used_told : (end late : ℕ) → (T ≡ 0 → ⊥) → get_or s (256 + 624 * i) 0 ≡ 1 → end ≡ end_of (slot s i) → late ≡ due - end
        → Decides (not (eqb due never) && leb late T) (Queued T (slot s i) d)
    used_told end late n one e l =
        let u = used_yes s i fits one in (
          λ y.
              let p = both (not (eqb due never)) (leb late T) y in
              let short = leb-true late T p.1 in
              record {
                empty = λ z. absurd (n z);
                nothing_else = λ f. absurd (false≢true (sym f ∙ u));
                named = λ m w q. absurd (false≢true (ap not (sym (eq-eqb due never (is ∙ q))) ∙ p.0));
                early = λ m w. omega arith;
              },
          λ q.
              and_true (not (eqb due never)) (leb late T) (ap not (ne_eqb due never (λ z. q.named n u (sym is ∙ z)))) (le-leb late T (omega (arith, q.early n u))),
        )

-- ## A key alone

-- no slot before i is used under the key, nor under its reverse unless the key is a security association's
pub record Alone (s : List ℕ) (i : ℕ) (bytes : List ℕ) : Type 0 where
  pub own : Absent s i bytes
  pub other : one_way bytes ≡ false → Absent s i (turned bytes)

-- an answer that says whether something fails
abbrev pub Denies : Bool → Type 0 → Type 0
Denies r P = (r ≡ false → P) × (r ≡ true → P → ⊥)

pub record KeyAdded (s : List ℕ) (i : ℕ) (bytes : List ℕ) (r : Bool) (index index' : List ℕ) : Type 0 where
  pub yes_alone : r ≡ true → Alone s i bytes
  pub yes_put : r ≡ true → Inserted (home (hash_of bytes)) (entry_of (hash_of bytes) i) index index'
  pub other : r ≡ false → Alone s i bytes → ⊥

-- ## Reversal on forms of keys

-- the form of the reversed key, of a key's form
pub turned_is : (k : FlowKey) → KeyInRange k → turned (key_bytes k) ≡ key_bytes (reversed_key k)
turned_is k ok = ap (λ (l : FlowKey). key_bytes (reversed_key l)) (key_from_lem k ok)

pub one_way_is : (k : FlowKey) → KeyInRange k → one_way (key_bytes k) ≡ is_association k
one_way_is k ok = ap is_association (key_from_lem k ok)

pub turned_twice : (k : FlowKey) → KeyInRange k → turned (turned (key_bytes k)) ≡ key_bytes k
turned_twice k ok = ap turned (turned_is k ok) ∙ turned_is (reversed_key k) (reversed_in_range k ok) ∙ ap key_bytes (reversed_twice k)

pub one_way_turned : (k : FlowKey) → KeyInRange k → one_way (turned (key_bytes k)) ≡ one_way (key_bytes k)
one_way_turned k ok =
    ap one_way (turned_is k ok) ∙ one_way_is (reversed_key k) (reversed_in_range k ok) ∙ sym (engine_keys.kind k (reversed_key k) ok (reversed_in_range k ok) refl)
    ∙ sym (one_way_is k ok)

-- what the reversed key's bytes are searched by
pub turned_hash : (k : FlowKey) (h : ℕ) → KeyInRange k → h ≡ hash_of (key_bytes k) → h ≡ hash_of (key_bytes (reversed_key k))
turned_hash k h ok e = e ∙ sym (hash_reversed k ok (reversed_in_range k ok))

-- ## What a search says of a key

pub found_denies : (s : List ℕ) (c : ℕ) (bytes : List ℕ) (f : Option ℕ) (r : Bool) → f ≡ first_where (holds bytes) 0 (slots s c) → r ≡ is_some f → Denies r (Absent s c bytes)
found_denies s c bytes None r e t = (λ z. not_found_absent s c bytes (sym e), λ y. absurd (false≢true (sym t ∙ y)))
found_denies s c bytes (Some i) r e t =
    (λ z. absurd (false≢true (sym z ∙ t)), λ y a. let w = e ∙ absent_not_found s c bytes a in let z : ◌≡◌ {A = ℕ} 0 1 = cc in omega arith)

-- ## The key of a slot against those before it

-- bytes at the front of memory, and how many they are
pub record FrontWritten (bytes before after : List ℕ) (r : ℕ) : Type 0 where
  pub length_is : r ≡ length bytes
  pub front : after ≡ bytes ++ drop (length bytes) before

pub front_taken : (bytes before after : List ℕ) (r : ℕ) → FrontWritten bytes before after r → take r after ≡ bytes
front_taken bytes before after r h = ap (take r) h.front ∙ take_at bytes (drop (length bytes) before) r (sym h.length_is)

pub front_fits : (bytes before after : List ℕ) (r : ℕ) → FrontWritten bytes before after r → r ≤ length after
front_fits bytes before after r h = omega (arith, h.length_is, ap length h.front, length-append bytes (drop (length bytes) before))

-- the slots before i are in the index, no key of theirs twice, and the hash is the key's
pub record Searched (s : List ℕ) (i : ℕ) (k : FlowKey) (h : ℕ) (index : List ℕ) : Type 0 where
  pub size : 256 + 640 * i ≤ length s
  pub indexed : Indexed hash_of index s i
  pub once : NoKeyTwice s i
  pub in_range : KeyInRange k
  pub hash : h ≡ hash_of (key_bytes k)

-- the three ways out of the search for a key and its reverse
module _ (s : List ℕ) (i : ℕ) (k : FlowKey) (own : Bool) (first : Denies own (Absent s i (key_bytes k))) (ok : KeyInRange k) where
  pub own_stands : own ≡ true → Denies true (Alone s i (key_bytes k))
  own_stands e = (λ z. absurd (false≢true (sym z)), λ y a. first.1 e a.own)

  pub reverse_told : own ≡ false → (way r : Bool) → way ≡ has_reverse_direction k.endpoints → way ≡ true → Denies r (Absent s i (key_bytes (reversed_key k)))
      → Denies r (Alone s i (key_bytes k))
  reverse_told e way r w t d =
      let two : one_way (key_bytes k) ≡ false = one_way_is k ok ∙ ap not (sym w ∙ t) in (
        λ z. record { own = first.0 e; other = λ q. subst (Absent s i) (sym (turned_is k ok)) (d.0 z) },
        λ y a. d.1 y (subst (Absent s i) (turned_is k ok) (a.other two)),
      )

  pub one_way_told : own ≡ false → (way : Bool) → way ≡ has_reverse_direction k.endpoints → way ≡ false → Denies false (Alone s i (key_bytes k))
  one_way_told e way w t =
      let one : one_way (key_bytes k) ≡ true = one_way_is k ok ∙ ap not (sym w ∙ t) in
      (λ z. record { own = first.0 e; other = λ q. absurd (false≢true (sym q ∙ one)) }, λ y a. absurd (false≢true y))

-- the reversed key's form written at the front: the place behind it is its length
pub reversed_placed : (k l : FlowKey) (before after : List ℕ) (n : ℕ) (p : Option ℕ) → l ≡ reversed_key k → Put before (Some 0) (key_bytes l) after p → p ≡ Some n
    → FrontWritten (key_bytes (reversed_key k)) before after n
reversed_placed k l before after n p e put here =
    subst (λ (x : FlowKey). FrontWritten (key_bytes x) before after n) e (go (leb (0 + length (key_bytes l)) (length before)) refl (sym here ∙ put.next))
  where
    go : (t : Bool) → leb (0 + length (key_bytes l)) (length before) ≡ t → Some n ≡ cond t (Some (0 + length (key_bytes l))) None → FrontWritten (key_bytes l) before after n
    go true h q =
        let same : n ≡ 0 + length (key_bytes l) = cc in
        record { length_is = omega arith; front = put_front put (omega (arith, leb-true (0 + length (key_bytes l)) (length before) h)) }
    go false h q = let z : ◌≡◌ {A = ℕ} 0 1 = cc in absurd (omega arith)

pub reversed_written : (k l : FlowKey) (before after : List ℕ) (r : ℕ) (p : Option ℕ) → l ≡ reversed_key k → Sized (key_bytes l) 128 r → 128 ≤ length before
    → Put before (Some 0) (key_bytes l) after p → FrontWritten (key_bytes (reversed_key k)) before after r
reversed_written k l before after r p e sized long put =
    subst (λ (x : FlowKey). FrontWritten (key_bytes x) before after r) e
    (record { length_is = sized.length_is; front = put_front put (omega (arith, sized.length_is, sized.fits)) })

-- the search under the reversed key
module _ (s : List ℕ) (i : ℕ) (k : FlowKey) (h : ℕ) (index : List ℕ) (ask : Searched s i k h index) (before buffer : List ℕ) (n : ℕ)
    (written : FrontWritten (key_bytes (reversed_key k)) before buffer n) (bytes : List ℕ) (lies : bytes ≡ take n buffer) where
  searched_bytes : bytes ≡ key_bytes (reversed_key k)
  searched_bytes = lies ∙ front_taken (key_bytes (reversed_key k)) before buffer n written

  pub reversed_asked : (256 + 640 * i ≤ length s) × Indexed hash_of index s i × NoKeyTwice s i × (h ≡ hash_of bytes)
  reversed_asked = (ask.size, ask.indexed, ask.once, turned_hash k h ask.in_range ask.hash ∙ ap hash_of (sym searched_bytes))

  pub reversed_told : (f : Option ℕ) (r : Bool) → f ≡ first_where (holds bytes) 0 (slots s i) → r ≡ is_some f → Denies r (Absent s i (key_bytes (reversed_key k)))
  reversed_told f r e t = found_denies s i (key_bytes (reversed_key k)) f r (e ∙ ap (λ (x : List ℕ). first_where (holds x) 0 (slots s i)) searched_bytes) t

-- the search under the slot's own key
module _ (s : List ℕ) (i : ℕ) (k : FlowKey) (h : ℕ) (index : List ℕ) (ask : Searched s i k h index) (bytes : List ℕ) (own : key_bytes k ≡ key_of (slot s i))
    (lies : bytes ≡ key_of (slot s i)) where
  pub own_asked : (256 + 640 * i ≤ length s) × Indexed hash_of index s i × NoKeyTwice s i × (h ≡ hash_of bytes)
  own_asked = (ask.size, ask.indexed, ask.once, ask.hash ∙ ap hash_of (own ∙ sym lies))

  pub own_told : (f : Option ℕ) (r : Bool) → f ≡ first_where (holds bytes) 0 (slots s i) → r ≡ is_some f → Denies r (Absent s i (key_bytes k))
  own_told f r e t = found_denies s i (key_bytes k) f r (e ∙ ap (λ (x : List ℕ). first_where (holds x) 0 (slots s i)) (lies ∙ sym own)) t

-- ## A slot's key is put into the index

pub record Adding (s : List ℕ) (i : ℕ) (k : FlowKey) (index : List ℕ) : Type 0 where
  pub low : i < 4096
  pub slots_size : 256 + 640 * i ≤ length s
  pub slot_size : 256 + 624 * i + 624 ≤ length s
  pub indexed : Indexed hash_of index s i
  pub once : NoKeyTwice s i
  pub in_range : KeyInRange k
  pub own : key_bytes k ≡ key_of (slot s i)

module _ (s : List ℕ) (i : ℕ) (k : FlowKey) (index : List ℕ) (ask : Adding s i k index) (h : ℕ) (shard : h ≡ shard_of k 524288) where
  hash_is : h ≡ hash_of (key_bytes k)
  hash_is = shard ∙ sym (hash_of_lem k ask.in_range)

  pub adding_searched : Searched s i k h index
  adding_searched = record { size = ask.slots_size; indexed = ask.indexed; once = ask.once; in_range = ask.in_range; hash = hash_is }

  pub adding_room : (length index ≡ 16384) × (taken index ≤ 8192) × (i < 4096)
  adding_room = (ask.indexed.tight.size, room_to_insert ask.indexed, ask.low)

  put_under : (index' : List ℕ) → Inserted (home h) (entry_of h i) index index' → Inserted (home (hash_of (key_bytes k))) (entry_of (hash_of (key_bytes k)) i) index index'
  put_under index' p = subst (λ (x : ℕ). Inserted (home x) (entry_of x i) index index') hash_is p

  pub added_absent : (t : Bool) → t ≡ hash_absent index h → t ≡ true → (index' : List ℕ) → Inserted (home h) (entry_of h i) index index'
      → KeyAdded s i (key_bytes k) true index index'
  added_absent t e y index' p =
      let absent : hash_absent index h ≡ true = sym e ∙ y in
      record {
        yes_alone = λ z. record {
          own = hash_absent_lem ask.indexed absent (sym hash_is);
          other = λ w.
              subst (Absent s i) (sym (turned_is k ask.in_range))
              (hash_absent_lem ask.indexed absent (sym (turned_hash k h ask.in_range hash_is)));
        };
        yes_put = λ z. put_under index' p;
        other = λ z. absurd (false≢true (sym z));
      }

  module _ (stands : Bool) (told : Denies stands (Alone s i (key_bytes k))) where
    pub added_not : stands ≡ true → KeyAdded s i (key_bytes k) false index index
    added_not e = record { yes_alone = λ z. absurd (false≢true z); yes_put = λ z. absurd (false≢true z); other = λ z a. told.1 e a }

    pub added_behind : stands ≡ false → (index' : List ℕ) → Inserted (home h) (entry_of h i) index index' → KeyAdded s i (key_bytes k) true index index'
    added_behind e index' p = record { yes_alone = λ z. told.0 e; yes_put = λ z. put_under index' p; other = λ z. absurd (false≢true (sym z)) }
