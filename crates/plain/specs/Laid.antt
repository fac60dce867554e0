-- How a plain key lies in bytes, and where each of its parts is. Assumes nothing.
use Rattle.std.specs.Prelude.{ℕ, ◌+◌, ◌-◌, ◌≤◌, ◌<◌, ◌≡◌, refl, List, [], ◌∷◌, ◌++◌, Bool, true, false, cond, ◌&&◌, ltb, length, take, drop, get_or, None, Option, Some}
use Rattle.std.proofs.Common.{sym, ap, ◌∙◌, append_assoc, arith, add-zero, add-one, ltb-true, ltb-false, lt-ltb, length-append, length-drop, drop_of_length-le, drop-cons, drop-drop, take_at, get_or-drop}
use Rattle.std.proofs.Math.Seq.{drop-append_seam}
use Rattle.forms.specs.Form.{Form, Read, got, and_then, and_then-got, raw, raw_length}
use Rattle.forms.specs.At.{read_at, placed, placed_end, placed_byte}
use Rattle.forms.specs.Number.{number_bytes, bytes_small}
use Rattle.key.specs.Endpoints.{port_pair}
use Rattle.key.specs.KeyForm.{key, mac, word_behind}
use Rattle.key.specs.KeyWrite.{key_writes, ports_writes, v4_writes, untagged_writes, no_tunnel_writes}
use Rattle.key.specs.KeyLength.{mac_sized}
use Rattle.key.specs.KeyTheorems.{key_in_range, key_ends}
use Rattle.key.specs.declared.key.Address.{Address}
use Rattle.key.specs.declared.key.Endpoints.{Endpoints}
use Rattle.key.specs.declared.key.FlowKey.{FlowKey}
use Rattle.key.specs.declared.link.MacAddress.{MacAddress}
use Rattle.key.specs.declared.vlan.VlanTags.{VlanTags}
use Rattle.plain.specs.Plain.{has_ports, is_v4, is_absent, is_untagged, has_no_tunnel, is_plain, plain_of, plain_in, plain_at}
use Rattle.plain.specs.Tests.{plain_key}
use Rattle.plain.specs.declared.Plain.{Plain}
use Rattle.key.specs.declared.encapsulation.Encapsulation.{Encapsulation}
use Rattle.forms.specs.Form.{stop}
use Rattle.forms.specs.declared.stop.Stop.{Stop}

-- ---- parts of bytes

module _ (s : List ℕ) (i : ℕ) (front rest : List ℕ) (here : drop i s ≡ front ++ rest) where
  -- what stands behind a part
  pub behind_part : (j : ℕ) → j ≡ i + length front → drop j s ≡ rest
  behind_part j e =
      ap (λ (k : ℕ). drop k s) e ∙ sym (drop-drop (length front) i s) ∙ ap (drop (length front)) here ∙ drop-append_seam front rest

  -- the part itself
  pub part_is : (n : ℕ) → length front ≡ n → take n (drop i s) ≡ front
  part_is n e = ap (take n) here ∙ take_at front rest n e

pub byte_is : (s : List ℕ) (i b : ℕ) (rest : List ℕ) → drop i s ≡ b ∷ rest → get_or s i 0 ≡ b
byte_is s i b rest e = ap (λ (k : ℕ). get_or s k 0) (sym (add-zero i)) ∙ sym (get_or-drop i s 0 0) ∙ ap (λ (l : List ℕ). get_or l 0 0) e

-- ---- a form at a place, and its bytes

placed_is : {A : Type 0} (read : List ℕ → Read A (List ℕ)) (s : List ℕ) (at : ℕ)
    → placed read s at ≡ and_then (read (drop at s)) (λ a rest. got a (length s - length rest))
placed_is {A} read s at = go (ltb at (length s)) refl
  where
    go : (t : Bool) → ltb at (length s) ≡ t → placed read s at ≡ and_then (read (drop at s)) (λ a rest. got a (length s - length rest))
    go true e =
        let h = ltb-true at (length s) e in
        let bytes : drop at s ≡ get_or s at 0 ∷ drop (at + 1) s = rw add-one (drop-cons s at 0 h) in
        placed_byte read s at h ∙ rw bytes
    go false e =
        let h = ltb-false at (length s) e in
        placed_end read s at h ∙ rw (drop_of_length-le s h)

module _ {A : Type 0} (f : Form A) (s : List ℕ) (at : ℕ) (a : A) where
  -- what stands there is read
  pub at_there : (rest : List ℕ) → f.valid a → at ≤ length s → drop at s ≡ f.write a ++ rest
      → read_at f s at ≡ got a (at + length (f.write a))
  at_there rest v inside e =
      let n = length-drop at s in
      let m = ap length e ∙ length-append (f.write a) rest in
      let next : length s - length rest ≡ at + length (f.write a) = omega arith in
      placed_is f.read s at ∙ rw (e, f.there a rest v, next)

  -- what is read stands there
  pub at_back : (n : ℕ) → at ≤ length s → read_at f s at ≡ got a n
      → f.valid a × (n ≡ at + length (f.write a)) × (n ≤ length s) × (drop at s ≡ f.write a ++ drop n s)
  at_back n inside e =
      let whole = sym (placed_is f.read s at) ∙ e in
      let (x, rest, r, k) = and_then-got (f.read (drop at s)) (λ a rest. got a (length s - length rest)) a n whole in
      let (v, w) = f.back (drop at s) x rest r in
      let same : x ≡ a = cc in
      let next : length s - length rest ≡ n = cc in
      let size = length-drop at s in
      let m = ap length w ∙ length-append (f.write x) rest in
      let is : n ≡ at + length (f.write x) = omega arith in
      let behind : drop n s ≡ rest = behind_part s at (f.write x) rest w n is in
      let bytes : drop at s ≡ f.write x ++ drop n s = w ∙ ap (λ (l : List ℕ). f.write x ++ l) (sym behind) in
      (rw same at v, rw same at is, omega arith, rw same at bytes)

-- a key stands within the bytes
key_inside : (s : List ℕ) (at : ℕ) (k : FlowKey) (next : ℕ) → read_at key s at ≡ got k next → at ≤ length s
key_inside s at k next e = go (ltb (length s) at) refl
  where
    go : (t : Bool) → ltb (length s) at ≡ t → at ≤ length s
    go true q =
        let h = ltb-true (length s) at q in
        let none : read_at key s at ≡ stop Stop.Short = placed_end key.read s at (omega arith) ∙ rw key_ends in
        let z : ◌≡◌ {A = ℕ} 0 1 = cc e in
        absurd (omega arith)
    go false q = ltb-false (length s) at q

-- ---- a plain key is told by its numbers

pub plain_is : (p f g a b : ℕ) (m n : MacAddress) → p < 128 → is_plain (plain_key p f g a b m n) ≡ true
unfolding is_plain
plain_is p f g a b m n h = rw (lt-ltb p 128 h)

pub both_true : (p q : Bool) → p && q ≡ true → (p ≡ true) × (q ≡ true)
both_true true q h = (refl, h)
both_true false q h = let z : ◌≡◌ {A = ℕ} 0 1 = cc in absurd (omega arith)

all_true : (a b c d e f g : Bool) → a && (b && (c && (d && (e && (f && g))))) ≡ true
    → (a ≡ true) × (b ≡ true) × (c ≡ true) × (d ≡ true) × (e ≡ true) × (f ≡ true) × (g ≡ true)
all_true a b c d e f g h =
    let (p, h₁) = both_true a (b && (c && (d && (e && (f && g))))) h in
    let (q, h₂) = both_true b (c && (d && (e && (f && g)))) h₁ in
    let (r, h₃) = both_true c (d && (e && (f && g))) h₂ in
    let (s, h₄) = both_true d (e && (f && g)) h₃ in
    let (t, h₅) = both_true e (f && g) h₄ in
    let (u, v) = both_true f g h₅ in
    (p, q, r, s, t, u, v)

absent_is : (t : Option ℕ) → is_absent t ≡ true → t ≡ None
absent_is None h = refl
absent_is (Some v) h = let z : ◌≡◌ {A = ℕ} 0 1 = cc in absurd (omega arith)

ports_are : (e : Endpoints) → has_ports e ≡ true → e ≡ Endpoints.Ports (port_pair e).source (port_pair e).destination
ports_are (Endpoints.Ports s d) h = refl
ports_are (Endpoints.SecurityAssociation i) h = let z : ◌≡◌ {A = ℕ} 0 1 = cc in absurd (omega arith)
ports_are (Endpoints.GreProtocol p) h = let z : ◌≡◌ {A = ℕ} 0 1 = cc in absurd (omega arith)
ports_are Endpoints.None h = let z : ◌≡◌ {A = ℕ} 0 1 = cc in absurd (omega arith)

v4_is : (a : Address) → is_v4 a ≡ true → a ≡ Address.V4 (word_behind a)
v4_is (Address.V4 a) h = refl
v4_is (Address.V6 x y) h = let z : ◌≡◌ {A = ℕ} 0 1 = cc in absurd (omega arith)

untagged_is : (g : VlanTags) → is_untagged g ≡ true → g ≡ VlanTags.Untagged
untagged_is VlanTags.Untagged h = refl
untagged_is (VlanTags.Single t) h = let z : ◌≡◌ {A = ℕ} 0 1 = cc in absurd (omega arith)
untagged_is (VlanTags.Double t u) h = let z : ◌≡◌ {A = ℕ} 0 1 = cc in absurd (omega arith)

no_tunnel_is : (c : Option Encapsulation) → has_no_tunnel c ≡ true → c ≡ None
no_tunnel_is None h = refl
no_tunnel_is (Some e) h = let z : ◌≡◌ {A = ℕ} 0 1 = cc in absurd (omega arith)

-- a key with other parts in the places where a plain key has no choice
with_parts : FlowKey → Option ℕ → Endpoints → Address → Address → VlanTags → Option Encapsulation → FlowKey
with_parts k t e a b g c =
    record {
      source = a;
      destination = b;
      endpoints = e;
      protocol = k.protocol;
      ethertype = t;
      source_mac = k.source_mac;
      destination_mac = k.destination_mac;
      vlan = g;
      encapsulation = c;
    }

same_parts : (k : FlowKey) {t t' : Option ℕ} {e e' : Endpoints} {a a' b b' : Address} {g g' : VlanTags} {c c' : Option Encapsulation}
    → t ≡ t' → e ≡ e' → a ≡ a' → b ≡ b' → g ≡ g' → c ≡ c' → with_parts k t e a b g c ≡ with_parts k t' e' a' b' g' c'
same_parts k p q r s u v = rw (p, q, r, s, u, v)

-- the plain key that has the numbers of k
abbrev numbers_of : FlowKey → FlowKey
numbers_of k =
    plain_key
    k.protocol
    (port_pair k.endpoints).source
    (port_pair k.endpoints).destination
    (word_behind k.source)
    (word_behind k.destination)
    k.source_mac
    k.destination_mac

by_numbers : (k : FlowKey) → is_plain k ≡ true → (k.protocol < 128) × (k ≡ numbers_of k)
unfolding is_plain with_parts
by_numbers k h =
    let (p, t, e, a, b, g, c) =
    all_true
    (ltb k.protocol 128)
    (is_absent k.ethertype)
    (has_ports k.endpoints)
    (is_v4 k.source)
    (is_v4 k.destination)
    (is_untagged k.vlan)
    (has_no_tunnel k.encapsulation)
    h in
    let same =
    same_parts
    k
    (absent_is k.ethertype t)
    (ports_are k.endpoints e)
    (v4_is k.source a)
    (v4_is k.destination b)
    (untagged_is k.vlan g)
    (no_tunnel_is k.encapsulation c) in
    (ltb-true k.protocol 128 p, same)

-- ---- the bytes of a plain key, with what stands behind them

-- addresses, MACs, no tag, no tunnel
abbrev pub behind_ports : ℕ → ℕ → MacAddress → MacAddress → List ℕ → List ℕ
behind_ports a b m n rest = 4 ∷ ((raw 4).write a ++ (4 ∷ ((raw 4).write b ++ (mac.write m ++ (mac.write n ++ (0 ∷ 0 ∷ rest))))))

abbrev pub plain_bytes : ℕ → ℕ → ℕ → List ℕ → List ℕ
plain_bytes p f g rest = p ∷ 0 ∷ 1 ∷ (number_bytes f ++ (number_bytes g ++ rest))

module _ (p f g a b : ℕ) (m n : MacAddress) (h : p < 128) where
  pub plain_written : key.write (plain_key p f g a b m n) ≡ plain_bytes p f g (behind_ports a b m n [])
  plain_written =
      let none : number_bytes 0 ≡ 0 ∷ [] = bytes_small 0 (omega arith) in
      let order = append_assoc (number_bytes f) (number_bytes g) (behind_ports a b m n []) in
      key_writes (plain_key p f g a b m n)
      ∙ rw (bytes_small p h, none, ports_writes, v4_writes a, v4_writes b, untagged_writes, no_tunnel_writes, none, order)

  pub plain_writes : (rest : List ℕ) → key.write (plain_key p f g a b m n) ++ rest ≡ plain_bytes p f g (behind_ports a b m n rest)
  plain_writes rest =
      let e₄ : List ℕ = 0 ∷ 0 ∷ [] in
      let e₃ = mac.write n ++ e₄ in
      let e₂ = mac.write m ++ e₃ in
      let e₁ = (raw 4).write b ++ e₂ in
      rw plain_written
      (rw (
        append_assoc (number_bytes f) (number_bytes g ++ behind_ports a b m n []) rest,
        append_assoc (number_bytes g) (behind_ports a b m n []) rest,
        append_assoc ((raw 4).write a) (4 ∷ e₁) rest,
        append_assoc ((raw 4).write b) e₂ rest,
        append_assoc (mac.write m) e₃ rest,
        append_assoc (mac.write n) e₄ rest,
      ))

  pub plain_length : length (key.write (plain_key p f g a b m n)) ≡ 27 + length (number_bytes f) + length (number_bytes g)
  plain_length = rw plain_written (simp (length-append, mac_sized, raw_length) (omega arith))

-- ---- a plain key that was seen: its numbers, and what they say of the bytes

pub record Seen (s : List ℕ) (at : ℕ) (x : Plain) : Type 0 where
  pub protocol : ℕ
  pub first : ℕ
  pub second : ℕ
  pub source : ℕ
  pub destination : ℕ
  pub source_mac_lem : MacAddress
  pub destination_mac_lem : MacAddress
  pub small : protocol < 128
  pub first_fits : first ≤ 65535
  pub second_fits : second ≤ 65535
  pub reads : read_at key s at ≡ got (plain_key protocol first second source destination source_mac_lem destination_mac_lem) x.next
  pub is : x ≡ plain_of (plain_key protocol first second source destination source_mac_lem destination_mac_lem) x.next
  pub inside : x.next ≤ length s
  pub long : x.next ≡ at + 27 + length (number_bytes first) + length (number_bytes second)
  pub bytes : drop at s ≡ plain_bytes protocol first second (behind_ports source destination source_mac_lem destination_mac_lem (drop x.next s))

module _ (s : List ℕ) (at : ℕ) where
  seen_numbers : (p f g a b : ℕ) (m n : MacAddress) (next : ℕ) → p < 128 → read_at key s at ≡ got (plain_key p f g a b m n) next
      → Seen s at (plain_of (plain_key p f g a b m n) next)
  seen_numbers p f g a b m n next small e =
      let k = plain_key p f g a b m n in
      let (v, is, inside, bytes) = at_back key s at k next (key_inside s at k next e) e in
      let range = (key_in_range k v).endpoints in
      let size = plain_length p f g a b m n small in
      record {
        protocol = p;
        first = f;
        second = g;
        source = a;
        destination = b;
        source_mac_lem = m;
        destination_mac_lem = n;
        small = small;
        first_fits = omega (arith, range.0);
        second_fits = omega (arith, range.1);
        reads = e;
        is = refl;
        inside = inside;
        long = omega arith;
        bytes = bytes ∙ plain_writes p f g a b m n small (drop next s);
      }

  seen_key : (k : FlowKey) (next : ℕ) → is_plain k ≡ true → read_at key s at ≡ got k next → Seen s at (plain_of k next)
  seen_key k next t e =
      let (small, same) = by_numbers k t in
      let here : read_at key s at ≡ got (numbers_of k) next = e ∙ ap (λ (l : FlowKey). got l next) same in
      let whole : plain_of (numbers_of k) next ≡ plain_of k next = ap (λ (l : FlowKey). plain_of l next) (sym same) in
      rw whole at (seen_numbers _ _ _ _ _ _ _ next small here)

  -- what is told as a plain key was seen
  pub seen : (x : Plain) → plain_at s at ≡ Some x → Seen s at x
  seen x e = go (read_at key s at) refl e
    where
      by_test : (k : FlowKey) (next : ℕ) (t : Bool) → is_plain k ≡ t → read_at key s at ≡ got k next
          → cond t (Some (plain_of k next)) None ≡ Some x → Seen s at x
      by_test k next true t r h = let same : plain_of k next ≡ x = cc in rw same at (seen_key k next t r)
      by_test k next false t r h = let z : ◌≡◌ {A = ℕ} 0 1 = cc in absurd (omega arith)

      go : (r : Read FlowKey ℕ) → read_at key s at ≡ r → plain_in r ≡ Some x → Seen s at x
      go (got k next) r h = by_test k next (is_plain k) refl r h
      go (stop Stop.Short) r h = let z : ◌≡◌ {A = ℕ} 0 1 = cc in absurd (omega arith)
      go (stop Stop.Refused) r h = let z : ◌≡◌ {A = ℕ} 0 1 = cc in absurd (omega arith)

  -- where none can be seen stands something else
  pub none_seen : ((x : Plain) → Seen s at x → ⊥) → None ≡ plain_at s at
  none_seen never = go (plain_at s at) refl
    where
      go : (r : Option Plain) → plain_at s at ≡ r → None ≡ r
      go (Some x) e = absurd (never x (seen x e))
      go None e = refl

-- ---- where each part lies

module _ {s : List ℕ} {at : ℕ} {x : Plain} (h : Seen s at x) where
  pub at_second : x.second_port ≡ at + 3 + length (number_bytes h.first)
  at_second = ap (λ (y : Plain). y.second_port) h.is ∙ omega (arith, h.long)

  pub at_addresses : x.addresses ≡ at + 3 + length (number_bytes h.first) + length (number_bytes h.second)
  at_addresses = ap (λ (y : Plain). y.addresses) h.is ∙ omega (arith, h.long)

  pub at_next : x.next ≡ x.addresses + 24
  at_next = omega (arith, h.long, at_addresses)

  -- what stands behind a part
  abbrev pub after_macs : List ℕ
  after_macs = 0 ∷ 0 ∷ drop x.next s

  abbrev pub after_destination : List ℕ
  after_destination = mac.write h.source_mac_lem ++ (mac.write h.destination_mac_lem ++ after_macs)

  abbrev pub after_source : List ℕ
  after_source = (4 ∷ (raw 4).write h.destination) ++ after_destination

  abbrev pub after_second : List ℕ
  after_second = (4 ∷ (raw 4).write h.source) ++ after_source

  abbrev pub after_first : List ℕ
  after_first = number_bytes h.second ++ after_second

  pub none_here : drop (at + 1) s ≡ 0 ∷ 1 ∷ (number_bytes h.first ++ after_first)
  none_here = behind_part s at (h.protocol ∷ []) _ h.bytes (at + 1) refl

  pub ports_here : drop (at + 2) s ≡ 1 ∷ (number_bytes h.first ++ after_first)
  ports_here = behind_part s at (h.protocol ∷ 0 ∷ []) _ h.bytes (at + 2) refl

  pub first_here : drop (at + 3) s ≡ number_bytes h.first ++ after_first
  first_here = behind_part s at (h.protocol ∷ 0 ∷ 1 ∷ []) _ h.bytes (at + 3) refl

  pub second_here : drop x.second_port s ≡ number_bytes h.second ++ after_second
  second_here = behind_part s (at + 3) (number_bytes h.first) _ first_here x.second_port at_second

  pub source_here : drop x.addresses s ≡ (4 ∷ (raw 4).write h.source) ++ after_source
  source_here =
      let place : x.addresses ≡ x.second_port + length (number_bytes h.second) = omega (arith, at_second, at_addresses) in
      behind_part s x.second_port (number_bytes h.second) _ second_here x.addresses place

  pub destination_here : drop (x.addresses + 5) s ≡ (4 ∷ (raw 4).write h.destination) ++ after_destination
  destination_here =
      let size = raw_length 4 h.source in
      behind_part s x.addresses (4 ∷ (raw 4).write h.source) _ source_here (x.addresses + 5) (omega arith)

  pub source_mac_here : drop (x.addresses + 10) s ≡ mac.write h.source_mac_lem ++ (mac.write h.destination_mac_lem ++ after_macs)
  source_mac_here =
      let size = raw_length 4 h.destination in
      behind_part s (x.addresses + 5) (4 ∷ (raw 4).write h.destination) _ destination_here (x.addresses + 10) (omega arith)

  pub destination_mac_here : drop (x.addresses + 16) s ≡ mac.write h.destination_mac_lem ++ after_macs
  destination_mac_here =
      let size = mac_sized h.source_mac_lem in
      behind_part s (x.addresses + 10) (mac.write h.source_mac_lem) _ source_mac_here (x.addresses + 16) (omega arith)

  pub end_here : drop (x.addresses + 22) s ≡ 0 ∷ 0 ∷ drop x.next s
  end_here =
      let size = mac_sized h.destination_mac_lem in
      behind_part s (x.addresses + 16) (mac.write h.destination_mac_lem) _ destination_mac_here (x.addresses + 22) (omega arith)

  pub last_here : drop (x.addresses + 23) s ≡ 0 ∷ drop x.next s
  last_here = behind_part s (x.addresses + 22) (0 ∷ []) _ end_here (x.addresses + 23) (omega arith)
