-- What each `return` of plain_at and its helpers answers, from what the tests and calls give. Assumes nothing.
use Rattle.std.specs.Prelude.{None, Option, Some, Err, Ok, Result}
use Rattle.std.specs.Result.{result_ok}
use Prim.Native.Nat.{ℕ, ◌+◌, ◌-◌, ◌*◌, ◌≤◌, ◌<◌}
use mathlib.Core.Path.{◌≡◌, refl, sym, ap, ◌∙◌}
use mathlib.Core.List.{List}
use mathlib.Core.Bool.{Bool, true, false, ◌&&◌}
use native.Mathlib.Omega.{arith}
use lib.Dec.{ltb, leb, eqb}
use borrow.Author.Tests.{ltb-true, leb-true, eqb-true, lt-ltb, le-leb}
use lib.ListN.{length, take, drop, get_or}
use lib.Seq.{get_or-take, get_or-drop}
use Rattle.std.specs.Int.{w32, from_be_bytes}
use Rattle.forms.specs.Form.{got, byte}
use Rattle.forms.specs.At.{read_at, byte_at, one_byte, at_inside, at_valid}
use Rattle.forms.specs.Number.{number, number_bytes, number_writes, number_below, below_number}
use Rattle.forms.specs.Length.{number_at_least}
use Rattle.forms.specs.Field.{Taken, At}
use Rattle.forms.specs.Raw.{RawAt, raw_at_first, raw_at_more}
use Rattle.forms.specs.Optional.{optional16, optional16_taken}
use Rattle.key.specs.Shard.{shard_of, symmetric_hash, pair_hash}
use Rattle.key.specs.Endpoints.{port_pair}
use Rattle.key.specs.KeyForm.{key, mac}
use Rattle.key.specs.KeyRead.{ports_made, ports_taken, v4_made, v4_taken, mac_made, untagged_taken, no_tunnel_taken, key_made}
use Rattle.key.specs.declared.key.FlowKey.{FlowKey}
use Rattle.key.specs.declared.link.MacAddress.{MacAddress}
use Rattle.plain.specs.Plain.{is_plain, plain_in, plain_at}
use Rattle.key.specs.KeyOr.{no_mac}
use Rattle.plain.specs.Tests.{head_is_plain, tail_is_plain, plain_key, plain_hash}
use Rattle.plain.specs.Laid.{at_there, at_back, plain_is, both_true, Seen, none_seen, byte_is, after_first, after_second}
use Rattle.plain.specs.Laid.{at_second, at_addresses, at_next, none_here, ports_here, first_here, second_here}
use Rattle.plain.specs.Laid.{source_here, destination_here, end_here, last_here}
use Rattle.plain.specs.declared.Plain.{Plain}
use Rattle.forms.specs.Answers.{stands}
use Rattle.forms.specs.declared.stop.Stop.{Stop}

-- ---- the tests

module _ (s : List ℕ) (at : ℕ) where
  -- what a test that was passed says
  pub record Head : Type 0 where
    pub room : at + 29 ≤ length s
    pub small : get_or s at 0 < 128
    pub none : get_or s (at + 1) 0 ≡ 0
    pub ports : get_or s (at + 2) 0 ≡ 1

  pub head_says : {r : Bool} → r ≡ head_is_plain s at → r ≡ true → Head
  unfolding head_is_plain
  head_says {r} e n =
      let a = ltb (get_or s at 0) 128 in
      let b = eqb (get_or s (at + 1) 0) 0 in
      let c = eqb (get_or s (at + 2) 0) 1 in
      let (room, e₁) = both_true (leb (at + 29) (length s)) (a && b && c) (sym e ∙ n) in
      let (e₂, v) = both_true (a && b) c e₁ in
      let (t, u) = both_true a b e₂ in
      record { room = leb-true _ _ room; small = ltb-true _ _ t; none = eqb-true _ _ u; ports = eqb-true _ _ v }

  pub record Tail : Type 0 where
    pub room : at + 24 ≤ length s
    pub source : get_or s at 0 ≡ 4
    pub destination : get_or s (at + 5) 0 ≡ 4
    pub untagged : get_or s (at + 22) 0 ≡ 0
    pub no_tunnel : get_or s (at + 23) 0 ≡ 0

  pub tail_says : {r : Bool} → r ≡ tail_is_plain s at → r ≡ true → Tail
  unfolding tail_is_plain
  tail_says {r} e n =
      let a = eqb (get_or s at 0) 4 in
      let b = eqb (get_or s (at + 5) 0) 4 in
      let c = eqb (get_or s (at + 22) 0) 0 in
      let d = eqb (get_or s (at + 23) 0) 0 in
      let (room, e₁) = both_true (leb (at + 24) (length s)) (a && b && c && d) (sym e ∙ n) in
      let (e₂, w) = both_true (a && b && c) d e₁ in
      let (e₃, v) = both_true (a && b) c e₂ in
      let (t, u) = both_true a b e₃ in
      record {
        room = leb-true _ _ room;
        source = eqb-true _ _ t;
        destination = eqb-true _ _ u;
        untagged = eqb-true _ _ v;
        no_tunnel = eqb-true _ _ w;
      }

-- ---- a plain key that was seen passes every test

module _ {s : List ℕ} {at : ℕ} {x : Plain} (h : Seen s at x) where
  seen_head : head_is_plain s at ≡ true
  unfolding head_is_plain
  seen_head =
      let few = number_at_least h.first in
      let more = number_at_least h.second in
      let room : at + 29 ≤ length s = omega (arith, h.long, h.inside) in
      let p : get_or s at 0 ≡ h.protocol = byte_is s at _ _ h.bytes in
      let t : get_or s (at + 1) 0 ≡ 0 = byte_is s (at + 1) _ _ (none_here h) in
      let e : get_or s (at + 2) 0 ≡ 1 = byte_is s (at + 2) _ _ (ports_here h) in
      rw (le-leb (at + 29) (length s) room, p, t, e, lt-ltb h.protocol 128 h.small)

  seen_first : read_at (number 65535) s (at + 3) ≡ got h.first x.second_port
  seen_first =
      let fits = below_number 65535 h.first h.first_fits in
      let inside : at + 3 ≤ length s = omega (arith, h.long, h.inside) in
      at_there (number 65535) s (at + 3) h.first (after_first h) fits inside (rw number_writes (first_here h))
      ∙ rw (number_writes, at_second h)

  seen_second : read_at (number 65535) s x.second_port ≡ got h.second x.addresses
  seen_second =
      let fits = below_number 65535 h.second h.second_fits in
      let inside : x.second_port ≤ length s = omega (arith, h.long, h.inside, at_second h) in
      at_there (number 65535) s x.second_port h.second (after_second h) fits inside (rw number_writes (second_here h))
      ∙ rw (number_writes, at_second h, at_addresses h)

  seen_tail : tail_is_plain s x.addresses ≡ true
  unfolding tail_is_plain
  seen_tail =
      let i = x.addresses in
      let room : i + 24 ≤ length s = omega (arith, at_next h, h.inside) in
      let a : get_or s i 0 ≡ 4 = byte_is s i _ _ (source_here h) in
      let b : get_or s (i + 5) 0 ≡ 4 = byte_is s (i + 5) _ _ (destination_here h) in
      let c : get_or s (i + 22) 0 ≡ 0 = byte_is s (i + 22) _ _ (end_here h) in
      let d : get_or s (i + 23) 0 ≡ 0 = byte_is s (i + 23) _ _ (last_here h) in
      rw (le-leb (i + 24) (length s) room, a, b, c, d)

-- ---- what read_number tells of a port

ok_was : (r : Result (ℕ × ℕ) Stop) {o : Option (ℕ × ℕ)} {p : ℕ × ℕ} → o ≡ result_ok r → o ≡ Some p → r ≡ Ok p
ok_was (Ok q) e is = cc
ok_was (Err why) e is = cc

module _
    (s : List ℕ) (i : ℕ) (r : Result (ℕ × ℕ) Stop) {o : Option (ℕ × ℕ)} {v n : ℕ}
    (says : stands r ≡ read_at (number 65535) s i) (told : o ≡ result_ok r) (is : o ≡ Some (v, n))
  where
    pub value_read : got v n ≡ read_at (number 65535) s i
    value_read = rw (ok_was r told is) at says

    pub value_fits : v ≤ 65535
    value_fits = number_below 65535 v (at_valid (number 65535) s i v n (sym value_read))

    pub value_inside : n ≤ length s
    value_inside = at_inside (number 65535) s i v n (sym value_read)

no_value : (r : Result (ℕ × ℕ) Stop) {o : Option (ℕ × ℕ)} (v n : ℕ) → o ≡ result_ok r → o ≡ None → stands r ≡ got v n → ⊥
no_value (Ok (w, i)) v n told none e = cc
no_value (Err why) v n told none e = cc

-- ---- the ways out of plain_at: something else

module _ (s : List ℕ) (at : ℕ) where
  pub other_head : {r : Bool} → r ≡ head_is_plain s at → r ≡ false → None ≡ plain_at s at
  other_head {r} e n =
      let fails = n in
      none_seen s at (λ x h. let z : ◌≡◌ {A = ℕ} 0 1 = cc (seen_head h) in omega arith)

  pub other_first : (r : Result (ℕ × ℕ) Stop) {o : Option (ℕ × ℕ)} → stands r ≡ read_at (number 65535) s (at + 3) → o ≡ result_ok r → o ≡ None
      → None ≡ plain_at s at
  other_first r says told none = none_seen s at (λ x h. no_value r h.first x.second_port told none (says ∙ seen_first h))

  module _ (first middle : ℕ) (read₁ : got first middle ≡ read_at (number 65535) s (at + 3)) where
    -- the second port is read where it stands
    second_read : {x : Plain} (h : Seen s at x) → read_at (number 65535) s middle ≡ got h.second x.addresses
    second_read {x} h =
        let e = seen_first h in
        let same : x.second_port ≡ middle = cc in
        rw same at (seen_second h)

    pub other_second : (r : Result (ℕ × ℕ) Stop) {o : Option (ℕ × ℕ)} → stands r ≡ read_at (number 65535) s middle → o ≡ result_ok r → o ≡ None
        → None ≡ plain_at s at
    other_second r says told none = none_seen s at (λ x h. no_value r h.second x.addresses told none (says ∙ second_read h))

    pub other_tail : (second behind : ℕ) {r : Bool} → got second behind ≡ read_at (number 65535) s middle → r ≡ tail_is_plain s behind
        → r ≡ false → None ≡ plain_at s at
    other_tail second behind {r} read₂ e n =
        let fails = n in
        none_seen s at λ x h.
        let e₂ = second_read h in
        let same : x.addresses ≡ behind = cc in
        let t : tail_is_plain s behind ≡ true = rw same at (seen_tail h) in
        let z : ◌≡◌ {A = ℕ} 0 1 = cc in
        omega arith

-- ---- and a plain key

no_macs : (p f g a b : ℕ) (m n m' n' : MacAddress) → shard_of (plain_key p f g a b m n) 524288 ≡ shard_of (plain_key p f g a b m' n') 524288
unfolding shard_of symmetric_hash pair_hash
no_macs p f g a b m n m' n' = refl

plain_told : (k : FlowKey) {next hash middle behind : ℕ} → is_plain k ≡ true → hash ≡ shard_of k 524288
    → middle ≡ next - 24 - length (number_bytes (port_pair k.endpoints).destination) → behind ≡ next - 24
    → Some (record { hash = hash; second_port = middle; addresses = behind; next = next }) ≡ plain_in (got k next)
plain_told k t h m b = rw (t, h, m, b)

-- fields of one byte
module _ {s : List ℕ} {i j b : ℕ} (inside : i < length s) (is : get_or s i 0 ≡ b) (next : j ≡ i + 1) where
  byte_here : b < 256 → Taken byte s (At i) b (At j)
  byte_here h = record { reads = rw next (byte_at s i b inside (sym is) h) }

  number_here : (most : ℕ) → b ≤ most → b < 128 → Taken (number most) s (At i) b (At j)
  number_here most h small = record { reads = rw next (one_byte s i b most inside (sym is) h small) }

absent_here : {s : List ℕ} {i j : ℕ} → i < length s → get_or s i 0 ≡ 0 → j ≡ i + 1 → Taken (optional16 65535) s (At i) None (At j)
absent_here {s} {i} {j} inside is next = optional16_taken 65535 (number_here inside is next 65536 (omega arith) (omega arith))

module _ (s : List ℕ) (bytes : (k : ℕ) → k < length s → get_or s k 0 < 256) where
  two_made : (i : ℕ) → i + 2 ≤ length s → RawAt s i 2 (get_or s i 0 * 256 + get_or s (i + 1) 0)
  two_made i h =
      let one = raw_at_first {s = s} {at = i} (omega arith) refl (bytes i (omega arith)) in
      raw_at_more one (omega arith) (omega arith) refl (bytes (i + 1) (omega arith))

  four_made : (i : ℕ) → i + 4 ≤ length s
      → RawAt s i 4 (((get_or s i 0 * 256 + get_or s (i + 1) 0) * 256 + get_or s (i + 2) 0) * 256 + get_or s (i + 3) 0)
  four_made i h =
      let two = two_made i (omega arith) in
      let three = raw_at_more two (omega arith) (omega arith) refl (bytes (i + 2) (omega arith)) in
      raw_at_more three (omega arith) (omega arith) refl (bytes (i + 3) (omega arith))

  mac_here : (i j : ℕ) → i + 6 ≤ length s → j ≡ i + 6 → (m : MacAddress) × Taken mac s (At i) m (At j)
  mac_here i j h e =
      let two = two_made i (omega arith) in
      let four = four_made (i + 2) (omega arith) in
      let place : i + 2 + 4 ≡ j = omega arith in
      (_, rw (ap At place) at (mac_made two.takes four.takes))

  -- an address's number, as std reads it
  pub address_here : (i n : ℕ) → i + 4 ≤ length s → n ≡ from_be_bytes w32 (take 4 (drop i s)) → RawAt s i 4 n
  address_here i n h e =
      let byte : (k : ℕ) → k < 4 → get_or (take 4 (drop i s)) k 0 ≡ get_or s (i + k) 0 =
      λ k low. get_or-take 4 (drop i s) k 0 low ∙ get_or-drop i s k 0 in
      let first : get_or (take 4 (drop i s)) 0 0 ≡ get_or s i 0 = byte 0 (omega arith) ∙ ap (λ (k : ℕ). get_or s k 0) (omega arith) in
      let is : n ≡ ((get_or s i 0 * 256 + get_or s (i + 1) 0) * 256 + get_or s (i + 2) 0) * 256 + get_or s (i + 3) 0 =
      omega (arith, e, first, byte 1 (omega arith), byte 2 (omega arith), byte 3 (omega arith)) in
      rw is (four_made i h)

  module _
      (at first middle second behind source destination : ℕ)
      (head : Head s at)
      (read₁ : got first middle ≡ read_at (number 65535) s (at + 3))
      (read₂ : got second behind ≡ read_at (number 65535) s middle)
      (tail : Tail s behind)
      (address₁ : RawAt s (behind + 1) 4 source)
      (address₂ : RawAt s (behind + 6) 4 destination)
    where
      whole : MacAddress → MacAddress → FlowKey
      whole m n = plain_key (get_or s at 0) first second source destination m n

      -- every field of the key stands there; the MACs are whatever their bytes are
      plain_taken : (m n : MacAddress) → Taken mac s (At (behind + 10)) m (At (behind + 16))
          → Taken mac s (At (behind + 16)) n (At (behind + 22)) → Taken key s (At at) (whole m n) (At (behind + 24))
      unfolding whole
      plain_taken m n t₆ t₇ =
          let room₁ = head.room in
          let room₂ = tail.room in
          let small = head.small in
          let place₁ : behind + 1 + 4 ≡ behind + 5 = omega arith in
          let place₂ : behind + 6 + 4 ≡ behind + 10 = omega arith in
          let t₁ : Taken (number 255) s (At at) (get_or s at 0) (At (at + 1)) = number_here (omega arith) refl refl 255 (omega arith) small in
          let t₂ : Taken (optional16 65535) s (At (at + 1)) None (At (at + 2)) =
          absent_here (omega arith) head.none (omega arith) in
          let tag : Taken byte s (At (at + 2)) 1 (At (at + 3)) = byte_here (omega arith) head.ports (omega arith) (omega arith) in
          let port₁ : Taken (number 65535) s (At (at + 3)) first (At middle) = record { reads = read₁ } in
          let port₂ : Taken (number 65535) s (At middle) second (At behind) = record { reads = read₂ } in
          let t₃ = ports_taken tag refl (ports_made port₁ port₂) in
          let tag₁ : Taken byte s (At behind) 4 (At (behind + 1)) = byte_here (omega arith) tail.source refl (omega arith) in
          let t₄ = v4_taken tag₁ refl (v4_made (rw (ap At place₁) at address₁.takes)) in
          let tag₂ : Taken byte s (At (behind + 5)) 4 (At (behind + 6)) =
          byte_here (omega arith) tail.destination (omega arith) (omega arith) in
          let t₅ = v4_taken tag₂ refl (v4_made (rw (ap At place₂) at address₂.takes)) in
          let count : Taken byte s (At (behind + 22)) 0 (At (behind + 23)) =
          byte_here (omega arith) tail.untagged (omega arith) (omega arith) in
          let t₈ = untagged_taken count refl in
          let kind : Taken (number 256) s (At (behind + 23)) 0 (At (behind + 24)) =
          number_here (omega arith) tail.no_tunnel (omega arith) 256 (omega arith) (omega arith) in
          let t₉ = no_tunnel_taken kind refl in
          key_made t₁ t₂ t₃ t₄ t₅ t₆ t₇ t₈ t₉

      pub plain_made : {hash : ℕ} → hash ≡ plain_hash (get_or s at 0) source first destination second
          → Some (record { hash = hash; second_port = middle; addresses = behind; next = behind + 24 }) ≡ plain_at s at
      unfolding plain_hash whole
      plain_made {hash} e =
          let room = tail.room in
          let (m, t₆) = mac_here (behind + 10) (behind + 16) (omega arith) (omega arith) in
          let (n, t₇) = mac_here (behind + 16) (behind + 22) (omega arith) (omega arith) in
          let inside = at_inside (number 65535) s (at + 3) first middle (sym read₁) in
          let (v, long, within, rest) = at_back (number 65535) s middle second behind inside (sym read₂) in
          let size : behind ≡ middle + length (number_bytes second) = rw number_writes at long in
          let e₁ : middle ≡ behind + 24 - 24 - length (number_bytes second) = omega arith in
          let e₂ : behind ≡ behind + 24 - 24 = omega arith in
          let is = plain_is (get_or s at 0) first second source destination m n head.small in
          let same : hash ≡ shard_of (whole m n) 524288 = e ∙ no_macs (get_or s at 0) first second source destination no_mac no_mac m n in
          plain_told (whole m n) is same e₁ e₂ ∙ ap plain_in (plain_taken m n t₆ t₇).reads
