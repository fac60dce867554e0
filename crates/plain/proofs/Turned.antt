-- The bytes of the reversed key: the parts of a plain key, copied in another order. Assumes nothing.
use Rattle.std.specs.Prelude.{Some}
use Prim.Native.Nat.{ℕ, ◌+◌, ◌-◌, ◌≤◌}
use mathlib.Core.Path.{◌≡◌, refl, sym, ap, ◌∙◌}
use mathlib.Core.List.{List, [], ◌∷◌, ◌++◌, append_assoc}
use native.Mathlib.Omega.{arith}
use native.Mathlib.Nat.{zero-add}
use lib.ListN.{length, take, drop, length-append}
use Rattle.forms.specs.Form.{raw, raw_length}
use Rattle.forms.specs.Number.{number_bytes}
use Rattle.forms.specs.Length.{number_at_most}
use Rattle.key.specs.Key.{reversed_key}
use Rattle.key.specs.KeyForm.{key, mac}
use Rattle.key.specs.KeyLength.{mac_sized}
use Rattle.memory.specs.Bytes.{patch}
use Rattle.memory.proofs.Laws.{patch_join}
use Rattle.plain.specs.Plain.{plain_at, key_read}
use Rattle.plain.specs.Laid.{plain_written, Seen, seen, part_is, at_second, at_addresses, at_next, first_here, second_here}
use Rattle.plain.specs.Laid.{source_here, destination_here, source_mac_here, destination_mac_here, end_here}
use Rattle.plain.specs.PlainLaws.{key_seen}
use Rattle.plain.specs.declared.Plain.{Plain}

-- ---- where the parts lie, as the code asks it

pub record Places (s : List ℕ) (at : ℕ) (x : Plain) : Type 0 where
  pub first : at + 3 ≤ x.second_port
  pub second : x.second_port ≤ x.addresses
  pub end : x.addresses + 24 ≤ length s
  pub short : x.addresses ≤ at + 9

pub places : (s : List ℕ) (at : ℕ) (x : Plain) → Some x ≡ plain_at s at → Places s at x
places s at x plain =
    let h = seen s at x (sym plain) in
    let few = number_at_most 2 h.first (omega (arith, h.first_fits)) in
    let more = number_at_most 2 h.second (omega (arith, h.second_fits)) in
    record {
      first = omega (arith, at_second h);
      second = omega (arith, at_second h, at_addresses h);
      end = omega (arith, at_next h, h.inside);
      short = omega (arith, at_addresses h);
    }

-- ---- one copy behind another

-- what `&s[i..e]` lends
abbrev between : ℕ → ℕ → List ℕ → List ℕ
between i e s = take (e - i) (drop i s)

-- the first k bytes of `out` have become `bytes`, which gives t
record Begun (out : List ℕ) (k : ℕ) (bytes t : List ℕ) : Type 0 where
  size : length bytes ≡ k
  is : t ≡ patch out 0 bytes

-- `more` is what stands from i to e, and goes behind those bytes
go_on : (s : List ℕ) (i e : ℕ) {out bytes t : List ℕ} {k : ℕ} (more rest t' : List ℕ) (j : ℕ) → Begun out k bytes t
    → drop i s ≡ more ++ rest → e ≡ i + length more → k + length more ≡ j → j ≤ length out
    → t' ≡ patch t k (between i e s) → Begun out j (bytes ++ more) t'
go_on s i e {out} {bytes} {t} {k} more rest t' j b here end size room copied =
    let part : between i e s ≡ more = part_is s i more rest here (e - i) (omega arith) in
    record {
      size = length-append bytes more ∙ omega (arith, b.size);
      is = copied ∙ rw (part, b.is, ← b.size, ← zero-add (length bytes)) (patch_join out 0 bytes more (omega (arith, b.size)));
    }

eight : (a b c d e f g h : List ℕ) → a ++ b ++ c ++ d ++ e ++ f ++ g ++ h ≡ a ++ (b ++ (c ++ (d ++ (e ++ (f ++ (g ++ h))))))
eight a b c d e f g h = simp append_assoc

-- ---- the eight copies of write_turned: with the last the reversed key stands there

module _ (s : List ℕ) (at : ℕ) (x : Plain) (plain : Some x ≡ plain_at s at) (out : List ℕ) (room : 33 ≤ length out) where
  h : Seen s at x
  h = seen s at x (sym plain)

  at_place : Places s at x
  at_place = places s at x plain

  abbrev port : ℕ
  port = x.second_port

  abbrev ends : ℕ
  ends = x.addresses

  -- the parts
  abbrev head : List ℕ
  head = h.protocol ∷ 0 ∷ 1 ∷ []

  abbrev first : List ℕ
  first = number_bytes h.first

  abbrev second : List ℕ
  second = number_bytes h.second

  abbrev source : List ℕ
  source = 4 ∷ (raw 4).write h.source

  abbrev destination : List ℕ
  destination = 4 ∷ (raw 4).write h.destination

  abbrev source_mac_lem : List ℕ
  source_mac_lem = mac.write h.source_mac_lem

  abbrev destination_mac_lem : List ℕ
  destination_mac_lem = mac.write h.destination_mac_lem

  abbrev end : List ℕ
  end = 0 ∷ 0 ∷ []

  -- and all of them, in their new order
  abbrev whole : List ℕ
  whole = head ++ second ++ first ++ destination ++ source ++ destination_mac_lem ++ source_mac_lem ++ end

  module _
      {t₁ t₂ t₃ t₄ t₅ t₆ t₇ t₈ : List ℕ}
      (e₁ : t₁ ≡ patch out 0 (between at (at + 3) s))
      (e₂ : t₂ ≡ patch t₁ 3 (between port ends s))
      (e₃ : t₃ ≡ patch t₂ (3 + (ends - port)) (between (at + 3) port s))
      (e₄ : t₄ ≡ patch t₃ (ends - at) (between (ends + 5) (ends + 10) s))
      (e₅ : t₅ ≡ patch t₄ (ends - at + 5) (between ends (ends + 5) s))
      (e₆ : t₆ ≡ patch t₅ (ends - at + 10) (between (ends + 16) (ends + 22) s))
      (e₇ : t₇ ≡ patch t₆ (ends - at + 16) (between (ends + 10) (ends + 16) s))
      (e₈ : t₈ ≡ patch t₇ (ends - at + 22) (between (ends + 22) (ends + 24) s))
    where
      begun₁ : Begun out 3 head t₁
      begun₁ =
          let part : between at (at + 3) s ≡ head = part_is s at head _ h.bytes (at + 3 - at) (omega arith) in
          record { size = refl; is = rw part at e₁ }

      begun₂ : Begun out (3 + (ends - port)) (head ++ second) t₂
      begun₂ =
          let p = at_place in
          let long₁ = at_second h in
          let long₂ = at_addresses h in
          go_on s port ends second _ t₂ (3 + (ends - port)) begun₁ (second_here h) (omega arith) (omega arith) (omega arith) e₂

      begun₃ : Begun out (ends - at) (head ++ second ++ first) t₃
      begun₃ =
          let p = at_place in
          let long₁ = at_second h in
          let long₂ = at_addresses h in
          go_on s (at + 3) port first _ t₃ (ends - at) begun₂ (first_here h) (omega arith) (omega arith) (omega arith) e₃

      begun₄ : Begun out (ends - at + 5) (head ++ second ++ first ++ destination) t₄
      begun₄ =
          let p = at_place in
          let size = raw_length 4 h.destination in
          go_on s (ends + 5) (ends + 10) destination _ t₄ (ends - at + 5) begun₃ (destination_here h)
          (omega arith) (omega arith) (omega arith) e₄

      begun₅ : Begun out (ends - at + 10) (head ++ second ++ first ++ destination ++ source) t₅
      begun₅ =
          let p = at_place in
          let size = raw_length 4 h.source in
          go_on s ends (ends + 5) source _ t₅ (ends - at + 10) begun₄ (source_here h) (omega arith) (omega arith) (omega arith) e₅

      begun₆ : Begun out (ends - at + 16) (head ++ second ++ first ++ destination ++ source ++ destination_mac_lem) t₆
      begun₆ =
          let p = at_place in
          let size = mac_sized h.destination_mac_lem in
          go_on s (ends + 16) (ends + 22) destination_mac_lem _ t₆ (ends - at + 16) begun₅ (destination_mac_here h)
          (omega arith) (omega arith) (omega arith) e₆

      begun₇ : Begun out (ends - at + 22) (head ++ second ++ first ++ destination ++ source ++ destination_mac_lem ++ source_mac_lem) t₇
      begun₇ =
          let p = at_place in
          let size = mac_sized h.source_mac_lem in
          go_on s (ends + 10) (ends + 16) source_mac_lem _ t₇ (ends - at + 22) begun₆ (source_mac_here h)
          (omega arith) (omega arith) (omega arith) e₇

      begun₈ : Begun out (ends - at + 24) whole t₈
      begun₈ =
          let p = at_place in
          go_on s (ends + 22) (ends + 24) end _ t₈ (ends - at + 24) begun₇ (end_here h)
          (omega arith) (omega arith) (omega arith) e₈

      pub turned : t₈ ≡ patch out 0 (key.write (reversed_key (key_read s at)))
      turned =
          let order = eight head second first destination source destination_mac_lem source_mac_lem end in
          let written = plain_written h.protocol h.second h.first h.destination h.source _ _ h.small in
          begun₈.is ∙ ap (patch out 0) (order ∙ sym written ∙ rw (key_seen h))
