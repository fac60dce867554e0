-- A batch: the packets that its bytes begin with, and what stands behind them. Assumes nothing.
use Rattle.std.specs.Prelude.{ℕ, zero, suc, ◌+◌, ◌-◌, ◌≤◌, ◌<◌, ◌≡◌, refl, List, [], ◌∷◌, ◌++◌, length, drop, get_or}
use Rattle.std.proofs.Common.{sym, ap, ◌∙◌, arith, add-one, length-append, length-drop, drop-cons}
use Rattle.forms.specs.Form.{Form, Read, got, and_then}
use Rattle.forms.specs.At.{read_at, placed_byte, next_place}
use Rattle.wire.specs.PacketForm.{packet}
use Rattle.wire.specs.PacketTheorems.{PacketInRange, packet_in_range_lem, packet_at_least}
use Rattle.wire.specs.declared.packet.Packet.{Packet}
use Rattle.rules.specs.Rules.{Refusal, Accepted, BadPacket, Short, Settings, Engine, Told, feed_all}
use Rattle.rules.specs.Engine.{engine}
use Rattle.rules.specs.Totals.{total}
use Rattle.forms.specs.Form.{stop}
use Rattle.forms.specs.declared.stop.Stop.{Stop}

-- the packets, and the refusal of what stands behind them: none at the batch's empty end, else 4 or 9
pub record Parsed : Type 0 where
  pub packets : List Packet
  pub ends : Refusal

-- by what reading one packet finds; `more` is what is made of the rest
abbrev pub parsed_by : Read Packet (List ℕ) → (List ℕ → Parsed) → Parsed
parsed_by (got p rest) more = record { packets = p ∷ (more rest).packets; ends = (more rest).ends }
parsed_by (stop Stop.Short) more = record { packets = []; ends = Short }
parsed_by (stop Stop.Refused) more = record { packets = []; ends = BadPacket }

abbrev pub parsed_from : List ℕ → (List ℕ → Parsed) → Parsed
parsed_from [] more = record { packets = []; ends = Accepted }
parsed_from (b ∷ bs) more = parsed_by (packet.read (b ∷ bs)) more

-- at most n packets
unfoldable pub parsed_in : ℕ → List ℕ → Parsed
parsed_in zero bs = record { packets = []; ends = Accepted }
parsed_in (suc n) bs = parsed_from bs (parsed_in n)

-- "Feeding takes every packet of the batch in order, to its empty end": a batch has no more packets than bytes
unfoldable pub parsed : List ℕ → Parsed
parsed batch = parsed_in (length batch) batch

-- the bytes of packets' forms, one behind another
abbrev pub form_bytes : List Packet → ℕ
form_bytes ps = total (λ p. length (packet.write p)) ps

-- what the plain rules tell of a batch
unfoldable pub feed_bytes : Settings → ℕ → List ℕ → Engine engine → Told engine
feed_bytes s room batch e = feed_all engine s room (parsed batch).packets (parsed batch).ends e

-- ## Laws

-- a packet's form takes some bytes, so that less is left
pub shorter : (bs : List ℕ) (p : Packet) (rest : List ℕ) → packet.read bs ≡ got p rest → length bs ≡ length (packet.write p) + length rest
shorter bs p rest e = ap length (packet.back bs p rest e).1 ∙ length-append (packet.write p) rest

-- how many are allowed does not matter once it is as many as bytes
pub enough : (n m : ℕ) (bs : List ℕ) → length bs ≤ n → length bs ≤ m → parsed_in n bs ≡ parsed_in m bs
unfolding parsed_in
enough zero zero bs h g = refl
enough zero (suc m) [] h g = refl
enough zero (suc m) (b ∷ bs) h g = absurd (omega arith)
enough (suc n) zero [] h g = refl
enough (suc n) zero (b ∷ bs) h g = absurd (omega arith)
enough (suc n) (suc m) [] h g = refl
enough (suc n) (suc m) (b ∷ bs) h g = go (λ l p q. enough n m l p q) (packet.read (b ∷ bs)) refl
  where
    go : ((l : List ℕ) → length l ≤ n → length l ≤ m → parsed_in n l ≡ parsed_in m l)
        → (r : Read Packet (List ℕ)) → packet.read (b ∷ bs) ≡ r → parsed_by r (parsed_in n) ≡ parsed_by r (parsed_in m)
    go more (got p rest) e =
        let less = shorter (b ∷ bs) p rest e in
        ap (λ (x : Parsed). record { packets = p ∷ x.packets; ends = x.ends }) (more rest (omega (arith, packet_at_least p)) (omega (arith, packet_at_least p)))
    go more (stop Stop.Short) e = refl
    go more (stop Stop.Refused) e = refl

-- the batch's end
pub parsed_end : (batch : List ℕ) → length batch ≡ 0 → parsed batch ≡ record { packets = []; ends = Accepted }
unfolding parsed parsed_in
parsed_end [] e = refl
parsed_end (b ∷ bs) e = absurd (omega arith)

-- what a batch begins with
pub begins : (l : List ℕ) → 0 < length l → parsed l ≡ parsed_by (packet.read l) parsed
unfolding parsed parsed_in
begins [] h = absurd (omega arith)
begins (b ∷ bs) h = go (packet.read (b ∷ bs)) refl
  where
    go : (r : Read Packet (List ℕ)) → packet.read (b ∷ bs) ≡ r → parsed_by r (parsed_in (length bs)) ≡ parsed_by r parsed
    go (got p rest) e =
        let less = shorter (b ∷ bs) p rest e in
        ap (λ (x : Parsed). record { packets = p ∷ x.packets; ends = x.ends }) (enough (length bs) (length rest) rest (omega (arith, packet_at_least p)) (omega arith))
    go (stop Stop.Short) e = refl
    go (stop Stop.Refused) e = refl

-- what reading at a place finds of the batch from there on
module _ {A : Type 0} (form : Form A) (batch : List ℕ) (at : ℕ) (some : at < length batch) where
  read_from_lem : read_at form batch at ≡ and_then (form.read (drop at batch)) (λ a rest. got a (length batch - length rest))
  read_from_lem =
      placed_byte form.read batch at some
      ∙ ap (λ (l : List ℕ). and_then (form.read l) (λ a rest. got a (length batch - length rest)))
      (ap (λ (n : ℕ). get_or batch at 0 ∷ drop n batch) (add-one at) ∙ sym (drop-cons batch at 0 some))

  -- it ends behind the bytes of its form
  pub ends_behind : (a : A) (n : ℕ) → read_at form batch at ≡ got a n → n ≡ at + length (form.write a)
  ends_behind a n e = go (form.read (drop at batch)) refl (sym read_from_lem ∙ e)
    where
      go : (r : Read A (List ℕ)) → form.read (drop at batch) ≡ r → and_then r (λ a rest. got a (length batch - length rest)) ≡ got a n → n ≡ at + length (form.write a)
      go (got b rest) is w =
          let same : b ≡ a = cc in
          let place : length batch - length rest ≡ n = cc in
          let size = ap length (form.back (drop at batch) b rest is).1 ∙ length-append (form.write b) rest in
          let many = length-drop at batch in
          let end : n ≡ at + length (form.write b) = omega arith in
          end ∙ ap (λ (x : A). at + length (form.write x)) same
      go (stop Stop.Short) is w = absurd (let z : ◌≡◌ {A = ℕ} 0 1 = cc in omega arith)
      go (stop Stop.Refused) is w = absurd (let z : ◌≡◌ {A = ℕ} 0 1 = cc in omega arith)

module _ (batch : List ℕ) (at : ℕ) (some : at < length batch) where
  left : 0 < length (drop at batch)
  left = omega (arith, length-drop at batch)

  read_here : read_at packet batch at ≡ and_then (packet.read (drop at batch)) (λ a rest. got a (length batch - length rest))
  read_here = read_from_lem packet batch at some

  pub short_here : read_at packet batch at ≡ stop Stop.Short → parsed (drop at batch) ≡ record { packets = []; ends = Short }
  short_here e = begins (drop at batch) left ∙ go (packet.read (drop at batch)) (sym read_here ∙ e)
    where
      go : (r : Read Packet (List ℕ)) → and_then r (λ a rest. got a (length batch - length rest)) ≡ stop Stop.Short → parsed_by r parsed ≡ record { packets = []; ends = Short }
      go (got p rest) q = absurd (let z : ◌≡◌ {A = ℕ} 0 1 = cc in omega arith)
      go (stop Stop.Short) q = refl
      go (stop Stop.Refused) q = absurd (let z : ◌≡◌ {A = ℕ} 0 1 = cc in omega arith)

  pub refused_here : read_at packet batch at ≡ stop Stop.Refused → parsed (drop at batch) ≡ record { packets = []; ends = BadPacket }
  refused_here e = begins (drop at batch) left ∙ go (packet.read (drop at batch)) (sym read_here ∙ e)
    where
      go : (r : Read Packet (List ℕ)) → and_then r (λ a rest. got a (length batch - length rest)) ≡ stop Stop.Refused → parsed_by r parsed ≡ record { packets = []; ends = BadPacket }
      go (got p rest) q = absurd (let z : ◌≡◌ {A = ℕ} 0 1 = cc in omega arith)
      go (stop Stop.Short) q = absurd (let z : ◌≡◌ {A = ℕ} 0 1 = cc in omega arith)
      go (stop Stop.Refused) q = refl

  -- a packet that ends at `next`
  pub record Here (p : Packet) (next : ℕ) : Type 0 where
    pub in_range : PacketInRange p
    pub behind : next ≡ at + length (packet.write p)
    pub within : next ≤ length batch
    pub bytes : drop at batch ≡ packet.write p ++ drop next batch
    pub parse : parsed (drop at batch) ≡ record { packets = p ∷ (parsed (drop next batch)).packets; ends = (parsed (drop next batch)).ends }

  pub packet_here : (p : Packet) (next : ℕ) → read_at packet batch at ≡ got p next → Here p next
  packet_here p next e = go (packet.read (drop at batch)) refl (sym read_here ∙ e)
    where
      go : (r : Read Packet (List ℕ)) → packet.read (drop at batch) ≡ r → and_then r (λ a rest. got a (length batch - length rest)) ≡ got p next → Here p next
      go (got q rest) is w =
          let same : q ≡ p = cc in
          let place : length batch - length rest ≡ next = cc in
          let here : packet.read (drop at batch) ≡ got p rest = is ∙ ap (λ (x : Packet). got x rest) same in
          let tail : drop next batch ≡ rest = ap (λ (n : ℕ). drop n batch) (sym place) ∙ next_place packet batch at p rest here in
          let less = shorter (drop at batch) p rest here in
          let many = length-drop at batch in
          record {
            in_range = packet_in_range_lem p (packet.back (drop at batch) p rest here).0;
            behind = omega arith;
            within = omega arith;
            bytes = (packet.back (drop at batch) p rest here).1 ∙ ap (λ (l : List ℕ). packet.write p ++ l) (sym tail);
            parse =
                begins (drop at batch) left ∙ ap (λ (x : Read Packet (List ℕ)). parsed_by x parsed) here
                ∙ ap (λ (l : List ℕ). record { packets = p ∷ (parsed l).packets; ends = (parsed l).ends }) (sym tail);
          }
      go (stop Stop.Short) is w = absurd (let z : ◌≡◌ {A = ℕ} 0 1 = cc in omega arith)
      go (stop Stop.Refused) is w = absurd (let z : ◌≡◌ {A = ℕ} 0 1 = cc in omega arith)
