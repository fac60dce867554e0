-- A batch fed in two pieces is the batch fed in one: a caller who reads a stream feeds what the first call left, with more behind it, into the
-- rest of the output. Of the promises, whatever the first call answered. Assumes nothing.
use Rattle.forms.specs.Refusals.{stop_number}
use Rattle.std.specs.Prelude.{ℕ, zero, suc, ◌+◌, ◌-◌, ◌≤◌, ◌≡◌, refl, List, [], ◌∷◌, ◌++◌, length, take, drop}
use Rattle.std.proofs.Common.{sym, ap, ◌∙◌, subst, append_assoc, arith, length-append, length-drop, drop_of_length-le, drop-drop, drop_at, take_at, take_all}
use Rattle.std.proofs.Math.Path.{subst⁻¹}
use Rattle.std.proofs.Math.Seq.{take-append-add, drop-append-add}
use Rattle.forms.specs.Form.{Read, got}
use Rattle.wire.specs.PacketForm.{packet}
use Rattle.wire.specs.PacketTheorems.{packet_at_least}
use Rattle.wire.specs.declared.packet.Packet.{Packet}
use Rattle.rules.specs.Rules.{Settings, Refusal, Engine, Told, number_of, sizes, feed_all}
use Rattle.rules.specs.Engine.{engine, written}
use Rattle.rules.proofs.EngineTermsLaws.{written_both}
use Rattle.rules.specs.Batch.{together, GoesOn}
use Rattle.rules.proofs.BatchLaws.{goes_on, taken_most, taken_whole}
use Rattle.rules.specs.Totals.{total_append}
use Rattle.state.specs.State.{Sound, settings_in, meaning}
use Rattle.hand.specs.Freed.{sizes_written}
use Rattle.sweeps.specs.Promise.{NothingDone}
use Rattle.engine.specs.declared.FeedAnswer.{FeedAnswer}
use Rattle.engine.specs.Batch.{Parsed, parsed, parsed_by, form_bytes, feed_bytes, begins, shorter, parsed_end}
use Rattle.engine.specs.Feed.{FedAs, Fed}
use Rattle.forms.specs.Form.{stop}
use Rattle.forms.specs.declared.stop.Stop.{Stop}

-- ## The bytes

-- a packet stays read, whatever stands behind it
read_more : (bs more : List ℕ) (p : Packet) (rest : List ℕ) → packet.read bs ≡ got p rest → packet.read (bs ++ more) ≡ got p (rest ++ more)
read_more bs more p rest e =
    let (valid, is) = packet.back bs p rest e in
    ap (λ (l : List ℕ). packet.read (l ++ more)) is
    ∙ ap packet.read (append_assoc (packet.write p) rest more) ∙ packet.there p (rest ++ more) valid

abbrev one_plus : Packet → Parsed → Parsed
one_plus p x = record { packets = p ∷ x.packets; ends = x.ends }

parsed_got : (bs : List ℕ) (p : Packet) (rest : List ℕ) → packet.read bs ≡ got p rest → parsed bs ≡ one_plus p (parsed rest)
parsed_got bs p rest e =
    begins bs (omega (arith, shorter bs p rest e, packet_at_least p)) ∙ ap (λ (x : Read Packet (List ℕ)). parsed_by x parsed) e

-- the packets `ps` are read first, and then what stands behind them
abbrev pub ReadOn : List ℕ → List ℕ → List Packet → Type 0
ReadOn bs more ps =
    parsed (bs ++ more)
    ≡ record { packets = ps ++ (parsed (drop (form_bytes ps) bs ++ more)).packets; ends = (parsed (drop (form_bytes ps) bs ++ more)).ends }

pub read_on : (k : ℕ) (bs more : List ℕ) → ReadOn bs more (take k (parsed bs).packets)
read_on zero bs more = refl
read_on (suc k) [] more = subst⁻¹ (λ (x : Parsed). ReadOn [] more (take (suc k) x.packets)) (parsed_end [] refl) refl
read_on (suc k) (b ∷ bs) more = go (packet.read (b ∷ bs)) refl (λ l. read_on k l more)
  where
    is : parsed (b ∷ bs) ≡ parsed_by (packet.read (b ∷ bs)) parsed
    is = begins (b ∷ bs) (omega arith)

    unread : {why : Refusal} → parsed (b ∷ bs) ≡ record { packets = []; ends = why } → ReadOn (b ∷ bs) more (take (suc k) (parsed (b ∷ bs)).packets)
    unread q = subst⁻¹ (λ (x : Parsed). ReadOn (b ∷ bs) more (take (suc k) x.packets)) q refl

    go : (r : Read Packet (List ℕ)) → packet.read (b ∷ bs) ≡ r → ((l : List ℕ) → ReadOn l more (take k (parsed l).packets))
        → ReadOn (b ∷ bs) more (take (suc k) (parsed (b ∷ bs)).packets)
    go (got p rest) e on =
        let ps : List Packet = take k (parsed rest).packets in
        let behind : drop (form_bytes (p ∷ ps)) (b ∷ bs) ≡ drop (form_bytes ps) rest =
        ap (drop (form_bytes (p ∷ ps))) (packet.back (b ∷ bs) p rest e).1 ∙ drop-append-add (packet.write p) rest (form_bytes ps) in
        subst⁻¹ (λ (x : Parsed). ReadOn (b ∷ bs) more (take (suc k) x.packets)) (parsed_got (b ∷ bs) p rest e)
        (parsed_got (b ∷ bs ++ more) p (rest ++ more) (read_more (b ∷ bs) more p rest e) ∙ ap (one_plus p) (on rest)
        ∙ ap (λ (l : List ℕ). record { packets = p ∷ ps ++ (parsed (l ++ more)).packets; ends = (parsed (l ++ more)).ends }) (sym behind))
    go (stop Stop.Short) e on = unread (is ∙ ap (λ (x : Read Packet (List ℕ)). parsed_by x parsed) e)
    go (stop Stop.Refused) e on = unread (is ∙ ap (λ (x : Read Packet (List ℕ)). parsed_by x parsed) e)

-- a batch that is packets to its empty end is their forms
pub read_whole : (n : ℕ) (bs : List ℕ) → length bs ≤ n → number_of (parsed bs).ends ≡ 0 → form_bytes (parsed bs).packets ≡ length bs
read_whole zero [] h z = ap (λ (x : Parsed). form_bytes x.packets) (parsed_end [] refl)
read_whole zero (b ∷ bs) h z = absurd (omega arith)
read_whole (suc n) [] h z = ap (λ (x : Parsed). form_bytes x.packets) (parsed_end [] refl)
read_whole (suc n) (b ∷ bs) h z = go (packet.read (b ∷ bs)) refl (λ l. read_whole n l)
  where
    is : parsed (b ∷ bs) ≡ parsed_by (packet.read (b ∷ bs)) parsed
    is = begins (b ∷ bs) (omega arith)

    go : (r : Read Packet (List ℕ)) → packet.read (b ∷ bs) ≡ r
        → ((l : List ℕ) → length l ≤ n → number_of (parsed l).ends ≡ 0 → form_bytes (parsed l).packets ≡ length l)
        → form_bytes (parsed (b ∷ bs)).packets ≡ length (b ∷ bs)
    go (got p rest) e whole =
        let here = parsed_got (b ∷ bs) p rest e in
        let less = shorter (b ∷ bs) p rest e in
        let none : number_of (parsed rest).ends ≡ 0 = subst (λ (x : Parsed). number_of x.ends ≡ 0) here z in
        ap (λ (x : Parsed). form_bytes x.packets) here ∙ omega (arith, less, whole rest (omega (arith, less, packet_at_least p)) none)
    go (stop Stop.Short) e whole =
        absurd (omega (arith, subst (λ (x : Parsed). number_of x.ends ≡ 0) (is ∙ ap (λ (x : Read Packet (List ℕ)). parsed_by x parsed) e) z))
    go (stop Stop.Refused) e whole =
        absurd (omega (arith, subst (λ (x : Parsed). number_of x.ends ≡ 0) (is ∙ ap (λ (x : Read Packet (List ℕ)). parsed_by x parsed) e) z))

-- what feeding both at once tells is what the two tell together
pub feed_goes_on : (s : Settings) (room : ℕ) (first more : List ℕ) (e : Engine engine) (t : Told engine) → t ≡ feed_bytes s room first e
    → (used : ℕ) → used ≡ form_bytes (take t.taken (parsed first).packets)
    → feed_bytes s room (first ++ more) e ≡ together engine t (feed_bytes s (room - sizes engine t.finished) (drop used first ++ more) t.engine)
unfolding feed_bytes
feed_goes_on s room first more e t t-is used used-is =
    let ps = (parsed first).packets in
    let rest : Parsed = parsed (drop used first ++ more) in
    let behind : Parsed → Parsed = λ x. record { packets = take t.taken ps ++ x.packets; ends = x.ends } in
    let on : parsed (first ++ more) ≡ behind rest =
    read_on t.taken first more ∙ ap (λ (n : ℕ). behind (parsed (drop n first ++ more))) (sym used-is) in
    ap (λ (x : Parsed). feed_all engine s room x.packets x.ends e) on
    ∙ subst⁻¹ (GoesOn engine s room ps rest.packets rest.ends e) t-is
    (goes_on engine s room ps rest.packets (parsed first).ends rest.ends e)

-- ## The promises

-- what two calls did together is what one did
pub record AsOne (r₁ r₂ r : FeedAnswer) (s₂ s o₁ o₂ o : List ℕ) : Type 0 where
  pub refusal : stop_number r.refusal ≡ stop_number r₂.refusal
  pub packets : r.packets ≡ r₁.packets + r₂.packets
  pub used : r.used ≡ r₁.used + r₂.used
  pub opened : r.opened ≡ r₁.opened + r₂.opened
  pub records : r.records ≡ r₁.records + r₂.records
  pub bytes : r.bytes ≡ r₁.bytes + r₂.bytes
  pub means : meaning s ≡ meaning s₂
  pub settings : settings_in s ≡ settings_in s₂
  pub output : o ≡ take r₁.bytes o₁ ++ o₂

module _ (t₁ : Told engine) (ps₁ : List Packet) (before room : List ℕ) (r₁ : FeedAnswer) (s₁ o₁ : List ℕ)
    (f₁ : FedAs t₁ ps₁ before room r₁ s₁ o₁) where
  -- the output that the first call left
  rest_is : drop r₁.bytes o₁ ≡ drop r₁.bytes room
  rest_is = ap (drop r₁.bytes) f₁.did.output ∙ drop_at (written t₁.finished) (drop r₁.bytes room) r₁.bytes (sym f₁.did.filled)

  room_left : length (drop r₁.bytes o₁) ≡ length room - sizes engine t₁.finished
  room_left = ap length rest_is ∙ length-drop r₁.bytes room ∙ omega (arith, f₁.did.filled, sizes_written t₁.finished)

  as_one : length (take t₁.taken ps₁) ≡ t₁.taken
      → (t₂ : Told engine) (ps₂ : List Packet) (r₂ : FeedAnswer) (s₂ o₂ : List ℕ) → FedAs t₂ ps₂ s₁ (drop r₁.bytes o₁) r₂ s₂ o₂
      → (r : FeedAnswer) (s o : List ℕ) → FedAs (together engine t₁ t₂) (take t₁.taken ps₁ ++ ps₂) before room r s o
      → AsOne r₁ r₂ r s₂ s o₁ o₂ o
  as_one many t₂ ps₂ r₂ s₂ o₂ f₂ r s o f =
      let taken : take (t₁.taken + t₂.taken) (take t₁.taken ps₁ ++ ps₂) ≡ take t₁.taken ps₁ ++ take t₂.taken ps₂ =
      ap (λ (n : ℕ). take (n + t₂.taken) (take t₁.taken ps₁ ++ ps₂)) (sym many) ∙ take-append-add (take t₁.taken ps₁) ps₂ t₂.taken in
      let long : r.bytes ≡ r₁.bytes + r₂.bytes =
      f.did.filled ∙ ap length (written_both t₁.finished t₂.finished) ∙ length-append (written t₁.finished) (written t₂.finished)
      ∙ omega (arith, f₁.did.filled, f₂.did.filled) in
      let front : take r₁.bytes o₁ ≡ written t₁.finished =
      ap (take r₁.bytes) f₁.did.output ∙ take_at (written t₁.finished) (drop r₁.bytes room) r₁.bytes (sym f₁.did.filled) in
      let behind : drop r₂.bytes (drop r₁.bytes o₁) ≡ drop r.bytes room =
      ap (drop r₂.bytes) rest_is ∙ drop-drop r₂.bytes r₁.bytes room ∙ ap (λ (n : ℕ). drop n room) (sym long) in
      record {
        refusal = f.did.answer ∙ sym f₂.did.answer;
        packets = omega (arith, f.taken, f₁.taken, f₂.taken);
        used =
            f.used ∙ ap form_bytes taken ∙ total_append (λ p. length (packet.write p)) (take t₁.taken ps₁) (take t₂.taken ps₂)
            ∙ omega (arith, f₁.used, f₂.used);
        opened = omega (arith, f.opened, f₁.opened, f₂.opened);
        records = omega (arith, f.did.count, f₁.did.count, f₂.did.count, length-append t₁.finished t₂.finished);
        bytes = long;
        means = f.did.means ∙ sym f₂.did.means;
        settings = f.did.settings ∙ sym (f₂.did.settings ∙ f₁.did.settings);
        output =
            f.did.output ∙ ap (λ (l : List ℕ). l ++ drop r.bytes room) (written_both t₁.finished t₂.finished)
            ∙ append_assoc (written t₁.finished) (written t₂.finished) (drop r.bytes room)
            ∙ ap (λ (l : List ℕ). l ++ (written t₂.finished ++ drop r.bytes room)) (sym front)
            ∙ ap (λ (l : List ℕ). take r₁.bytes o₁ ++ (written t₂.finished ++ l)) (sym behind)
            ∙ ap (λ (l : List ℕ). take r₁.bytes o₁ ++ l) (sym f₂.did.output);
      }

-- "only a refused packet stops it": whatever the first call answered, the second begins at the packet that stopped it, if there is one
pub in_two_pieces : (before first more room : List ℕ) → Sound before
    → (r₁ : FeedAnswer) (s₁ o₁ : List ℕ) → Fed before first room r₁ s₁ o₁
    → (r₂ : FeedAnswer) (s₂ o₂ : List ℕ) → Fed s₁ (drop r₁.used first ++ more) (drop r₁.bytes o₁) r₂ s₂ o₂
    → (r : FeedAnswer) (s o : List ℕ) → Fed before (first ++ more) room r s o
    → AsOne r₁ r₂ r s₂ s o₁ o₂ o
unfolding feed_bytes
in_two_pieces before first more room sound r₁ s₁ o₁ fed₁ r₂ s₂ o₂ fed₂ r s o fed =
    let t₁ : Told engine = feed_bytes (settings_in before) (length room) first (meaning before) in
    let ps₁ : List Packet = (parsed first).packets in
    let rest : List ℕ = drop r₁.used first ++ more in
    let t₂ : Told engine = feed_bytes (settings_in before) (length room - sizes engine t₁.finished) rest t₁.engine in
    let ps₂ : List Packet = (parsed rest).packets in
    let f₁ : FedAs t₁ ps₁ before room r₁ s₁ o₁ = fed₁.told sound in
    let told₂ : feed_bytes (settings_in s₁) (length (drop r₁.bytes o₁)) rest (meaning s₁) ≡ t₂ =
    ap (λ (x : Settings). feed_bytes x (length (drop r₁.bytes o₁)) rest (meaning s₁)) f₁.did.settings
    ∙ ap (λ (n : ℕ). feed_bytes (settings_in before) n rest (meaning s₁)) (room_left t₁ ps₁ before room r₁ s₁ o₁ f₁)
    ∙ ap (feed_bytes (settings_in before) (length room - sizes engine t₁.finished) rest) f₁.did.means in
    let told : feed_bytes (settings_in before) (length room) (first ++ more) (meaning before) ≡ together engine t₁ t₂ =
    feed_goes_on (settings_in before) (length room) first more (meaning before) t₁ refl r₁.used f₁.used in
    let packets : (parsed (first ++ more)).packets ≡ take t₁.taken ps₁ ++ ps₂ =
    ap (λ (x : Parsed). x.packets) (read_on t₁.taken first more)
    ∙ ap (λ (n : ℕ). take t₁.taken ps₁ ++ (parsed (drop n first ++ more)).packets) (sym f₁.used) in
    as_one t₁ ps₁ before room r₁ s₁ o₁ f₁ (taken_most engine (settings_in before) (length room) ps₁ (parsed first).ends (meaning before))
    t₂ ps₂ r₂ s₂ o₂ (subst (λ (t : Told engine). FedAs t ps₂ s₁ (drop r₁.bytes o₁) r₂ s₂ o₂) told₂ (fed₂.told f₁.did.sound))
    r s o
    (subst (λ (ps : List Packet). FedAs (together engine t₁ t₂) ps before room r s o) packets
    (subst (λ (t : Told engine). FedAs t (parsed (first ++ more)).packets before room r s o) told (fed.told sound)))

-- a piece that is not refused is taken whole
pub nothing_left : (before first room : List ℕ) → Sound before → (r₁ : FeedAnswer) (s₁ o₁ : List ℕ) → Fed before first room r₁ s₁ o₁
    → stop_number r₁.refusal ≡ 0 → r₁.used ≡ length first
unfolding feed_bytes
nothing_left before first room sound r₁ s₁ o₁ fed₁ z =
    let ps : List Packet = (parsed first).packets in
    let f₁ = fed₁.told sound in
    let (many, end) = taken_whole engine (settings_in before) (length room) ps (parsed first).ends (meaning before) (sym f₁.did.answer ∙ z) in
    f₁.used ∙ ap (λ (n : ℕ). form_bytes (take n ps)) many ∙ ap form_bytes (take_all (length ps) ps (omega arith))
    ∙ read_whole (length first) first (omega arith) end

-- so two batches, the first not refused, are the one that both make
pub in_two_batches : (before first more room : List ℕ) → Sound before
    → (r₁ : FeedAnswer) (s₁ o₁ : List ℕ) → Fed before first room r₁ s₁ o₁ → stop_number r₁.refusal ≡ 0
    → (r₂ : FeedAnswer) (s₂ o₂ : List ℕ) → Fed s₁ more (drop r₁.bytes o₁) r₂ s₂ o₂
    → (r : FeedAnswer) (s o : List ℕ) → Fed before (first ++ more) room r s o
    → AsOne r₁ r₂ r s₂ s o₁ o₂ o
in_two_batches before first more room sound r₁ s₁ o₁ fed₁ z r₂ s₂ o₂ fed₂ =
    let whole : r₁.used ≡ length first = nothing_left before first room sound r₁ s₁ o₁ fed₁ z in
    let none : drop r₁.used first ≡ [] = drop_of_length-le first {i = r₁.used} (omega (arith, whole)) in
    in_two_pieces before first more room sound r₁ s₁ o₁ fed₁ r₂ s₂ o₂
    (subst⁻¹ (λ (l : List ℕ). Fed s₁ (l ++ more) (drop r₁.bytes o₁) r₂ s₂ o₂) none fed₂)

-- on a state that is not sound both calls answer 3 and do nothing, as the one does
pub in_two_damaged : (before first more room : List ℕ) → (Sound before → ⊥)
    → (r₁ : FeedAnswer) (s₁ o₁ : List ℕ) → Fed before first room r₁ s₁ o₁
    → (r₂ : FeedAnswer) (s₂ o₂ : List ℕ) → Fed s₁ (drop r₁.used first ++ more) (drop r₁.bytes o₁) r₂ s₂ o₂
    → (r : FeedAnswer) (s o : List ℕ) → Fed before (first ++ more) room r s o
    → NothingDone before room (stop_number r₁.refusal) r₁.records r₁.bytes s₁ o₁ × NothingDone before room (stop_number r₂.refusal) r₂.records r₂.bytes s₂ o₂
    × AsOne r₁ r₂ r s₂ s o₁ o₂ o
in_two_damaged before first more room bad r₁ s₁ o₁ fed₁ r₂ s₂ o₂ fed₂ r s o fed =
    let (n₁, p₁, u₁, q₁) = fed₁.damaged bad in
    let (n₂, p₂, u₂, q₂) = fed₂.damaged (subst⁻¹ (λ (x : List ℕ). Sound x → ⊥) n₁.state bad) in
    let (n, p, u, q) = fed.damaged bad in
    let out₂ : o₂ ≡ room = n₂.output ∙ ap (λ (k : ℕ). drop k o₁) n₁.filled ∙ n₁.output in
    let state₂ : s₂ ≡ before = n₂.state ∙ n₁.state in
    let same : s ≡ s₂ = n.state ∙ sym state₂ in (
      n₁,
      record { answer = n₂.answer; count = n₂.count; filled = n₂.filled; state = state₂; output = out₂ },
      record {
        refusal = n.answer ∙ sym n₂.answer;
        packets = omega (arith, p, p₁, p₂);
        used = omega (arith, u, u₁, u₂);
        opened = omega (arith, q, q₁, q₂);
        records = omega (arith, n.count, n₁.count, n₂.count);
        bytes = omega (arith, n.filled, n₁.filled, n₂.filled);
        means = ap meaning same;
        settings = ap settings_in same;
        output = n.output ∙ sym out₂ ∙ ap (λ (k : ℕ). take k o₁ ++ o₂) (sym n₁.filled);
      },
    )
