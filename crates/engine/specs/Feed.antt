-- Feeding a batch: the promise, and the loop over the packets. Assumes nothing.
use Rattle.forms.specs.Refusals.{stop_number}
use Rattle.std.specs.Prelude.{ℕ, suc, ◌+◌, ◌-◌, ◌≤◌, ◌<◌, ◌≡◌, Bool, true, false, cond, leb, take, None}
use Rattle.std.proofs.Math.Path.{refl, sym, ap}
use Rattle.std.proofs.Common.{◌∙◌, subst, arith, leb-true, take-append-drop, drop_at, take_at}
use mathlib.Core.List.{List, [], ◌∷◌, ◌++◌, append_assoc, append-nil}
use Rattle.std.proofs.Math.ListN.{length, length-append, length-drop, drop}
use Rattle.std.proofs.Math.Seq.{drop-drop}
use Rattle.table.specs.View.{view}
use Rattle.flow.specs.declared.time.Idle.{Idle}
use Rattle.flow.specs.declared.time.TimeResolution.{TimeResolution}
use Rattle.wire.specs.PacketForm.{packet}
use Rattle.wire.specs.declared.packet.Packet.{Packet}
use Rattle.rules.specs.Rules.{Settings, Refusal, Accepted, Full, Spent, Room, Finished, Engine, Told, Done, refused, done, number_of, stopped, next, sizes, one_packet, feed_all}
use Rattle.rules.specs.Rules as R
use Rattle.rules.specs.Engine.{engine, written}
use Rattle.rules.proofs.EngineTermsLaws.{written_both}
use Rattle.rules.specs.Totals.{total_append}
use Rattle.state.specs.State.{Sound, capacity_in, settings_of, settings_in, meaning}
use Rattle.hand.specs.Freed.{sizes_written}
use Rattle.packet.specs.declared.Step.{Step}
use Rattle.engine.specs.declared.FeedAnswer.{FeedAnswer}
use Rattle.sweeps.specs.Promise.{Left, Did, NothingDone}
use Rattle.engine.specs.Batch.{Parsed, parsed, form_bytes, feed_bytes, Here, parsed_end}
use Rattle.packet.specs.Step.{InCall, StepTold, PacketDone}
use Rattle.sweeps.specs.StateLaws.{left_twice}

-- ## The promise

-- "Feeding answers: refusal, packets taken, batch bytes used, flows opened, records written."
pub record FedAs (t : Told engine) (packets : List Packet) (before room : List ℕ) (r : FeedAnswer) (after out : List ℕ) : Type 0 where
  pub did : Did t before room (stop_number r.refusal) r.records r.bytes after out
  pub taken : r.packets ≡ t.taken
  pub used : r.used ≡ form_bytes (take t.taken packets)
  pub opened : r.opened ≡ t.opens

pub record Fed (before batch room : List ℕ) (r : FeedAnswer) (after out : List ℕ) : Type 0 where
  pub damaged : (Sound before → ⊥)
      → NothingDone before room (stop_number r.refusal) r.records r.bytes after out × (r.packets ≡ 0) × (r.used ≡ 0) × (r.opened ≡ 0)
  pub told : Sound before → FedAs (feed_bytes (settings_in before) (length room) batch (meaning before)) (parsed batch).packets before room r after out

-- ## What was told so far, and what is told of the rest

abbrev joined : ℕ → ℕ → List (Finished engine) → Told engine → Told engine
joined taken opens finished t =
    record { refusal = t.refusal; taken = taken + t.taken; opens = opens + t.opens; finished = finished ++ t.finished; engine = t.engine }

-- the batch up to `used` has been taken: `done_packets` of them, which finished `so_far`
pub record Feeding (batch before room : List ℕ) (r : FeedAnswer) (c : ℕ) (idle : Idle) (resolution : TimeResolution) (s out index free : List ℕ) : Type 0 where
  pub call : InCall s index free c idle resolution
  pub settings : settings_in s ≡ settings_in before
  pub untouched : Left (view c before) (view c s)
  pub within : r.used ≤ length batch
  pub done_packets : List Packet
  pub packets_are : (parsed batch).packets ≡ done_packets ++ (parsed (drop r.used batch)).packets
  pub ends_are : (parsed batch).ends ≡ (parsed (drop r.used batch)).ends
  pub taken : r.packets ≡ length done_packets
  pub used : r.used ≡ form_bytes done_packets
  pub so_far : List (Finished engine)
  pub count : r.records ≡ length so_far
  pub filled : r.bytes ≡ length (written so_far)
  pub output : out ≡ written so_far ++ drop r.bytes room
  pub fits : r.bytes ≤ length room
  pub told : feed_bytes (settings_in before) (length room) batch (meaning before)
      ≡ joined r.packets r.opened so_far (feed_bytes (settings_in before) (length room - r.bytes) (drop r.used batch) (meaning s))

-- ## A packet that is taken has room for its records

-- what is answered, if it is done, fits
abbrev FitsIn : ℕ → R.Answer engine → Type 0
FitsIn room (refused r) = Unit {0}
FitsIn room (done d) = sizes engine d.finished ≤ room

steps_fit_lem : (full spent : Bool) (room : ℕ) (d : Done engine)
    → FitsIn room (cond full (refused Full) (cond spent (refused Spent) (cond (leb (sizes engine d.finished) room) (done d) (refused Room))))
steps_fit_lem true spent room d = tt
steps_fit_lem false true room d = tt
steps_fit_lem false false room d = go (leb (sizes engine d.finished) room) refl
  where
    go : (b : Bool) → leb (sizes engine d.finished) room ≡ b → FitsIn room (cond b (done d) (refused Room))
    go true e = leb-true (sizes engine d.finished) room e
    go false e = tt

answer_fits : (s : Settings) (room : ℕ) (p : Packet) (e : Engine engine) → FitsIn room (one_packet engine s room p e)
unfolding R.one_packet
answer_fits s room p e =
    let w = R.clock_at engine s e.clock (engine.time p) in
    let fs = R.staying engine s w e.flows in
    let g = R.reused engine p fs in
    let t = R.taker engine p (R.apart engine g fs) in
    steps_fit_lem (R.is_full engine s (R.apart engine g fs) t) (R.is_spent engine p t) room (R.steps34 engine s w (R.swept engine s w e.flows) g p (R.apart engine g fs) t)

done_fits : (s : Settings) (room : ℕ) (p : Packet) (e : Engine engine) (d : Done engine) → one_packet engine s room p e ≡ done d → sizes engine d.finished ≤ room
done_fits s room p e d q = subst (FitsIn room) q (answer_fits s room p e)

-- ## The records of packets, one behind another

-- ## Begins

module _ (batch before room : List ℕ) (c : ℕ) (idle : Idle) (resolution : TimeResolution) where
  abbrev nothing_yet : FeedAnswer
  nothing_yet = record { refusal = None; packets = 0; used = 0; opened = 0; records = 0; bytes = 0 }

  pub feeding_begins : (index free : List ℕ) → InCall before index free c idle resolution → Feeding batch before room nothing_yet c idle resolution before room index free
  feeding_begins index free h = record {
    call = h;
    settings = refl;
    untouched = record { settings = refl; spare_header = refl; spare_slots = refl; spare_node = refl; rest = refl };
    within = omega arith;
    done_packets = [];
    packets_are = refl;
    ends_are = refl;
    taken = refl;
    used = refl;
    so_far = [];
    count = refl;
    filled = refl;
    output = refl;
    fits = omega arith;
    told =
        let t : Told engine = feed_bytes (settings_in before) (length room) batch (meaning before) in
        let none : length room - 0 ≡ length room = omega arith in
        same t ∙ ap (λ (n : ℕ). joined 0 0 [] (feed_bytes (settings_in before) n batch (meaning before))) (sym none);
  }
    where
      same : (t : Told engine) → t ≡ joined 0 0 [] t
      same t = let a : t.taken ≡ 0 + t.taken = omega arith in let b : t.opens ≡ 0 + t.opens = omega arith in
          λ i. record { refusal = t.refusal; taken = a i; opens = b i; finished = t.finished; engine = t.engine }

  -- ## Ends

  module _ (r : FeedAnswer) (s out index free : List ℕ) (h : Feeding batch before room r c idle resolution s out index free) where
    same_capacity : c ≡ capacity_in before
    unfolding settings_of
    same_capacity = h.call.capacity ∙ ap (λ (x : Settings). x.capacity) h.settings

    left_is : (s' : List ℕ) → Left (view c s) (view c s') → Left (view (capacity_in before) before) (view (capacity_in before) s')
    left_is s' l = subst (λ (n : ℕ). Left (view n before) (view n s')) same_capacity (left_twice (view c before) (view c s) (view c s') h.untouched l)

    no_change : Left (view c s) (view c s)
    no_change = record { settings = refl; spare_header = refl; spare_slots = refl; spare_node = refl; rest = refl }

    -- nothing more is taken: what stands behind has this refusal, and the state s' means what s means
    stops : (why : Refusal) (s' : List ℕ) → Sound s' → meaning s' ≡ meaning s → settings_in s' ≡ settings_in s → Left (view c s) (view c s')
        → feed_bytes (settings_in before) (length room - r.bytes) (drop r.used batch) (meaning s) ≡ stopped engine why (meaning s)
        → (r' : FeedAnswer) → stop_number r'.refusal ≡ number_of why → r'.packets ≡ r.packets → r'.used ≡ r.used → r'.opened ≡ r.opened → r'.records ≡ r.records
        → r'.bytes ≡ r.bytes → FedAs (feed_bytes (settings_in before) (length room) batch (meaning before)) (parsed batch).packets before room r' s' out
    stops why s' sound' means' settings' left' rest r' e1 e2 e3 e4 e5 e6 =
        let is : feed_bytes (settings_in before) (length room) batch (meaning before) ≡ joined r.packets r.opened h.so_far (stopped engine why (meaning s)) =
        h.told ∙ ap (joined r.packets r.opened h.so_far) rest in
        let all : h.so_far ++ [] ≡ h.so_far = append-nil h.so_far in
        let many : r.packets + 0 ≡ length h.done_packets = omega (arith, h.taken) in
        subst (λ (t : Told engine). FedAs t (parsed batch).packets before room r' s' out) (sym is)
        (record {
          did = record {
            answer = e1;
            count = e5 ∙ h.count ∙ ap (λ (l : List (Finished engine)). length l) (sym all);
            filled = e6 ∙ h.filled ∙ ap (λ (l : List (Finished engine)). length (written l)) (sym all);
            sound = sound';
            means = means';
            settings = settings' ∙ h.settings;
            output =
                h.output ∙ ap (λ (l : List (Finished engine)). written l ++ drop r.bytes room) (sym all)
                ∙ ap (λ (n : ℕ). written (h.so_far ++ []) ++ drop n room) (sym e6);
            untouched = left_is s' left';
          };
          taken = omega (arith, e2);
          used =
              e3 ∙ h.used
              ∙ ap form_bytes
              (sym (ap (λ (n : ℕ). take n (parsed batch).packets) many ∙ ap (take (length h.done_packets)) h.packets_are
              ∙ take_at h.done_packets (parsed (drop r.used batch)).packets (length h.done_packets) refl));
          opened = omega (arith, e4);
        })

    -- the batch's empty end
    pub feeding_ends : stop_number r.refusal ≡ 0 → length batch ≤ r.used → FedAs (feed_bytes (settings_in before) (length room) batch (meaning before)) (parsed batch).packets before room r s out
    unfolding feed_bytes R.feed_all
    feeding_ends z e =
        let none : parsed (drop r.used batch) ≡ record { packets = []; ends = Accepted } = parsed_end (drop r.used batch) (omega (arith, length-drop r.used batch)) in
        stops Accepted s h.call.sound refl refl no_change
        (ap (λ (x : Parsed). feed_all engine (settings_in before) (length room - r.bytes) x.packets x.ends (meaning s)) none) r z refl refl refl refl refl

    -- bytes that are no packet, 4, or a cut one, 9
    pub feeding_unread : (why : Refusal) → parsed (drop r.used batch) ≡ record { packets = []; ends = why } → (r' : FeedAnswer) → stop_number r'.refusal ≡ number_of why
        → r'.packets ≡ r.packets → r'.used ≡ r.used → r'.opened ≡ r.opened → r'.records ≡ r.records → r'.bytes ≡ r.bytes
        → FedAs (feed_bytes (settings_in before) (length room) batch (meaning before)) (parsed batch).packets before room r' s out
    unfolding feed_bytes R.feed_all
    feeding_unread why e r' e1 e2 e3 e4 e5 e6 =
        stops why s h.call.sound refl refl no_change
        (ap (λ (x : Parsed). feed_all engine (settings_in before) (length room - r.bytes) x.packets x.ends (meaning s)) e) r' e1 e2 e3 e4 e5 e6

    -- ## One packet more

    module _ (p : Packet) (after : ℕ) (some : r.used < length batch) (here : Here batch r.used some p after) (part : List ℕ) (part_is : part ≡ drop r.bytes out)
        (step : Step) (s' part' index' free' : List ℕ) (packet_done : PacketDone p s part c idle resolution step s' part' index' free') where
      out_rest : drop r.bytes out ≡ drop r.bytes room
      out_rest =
          ap (drop r.bytes) h.output ∙ ap (λ (n : ℕ). drop n (written h.so_far ++ drop r.bytes room)) h.filled
          ∙ drop_at (written h.so_far) (drop r.bytes room) (length (written h.so_far)) refl

      out_front : take r.bytes out ≡ written h.so_far
      out_front = ap (take r.bytes) h.output ∙ take_at (written h.so_far) (drop r.bytes room) r.bytes (sym h.filled)

      part_room : part ≡ drop r.bytes room
      part_room = part_is ∙ out_rest

      part_long : length part ≡ length room - r.bytes
      part_long = ap length part_room ∙ length-drop r.bytes room

      -- what the rules tell of the packet and the rest
      abbrev rest_of : Done engine → Told engine
      rest_of d = feed_all engine (settings_in before) (length room - r.bytes - sizes engine d.finished) (parsed (drop after batch)).packets (parsed (drop after batch)).ends d.engine

      told_next : feed_bytes (settings_in before) (length room - r.bytes) (drop r.used batch) (meaning s)
          ≡ next engine (one_packet engine (settings_in s) (length part) p (meaning s)) (meaning s) rest_of
      unfolding feed_bytes R.feed_all
      told_next =
          ap (λ (x : Parsed). feed_all engine (settings_in before) (length room - r.bytes) x.packets x.ends (meaning s)) here.parse
          ∙ ap (λ (x : Settings). next engine (one_packet engine x (length room - r.bytes) p (meaning s)) (meaning s) rest_of) (sym h.settings)
          ∙ ap (λ (n : ℕ). next engine (one_packet engine (settings_in s) n p (meaning s)) (meaning s) rest_of) (sym part_long)

      abbrev answer_of_lem : R.Answer engine
      answer_of_lem = one_packet engine (settings_in s) (length part) p (meaning s)

      -- the packet is refused: nothing more is taken
      pub feeding_refused : (stop_number step.refusal ≡ 0 → ⊥) → (out' : List ℕ) → out' ≡ take r.bytes out ++ part' → (r' : FeedAnswer) → stop_number r'.refusal ≡ stop_number step.refusal
          → r'.packets ≡ r.packets → r'.used ≡ r.used → r'.opened ≡ r.opened → r'.records ≡ r.records → r'.bytes ≡ r.bytes
          → FedAs (feed_bytes (settings_in before) (length room) batch (meaning before)) (parsed batch).packets before room r' s' out'
      feeding_refused n out' eo r' e1 e2 e3 e4 e5 e6 = go answer_of_lem refl packet_done.told
        where
          go : (a : R.Answer engine) → answer_of_lem ≡ a → StepTold a s part step s' part'
              → FedAs (feed_bytes (settings_in before) (length room) batch (meaning before)) (parsed batch).packets before room r' s' out'
          go (done d) q t = absurd (n t.0)
          go (refused why) q t =
              let same : out ≡ out' =
              sym (eo ∙ ap (λ (x : List ℕ). take r.bytes out ++ x) (t.6 ∙ part_is) ∙ take-append-drop r.bytes out) in
              subst (λ (x : List ℕ). FedAs (feed_bytes (settings_in before) (length room) batch (meaning before)) (parsed batch).packets before room r' s' x) same
              (stops why s' packet_done.call.sound t.5 packet_done.settings packet_done.untouched
              (told_next ∙ ap (λ (x : R.Answer engine). next engine x (meaning s) rest_of) q) r' (e1 ∙ t.0) e2 e3 e4 e5 e6)

      -- it is taken
      pub feeding_goes : stop_number step.refusal ≡ 0 → (out' : List ℕ) → out' ≡ take r.bytes out ++ part' → (r' : FeedAnswer)
          → r'.packets ≡ r.packets + 1 → r'.used ≡ after → r'.opened ≡ r.opened + cond step.opened 1 0 → r'.records ≡ r.records + step.records
          → r'.bytes ≡ r.bytes + step.bytes → Feeding batch before room r' c idle resolution s' out' index' free'
      unfolding feed_bytes
      feeding_goes z out' eo r' e2 e3 e4 e5 e6 = go answer_of_lem refl packet_done.told
        where
          go : (a : R.Answer engine) → answer_of_lem ≡ a → StepTold a s part step s' part' → Feeding batch before room r' c idle resolution s' out' index' free'
          go (refused why) q t = absurd (t.1 z)
          go (done d) q t =
              let now : List (Finished engine) = h.so_far ++ d.finished in
              let size : sizes engine d.finished ≡ step.bytes = sizes_written d.finished ∙ sym t.3 in
              let both : length (written now) ≡ r.bytes + step.bytes = ap length (written_both h.so_far d.finished) ∙ length-append (written h.so_far) (written d.finished) ∙ omega (arith, h.filled, t.3) in
              let long : length part' ≡ length part = ap length t.5 ∙ length-append (written d.finished) (drop step.bytes part) ∙ omega (arith, t.3, length-drop step.bytes part, part_enough d q) in
              let packets' : (parsed batch).packets ≡ (h.done_packets ++ (p ∷ [])) ++ (parsed (drop after batch)).packets =
              h.packets_are ∙ ap (λ (x : Parsed). h.done_packets ++ x.packets) here.parse ∙ sym (append_assoc h.done_packets (p ∷ []) (parsed (drop after batch)).packets) in
              record {
                call = packet_done.call;
                settings = packet_done.settings ∙ h.settings;
                untouched = left_twice (view c before) (view c s) (view c s') h.untouched packet_done.untouched;
                within = omega (arith, here.within);
                done_packets = h.done_packets ++ (p ∷ []);
                packets_are = packets' ∙ ap (λ (n : ℕ). (h.done_packets ++ (p ∷ [])) ++ (parsed (drop n batch)).packets) (sym e3);
                ends_are = h.ends_are ∙ ap (λ (x : Parsed). x.ends) here.parse ∙ ap (λ (n : ℕ). (parsed (drop n batch)).ends) (sym e3);
                taken = omega (arith, h.taken, length-append h.done_packets (p ∷ []));
                used = omega (arith, h.used, here.behind, total_append (λ q. length (packet.write q)) h.done_packets (p ∷ []));
                so_far = now;
                count = omega (arith, h.count, t.2, length-append h.so_far d.finished);
                filled = e6 ∙ sym both;
                output =
                    eo ∙ ap (λ (x : List ℕ). x ++ part') out_front ∙ ap (λ (x : List ℕ). written h.so_far ++ x) t.5
                    ∙ sym (append_assoc (written h.so_far) (written d.finished) (drop step.bytes part))
                    ∙ ap (λ (x : List ℕ). x ++ drop step.bytes part) (sym (written_both h.so_far d.finished))
                    ∙ ap (λ (x : List ℕ). written now ++ x)
                    (ap (drop step.bytes) part_room ∙ drop-drop step.bytes r.bytes room ∙ ap (λ (n : ℕ). drop n room) (sym e6));
                fits = omega (arith, h.fits, part_enough d q, t.3, size, part_long);
                told =
                    h.told ∙ ap (joined r.packets r.opened h.so_far) (told_next ∙ ap (λ (x : R.Answer engine). next engine x (meaning s) rest_of) q)
                    ∙ regroup d.opening t.1 d.finished (rest_of d)
                    ∙ ap (joined r'.packets r'.opened now) (rest_same d size t.4);
              }
            where
              part_enough : (d : Done engine) → answer_of_lem ≡ done d → sizes engine d.finished ≤ length part
              part_enough d q = done_fits (settings_in s) (length part) p (meaning s) d q

              regroup : (b : Bool) → step.opened ≡ b → (fs : List (Finished engine)) (x : Told engine)
                  → joined r.packets r.opened h.so_far (record { refusal = x.refusal; taken = suc x.taken; opens = cond b 1 0 + x.opens; finished = fs ++ x.finished; engine = x.engine })
                  ≡ joined r'.packets r'.opened (h.so_far ++ fs) x
              regroup b w fs x =
                  let a : r.packets + suc x.taken ≡ r'.packets + x.taken = omega arith in
                  let o : r.opened + (cond b 1 0 + x.opens) ≡ r'.opened + x.opens = omega (arith, e4, ap (λ (y : Bool). cond {A = ℕ} y 1 0) w) in
                  let f : h.so_far ++ (fs ++ x.finished) ≡ (h.so_far ++ fs) ++ x.finished = sym (append_assoc h.so_far fs x.finished) in
                  λ i. record { refusal = x.refusal; taken = a i; opens = o i; finished = f i; engine = x.engine }

              rest_same : (d : Done engine) → sizes engine d.finished ≡ step.bytes → meaning s' ≡ d.engine
                  → rest_of d ≡ feed_all engine (settings_in before) (length room - r'.bytes) (parsed (drop r'.used batch)).packets (parsed (drop r'.used batch)).ends (meaning s')
              rest_same d size m =
                  let n : length room - r.bytes - sizes engine d.finished ≡ length room - r'.bytes = omega arith in
                  ap (λ (k : ℕ). feed_all engine (settings_in before) k (parsed (drop after batch)).packets (parsed (drop after batch)).ends d.engine) n
                  ∙ ap (λ (k : ℕ). feed_all engine (settings_in before) (length room - r'.bytes) (parsed (drop k batch)).packets (parsed (drop k batch)).ends d.engine) (sym e3)
                  ∙ ap (feed_all engine (settings_in before) (length room - r'.bytes) (parsed (drop r'.used batch)).packets (parsed (drop r'.used batch)).ends) (sym m)
