-- The mission's third demand over any terms, through any calls from fresh: `demand`, at the end. EngineDemandLaws.antt has it of the
-- engine. Assumes nothing.
use Rattle.std.specs.Prelude.{◌≡◌, Bool, true, false, cond, ◌⊎◌, ℕ, suc, zero, ◌+◌, ◌-◌, ◌≤◌, ◌<◌, max, eqb, leb, length, take, None, Option, Some}
use Rattle.std.proofs.Math.Path.{refl, ap, subst⁻¹, fun_ext}
use Rattle.std.proofs.Common.{sym, ◌∙◌, subst, inl, inr, arith, length-append, eq-eqb, ne_eqb, eqb-true}
use mathlib.Core.List.{List, [], ◌∷◌, ◌++◌, map, append_assoc}
use Rattle.std.proofs.lemmas.Bool.{eqb-false}
use Rattle.rules.specs.Order.{at_most, insert, sort, those}
use Rattle.rules.specs.Totals.{total, All, either, total_append, total_map, all_append}
use Rattle.flow.specs.declared.time.EndReason.{EndReason}
use Rattle.flow.specs.declared.time.EndReason.TheVariants.{IdleTimeout, Fin}
use Rattle.rules.specs.Rules.{Refusal, Accepted, Room, Terms, Settings}
use Rattle.rules.specs.Rules as R
use Rattle.rules.specs.Ledger.{Numbered, Story, first, more, summary, ledger, flow_s, finished_s, engine_s, told_s, bare}
use Rattle.rules.proofs.LedgerLaws.{map_append, swept_S, ledger_fed, ledger_swept, ledger_drained}
use Rattle.rules.specs.Account.{packets, of_flow, of_finished, numbered, FlowBelow, FinishedBelow, clock_after}
use Rattle.rules.proofs.AccountLaws.{fed_total, sweep_total, drain_total, finished_more, fed_below, sweep_below, drain_below, fed_clock}
use Rattle.rules.specs.Demand.{Call, feed, sweep, drain, seen, Run, started, fed, swept, drained, step, run, Chronicle, noted, chronicle, run_s, Counts, Kept, In, latest_of, Timed, Tally, times_of, due, is_number, tallied, due_records, HandsOut, named_taker, Placed, engine_run, ledger_run, next_one, Demand}

-- ## The chronicle: the ledger's run of the same calls. Packets are numbered as they are accepted; a refused one stops its batch,
-- so those before it have the next numbers.

module _ (W : Terms) where
  abbrev N : Terms
  N = ledger W

  -- ## The engine is the ledger summarised

  bare_numbered : (n : ℕ) (ps : List W.Packet) → bare W (numbered n ps) ≡ ps
  bare_numbered n [] = refl
  bare_numbered n (p ∷ ps) = rw (bare_numbered (suc n) ps)

  bare_take : (n : ℕ) (qs : List N.Packet) → take n (bare W qs) ≡ bare W (take n qs)
  bare_take zero qs = refl
  bare_take (suc n) [] = refl
  bare_take (suc n) (q ∷ qs) = rw (bare_take n qs)

  bare_times : (qs : List N.Packet) → map W.time (bare W qs) ≡ map N.time qs
  bare_times [] = refl
  bare_times (q ∷ qs) = rw (bare_times qs)

  fed_S : (r : Run N) (qs : List N.Packet) (t : R.Told N) → fed W (run_s W r) (bare W qs) (told_s W t) ≡ run_s W (fed N r qs t)
  fed_S r qs t =
      let new = take t.taken qs in
      let finished = map_append (finished_s W) r.finished t.finished in
      let accepted : bare W r.accepted ++ take t.taken (bare W qs) ≡ bare W (r.accepted ++ new) =
      ap (bare W r.accepted ++◌) (bare_take t.taken qs) ∙ map_append {A = N.Packet} {B = W.Packet} (λ p. p.packet) r.accepted new in
      let times : r.times ++ map W.time (take t.taken (bare W qs)) ≡ r.times ++ map N.time new =
      ap (r.times ++◌) (ap (map W.time) (bare_take t.taken qs) ∙ bare_times new) in
      λ i. record { engine = engine_s W t.engine; finished = finished i; accepted = accepted i; times = times i }

  noted_S : (s : Settings) (k : Call W.Packet) (c : Chronicle W) → step W s k (run_s W c) ≡ run_s W (noted W s k c)
  noted_S s (feed room ps ends) c =
      let qs = numbered (length c.accepted) ps in
      ap (λ (x : List W.Packet). fed W (run_s W c) x (R.feed_all W s room x ends (engine_s W c.engine))) (sym (bare_numbered (length c.accepted) ps))
      ∙ ap (fed W (run_s W c) (bare W qs)) (ledger_fed W s room qs ends c.engine)
      ∙ fed_S c qs (R.feed_all N s room qs ends c.engine)
  noted_S s (sweep room x) c =
      ap (swept W (run_s W c) x) (ledger_swept W s room x c.engine)
      ∙ rw (map_append (finished_s W) c.finished (R.sweep_at N s room x c.engine).finished)
  noted_S s (drain room) c =
      ap (drained W (run_s W c)) (ledger_drained W room c.engine)
      ∙ rw (map_append (finished_s W) c.finished (R.drain_all N room c.engine).finished)

  pub summarised : (s : Settings) (ks : List (Call W.Packet)) (c : Chronicle W) → run W s ks (run_s W c) ≡ run_s W (chronicle W s ks c)
  summarised s [] c = refl
  summarised s (k ∷ ks) c = ap (run W s ks) (noted_S s k c) ∙ summarised s ks (noted W s k c)

  -- ## What stays true of the chronicle

  counts_append : (n : ℕ) (l k : List (Numbered W.Packet)) → Counts W n l → Counts W (n + length l) k → Counts W n (l ++ k)
  counts_append n [] k a b = subst (λ (x : ℕ). Counts W x k) (omega arith) b
  counts_append n (p ∷ l) k a b = (a.0, counts_append (suc n) l k a.1 (subst (λ (x : ℕ). Counts W x k) (omega arith) b))

  counts_taken : (n j : ℕ) (ps : List W.Packet) → Counts W n (take j (numbered n ps))
  counts_taken n zero ps = tt
  counts_taken n (suc j) [] = tt
  counts_taken n (suc j) (p ∷ ps) = (refl, counts_taken (suc n) j ps)

  clock_append : (s : Settings) (w : ℕ) (l k : List ℕ) → clock_after s w (l ++ k) ≡ clock_after s (clock_after s w l) k
  clock_append s w [] k = refl
  clock_append s w (t ∷ ts) k = clock_append s (cond (eqb s.T 0) w (max w t)) ts k

  pub kept_blank : (s : Settings) → Kept W s (started N)
  kept_blank s = record { conserved = λ m. refl; open_below = tt; finished_below = tt; counts = tt; clock = refl }

  -- a batch takes no more packets than it has
  next_taken : (p : N.Packet) (ps : List N.Packet) (e : R.Engine N) (a : R.Answer N) (rest : R.Done N → R.Told N)
      → ((d : R.Done N) → length (take (rest d).taken ps) ≡ (rest d).taken)
      → length (take (R.next N a e rest).taken (p ∷ ps)) ≡ (R.next N a e rest).taken
  next_taken p ps e (R.refused r) rest h = refl
  next_taken p ps e (R.done d) rest h = ap suc (h d)

  fed_taken : (s : Settings) (room : ℕ) (ps : List N.Packet) (ends : Refusal) (e : R.Engine N)
      → length (take (R.feed_all N s room ps ends e).taken ps) ≡ (R.feed_all N s room ps ends e).taken
  unfolding R.feed_all
  fed_taken s room [] ends e = refl
  fed_taken s room (p ∷ ps) ends e =
      next_taken p ps e (R.one_packet N s room p e) (λ d. R.feed_all N s (room - R.sizes N d.finished) ps ends d.engine)
      (λ d. fed_taken s (room - R.sizes N d.finished) ps ends d.engine)

  sweep_clock : (s : Settings) (room t : ℕ) (e : R.Engine N)
      → (R.sweep_at N s room t e).engine.clock ≡ clock_after s e.clock (seen (R.sweep_at N s room t e).refusal t)
  unfolding R.sweep_at
  sweep_clock s room t e =
      either (λ (x : R.Told N). x.engine.clock ≡ clock_after s e.clock (seen x.refusal t))
      (leb (R.sizes N (R.swept N s (R.clock_at N s e.clock t) e.flows)) room) refl refl

  drain_clock : (room : ℕ) (e : R.Engine N) → (R.drain_all N room e).engine.clock ≡ e.clock
  unfolding R.drain_all
  drain_clock room e = either (λ (x : R.Told N). x.engine.clock ≡ e.clock) (leb (R.sizes N (R.drained N e.flows)) room) refl refl

  kept_noted : (s : Settings) (k : Call W.Packet) (c : Chronicle W) → Kept W s c → Kept W s (noted W s k c)
  kept_noted s (feed room ps ends) c h =
      let n = length c.accepted in
      let qs = numbered n ps in
      let e = c.engine in
      let t = R.feed_all N s room qs ends e in
      let new = take t.taken qs in
      let len : n + t.taken ≡ length (c.accepted ++ new) = omega (arith, length-append c.accepted new, fed_taken s room qs ends e) in
      let below = fed_below W s room n ps ends e h.open_below in
      record {
        conserved = λ m. omega (
          arith,
          h.conserved m,
          fed_total W m s room qs ends e,
          total_append m c.accepted new,
          total_append (of_finished W m) c.finished t.finished,
        );
        open_below = subst (λ (x : ℕ). All (FlowBelow W x) t.engine.flows) len below.0;
        finished_below = subst (λ (x : ℕ). All (FinishedBelow W x) (c.finished ++ t.finished)) len
            (all_append (FinishedBelow W (n + t.taken)) c.finished t.finished
            (finished_more W n (n + t.taken) (omega arith) c.finished h.finished_below) below.1);
        counts = counts_append 0 c.accepted new h.counts (subst (λ (x : ℕ). Counts W x new) (omega arith) (counts_taken n t.taken ps));
        clock = fed_clock N s room qs ends e ∙ ap (λ (w : ℕ). clock_after s w (map N.time new)) h.clock
            ∙ sym (clock_append s 0 c.times (map N.time new));
      }
  kept_noted s (sweep room t) c h =
      let e = c.engine in
      let x = R.sweep_at N s room t e in
      let n = length c.accepted in
      let below = sweep_below W s room t n e h.open_below in
      record {
        conserved = λ m. omega (arith, h.conserved m, sweep_total W m s room t e, total_append (of_finished W m) c.finished x.finished);
        open_below = below.0;
        finished_below = all_append (FinishedBelow W n) c.finished x.finished h.finished_below below.1;
        counts = h.counts;
        clock = sweep_clock s room t e ∙ ap (λ (w : ℕ). clock_after s w (seen x.refusal t)) h.clock
            ∙ sym (clock_append s 0 c.times (seen x.refusal t));
      }
  kept_noted s (drain room) c h =
      let e = c.engine in
      let x = R.drain_all N room e in
      let n = length c.accepted in
      let below = drain_below W room n e h.open_below in
      record {
        conserved = λ m. omega (arith, h.conserved m, drain_total W m room e, total_append (of_finished W m) c.finished x.finished);
        open_below = below.0;
        finished_below = all_append (FinishedBelow W n) c.finished x.finished h.finished_below below.1;
        counts = h.counts;
        clock = drain_clock room e ∙ h.clock;
      }

  pub kept : (s : Settings) (ks : List (Call W.Packet)) (c : Chronicle W) → Kept W s c → Kept W s (chronicle W s ks c)
  kept s [] c h = h
  kept s (k ∷ ks) c h = kept s ks (noted W s k c) (kept_noted s k c h)

-- ## A place in a list

in_more : {A : Type 0} (y x : A) (l : List A) → In x l → In x (y ∷ l)
in_more y x l (before, after, e) = (y ∷ before, after, ap {B = List _} (λ k. y ∷ k) e)

in_insert : {A : Type 0} (rank : A → List ℕ) (x : A) (l : List A) → In x (insert rank x l)
in_insert rank x [] = ([], [], refl)
in_insert rank x (y ∷ ys) =
    either (In x) (at_most (rank x) (rank y)) ([], y ∷ ys, refl) (in_more y x (insert rank x ys) (in_insert rank x ys))

-- ## The latest time

pub latest_of-append : (l k : List ℕ) → latest_of (l ++ k) ≡ max (latest_of l) (latest_of k)
latest_of-append [] k = omega arith
latest_of-append (t ∷ ts) k = omega (arith, latest_of-append ts k)

clock_latest : (s : Settings) → 0 < s.T → (w : ℕ) (l : List ℕ) → clock_after s w l ≡ max w (latest_of l)
clock_latest s h w [] = omega arith
clock_latest s h w (t ∷ ts) =
    rw (ne_eqb s.T 0 (omega arith)) (omega (arith, clock_latest s h (max w t) ts))

pub clock_zero : (s : Settings) → s.T ≡ 0 → (w : ℕ) (l : List ℕ) → clock_after s w l ≡ w
clock_zero s h w [] = refl
clock_zero s h w (t ∷ ts) = rw (eq-eqb s.T 0 h) (clock_zero s h w ts)

module _ (W : Terms) where
  abbrev K : Terms
  K = ledger W

  latest_story : Timed W → (l : Story K.Packet) → W.latest (summary W l) ≡ latest_of (times_of W l)
  latest_story h (first r p) = omega (arith, h.begins r p.packet)
  latest_story h (more l d p) =
      omega (
        arith,
        h.widens d p.packet (summary W l),
        latest_story h l,
        latest_of-append (times_of W l) (K.time p ∷ []),
        ap latest_of (map_append K.time (packets l) (p ∷ [])),
      )

  leaves_due : Timed W → (s : Settings) → 0 < s.T → (w : ℕ) (f : R.Flow K) → R.leaves K s w f ≡ due W s w f
  leaves_due h s pos w f = rw (ne_eqb s.T 0 (omega arith), latest_story h f.held)

  tally_story : (y : Tally W) (l : Story K.Packet) → y.of (summary W l) ≡ total (λ q. y.each q.packet) (packets l)
  tally_story y (first r p) = omega (arith, y.begins r p.packet)
  tally_story y (more l d p) =
      omega (arith, y.adds d p.packet (summary W l), tally_story y l, total_append (λ q. y.each q.packet) (packets l) (p ∷ []))

  tally_flows : (y : Tally W) (l : List (R.Flow K)) → total (λ f. y.of f.held) (map (flow_s W) l) ≡ total (of_flow W (λ q. y.each q.packet)) l
  tally_flows y [] = refl
  tally_flows y (f ∷ fs) = omega (arith, tally_story y f.held, tally_flows y fs)

  tally_finished : (y : Tally W) (l : List (R.Finished K)) → total (λ f. y.of f.held) (map (finished_s W) l) ≡ total (of_finished W (λ q. y.each q.packet)) l
  tally_finished y [] = refl
  tally_finished y (f ∷ fs) = omega (arith, tally_story y f.held, tally_finished y fs)

  -- ## Each number once

  past : (i n : ℕ) (l : List K.Packet) → i < n → Counts W n l → total (is_number W i) l ≡ 0
  past i n [] h a = refl
  past i n (p ∷ l) h a = rw (ne_eqb p.number i (λ e. omega (arith, a.0))) (omega (arith, past i (suc n) l (omega arith) a.1))

  once : (i n : ℕ) (l : List K.Packet) → n ≤ i → i < n + length l → Counts W n l → total (is_number W i) l ≡ 1
  once i n [] h k a = omega arith
  once i n (p ∷ l) h k a = here (eqb p.number i) refl (λ q. once i (suc n) l q (omega arith) a.1)
    where
      here : (b : Bool) → eqb p.number i ≡ b → (suc n ≤ i → total (is_number W i) l ≡ 1) → cond b 1 0 + total (is_number W i) l ≡ 1
      here true e r = omega (arith, past i (suc n) l (omega (arith, eqb-true p.number i e, a.0)) a.1)
      here false e r =
          let other : (n ≡ i) → ⊥ = λ q. eqb-false p.number i e (a.0 ∙ q) in
          omega (arith, r (omega (arith, other)))

  tally_run : (y : Tally W) (r : Run K)
      → ((m : K.Packet → ℕ) → total (of_flow W m) r.engine.flows + total (of_finished W m) r.finished ≡ total m r.accepted)
      → tallied W y (run_s W r) ≡ total y.each (run_s W r).accepted
  tally_run y r h =
      omega (
        arith,
        tally_flows y r.engine.flows,
        tally_finished y r.finished,
        h (λ q. y.each q.packet),
        total_map y.each (λ (q : K.Packet). q.packet) r.accepted,
      )

  handed_out : (room : ℕ) (out : List (R.Finished K)) (e after : R.Engine K)
      → (R.handed K room out e after).refusal ≡ Accepted → (R.handed K room out e after).finished ≡ out
  handed_out room out e after =
      either (λ (x : R.Told K). x.refusal ≡ Accepted → x.finished ≡ out) (leb (R.sizes K out) room) (λ _. refl)
      (λ q. let z : ◌≡◌ {A = Refusal} Room Accepted = q in cc)

  clock_next : (s : Settings) → 0 < s.T → (w t : ℕ) (times : List ℕ) → w ≡ clock_after s 0 times → R.clock_at K s w t ≡ latest_of (times ++ (t ∷ []))
  clock_next s pos w t times h =
      rw (ne_eqb s.T 0 (omega arith)) (omega (arith, h, clock_latest s pos 0 times, latest_of-append times (t ∷ [])))

  swept_due : Timed W → (s : Settings) → 0 < s.T → (t : ℕ) (e : R.Engine K) (times : List ℕ) → e.clock ≡ clock_after s 0 times
      → map (finished_s W) (R.swept K s (R.clock_at K s e.clock t) e.flows) ≡ due_records W s (latest_of (times ++ (t ∷ []))) e.flows
  swept_due timed s pos t e times h =
      ap (λ (test : R.Flow K → Bool). map (finished_s W) (map (R.finish_or K IdleTimeout) (sort (R.by_end K) (those test e.flows))))
      (fun_ext (leaves_due timed s pos (R.clock_at K s e.clock t)))
      ∙ ap (λ (v : ℕ). due_records W s v e.flows) (clock_next s pos e.clock t times h)

  sweep_due : Timed W → (s : Settings) → 0 < s.T → (room t : ℕ) (e : R.Engine K) (times : List ℕ) → e.clock ≡ clock_after s 0 times
      → (R.sweep_at W s room t (engine_s W e)).refusal ≡ Accepted
      → (R.sweep_at W s room t (engine_s W e)).finished ≡ due_records W s (latest_of (times ++ (t ∷ []))) e.flows
  unfolding R.sweep_at
  sweep_due timed s pos room t e times h ok =
      let x = ledger_swept W s room t e in
      let w = R.clock_at K s e.clock t in
      let after : R.Engine K = record { clock = w; flows = R.staying K s w e.flows } in
      ap (λ (y : R.Told W). y.finished) x
      ∙ ap (map (finished_s W)) (handed_out room (R.swept K s w e.flows) e after (sym (ap (λ (y : R.Told W). y.refusal) x) ∙ ok))
      ∙ swept_due timed s pos t e times h

  at_most_one : (g : Option (R.Flow W)) (p : W.Packet) (t : R.Taker W) (f : R.Flow W)
      → length (R.ended W Fin g ++ R.ended_for W (R.ending W g p t) f) ≤ 1
  at_most_one (Some g) p t f = omega arith
  at_most_one None p t f = go (R.ending W None p t)
    where
      go : (r : Option EndReason) → length (R.ended_for W r f) ≤ 1
      go None = omega arith
      go (Some r) = omega arith

  packet_hands : (s : Settings) (room : ℕ) (p : W.Packet) (e : R.Engine W)
      → HandsOut W (R.swept W s (R.clock_at W s e.clock (W.time p)) e.flows) (R.one_packet W s room p e)
  unfolding R.one_packet
  packet_hands s room p e =
      let w = R.clock_at W s e.clock (W.time p) in
      let out = R.swept W s w e.flows in
      let fs = R.staying W s w e.flows in
      let g = R.reused W p fs in
      let l = R.apart W g fs in
      let t = R.taker W p l in
      either (HandsOut W out) (R.is_full W s l t) tt
      (either (HandsOut W out) (R.is_spent W p t) tt
      (either (HandsOut W out) (leb (R.sizes W (R.steps34 W s w out g p l t).finished) room)
      (R.ended W Fin g ++ R.ended_for W (R.ending W g p t) (R.taking W s p t), refl, at_most_one g p t (R.taking W s p t)) tt))

  packet_due : Timed W → (s : Settings) → 0 < s.T → (room : ℕ) (p : W.Packet) (e : R.Engine K) (times : List ℕ) → e.clock ≡ clock_after s 0 times
      → HandsOut W (due_records W s (latest_of (times ++ (W.time p ∷ []))) e.flows) (R.one_packet W s room p (engine_s W e))
  packet_due timed s pos room p e times h =
      subst (λ (out : List (R.Finished W)). HandsOut W out (R.one_packet W s room p (engine_s W e)))
      (swept_S W s (R.clock_at K s e.clock (W.time p)) e.flows ∙ swept_due timed s pos (W.time p) e times h)
      (packet_hands s room p (engine_s W e))

  -- ## The story that takes a packet is the one that the rules name

  kept_placed : (r : Option EndReason) (f : R.Flow K) (l : List (R.Flow K)) (out : List (R.Finished K))
      → In f (R.keeping K r f l) ⊎ ((x : EndReason) × In (R.finish K x f) (out ++ R.ended_for K r f))
  kept_placed None f l out = inl (in_insert (R.by_key K) f l)
  kept_placed (Some r) f l out = inr (r, (out, [], refl))

  packet_placed : (s : Settings) (room : ℕ) (p : K.Packet) (e : R.Engine K) → Placed W (R.taking K s p (named_taker W s p e)) (R.one_packet K s room p e)
  unfolding R.one_packet
  packet_placed s room p e =
      let w = R.clock_at K s e.clock (K.time p) in
      let out = R.swept K s w e.flows in
      let fs = R.staying K s w e.flows in
      let g = R.reused K p fs in
      let l = R.apart K g fs in
      let t = R.taker K p l in
      let f = R.taking K s p t in
      let r = R.ending K g p t in
      either (Placed W f) (R.is_full K s l t) tt
      (either (Placed W f) (R.is_spent K p t) tt
      (either (Placed W f) (leb (R.sizes K (R.steps34 K s w out g p l t).finished) room)
      (subst (λ (x : List (R.Finished K)). In f (R.keeping K r f (R.beside K t l)) ⊎ ((y : EndReason) × In (R.finish K y f) x))
      (append_assoc out (R.ended K Fin g) (R.ended_for K r f)) (kept_placed r f (R.beside K t l) (out ++ R.ended K Fin g))) tt))

  -- ## The third demand

  -- the engine's run and the chronicle of the same calls, from fresh
  module _ (s : Settings) (calls : List (Call W.Packet)) where
    pub demand : Demand W s calls
    demand =
        let h = kept W s calls (started K) (kept_blank W s) in
        let same : engine_run W s calls ≡ run_s W (ledger_run W s calls) = summarised W s calls (started K) in
        record {
          summaries = same;
          numbers = h.counts;
          open_in_order = h.open_below;
          finished_in_order = h.finished_below;
          exactly_one = λ i lt. h.conserved (is_number W i) ∙ once i 0 (ledger_run W s calls).accepted (omega arith) (omega arith) h.counts;
          placed = λ room p. packet_placed s room (next_one W s calls p) (ledger_run W s calls).engine;
          totals = λ y. subst⁻¹ (λ (r : Run W). tallied W y r ≡ total y.each r.accepted) same (tally_run y (ledger_run W s calls) h.conserved);
          clock = λ pos. subst⁻¹ (λ (r : Run W). r.engine.clock ≡ latest_of r.times) same (h.clock ∙ clock_latest s pos 0 (ledger_run W s calls).times ∙ omega arith);
          no_clock = λ z. subst⁻¹ (λ (r : Run W). r.engine.clock ≡ 0) same (h.clock ∙ clock_zero s z 0 (ledger_run W s calls).times);
          sweeps = λ timed pos room t.
              subst⁻¹ (λ (r : Run W). (R.sweep_at W s room t r.engine).refusal ≡ Accepted
              → (R.sweep_at W s room t r.engine).finished ≡ due_records W s (latest_of (r.times ++ (t ∷ []))) (ledger_run W s calls).engine.flows)
              same (sweep_due timed s pos room t (ledger_run W s calls).engine (ledger_run W s calls).times h.clock);
          packet_sweeps = λ timed pos room p.
              subst⁻¹ (λ (r : Run W). HandsOut W (due_records W s (latest_of (r.times ++ (W.time p ∷ []))) (ledger_run W s calls).engine.flows) (R.one_packet W s room p r.engine))
              same (packet_due timed s pos room p (ledger_run W s calls).engine (ledger_run W s calls).times h.clock);
        }
