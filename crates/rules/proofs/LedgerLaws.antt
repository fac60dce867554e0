-- The ledger: the same rules, where a flow holds the packets that it took, in order of acceptance, in place of a record.
-- The theorem `ledger_fed`, with those for sweep and drain: the engine is the ledger summarised. Assumes nothing.
use Rattle.std.specs.Prelude.{◌≡◌, refl, Bool, true, false, not, cond, ℕ, ◌-◌, suc, leb, length, None, Option, Some}
use Rattle.std.proofs.Common.{sym, ◌∙◌}
use Rattle.std.proofs.Math.Path.{ap}
use mathlib.Core.List.{List, [], ◌∷◌, ◌++◌, map}
use Rattle.rules.specs.Order.{at_most, equal, insert, sort, those}
use Rattle.flow.specs.declared.time.EndReason.{EndReason}
use Rattle.flow.specs.declared.time.EndReason.TheVariants.{IdleTimeout, CaptureEnd}
use Rattle.rules.specs.Rules.{Refusal, Full, Spent, Room, Terms, Settings}
use Rattle.rules.specs.Rules as R
use Rattle.rules.specs.Ledger.{summary, ledger, flow_s, finished_s, engine_s, told_s, bare}

-- ## Sorting, choosing and finding go through a map

cond_map : {A B : Type 0} (g : A → B) (b : Bool) (x y : A) → cond b (g x) (g y) ≡ g (cond b x y)
cond_map g true x y = refl
cond_map g false x y = refl

module _ {A B : Type 0} (g : A → B) where
  insert_map : (rank : B → List ℕ) (x : A) (l : List A) → insert rank (g x) (map g l) ≡ map g (insert (λ a. rank (g a)) x l)
  insert_map rank x [] = refl
  insert_map rank x (y ∷ ys) = rw (insert_map rank x ys) (cond_map (map g) (at_most (rank (g x)) (rank (g y))) _ _)

  sort_map : (rank : B → List ℕ) (l : List A) → sort rank (map g l) ≡ map g (sort (λ a. rank (g a)) l)
  sort_map rank [] = refl
  sort_map rank (x ∷ xs) = rw (sort_map rank xs) (insert_map rank x (sort (λ a. rank (g a)) xs))

  those_map : (test : B → Bool) (l : List A) → those test (map g l) ≡ map g (those (λ a. test (g a)) l)
  those_map test [] = refl
  those_map test (x ∷ xs) = rw (those_map test xs) (cond_map (map g) (test (g x)) _ _)

  pub map_append : (l m : List A) → map g l ++ map g m ≡ map g (l ++ m)
  map_append [] m = refl
  map_append (x ∷ xs) m = rw (map_append xs m)

map_map : {A B C : Type 0} (f : B → C) (g : A → B) (l : List A) → map f (map g l) ≡ map (λ a. f (g a)) l
map_map f g [] = refl
map_map f g (x ∷ xs) = ap {B = List _} (λ r. f (g x) ∷ r) (map_map f g xs)

length_of_map : {A B : Type 0} (g : A → B) (l : List A) → length (map g l) ≡ length l
length_of_map g [] = refl
length_of_map g (x ∷ xs) = ap suc (length_of_map g xs)

module _ (W : Terms) where
  abbrev M : Terms
  M = ledger W

  -- ## A flow, a record, a state and an answer, summarised

  abbrev option_s : Option (R.Flow M) → Option (R.Flow W)
  option_s None = None
  option_s (Some f) = Some (flow_s W f)

  abbrev taker_s : R.Taker M → R.Taker W
  taker_s (R.old d f) = R.old d (flow_s W f)
  taker_s R.new = R.new

  abbrev done_s : R.Done M → R.Done W
  done_s d = record { engine = engine_s W d.engine; finished = map (finished_s W) d.finished; opening = d.opening }

  abbrev answer_s : R.Answer M → R.Answer W
  answer_s (R.refused r) = R.refused r
  answer_s (R.done d) = R.done (done_s d)

  -- ## Each rule, summarised

  under_S : (k : List ℕ) (l : List (R.Flow M)) → R.under W k (map (flow_s W) l) ≡ option_s (R.under M k l)
  under_S k [] = refl
  under_S k (f ∷ fs) = rw (under_S k fs) (cond_map option_s (equal k (W.bytes f.name)) _ _)

  without_S : (k : List ℕ) (l : List (R.Flow M)) → R.without W k (map (flow_s W) l) ≡ map (flow_s W) (R.without M k l)
  without_S k [] = refl
  without_S k (f ∷ fs) = rw (without_S k fs) (cond_map (map (flow_s W)) (equal k (W.bytes f.name)) _ _)

  if_closed-S : (o : Option (R.Flow M)) → R.if_closed W (option_s o) ≡ option_s (R.if_closed M o)
  if_closed-S None = refl
  if_closed-S (Some f) = cond_map option_s (W.closed (summary W f.held)) (Some f) None

  or_else-S : (o q : Option (R.Flow M)) → R.or_else W (option_s o) (option_s q) ≡ option_s (R.or_else M o q)
  or_else-S None q = refl
  or_else-S (Some f) q = refl

  reused_S : (p : M.Packet) (l : List (R.Flow M)) → R.reused W p.packet (map (flow_s W) l) ≡ option_s (R.reused M p l)
  reused_S p l = simp (under_S, if_closed-S, or_else-S) (cond_map option_s (W.syn p.packet) _ _)

  apart_S : (o : Option (R.Flow M)) (l : List (R.Flow M)) → R.apart W (option_s o) (map (flow_s W) l) ≡ map (flow_s W) (R.apart M o l)
  apart_S None l = refl
  apart_S (Some f) l = without_S (R.by_key M f) l

  chosen_S : (o : Option (R.Flow M)) (a : Bool) (q : Option (R.Flow M)) → R.chosen W (option_s o) a (option_s q) ≡ taker_s (R.chosen M o a q)
  chosen_S (Some f) a q = refl
  chosen_S None true q = refl
  chosen_S None false (Some g) = refl
  chosen_S None false None = refl

  taker_S : (p : M.Packet) (l : List (R.Flow M)) → R.taker W p.packet (map (flow_s W) l) ≡ taker_s (R.taker M p l)
  taker_S p l =
      simp under_S
      (chosen_S (R.under M (R.key_of M p) l) (W.association (W.key p.packet)) (R.under M (R.reversed_of M p) l))

  beside_S : (t : R.Taker M) (l : List (R.Flow M)) → R.beside W (taker_s t) (map (flow_s W) l) ≡ map (flow_s W) (R.beside M t l)
  beside_S (R.old d f) l = without_S (R.by_key M f) l
  beside_S R.new l = refl

  taking_S : (s : Settings) (p : M.Packet) (t : R.Taker M) → R.taking W s p.packet (taker_s t) ≡ flow_s W (R.taking M s p t)
  taking_S s p (R.old d f) = refl
  taking_S s p R.new = refl

  ending_S : (o : Option (R.Flow M)) (p : M.Packet) (t : R.Taker M) → R.ending W (option_s o) p.packet (taker_s t) ≡ R.ending M o p t
  ending_S (Some g) p t = refl
  ending_S None p (R.old d f) = refl
  ending_S None p R.new = refl

  opens_S : (t : R.Taker M) → R.opens W (taker_s t) ≡ R.opens M t
  opens_S (R.old d f) = refl
  opens_S R.new = refl

  is_spent-S : (p : M.Packet) (t : R.Taker M) → R.is_spent W p.packet (taker_s t) ≡ R.is_spent M p t
  is_spent-S p (R.old d f) = refl
  is_spent-S p R.new = refl

  is_full-S : (s : Settings) (l : List (R.Flow M)) (t : R.Taker M) → R.is_full W s (map (flow_s W) l) (taker_s t) ≡ R.is_full M s l t
  is_full-S s l t = simp (opens_S, length_of_map)

  ended_S : (r : EndReason) (o : Option (R.Flow M)) → R.ended W r (option_s o) ≡ map (finished_s W) (R.ended M r o)
  ended_S r None = refl
  ended_S r (Some f) = refl

  ended_for-S : (r : Option EndReason) (f : R.Flow M) → R.ended_for W r (flow_s W f) ≡ map (finished_s W) (R.ended_for M r f)
  ended_for-S None f = refl
  ended_for-S (Some r) f = refl

  keeping_S : (r : Option EndReason) (f : R.Flow M) (l : List (R.Flow M)) → R.keeping W r (flow_s W f) (map (flow_s W) l) ≡ map (flow_s W) (R.keeping M r f l)
  keeping_S None f l = insert_map (flow_s W) (R.by_key W) f l
  keeping_S (Some r) f l = refl

  sizes_S : (l : List (R.Finished M)) → R.sizes W (map (finished_s W) l) ≡ R.sizes M l
  sizes_S [] = refl
  sizes_S (f ∷ fs) = rw (sizes_S fs)

  steps34_S : (s : Settings) (w : ℕ) (out : List (R.Finished M)) (g : Option (R.Flow M)) (p : M.Packet) (l : List (R.Flow M)) (t : R.Taker M)
      → R.steps34 W s w (map (finished_s W) out) (option_s g) p.packet (map (flow_s W) l) (taker_s t) ≡ done_s (R.steps34 M s w out g p l t)
  steps34_S s w out g p l t = simp (ending_S, taking_S, beside_S, keeping_S, ended_S, ended_for-S, map_append, opens_S)

  fitted_S : (room : ℕ) (d : R.Done M) → R.fitted W room (done_s d) ≡ answer_s (R.fitted M room d)
  fitted_S room d = simp sizes_S (cond_map answer_s (leb (R.sizes M d.finished) room) (R.done d) (R.refused Room))

  pick_S : (a b : Bool) (x : R.Answer M)
      → cond a (R.refused Full) (cond b (R.refused Spent) (answer_s x)) ≡ answer_s (cond a (R.refused Full) (cond b (R.refused Spent) x))
  pick_S true b x = refl
  pick_S false true x = refl
  pick_S false false x = refl

  steps234_S : (s : Settings) (room w : ℕ) (out : List (R.Finished M)) (g : Option (R.Flow M)) (p : M.Packet) (l : List (R.Flow M)) (t : R.Taker M)
      → R.steps234 W s room w (map (finished_s W) out) (option_s g) p.packet (map (flow_s W) l) (taker_s t) ≡ answer_s (R.steps234 M s room w out g p l t)
  steps234_S s room w out g p l t =
      (λ i. cond (is_full-S s l t i) (R.refused Full) (cond (is_spent-S p t i) (R.refused Spent) (R.fitted W room (steps34_S s w out g p l t i))))
      ∙ (λ i. cond (R.is_full M s l t) (R.refused Full) (cond (R.is_spent M p t) (R.refused Spent) (fitted_S room (R.steps34 M s w out g p l t) i)))
      ∙ pick_S (R.is_full M s l t) (R.is_spent M p t) (R.fitted M room (R.steps34 M s w out g p l t))

  steps1234_S : (s : Settings) (room w : ℕ) (out : List (R.Finished M)) (p : M.Packet) (l : List (R.Flow M)) (g : Option (R.Flow M))
      → R.steps1234 W s room w (map (finished_s W) out) p.packet (map (flow_s W) l) (option_s g) ≡ answer_s (R.steps1234 M s room w out p l g)
  steps1234_S s room w out p l g = simp (apart_S, taker_S) (steps234_S s room w out g p (R.apart M g l) (R.taker M p (R.apart M g l)))

  finishing_S : (r : EndReason) (l : List (R.Flow M)) → map (R.finish_or W r) (map (flow_s W) l) ≡ map (finished_s W) (map (R.finish_or M r) l)
  finishing_S r l = map_map (R.finish_or W r) (flow_s W) l ∙ sym (map_map (finished_s W) (R.finish_or M r) l)

  pub swept_S : (s : Settings) (w : ℕ) (l : List (R.Flow M)) → R.swept W s w (map (flow_s W) l) ≡ map (finished_s W) (R.swept M s w l)
  swept_S s w l =
      ap (λ (x : List (R.Flow W)). map (R.finish_or W IdleTimeout) (sort (R.by_end W) x)) (those_map (flow_s W) (R.leaves W s w) l)
      ∙ ap (map (R.finish_or W IdleTimeout)) (sort_map (flow_s W) (R.by_end W) (those (R.leaves M s w) l))
      ∙ finishing_S IdleTimeout (sort (R.by_end M) (those (R.leaves M s w) l))

  staying_S : (s : Settings) (w : ℕ) (l : List (R.Flow M)) → R.staying W s w (map (flow_s W) l) ≡ map (flow_s W) (R.staying M s w l)
  staying_S s w l = those_map (flow_s W) (λ f. not (R.leaves W s w f)) l

  pub one_packet-S : (s : Settings) (room : ℕ) (p : M.Packet) (e : R.Engine M)
      → R.one_packet W s room p.packet (engine_s W e) ≡ answer_s (R.one_packet M s room p e)
  unfolding R.one_packet
  one_packet-S s room p e =
      let w = R.clock_at M s e.clock (M.time p) in
      let fs = R.staying M s w e.flows in
      (λ i. R.steps1234 W s room w (swept_S s w e.flows i) p.packet (staying_S s w e.flows i) (R.reused W p.packet (staying_S s w e.flows i)))
      ∙ (λ i. R.steps1234 W s room w (map (finished_s W) (R.swept M s w e.flows)) p.packet (map (flow_s W) fs) (reused_S p fs i))
      ∙ steps1234_S s room w (R.swept M s w e.flows) p fs (R.reused M p fs)

  -- ## Calls, summarised

  stopped_S : (r : Refusal) (e : R.Engine M) → R.stopped W r (engine_s W e) ≡ told_s W (R.stopped M r e)
  stopped_S r e = refl

  onward_S : (d : R.Done M) (t : R.Told M) → R.onward W (done_s d) (told_s W t) ≡ told_s W (R.onward M d t)
  onward_S d t = simp map_append

  next_S : (a : R.Answer M) (e : R.Engine M) (f : R.Done W → R.Told W) (g : R.Done M → R.Told M)
      → ((d : R.Done M) → f (done_s d) ≡ told_s W (g d)) → R.next W (answer_s a) (engine_s W e) f ≡ told_s W (R.next M a e g)
  next_S (R.refused r) e f g h = stopped_S r e
  next_S (R.done d) e f g h = ap (R.onward W (done_s d)) (h d) ∙ onward_S d (g d)

  pub ledger_fed : (s : Settings) (room : ℕ) (ps : List M.Packet) (ends : Refusal) (e : R.Engine M)
      → R.feed_all W s room (bare W ps) ends (engine_s W e) ≡ told_s W (R.feed_all M s room ps ends e)
  unfolding R.feed_all
  ledger_fed s room [] ends e = stopped_S ends e
  ledger_fed s room (p ∷ ps) ends e =
      ap (λ (a : R.Answer W). R.next W a (engine_s W e) (λ d. R.feed_all W s (room - R.sizes W d.finished) (bare W ps) ends d.engine)) (one_packet-S s room p e)
      ∙ next_S (R.one_packet M s room p e) e
      (λ d. R.feed_all W s (room - R.sizes W d.finished) (bare W ps) ends d.engine)
      (λ d. R.feed_all M s (room - R.sizes M d.finished) ps ends d.engine)
      (λ d. ap (λ (n : ℕ). R.feed_all W s (room - n) (bare W ps) ends (engine_s W d.engine)) (sizes_S d.finished)
      ∙ ledger_fed s (room - R.sizes M d.finished) ps ends d.engine)

  handed_S : (room : ℕ) (out : List (R.Finished M)) (e after : R.Engine M)
      → R.handed W room (map (finished_s W) out) (engine_s W e) (engine_s W after) ≡ told_s W (R.handed M room out e after)
  handed_S room out e after = rw sizes_S (cond_map (told_s W) (leb (R.sizes M out) room) _ _)

  pub ledger_swept : (s : Settings) (room t : ℕ) (e : R.Engine M) → R.sweep_at W s room t (engine_s W e) ≡ told_s W (R.sweep_at M s room t e)
  unfolding R.sweep_at
  ledger_swept s room t e =
      let w = R.clock_at M s e.clock t in
      (λ i. R.handed W room (swept_S s w e.flows i) (engine_s W e) (record { clock = w; flows = staying_S s w e.flows i }))
      ∙ handed_S room (R.swept M s w e.flows) e (record { clock = w; flows = R.staying M s w e.flows })

  pub ledger_drained : (room : ℕ) (e : R.Engine M) → R.drain_all W room (engine_s W e) ≡ told_s W (R.drain_all M room e)
  unfolding R.drain_all
  ledger_drained room e =
      ap (λ (x : List (R.Finished W)). R.handed W room x (engine_s W e) (record { clock = e.clock; flows = [] }))
      (ap (map (R.finish_or W CaptureEnd)) (sort_map (flow_s W) (R.by_key W) e.flows) ∙ finishing_S CaptureEnd (sort (R.by_key M) e.flows))
      ∙ handed_S room (R.drained M e.flows) e (record { clock = e.clock; flows = [] })
