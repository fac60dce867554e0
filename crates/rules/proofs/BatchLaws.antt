-- A batch is its packets fed one by one, each with the room that is left: so every state inside a batch is one that calls reach, and
-- the third demand speaks of it; and a batch fed in two pieces is the batch fed in one. Assumes nothing.
use Rattle.std.specs.Prelude.{◌≡◌, Bool, cond, ℕ, suc, ◌+◌, ◌-◌, leb, length, take}
use Rattle.std.proofs.Math.Path.{refl, subst⁻¹}
use Rattle.std.proofs.Common.{sym, ap, ◌∙◌, arith}
use mathlib.Core.List.{List, [], ◌∷◌, ◌++◌, map, append_assoc, append-nil}
use Rattle.rules.specs.Totals.{either}
use Rattle.rules.specs.Rules.{Terms, Settings, Refusal, Accepted, number_of}
use Rattle.rules.specs.Rules as R
use Rattle.rules.specs.Demand.{feed, Run, fed, step}
use Rattle.rules.specs.Batch.{together, GoesOn}

module _ (W : Terms) where
  -- the first packet alone, and then the others
  split_told : (r : Run W) (p : W.Packet) (ps : List W.Packet) (d : R.Done W) (t : R.Told W)
      → fed W r (p ∷ ps) (R.onward W d t) ≡ fed W (fed W r (p ∷ []) (R.onward W d (R.stopped W Accepted d.engine))) ps t
  split_told r p ps d t =
      let finished : r.finished ++ (d.finished ++ t.finished) ≡ r.finished ++ (d.finished ++ []) ++ t.finished =
      sym (append_assoc r.finished d.finished t.finished) ∙ ap {B = List (R.Finished W)} (λ l. r.finished ++ l ++ t.finished) (sym (append-nil d.finished)) in
      let accepted : r.accepted ++ (p ∷ take t.taken ps) ≡ r.accepted ++ (p ∷ []) ++ take t.taken ps =
      sym (append_assoc r.accepted (p ∷ []) (take t.taken ps)) in
      let times : r.times ++ (W.time p ∷ map W.time (take t.taken ps)) ≡ r.times ++ (W.time p ∷ []) ++ map W.time (take t.taken ps) =
      sym (append_assoc r.times (W.time p ∷ []) (map W.time (take t.taken ps))) in
      λ i. record { engine = t.engine; finished = finished i; accepted = accepted i; times = times i }

  pub batch_splits : (s : Settings) (room : ℕ) (p : W.Packet) (ps : List W.Packet) (ends : Refusal) (r : Run W) (d : R.Done W)
      → R.one_packet W s room p r.engine ≡ R.done d
      → step W s (feed room (p ∷ ps) ends) r ≡ step W s (feed (room - R.sizes W d.finished) ps ends) (step W s (feed room (p ∷ []) Accepted) r)
  unfolding R.feed_all
  batch_splits s room p ps ends r d h =
      let rest : R.Done W → R.Told W = λ x. R.feed_all W s (room - R.sizes W x.finished) ps ends x.engine in
      let alone : R.Done W → R.Told W = λ x. R.stopped W Accepted x.engine in
      subst⁻¹ (λ (a : R.Answer W). fed W r (p ∷ ps) (R.next W a r.engine rest)
      ≡ step W s (feed (room - R.sizes W d.finished) ps ends) (fed W r (p ∷ []) (R.next W a r.engine alone))) h
      (split_told r p ps d (rest d))

  -- ## A batch in two pieces

  pub sizes_both : (a b : List (R.Finished W)) → R.sizes W (a ++ b) ≡ R.sizes W a + R.sizes W b
  sizes_both [] b = omega arith
  sizes_both (f ∷ a) b = omega (arith, sizes_both a b)

  -- what was refused first is met again
  stopped_first : (s : Settings) (room : ℕ) (ps qs : List W.Packet) (ends : Refusal) (e : R.Engine W) (why : Refusal)
      → GoesOn W s room ps qs ends e (R.stopped W why e)
  stopped_first s room ps qs ends e why =
      let none : room ≡ room - 0 = omega arith in
      same (R.feed_all W s room qs ends e) ∙ ap (λ (n : ℕ). together W (R.stopped W why e) (R.feed_all W s n qs ends e)) none
    where
      same : (u : R.Told W) → u ≡ together W (R.stopped W why e) u
      same u = let a : u.taken ≡ 0 + u.taken = omega arith in let b : u.opens ≡ 0 + u.opens = omega arith in
          λ i. record { refusal = u.refusal; taken = a i; opens = b i; finished = u.finished; engine = u.engine }

  onward_first : (d : R.Done W) (t u : R.Told W) → R.onward W d (together W t u) ≡ together W (R.onward W d t) u
  onward_first d t u =
      let a : suc (t.taken + u.taken) ≡ suc t.taken + u.taken = omega arith in
      let b : cond d.opening 1 0 + (t.opens + u.opens) ≡ cond d.opening 1 0 + t.opens + u.opens = omega arith in
      let c : d.finished ++ (t.finished ++ u.finished) ≡ (d.finished ++ t.finished) ++ u.finished =
      sym (append_assoc d.finished t.finished u.finished) in
      λ i. record { refusal = u.refusal; taken = a i; opens = b i; finished = c i; engine = u.engine }

  pub goes_on : (s : Settings) (room : ℕ) (ps qs : List W.Packet) (first ends : Refusal) (e : R.Engine W)
      → GoesOn W s room ps qs ends e (R.feed_all W s room ps first e)
  unfolding R.feed_all
  goes_on s room [] qs first ends e = stopped_first s room [] qs ends e first
  goes_on s room (p ∷ ps) qs first ends e =
      go (R.one_packet W s room p e) refl (λ d. goes_on s (room - R.sizes W d.finished) ps qs first ends d.engine)
    where
      rest : R.Done W → R.Told W
      rest d = R.feed_all W s (room - R.sizes W d.finished) ps first d.engine

      go : (a : R.Answer W) → R.one_packet W s room p e ≡ a
          → ((d : R.Done W) → GoesOn W s (room - R.sizes W d.finished) ps qs ends d.engine (rest d))
          → GoesOn W s room (p ∷ ps) qs ends e (R.next W a e rest)
      go (R.refused why) q more = stopped_first s room (p ∷ ps) qs ends e why
      go (R.done d) q more =
          let left : room - R.sizes W d.finished - R.sizes W (rest d).finished ≡ room - R.sizes W (d.finished ++ (rest d).finished) =
          omega (arith, sizes_both d.finished (rest d).finished) in
          let both : R.Done W → R.Told W = λ x. R.feed_all W s (room - R.sizes W x.finished) (take (rest d).taken ps ++ qs) ends x.engine in
          ap (λ (a : R.Answer W). R.next W a e both) q
          ∙ ap (R.onward W d) (more d)
          ∙ ap (λ (n : ℕ). R.onward W d (together W (rest d) (R.feed_all W s n qs ends (rest d).engine))) left
          ∙ onward_first d (rest d) (R.feed_all W s (room - R.sizes W (d.finished ++ (rest d).finished)) qs ends (rest d).engine)

  -- no more are taken than there are
  pub taken_most : (s : Settings) (room : ℕ) (ps : List W.Packet) (ends : Refusal) (e : R.Engine W)
      → length (take (R.feed_all W s room ps ends e).taken ps) ≡ (R.feed_all W s room ps ends e).taken
  unfolding R.feed_all
  taken_most s room [] ends e = refl
  taken_most s room (p ∷ ps) ends e = go (R.one_packet W s room p e) (λ d. taken_most s (room - R.sizes W d.finished) ps ends d.engine)
    where
      rest : R.Done W → R.Told W
      rest d = R.feed_all W s (room - R.sizes W d.finished) ps ends d.engine

      go : (a : R.Answer W) → ((d : R.Done W) → length (take (rest d).taken ps) ≡ (rest d).taken)
          → length (take (R.next W a e rest).taken (p ∷ ps)) ≡ (R.next W a e rest).taken
      go (R.refused why) more = refl
      go (R.done d) more = ap suc (more d)

  -- a packet is never refused with 0
  abbrev SaysWhy : R.Answer W → Type 0
  SaysWhy (R.refused why) = number_of why ≡ 0 → ⊥
  SaysWhy (R.done d) = Unit {0}

  says_why : (s : Settings) (room : ℕ) (p : W.Packet) (e : R.Engine W) → SaysWhy (R.one_packet W s room p e)
  unfolding R.one_packet
  says_why s room p e =
      let w = R.clock_at W s e.clock (W.time p) in
      let fs = R.staying W s w e.flows in
      let g = R.reused W p fs in
      let t = R.taker W p (R.apart W g fs) in
      go (R.is_full W s (R.apart W g fs) t) (R.is_spent W p t) (R.steps34 W s w (R.swept W s w e.flows) g p (R.apart W g fs) t)
    where
      go : (full spent : Bool) (d : R.Done W) → SaysWhy (cond full (R.refused R.Full) (cond spent (R.refused R.Spent) (R.fitted W room d)))
      go full spent d =
          either SaysWhy full (λ z. omega arith)
          (either SaysWhy spent (λ z. omega arith) (either SaysWhy (leb (R.sizes W d.finished) room) tt (λ z. omega arith)))

  -- a batch that is not refused is taken whole, to its empty end
  pub taken_whole : (s : Settings) (room : ℕ) (ps : List W.Packet) (ends : Refusal) (e : R.Engine W)
      → number_of (R.feed_all W s room ps ends e).refusal ≡ 0
      → ((R.feed_all W s room ps ends e).taken ≡ length ps) × (number_of ends ≡ 0)
  unfolding R.feed_all
  taken_whole s room [] ends e z = (refl, z)
  taken_whole s room (p ∷ ps) ends e z =
      go (R.one_packet W s room p e) (says_why s room p e) z (λ d. taken_whole s (room - R.sizes W d.finished) ps ends d.engine)
    where
      rest : R.Done W → R.Told W
      rest d = R.feed_all W s (room - R.sizes W d.finished) ps ends d.engine

      go : (a : R.Answer W) → SaysWhy a → number_of (R.next W a e rest).refusal ≡ 0
          → ((d : R.Done W) → number_of (rest d).refusal ≡ 0 → ((rest d).taken ≡ length ps) × (number_of ends ≡ 0))
          → ((R.next W a e rest).taken ≡ length (p ∷ ps)) × (number_of ends ≡ 0)
      go (R.refused why) n z more = absurd (n z)
      go (R.done d) n z more = (ap suc (more d z).0, (more d z).1)
