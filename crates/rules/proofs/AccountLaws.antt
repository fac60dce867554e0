-- What one packet, a batch, a sweep and a drain do to the ledger: nothing is lost, nothing counted twice, and the numbers of
-- each flow's packets ascend. Assumes nothing.
use Rattle.std.specs.Prelude.{◌≡◌, Bool, true, false, not, cond, ◌&&◌, ℕ, suc, ◌+◌, ◌-◌, ◌≤◌, eqb, leb, take, None, Option, Some}
use Rattle.std.proofs.Math.Path.{refl, subst}
use Rattle.std.proofs.Common.{ap, ◌∙◌, eqb-true}
use mathlib.Core.List.{List, [], ◌∷◌, ◌++◌, map}
use native.Mathlib.Omega.{arith}
use Rattle.rules.specs.Order.{equal, sort, those}
use Rattle.rules.specs.Totals.{total, All, either, total_append, total_insert, total_sort, total_those, total_map, all_append, all_insert, all_sort, all_those, all_map, all_more}
use Rattle.flow.specs.declared.time.EndReason.{EndReason}
use Rattle.flow.specs.declared.time.EndReason.TheVariants.{IdleTimeout, Fin, CaptureEnd}
use Rattle.rules.specs.Rules.{Refusal, Terms, Settings}
use Rattle.rules.specs.Rules as R
use Rattle.rules.specs.Ledger.{Numbered, Story, first, more, ledger}
use Rattle.rules.specs.Account.{Any, Inside, Under, Taking, packets, of_flow, of_finished, Conserved, Moved, Ascending, numbered, FlowBelow, FinishedBelow, Sorted, SortedTold, clock_after}

-- ## Finding by key bytes

and_left : (a b : Bool) → (a && b) ≡ true → a ≡ true
and_left true b e = refl
and_left false b e = e

and_right : (a b : Bool) → (a && b) ≡ true → b ≡ true
and_right true b e = e
and_right false b e = let z : ◌≡◌ {A = Bool} false true = e in cc

pub equal_true : (k l : List ℕ) → equal k l ≡ true → k ≡ l
equal_true [] [] e = refl
equal_true [] (y ∷ ys) e = cc
equal_true (x ∷ xs) [] e = cc
equal_true (x ∷ xs) (y ∷ ys) e =
    let h = eqb-true x y (and_left (eqb x y) (equal xs ys) e) in
    let t = equal_true xs ys (and_right (eqb x y) (equal xs ys) e) in
    cc

module _ (W : Terms) where
  pub under_is : (k : List ℕ) (l : List (R.Flow W)) → Any W (Under W k l) (R.under W k l)
  under_is k [] = tt
  under_is k (f ∷ fs) = go (equal k (R.by_key W f)) refl (R.under W k fs) (under_is k fs)
    where
      go : (b : Bool) → equal k (R.by_key W f) ≡ b → (o : Option (R.Flow W)) → Any W (Under W k fs) o
          → Any W (λ g. (k ≡ R.by_key W g) × ((m : R.Flow W → ℕ) → m g + total m (cond b fs (f ∷ R.without W k fs)) ≡ m f + total m fs)) (cond b (Some f) o)
      go true e o h = (equal_true k (R.by_key W f) e, λ m. refl)
      go false e None h = tt
      go false e (Some g) h = (h.0, λ m. omega (arith, h.1 m))

  pub inside_under : (k : List ℕ) (l : List (R.Flow W)) → Any W (Inside W l) (R.under W k l)
  inside_under k l = go (R.under W k l) (under_is k l)
    where
      go : (o : Option (R.Flow W)) → Any W (Under W k l) o → Any W (Inside W l) o
      go None h = tt
      go (Some f) h = λ m. subst (λ (b : List ℕ). m f + total m (R.without W b l) ≡ total m l) h.0 (h.1 m)

  any-if_closed : (P : R.Flow W → Type 0) (o : Option (R.Flow W)) → Any W P o → Any W P (R.if_closed W o)
  any-if_closed P None h = tt
  any-if_closed P (Some f) h = either (Any W P) (W.closed f.held) h tt

  any-or_else : (P : R.Flow W → Type 0) (o q : Option (R.Flow W)) → Any W P o → Any W P q → Any W P (R.or_else W o q)
  any-or_else P None q h k = k
  any-or_else P (Some f) q h k = h

  pub any_reused : (P : R.Flow W → Type 0) (p : W.Packet) (l : List (R.Flow W)) → ((k : List ℕ) → Any W P (R.under W k l)) → Any W P (R.reused W p l)
  any_reused P p l h =
      either (Any W P) (W.syn p)
      (any-or_else P (R.if_closed W (R.under W (R.key_of W p) l)) (R.if_closed W (R.under W (R.reversed_of W p) l))
      (any-if_closed P (R.under W (R.key_of W p) l) (h (R.key_of W p)))
      (any-if_closed P (R.under W (R.reversed_of W p) l) (h (R.reversed_of W p))))
      tt

  any_chosen : (P : R.Flow W → Type 0) (o : Option (R.Flow W)) (a : Bool) (q : Option (R.Flow W)) → Any W P o → Any W P q → Taking W P (R.chosen W o a q)
  any_chosen P (Some f) a q h k = h
  any_chosen P None true q h k = tt
  any_chosen P None false (Some g) h k = k
  any_chosen P None false None h k = tt

  any_taker : (P : R.Flow W → Type 0) (p : W.Packet) (l : List (R.Flow W)) → ((k : List ℕ) → Any W P (R.under W k l)) → Taking W P (R.taker W p l)
  any_taker P p l h =
      any_chosen P (R.under W (R.key_of W p) l) (W.association (W.key p)) (R.under W (R.reversed_of W p) l) (h (R.key_of W p)) (h (R.reversed_of W p))

-- ## Nothing is lost and nothing counted twice

module _ (W : Terms) where
  abbrev M : Terms
  M = ledger W

  module _ (m : M.Packet → ℕ) where
    abbrev of_option : Option (R.Flow M) → ℕ
    of_option None = 0
    of_option (Some f) = of_flow W m f

    abbrev of_taker : R.Taker M → ℕ
    of_taker (R.old d f) = of_flow W m f
    of_taker R.new = 0

    taking_total : (s : Settings) (p : M.Packet) (t : R.Taker M) → of_flow W m (R.taking M s p t) ≡ of_taker t + m p
    taking_total s p (R.old d f) = omega (arith, total_append m (packets f.held) (p ∷ []))
    taking_total s p R.new = omega arith

    apart_total : (o : Option (R.Flow M)) (l : List (R.Flow M)) → Any M (Inside M l) o → of_option o + total (of_flow W m) (R.apart M o l) ≡ total (of_flow W m) l
    apart_total None l h = omega arith
    apart_total (Some f) l h = h (of_flow W m)

    beside_total : (t : R.Taker M) (l : List (R.Flow M)) → Taking M (Inside M l) t → of_taker t + total (of_flow W m) (R.beside M t l) ≡ total (of_flow W m) l
    beside_total (R.old d f) l h = h (of_flow W m)
    beside_total R.new l h = omega arith

    ended_total : (r : EndReason) (o : Option (R.Flow M)) → total (of_finished W m) (R.ended M r o) ≡ of_option o
    ended_total r None = refl
    ended_total r (Some f) = omega arith

    -- the flow that took the packet stays, or ends
    kept_total : (r : Option EndReason) (f : R.Flow M) (l : List (R.Flow M))
        → total (of_flow W m) (R.keeping M r f l) + total (of_finished W m) (R.ended_for M r f) ≡ of_flow W m f + total (of_flow W m) l
    kept_total None f l = omega (arith, total_insert (of_flow W m) (R.by_key M) f l)
    kept_total (Some r) f l = omega arith

    swept_total : (s : Settings) (w : ℕ) (l : List (R.Flow M)) → total (of_finished W m) (R.swept M s w l) + total (of_flow W m) (R.staying M s w l) ≡ total (of_flow W m) l
    swept_total s w l =
        omega (
          arith,
          total_map (of_finished W m) (R.finish_or M IdleTimeout) (sort (R.by_end M) (those (R.leaves M s w) l)),
          total_sort (of_flow W m) (R.by_end M) (those (R.leaves M s w) l),
          total_those (of_flow W m) (R.leaves M s w) l,
        )

    drained_total : (l : List (R.Flow M)) → total (of_finished W m) (R.drained M l) ≡ total (of_flow W m) l
    drained_total l = total_map (of_finished W m) (R.finish_or M CaptureEnd) (sort (R.by_key M) l) ∙ total_sort (of_flow W m) (R.by_key M) l

    -- an unrefused answer leaves n in all, among open flows and finished records
    abbrev Balanced : ℕ → R.Answer M → Type 0
    Balanced n (R.refused r) = Unit {0}
    Balanced n (R.done d) = total (of_flow W m) d.engine.flows + total (of_finished W m) d.finished ≡ n

    steps34_total : (s : Settings) (w : ℕ) (out : List (R.Finished M)) (g : Option (R.Flow M)) (p : M.Packet) (l : List (R.Flow M)) (t : R.Taker M)
        → Taking M (Inside M l) t
        → Balanced (total (of_finished W m) out + of_option g + total (of_flow W m) l + m p) (R.done (R.steps34 M s w out g p l t))
    steps34_total s w out g p l t h =
        let r = R.ending M g p t in
        let f = R.taking M s p t in
        omega (
          arith,
          kept_total r f (R.beside M t l),
          taking_total s p t,
          beside_total t l h,
          ended_total Fin g,
          total_append (of_finished W m) out (R.ended M Fin g ++ R.ended_for M r f),
          total_append (of_finished W m) (R.ended M Fin g) (R.ended_for M r f),
        )

    steps234_total : (s : Settings) (room w : ℕ) (out : List (R.Finished M)) (g : Option (R.Flow M)) (p : M.Packet) (l : List (R.Flow M)) (t : R.Taker M)
        → Taking M (Inside M l) t
        → Balanced (total (of_finished W m) out + of_option g + total (of_flow W m) l + m p) (R.steps234 M s room w out g p l t)
    steps234_total s room w out g p l t h =
        let n = total (of_finished W m) out + of_option g + total (of_flow W m) l + m p in
        either (Balanced n) (R.is_full M s l t) tt
        (either (Balanced n) (R.is_spent M p t) tt
        (either (Balanced n) (leb (R.sizes M (R.steps34 M s w out g p l t).finished) room) (steps34_total s w out g p l t h) tt))

    pub packet_total : (s : Settings) (room : ℕ) (p : M.Packet) (e : R.Engine M) → Balanced (total (of_flow W m) e.flows + m p) (R.one_packet M s room p e)
    unfolding R.one_packet
    packet_total s room p e =
        let w = R.clock_at M s e.clock (M.time p) in
        let fs = R.staying M s w e.flows in
        let g = R.reused M p fs in
        let l = R.apart M g fs in
        let inside = any_reused M (Inside M fs) p fs (λ k. inside_under M k fs) in
        subst (λ (n : ℕ). Balanced n (R.one_packet M s room p e))
        (omega (arith, swept_total s w e.flows, apart_total g fs inside))
        (steps234_total s room w (R.swept M s w e.flows) g p l (R.taker M p l) (any_taker M (Inside M l) p l (λ k. inside_under M k l)))

    next_total : (p : M.Packet) (ps : List M.Packet) (e : R.Engine M) (a : R.Answer M) (rest : R.Done M → R.Told M)
        → Balanced (total (of_flow W m) e.flows + m p) a → ((d : R.Done M) → Conserved W m ps d.engine (rest d))
        → Conserved W m (p ∷ ps) e (R.next M a e rest)
    next_total p ps e (R.refused r) rest b h = omega arith
    next_total p ps e (R.done d) rest b h = omega (arith, b, h d, total_append (of_finished W m) d.finished (rest d).finished)

    pub fed_total : (s : Settings) (room : ℕ) (ps : List M.Packet) (ends : Refusal) (e : R.Engine M) → Conserved W m ps e (R.feed_all M s room ps ends e)
    unfolding R.feed_all
    fed_total s room [] ends e = omega arith
    fed_total s room (p ∷ ps) ends e =
        next_total p ps e (R.one_packet M s room p e) (λ d. R.feed_all M s (room - R.sizes M d.finished) ps ends d.engine)
        (packet_total s room p e) (λ d. fed_total s (room - R.sizes M d.finished) ps ends d.engine)

    pub sweep_total : (s : Settings) (room t : ℕ) (e : R.Engine M) → Moved W m e (R.sweep_at M s room t e)
    unfolding R.sweep_at
    sweep_total s room t e =
        let w = R.clock_at M s e.clock t in
        either (Moved W m e) (leb (R.sizes M (R.swept M s w e.flows)) room) (omega (arith, swept_total s w e.flows)) (omega arith)

    pub drain_total : (room : ℕ) (e : R.Engine M) → Moved W m e (R.drain_all M room e)
    unfolding R.drain_all
    drain_total room e =
        either (Moved W m e) (leb (R.sizes M (R.drained M e.flows)) room) (omega (arith, drained_total e.flows)) (omega arith)

-- ## The numbers of a flow's packets ascend

ascending_more : {P : Type 0} (n k : ℕ) (l : Story (Numbered P)) → n ≤ k → Ascending n l → Ascending k l
ascending_more n k (first r p) h a = omega arith
ascending_more n k (more l d p) h a = (omega (arith, a.0), a.1)

module _ (W : Terms) (P : R.Flow W → Type 0) where
  all_without : (k : List ℕ) (l : List (R.Flow W)) → All P l → All P (R.without W k l)
  all_without k [] a = tt
  all_without k (f ∷ fs) a = either (All P) (equal k (R.by_key W f)) a.1 (a.0, all_without k fs a.1)

  pub any_under : (l : List (R.Flow W)) → All P l → (k : List ℕ) → Any W P (R.under W k l)
  any_under [] a k = tt
  any_under (f ∷ fs) a k = either (Any W P) (equal k (R.by_key W f)) a.0 (any_under fs a.1 k)

  all_apart : (o : Option (R.Flow W)) (l : List (R.Flow W)) → All P l → All P (R.apart W o l)
  all_apart None l a = a
  all_apart (Some f) l a = all_without (R.by_key W f) l a

  all_beside : (t : R.Taker W) (l : List (R.Flow W)) → All P l → All P (R.beside W t l)
  all_beside (R.old d f) l a = all_without (R.by_key W f) l a
  all_beside R.new l a = a

  all_keeping : (r : Option EndReason) (f : R.Flow W) (l : List (R.Flow W)) → P f → All P l → All P (R.keeping W r f l)
  all_keeping None f l p a = all_insert P (R.by_key W) f l p a
  all_keeping (Some r) f l p a = a

module _ (W : Terms) where
  abbrev N : Terms
  N = ledger W

  abbrev SortedAnswer : ℕ → R.Answer N → Type 0
  SortedAnswer n (R.refused r) = Unit {0}
  SortedAnswer n (R.done d) = Sorted W n d.engine d.finished

  flows_more : (n k : ℕ) → n ≤ k → (l : List (R.Flow N)) → All (FlowBelow W n) l → All (FlowBelow W k) l
  flows_more n k h l a = all_more (FlowBelow W n) (FlowBelow W k) (λ f b. ascending_more n k f.held h b) l a

  pub finished_more : (n k : ℕ) → n ≤ k → (l : List (R.Finished N)) → All (FinishedBelow W n) l → All (FinishedBelow W k) l
  finished_more n k h l a = all_more (FinishedBelow W n) (FinishedBelow W k) (λ f b. ascending_more n k f.held h b) l a

  finishing_below : (n : ℕ) (r : EndReason) (l : List (R.Flow N)) → All (FlowBelow W n) l → All (FinishedBelow W n) (map (R.finish_or N r) l)
  finishing_below n r l a = all_map (FlowBelow W n) (FinishedBelow W n) (R.finish_or N r) (λ f b. b) l a

  swept_below : (n : ℕ) (s : Settings) (w : ℕ) (l : List (R.Flow N)) → All (FlowBelow W n) l → All (FinishedBelow W n) (R.swept N s w l)
  swept_below n s w l a =
      finishing_below n IdleTimeout (sort (R.by_end N) (those (R.leaves N s w) l))
      (all_sort (FlowBelow W n) (R.by_end N) (those (R.leaves N s w) l) (all_those (FlowBelow W n) (R.leaves N s w) l a))

  staying_below : (n : ℕ) (s : Settings) (w : ℕ) (l : List (R.Flow N)) → All (FlowBelow W n) l → All (FlowBelow W n) (R.staying N s w l)
  staying_below n s w l a = all_those (FlowBelow W n) (λ f. not (R.leaves N s w f)) l a

  drained_below : (n : ℕ) (l : List (R.Flow N)) → All (FlowBelow W n) l → All (FinishedBelow W n) (R.drained N l)
  drained_below n l a = finishing_below n CaptureEnd (sort (R.by_key N) l) (all_sort (FlowBelow W n) (R.by_key N) l a)

  taking_below : (s : Settings) (p : N.Packet) (t : R.Taker N) → Taking N (FlowBelow W p.number) t → FlowBelow W (suc p.number) (R.taking N s p t)
  taking_below s p (R.old d f) h = (omega arith, h)
  taking_below s p R.new h = omega arith

  ended_below : (n : ℕ) (r : EndReason) (o : Option (R.Flow N)) → Any N (FlowBelow W n) o → All (FinishedBelow W n) (R.ended N r o)
  ended_below n r None h = tt
  ended_below n r (Some f) h = (h, tt)

  ended_for-below : (n : ℕ) (r : Option EndReason) (f : R.Flow N) → FlowBelow W n f → All (FinishedBelow W n) (R.ended_for N r f)
  ended_for-below n None f h = tt
  ended_for-below n (Some r) f h = (h, tt)

  steps34_below : (s : Settings) (w : ℕ) (out : List (R.Finished N)) (g : Option (R.Flow N)) (p : N.Packet) (l : List (R.Flow N)) (t : R.Taker N)
      → All (FinishedBelow W p.number) out → Any N (FlowBelow W p.number) g → All (FlowBelow W p.number) l → Taking N (FlowBelow W p.number) t
      → SortedAnswer (suc p.number) (R.done (R.steps34 N s w out g p l t))
  steps34_below s w out g p l t ho hg hl ht =
      let n = p.number in
      let r = R.ending N g p t in
      let f = R.taking N s p t in
      let up : n ≤ suc n = omega arith in (
        all_keeping N (FlowBelow W (suc n)) r f (R.beside N t l) (taking_below s p t ht)
            (flows_more n (suc n) up (R.beside N t l) (all_beside N (FlowBelow W n) t l hl)),
        all_append (FinishedBelow W (suc n)) out (R.ended N Fin g ++ R.ended_for N r f) (finished_more n (suc n) up out ho)
            (all_append (FinishedBelow W (suc n)) (R.ended N Fin g) (R.ended_for N r f)
            (finished_more n (suc n) up (R.ended N Fin g) (ended_below n Fin g hg))
            (ended_for-below (suc n) r f (taking_below s p t ht))),
      )

  steps234_below : (s : Settings) (room w : ℕ) (out : List (R.Finished N)) (g : Option (R.Flow N)) (p : N.Packet) (l : List (R.Flow N)) (t : R.Taker N)
      → All (FinishedBelow W p.number) out → Any N (FlowBelow W p.number) g → All (FlowBelow W p.number) l → Taking N (FlowBelow W p.number) t
      → SortedAnswer (suc p.number) (R.steps234 N s room w out g p l t)
  steps234_below s room w out g p l t ho hg hl ht =
      let S = SortedAnswer (suc p.number) in
      either S (R.is_full N s l t) tt
      (either S (R.is_spent N p t) tt
      (either S (leb (R.sizes N (R.steps34 N s w out g p l t).finished) room) (steps34_below s w out g p l t ho hg hl ht) tt))

  pub packet_below : (s : Settings) (room : ℕ) (p : N.Packet) (e : R.Engine N) → All (FlowBelow W p.number) e.flows
      → SortedAnswer (suc p.number) (R.one_packet N s room p e)
  unfolding R.one_packet
  packet_below s room p e a =
      let n = p.number in
      let w = R.clock_at N s e.clock (N.time p) in
      let fs = R.staying N s w e.flows in
      let g = R.reused N p fs in
      let l = R.apart N g fs in
      let hfs = staying_below n s w e.flows a in
      let hl = all_apart N (FlowBelow W n) g fs hfs in
      steps234_below s room w (R.swept N s w e.flows) g p l (R.taker N p l)
      (swept_below n s w e.flows a)
      (any_reused N (FlowBelow W n) p fs (any_under N (FlowBelow W n) fs hfs))
      hl
      (any_taker N (FlowBelow W n) p l (any_under N (FlowBelow W n) l hl))

  next_below : (n : ℕ) (e : R.Engine N) (a : R.Answer N) (rest : R.Done N → R.Told N) → All (FlowBelow W n) e.flows
      → SortedAnswer (suc n) a → ((d : R.Done N) → All (FlowBelow W (suc n)) d.engine.flows → SortedTold W (suc n) (rest d))
      → SortedTold W n (R.next N a e rest)
  next_below n e (R.refused r) rest a b h = (flows_more n (n + 0) (omega arith) e.flows a, tt)
  next_below n e (R.done d) rest a b h =
      let t = rest d in
      let k = h d b.0 in
      let up : suc n ≤ n + suc t.taken = omega arith in
      let same : suc n + t.taken ≤ n + suc t.taken = omega arith in (
        flows_more (suc n + t.taken) (n + suc t.taken) same t.engine.flows k.0,
        all_append (FinishedBelow W (n + suc t.taken)) d.finished t.finished
            (finished_more (suc n) (n + suc t.taken) up d.finished b.1)
            (finished_more (suc n + t.taken) (n + suc t.taken) same t.finished k.1),
      )

  pub fed_below : (s : Settings) (room n : ℕ) (ps : List W.Packet) (ends : Refusal) (e : R.Engine N) → All (FlowBelow W n) e.flows
      → SortedTold W n (R.feed_all N s room (numbered n ps) ends e)
  unfolding R.feed_all
  fed_below s room n [] ends e a = (flows_more n (n + 0) (omega arith) e.flows a, tt)
  fed_below s room n (p ∷ ps) ends e a =
      let q : N.Packet = record { number = n; packet = p } in
      next_below n e (R.one_packet N s room q e) (λ d. R.feed_all N s (room - R.sizes N d.finished) (numbered (suc n) ps) ends d.engine) a
      (packet_below s room q e a) (λ d b. fed_below s (room - R.sizes N d.finished) (suc n) ps ends d.engine b)

  pub sweep_below : (s : Settings) (room t n : ℕ) (e : R.Engine N) → All (FlowBelow W n) e.flows
      → Sorted W n (R.sweep_at N s room t e).engine (R.sweep_at N s room t e).finished
  unfolding R.sweep_at
  sweep_below s room t n e a =
      let w = R.clock_at N s e.clock t in
      either (λ (x : R.Told N). Sorted W n x.engine x.finished) (leb (R.sizes N (R.swept N s w e.flows)) room)
      (staying_below n s w e.flows a, swept_below n s w e.flows a) (a, tt)

  pub drain_below : (room n : ℕ) (e : R.Engine N) → All (FlowBelow W n) e.flows
      → Sorted W n (R.drain_all N room e).engine (R.drain_all N room e).finished
  unfolding R.drain_all
  drain_below room n e a =
      either (λ (x : R.Told N). Sorted W n x.engine x.finished) (leb (R.sizes N (R.drained N e.flows)) room)
      (tt, drained_below n e.flows a) (a, tt)

-- ## The clock

module _ (W : Terms) where
  abbrev ClockAnswer : ℕ → R.Answer W → Type 0
  ClockAnswer w (R.refused r) = Unit {0}
  ClockAnswer w (R.done d) = d.engine.clock ≡ w

  packet_clock : (s : Settings) (room : ℕ) (p : W.Packet) (e : R.Engine W) → ClockAnswer (R.clock_at W s e.clock (W.time p)) (R.one_packet W s room p e)
  unfolding R.one_packet
  packet_clock s room p e =
      let w = R.clock_at W s e.clock (W.time p) in
      let fs = R.staying W s w e.flows in
      let g = R.reused W p fs in
      let l = R.apart W g fs in
      let t = R.taker W p l in
      either (ClockAnswer w) (R.is_full W s l t) tt
      (either (ClockAnswer w) (R.is_spent W p t) tt
      (either (ClockAnswer w) (leb (R.sizes W (R.steps34 W s w (R.swept W s w e.flows) g p l t).finished) room) refl tt))

  next_clock : (s : Settings) (p : W.Packet) (ps : List W.Packet) (e : R.Engine W) (a : R.Answer W) (rest : R.Done W → R.Told W)
      → ClockAnswer (R.clock_at W s e.clock (W.time p)) a
      → ((d : R.Done W) → (rest d).engine.clock ≡ clock_after s d.engine.clock (map W.time (take (rest d).taken ps)))
      → (R.next W a e rest).engine.clock ≡ clock_after s e.clock (map W.time (take (R.next W a e rest).taken (p ∷ ps)))
  next_clock s p ps e (R.refused r) rest b h = refl
  next_clock s p ps e (R.done d) rest b h = h d ∙ ap (λ (w : ℕ). clock_after s w (map W.time (take (rest d).taken ps))) b

  pub fed_clock : (s : Settings) (room : ℕ) (ps : List W.Packet) (ends : Refusal) (e : R.Engine W)
      → (R.feed_all W s room ps ends e).engine.clock ≡ clock_after s e.clock (map W.time (take (R.feed_all W s room ps ends e).taken ps))
  unfolding R.feed_all
  fed_clock s room [] ends e = refl
  fed_clock s room (p ∷ ps) ends e =
      next_clock s p ps e (R.one_packet W s room p e) (λ d. R.feed_all W s (room - R.sizes W d.finished) ps ends d.engine)
      (packet_clock s room p e) (λ d. fed_clock s (room - R.sizes W d.finished) ps ends d.engine)
