-- No call turns a sound state unsound: no key twice, no flow under another's reversed key (associations apart), never more flows
-- than the capacity, and every flow's record sound. Assumes nothing.
use Rattle.std.specs.Prelude.{◌≡◌, refl, Bool, true, false, cond, ℕ, suc, ◌+◌, ◌-◌, ◌*◌, ◌≤◌, leb, None, Option, Some}
use Rattle.std.proofs.Common.{sym, ◌∙◌, leb-false, le-leb}
use Rattle.std.proofs.Math.Path.{ap, subst}
use Rattle.std.proofs.Math.Bool.{not}
use mathlib.Core.List.{List, [], ◌∷◌, ◌++◌, map}
use native.Mathlib.Omega.{arith}
use Rattle.std.proofs.Math.ListN.{length, length-append}
use Rattle.std.proofs.lemmas.List.{length-map}
use Rattle.std.proofs.Math.Nat.{mul-le-mul_right}
use Rattle.rules.specs.Order.{at_most, equal, insert, sort, those}
use Rattle.rules.specs.Totals.{total, All, either, total_sort, total_those, all_append, all_insert, all_sort, all_those, all_map, all_more}
use Rattle.rules.proofs.OrderLaws.{clash, equal_sym, equal_false}
use Rattle.rules.specs.Account.{Any}
use Rattle.rules.proofs.AccountLaws.{equal_true, any_under, any_reused}
use Rattle.flow.specs.declared.time.EndReason.{EndReason}
use Rattle.flow.specs.declared.time.EndReason.TheVariants.{IdleTimeout, Fin, CaptureEnd}
use Rattle.rules.specs.Rules.{Refusal, Room, number_of, Terms, Settings}
use Rattle.rules.specs.Rules as R
use Rattle.rules.specs.Demand.{Call, feed, sweep, drain, Run, step, run}
use Rattle.rules.specs.Sound.{KeyLaws, TwoWay, HeldLaws, FedInRange, NotRoom, Pairs, turned, Unturned, Clear, Fine, FineRecord, Flows, FineAnswer, FineTold, FineRun}

-- ## Pairs of a list

module _ {A : Type 0} (C : A → A → Type 0) where
  pairs_those : (test : A → Bool) (l : List A) → Pairs C l → Pairs C (those test l)
  pairs_those test [] a = tt
  pairs_those test (x ∷ l) a = either (Pairs C) (test x) (all_those (C x) test l a.0, pairs_those test l a.1) (pairs_those test l a.1)

  pairs_insert : ((x y : A) → C x y → C y x) → (rank : A → List ℕ) (x : A) (l : List A) → All (C x) l → Pairs C l → Pairs C (insert rank x l)
  pairs_insert flip rank x [] a b = (tt, tt)
  pairs_insert flip rank x (y ∷ l) a b =
      either (Pairs C) (at_most (rank x) (rank y)) (a, b)
      (all_insert (C y) rank x l (flip x y a.0) b.0, pairs_insert flip rank x l a.1 b.1)

module _ (W : Terms) where
  pub clear_flip : (f g : R.Flow W) → Clear W f g → Clear W g f
  clear_flip f g c = (equal_sym (R.by_key W f) (R.by_key W g) false c.0, c.2, c.1)

  -- ## The flow under a key, and the others

  all_out : (P : R.Flow W → Type 0) (k : List ℕ) (l : List (R.Flow W)) → All P l → All P (R.without W k l)
  all_out P k [] a = tt
  all_out P k (f ∷ l) a = either (All P) (equal k (R.by_key W f)) a.1 (a.0, all_out P k l a.1)

  pairs_out : (k : List ℕ) (l : List (R.Flow W)) → Pairs (Clear W) l → Pairs (Clear W) (R.without W k l)
  pairs_out k [] a = tt
  pairs_out k (f ∷ l) a = either (Pairs (Clear W)) (equal k (R.by_key W f)) a.1 (all_out (Clear W f) k l a.0, pairs_out k l a.1)

  -- f is in l, clear of the others, and one of as many as l has
  abbrev Found : List ℕ → List (R.Flow W) → R.Flow W → Type 0
  Found k l f = (k ≡ R.by_key W f) × All (Clear W f) (R.without W k l) × (suc (length (R.without W k l)) ≡ length l)

  found : (k : List ℕ) (l : List (R.Flow W)) → Pairs (Clear W) l → Any W (Found k l) (R.under W k l)
  found k [] a = tt
  found k (f ∷ l) a = go (equal k (R.by_key W f)) refl (R.under W k l) (found k l a.1) (any_under W (Clear W f) l a.0 k)
    where
      go : (b : Bool) → equal k (R.by_key W f) ≡ b → (o : Option (R.Flow W)) → Any W (Found k l) o → Any W (Clear W f) o
          → Any W (λ g. (k ≡ R.by_key W g) × All (Clear W g) (cond b l (f ∷ R.without W k l)) × (suc (length (cond b l (f ∷ R.without W k l))) ≡ suc (length l)))
          (cond b (Some f) o)
      go true e o h c = (equal_true k (R.by_key W f) e, a.0, refl)
      go false e None h c = tt
      go false e (Some g) h c = (h.0, (clear_flip f g c, h.1), ap suc h.2)

  abbrev Member : List (R.Flow W) → R.Flow W → Type 0
  Member l f = Found (R.by_key W f) l f

  member : (l : List (R.Flow W)) → Pairs (Clear W) l → (k : List ℕ) → Any W (Member l) (R.under W k l)
  member l a k = go (R.under W k l) (found k l a)
    where
      go : (o : Option (R.Flow W)) → Any W (Found k l) o → Any W (Member l) o
      go None h = tt
      go (Some f) h = subst (λ (b : List ℕ). Found b l f) h.0 h

  -- no flow has the key
  absent : (k : List ℕ) (l : List (R.Flow W)) → R.under W k l ≡ None → All (λ g. equal k (R.by_key W g) ≡ false) l
  absent k [] e = tt
  absent k (f ∷ l) e = go (equal k (R.by_key W f)) refl (absent k l) e
    where
      go : (b : Bool) → equal k (R.by_key W f) ≡ b → (R.under W k l ≡ None → All (λ g. equal k (R.by_key W g) ≡ false) l)
          → cond b (Some f) (R.under W k l) ≡ None → (equal k (R.by_key W f) ≡ false) × All (λ g. equal k (R.by_key W g) ≡ false) l
      go true h rest q = absurd (let z : ◌≡◌ {A = ℕ} 0 1 = cc in omega arith)
      go false h rest q = (h, rest q)

  keyed : (l : List (R.Flow W)) → Pairs (Clear W) l → (k : List ℕ) → Any W (λ f. k ≡ R.by_key W f) (R.under W k l)
  keyed l a k = go (R.under W k l) (found k l a)
    where
      go : (o : Option (R.Flow W)) → Any W (Found k l) o → Any W (λ f. k ≡ R.by_key W f) o
      go None h = tt
      go (Some f) h = h.0

  module _ (Ranged : W.Key → Type 0) (laws : KeyLaws W Ranged) where
    abbrev Named : R.Flow W → Type 0
    Named f = Ranged f.name

    -- a flow that opens is clear of all others
    new_clear : (f : R.Flow W) → Named f → (l : List (R.Flow W)) → All Named l → All (λ g. equal (R.by_key W f) (R.by_key W g) ≡ false) l
        → (W.association f.name ≡ false → All (λ g. equal (turned W f) (R.by_key W g) ≡ false) l) → All (Clear W f) l
    new_clear f r [] n a b = tt
    new_clear f r (g ∷ l) n a b = ((a.0, back, λ o. (b o).0), new_clear f r l n.1 a.1 (λ o. (b o).1))
      where
        back : Unturned W f g
        back o = go (equal (turned W g) (R.by_key W f)) refl
          where
            go : (c : Bool) → equal (turned W g) (R.by_key W f) ≡ c → c ≡ false
            go true e =
                let same = equal_true (turned W g) (R.by_key W f) e in
                let q = (b (sym (laws.kind g.name f.name n.0 r same) ∙ o)).0 in
                absurd (equal_false (turned W f) (R.by_key W g) q (laws.turn g.name f.name n.0 r same))
            go false e = refl

    -- ## One packet

    module _ (InRange : W.Packet → Type 0) (Good : W.Key → W.Held → Type 0) (held : HeldLaws W Ranged InRange Good) (s : Settings) where
      names : (l : List (R.Flow W)) → All (Fine W Good) l → All Named l
      names l a = all_more (Fine W Good) Named (λ f g. held.named f.name f.held g) l a

      -- the flow that takes the packet is one of the others', or opens clear of them
      abbrev Fit : W.Packet → List (R.Flow W) → R.Taker W → Type 0
      Fit p l (R.old d f) = Member l f × Fine W Good f × TwoWay d (W.association f.name)
      Fit p l R.new = All (Clear W (R.taking W s p R.new)) l

      fit : (p : W.Packet) → InRange p → (l : List (R.Flow W)) → Pairs (Clear W) l → All (Fine W Good) l → Fit p l (R.taker W p l)
      fit p ok l a g =
          go (R.under W (R.key_of W p) l) refl (member l a (R.key_of W p)) (any_under W (Fine W Good) l g (R.key_of W p)) (W.association (W.key p)) refl
          (R.under W (R.reversed_of W p) l) refl (member l a (R.reversed_of W p)) (any_under W (Fine W Good) l g (R.reversed_of W p)) (keyed l a (R.reversed_of W p))
        where
          opened : All (λ x. equal (R.key_of W p) (R.by_key W x) ≡ false) l
              → (W.association (W.key p) ≡ false → All (λ x. equal (R.reversed_of W p) (R.by_key W x) ≡ false) l) → All (Clear W (R.taking W s p R.new)) l
          opened b c = new_clear (R.taking W s p R.new) (held.ranged p ok) l (names l g) b c

          go : (o : Option (R.Flow W)) → R.under W (R.key_of W p) l ≡ o → Any W (Member l) o → Any W (Fine W Good) o → (b : Bool) → W.association (W.key p) ≡ b
              → (q : Option (R.Flow W)) → R.under W (R.reversed_of W p) l ≡ q → Any W (Member l) q → Any W (Fine W Good) q → Any W (λ f. R.reversed_of W p ≡ R.by_key W f) q
              → Fit p l (R.chosen W o b q)
          go (Some f) e m h b k q e' m' h' z = (m, h, tt)
          go None e m h true k q e' m' h' z = opened (absent (R.key_of W p) l e) (λ n. clash k n)
          go None e m h false k (Some f) e' m' h' z =
              (m', h', sym (laws.kind (W.key p) f.name (held.ranged p ok) (held.named f.name f.held h') z) ∙ k)
          go None e m h false k None e' m' h' z = opened (absent (R.key_of W p) l e) (λ n. absent (R.reversed_of W p) l e')

      length_insert : (f : R.Flow W) (l : List (R.Flow W)) → length (insert (R.by_key W) f l) ≡ suc (length l)
      length_insert f [] = refl
      length_insert f (g ∷ l) =
          either (λ (m : List (R.Flow W)). length m ≡ suc (suc (length l))) (at_most (R.by_key W f) (R.by_key W g)) refl (ap suc (length_insert f l))

      length_without : (k : List ℕ) (l : List (R.Flow W)) → length (R.without W k l) ≤ length l
      length_without k [] = omega arith
      length_without k (f ∷ l) =
          either (λ (m : List (R.Flow W)). length m ≤ suc (length l)) (equal k (R.by_key W f)) (omega arith) (omega (arith, length_without k l))

      length_those : (test : R.Flow W → Bool) (l : List (R.Flow W)) → length (those test l) ≤ length l
      length_those test [] = omega arith
      length_those test (f ∷ l) =
          either (λ (m : List (R.Flow W)). length m ≤ suc (length l)) (test f) (omega (arith, length_those test l)) (omega (arith, length_those test l))

      flows_those : (test : R.Flow W → Bool) (l : List (R.Flow W)) → Flows W Good s l → Flows W Good s (those test l)
      flows_those test l a = (pairs_those (Clear W) test l a.0, all_those (Fine W Good) test l a.1, omega (arith, length_those test l, a.2))

      flows_without : (k : List ℕ) (l : List (R.Flow W)) → Flows W Good s l → Flows W Good s (R.without W k l)
      flows_without k l a = (pairs_out k l a.0, all_out (Fine W Good) k l a.1, omega (arith, length_without k l, a.2))

      flows_apart : (o : Option (R.Flow W)) (l : List (R.Flow W)) → Flows W Good s l → Flows W Good s (R.apart W o l)
      flows_apart None l a = a
      flows_apart (Some f) l a = flows_without (R.by_key W f) l a

      -- the flow that took the packet is fine
      taking_fine : (p : W.Packet) → InRange p → (l : List (R.Flow W)) (t : R.Taker W) → Fit p l t → R.is_spent W p t ≡ false → Fine W Good (R.taking W s p t)
      taking_fine p ok l (R.old d f) h spent = held.counts d p f.name f.held ok h.1 h.2 spent
      taking_fine p ok l R.new h spent = held.begins s.resolution p ok

      -- .. in its place
      flows_taken : (p : W.Packet) (l : List (R.Flow W)) (t : R.Taker W) → Flows W Good s l → Fit p l t → R.is_full W s l t ≡ false → Fine W Good (R.taking W s p t)
          → Flows W Good s (insert (R.by_key W) (R.taking W s p t) (R.beside W t l)) × Flows W Good s (R.beside W t l)
      flows_taken p l (R.old d f) a h full fine =
          let rest = R.without W (R.by_key W f) l in
          let g = R.taking W s p (R.old d f) in
          let out = flows_without (R.by_key W f) l a in (
            (
              pairs_insert (Clear W) clear_flip (R.by_key W) g rest h.0.1 out.0,
              all_insert (Fine W Good) (R.by_key W) g rest fine out.1,
              omega (arith, length_insert g rest, h.0.2, a.2),
            ),
            out,
          )
      flows_taken p l R.new a h full fine =
          let g = R.taking W s p R.new in (
            (
              pairs_insert (Clear W) clear_flip (R.by_key W) g l h a.0,
              all_insert (Fine W Good) (R.by_key W) g l fine a.1,
              omega (arith, length_insert g l, leb-false s.capacity (length l) full),
            ),
            a,
          )

      flows_keeping : (r : Option EndReason) (f : R.Flow W) (l : List (R.Flow W)) → Flows W Good s (insert (R.by_key W) f l) → Flows W Good s l → Flows W Good s (R.keeping W r f l)
      flows_keeping None f l a b = a
      flows_keeping (Some r) f l a b = b

      -- ## The records that are handed out

      finishing : (r : EndReason) (l : List (R.Flow W)) → All (Fine W Good) l → All (FineRecord W Good) (map (R.finish_or W r) l)
      finishing r l a = all_map (Fine W Good) (FineRecord W Good) (R.finish_or W r) (λ f g. g) l a

      swept_fine : (w : ℕ) (l : List (R.Flow W)) → All (Fine W Good) l → All (FineRecord W Good) (R.swept W s w l)
      swept_fine w l a =
          finishing IdleTimeout (sort (R.by_end W) (those (R.leaves W s w) l))
          (all_sort (Fine W Good) (R.by_end W) (those (R.leaves W s w) l) (all_those (Fine W Good) (R.leaves W s w) l a))

      drained_fine : (l : List (R.Flow W)) → All (Fine W Good) l → All (FineRecord W Good) (R.drained W l)
      drained_fine l a = finishing CaptureEnd (sort (R.by_key W) l) (all_sort (Fine W Good) (R.by_key W) l a)

      ended_fine : (r : EndReason) (o : Option (R.Flow W)) → Any W (Fine W Good) o → All (FineRecord W Good) (R.ended W r o)
      ended_fine r None h = tt
      ended_fine r (Some f) h = (h, tt)

      ended_for-fine : (r : Option EndReason) (f : R.Flow W) → Fine W Good f → All (FineRecord W Good) (R.ended_for W r f)
      ended_for-fine None f h = tt
      ended_for-fine (Some r) f h = (h, tt)

      -- whichever way a test goes, knowing which
      cases : {A : Type 0} (P : A → Type 0) (b : Bool) {x y : A} → (b ≡ true → P x) → (b ≡ false → P y) → P (cond b x y)
      cases P true f g = f refl
      cases P false f g = g refl

      module _ (room : ℕ) (p : W.Packet) (ok : InRange p) (e : R.Engine W) (a : Flows W Good s e.flows) where
        abbrev w : ℕ
        w = R.clock_at W s e.clock (W.time p)

        abbrev fs : List (R.Flow W)
        fs = R.staying W s w e.flows

        abbrev g : Option (R.Flow W)
        g = R.reused W p fs

        abbrev l : List (R.Flow W)
        l = R.apart W g fs

        abbrev t : R.Taker W
        t = R.taker W p l

        abbrev d : R.Done W
        d = R.steps34 W s w (R.swept W s w e.flows) g p l t

        stays : Flows W Good s fs
        stays = flows_those (λ f. not (R.leaves W s w f)) e.flows a

        left : Flows W Good s l
        left = flows_apart g fs stays

        -- what a packet that is neither Full nor Spent leaves open and hands out
        pub done_fine : R.is_full W s l t ≡ false → R.is_spent W p t ≡ false → Flows W Good s d.engine.flows × All (FineRecord W Good) d.finished
        done_fine full spent =
            let fits = fit p ok l left.0 left.1 in
            let fine = taking_fine p ok l t fits spent in
            let taken = flows_taken p l t left fits full fine in
            let r = R.ending W g p t in
            let f = R.taking W s p t in (
              flows_keeping r f (R.beside W t l) taken.0 taken.1,
              all_append (FineRecord W Good) (R.swept W s w e.flows) (R.ended W Fin g ++ R.ended_for W r f) (swept_fine w e.flows a.1)
                  (all_append (FineRecord W Good) (R.ended W Fin g) (R.ended_for W r f)
                  (ended_fine Fin g (any_reused W (Fine W Good) p fs (any_under W (Fine W Good) fs stays.1))) (ended_for-fine r f fine)),
            )

        pub packet_fine : FineAnswer W Good s (R.one_packet W s room p e)
        unfolding R.one_packet
        packet_fine =
            cases (FineAnswer W Good s) (R.is_full W s l t) (λ _. tt)
            (λ full. cases (FineAnswer W Good s) (R.is_spent W p t) (λ _. tt)
            (λ spent. either (FineAnswer W Good s) (leb (R.sizes W d.finished) room) (done_fine full spent) tt))

        -- ## "Room for (capacity + 1) × 358 bytes always suffices for one packet."

        module _ (m : ℕ) (small : (k : W.Key) (r : EndReason) (h : W.Held) → Good k h → W.size k r h ≤ m) (enough : (s.capacity + 1) * m ≤ room) where
          sizes_most : (out : List (R.Finished W)) → All (FineRecord W Good) out → R.sizes W out ≤ length out * m
          sizes_most [] b = omega arith
          sizes_most (f ∷ out) b = omega (arith, small f.name f.reason f.held b.0, sizes_most out b.1)

          one_more : (o : Option (R.Flow W)) (q : W.Packet) (u : R.Taker W) (f : R.Flow W) → length (R.ended W Fin o ++ R.ended_for W (R.ending W o q u) f) ≤ 1
          one_more (Some x) q u f = omega arith
          one_more None q u f = go (R.ending W None q u)
            where
              go : (r : Option EndReason) → length (R.ended_for W r f) ≤ 1
              go None = omega arith
              go (Some r) = omega arith

          length_total : {A : Type 0} (x : List A) → length x ≡ total (λ _. 1) x
          length_total [] = refl
          length_total (y ∷ x) = omega (arith, length_total x)

          swept_few : (x : List (R.Flow W)) → length (R.swept W s w x) ≤ length x
          swept_few x =
              let out = those (R.leaves W s w) x in
              omega (
                arith,
                length-map (sort (R.by_end W) out) (R.finish_or W IdleTimeout),
                length_total (sort (R.by_end W) out),
                total_sort (λ _. 1) (R.by_end W) out,
                total_those (λ _. 1) (R.leaves W s w) x,
                length_total x,
              )

          pub room_suffices : NotRoom W (R.one_packet W s room p e)
          unfolding R.one_packet
          room_suffices =
              let out = R.swept W s w e.flows in
              let few : length d.finished ≤ s.capacity + 1 =
              omega (
                arith,
                a.2,
                swept_few e.flows,
                one_more g p t (R.taking W s p t),
                length-append out (R.ended W Fin g ++ R.ended_for W (R.ending W g p t) (R.taking W s p t)),
              ) in
              cases (NotRoom W) (R.is_full W s l t) (λ _ z. omega (arith, ap number_of z))
              (λ full. cases (NotRoom W) (R.is_spent W p t) (λ _ z. omega (arith, ap number_of z))
              (λ spent. let fits : R.sizes W d.finished ≤ room = omega (arith, sizes_most d.finished (done_fine full spent).1, mul-le-mul_right m few) in
              subst (λ (b : Bool). NotRoom W (cond b (R.done d) (R.refused Room))) (sym (le-leb (R.sizes W d.finished) room fits)) tt))

      -- ## Calls

      next_fine : (e : R.Engine W) (a : R.Answer W) (rest : R.Done W → R.Told W) → Flows W Good s e.flows → FineAnswer W Good s a → ((x : R.Done W) → Flows W Good s x.engine.flows → FineTold W Good s (rest x)) → FineTold W Good s (R.next W a e rest)
      next_fine e (R.refused r) rest h k n = (h, tt)
      next_fine e (R.done x) rest h k n =
          let more = n x k.0 in
          (more.0, all_append (FineRecord W Good) x.finished (rest x).finished k.1 more.1)

      pub fed_fine : (room : ℕ) (ps : List W.Packet) → All InRange ps → (ends : Refusal) (e : R.Engine W) → Flows W Good s e.flows → FineTold W Good s (R.feed_all W s room ps ends e)
      unfolding R.feed_all
      fed_fine room [] ok ends e a = (a, tt)
      fed_fine room (p ∷ ps) ok ends e a =
          next_fine e (R.one_packet W s room p e) (λ x. R.feed_all W s (room - R.sizes W x.finished) ps ends x.engine) a
          (packet_fine room p ok.0 e a) (λ x b. fed_fine (room - R.sizes W x.finished) ps ok.1 ends x.engine b)

      pub sweep_fine : (room x : ℕ) (e : R.Engine W) → Flows W Good s e.flows → FineTold W Good s (R.sweep_at W s room x e)
      unfolding R.sweep_at
      sweep_fine room x e a =
          let w = R.clock_at W s e.clock x in
          either (FineTold W Good s) (leb (R.sizes W (R.swept W s w e.flows)) room)
          (flows_those (λ f. not (R.leaves W s w f)) e.flows a, swept_fine w e.flows a.1) (a, tt)

      pub drain_fine : (room : ℕ) (e : R.Engine W) → Flows W Good s e.flows → FineTold W Good s (R.drain_all W room e)
      unfolding R.drain_all
      drain_fine room e a =
          either (FineTold W Good s) (leb (R.sizes W (R.drained W e.flows)) room) ((tt, tt, omega arith), drained_fine e.flows a.1) (a, tt)

      -- ## Through any calls

      onto : (r : Run W) (x : R.Told W) → FineRun W Good s r → FineTold W Good s x → All (FineRecord W Good) (r.finished ++ x.finished)
      onto r x a b = all_append (FineRecord W Good) r.finished x.finished a.1 b.1

      pub run_fine : (cs : List (Call W.Packet)) → FedInRange InRange cs → (r : Run W) → FineRun W Good s r → FineRun W Good s (run W s cs r)
      run_fine [] ok r a = a
      run_fine (feed room ps ends ∷ cs) ok r a =
          let b = fed_fine room ps ok.0 ends r.engine a.0 in
          run_fine cs ok.1 (step W s (feed room ps ends) r) (b.0, onto r (R.feed_all W s room ps ends r.engine) a b)
      run_fine (sweep room x ∷ cs) ok r a =
          let b = sweep_fine room x r.engine a.0 in
          run_fine cs ok (step W s (sweep room x) r) (b.0, onto r (R.sweep_at W s room x r.engine) a b)
      run_fine (drain room ∷ cs) ok r a =
          let b = drain_fine room r.engine a.0 in
          run_fine cs ok (step W s (drain room) r) (b.0, onto r (R.drain_all W room r.engine) a b)
