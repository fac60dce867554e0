-- A batch as a loop sees it: what has been done so far, ahead of what the rules say of the rest. And the room that always
-- suffices for one packet. Assumes nothing.
use Rattle.std.specs.Prelude.{◌≡◌, cond, List, ◌∷◌, ◌++◌, ℕ, suc, ◌+◌, ◌-◌}
use Rattle.std.proofs.Common.{sym, ◌∙◌, append_assoc, arith}
use Rattle.std.proofs.Math.Path.{ap}
use Rattle.rules.specs.Rules.{Refusal, Terms, Settings}
use Rattle.rules.specs.Rules as R
use Rattle.rules.specs.Loop.{ahead}

module _ (W : Terms) where
  ahead_onward : (n o : ℕ) (out : List (R.Finished W)) (d : R.Done W) (t : R.Told W)
      → ahead W n o out (R.onward W d t) ≡ ahead W (n + 1) (o + cond d.opening 1 0) (out ++ d.finished) t
  ahead_onward n o out d t =
      let taken : n + suc t.taken ≡ n + 1 + t.taken = omega arith in
      let opens : o + (cond d.opening 1 0 + t.opens) ≡ o + cond d.opening 1 0 + t.opens = omega arith in
      let regroup : out ++ (d.finished ++ t.finished) ≡ out ++ d.finished ++ t.finished = sym (append_assoc out d.finished t.finished) in
      λ i. record {
        refusal = t.refusal;
        taken = taken i;
        opens = opens i;
        finished = regroup i;
        engine = t.engine;
      }

  module _ (s : Settings) (room n o : ℕ) (out : List (R.Finished W)) (p : W.Packet) (ps : List W.Packet) (ends : Refusal) (e : R.Engine W) where
    abbrev rest : R.Done W → R.Told W
    rest d = R.feed_all W s (room - R.sizes W d.finished) ps ends d.engine

    -- the loop goes on
    pub ahead_next : (d : R.Done W) → R.one_packet W s room p e ≡ R.done d
        → ahead W n o out (R.feed_all W s room (p ∷ ps) ends e) ≡ ahead W (n + 1) (o + cond d.opening 1 0) (out ++ d.finished) (rest d)
    unfolding R.feed_all
    ahead_next d h = ap (λ (a : R.Answer W). ahead W n o out (R.next W a e rest)) h ∙ ahead_onward n o out d (rest d)

    -- the loop stops at a refused packet
    pub ahead_stop : (r : Refusal) → R.one_packet W s room p e ≡ R.refused r
        → ahead W n o out (R.feed_all W s room (p ∷ ps) ends e) ≡ ahead W n o out (R.stopped W r e)
    unfolding R.feed_all
    ahead_stop r h = ap (λ (a : R.Answer W). ahead W n o out (R.next W a e rest)) h
