-- What the test of the words says of them, and what the code answers. Assumes nothing.
use Rattle.std.specs.Prelude.{ℕ, ◌^◌, ◌≤◌, ◌≡◌, true, List, eqb, get_or, replicate, Option}
use Rattle.std.proofs.Common.{leb-true}
use Rattle.stats.specs.declared.counts.DirectionStats.{DirectionStats}
use Rattle.stats.specs.declared.counts.NetworkStats.{NetworkStats}
use Rattle.flow.specs.declared.time.FlowTime.{FlowTime}
use Rattle.flow.specs.declared.record.FlowRecord.{FlowRecord}
use Rattle.flow.specs.SoundLaws.{both}
use Rattle.words.specs.Fields.{opt16_at, BoundsFit}
use Rattle.words.specs.FieldLaws.{bounds_facts}
use Rattle.words.specs.Words.{shared_words, direction_words, words_of, written, time_at, network_at, direction_at, record_of, words_fit, NetworkFits}

-- ---- the test

-- each test by name, as a fact
pub record FitFacts (ws : List ℕ) : Type 0 where
  pub state : get_or ws 2 0 ≤ 2
  pub resolution : get_or ws 3 0 ≤ 1
  pub network : NetworkFits ws
  pub icmp : get_or ws 8 0 ≤ 2 ^ 16
  pub truncated : get_or ws 10 0 ≤ 1
  pub forward : BoundsFit (2 ^ 32) (get_or ws 13 0) (get_or ws 14 0)
  pub reverse : BoundsFit (2 ^ 32) (get_or ws 26 0) (get_or ws 27 0)

pub fit_facts : (ws : List ℕ) → words_fit ws ≡ true → FitFacts ws
unfolding words_fit
fit_facts ws e =
    let h8 = both _ _ e in
    let h7 = both _ _ h8.0 in
    let h6 = both _ _ h7.0 in
    let h5 = both _ _ h6.0 in
    let h4 = both _ _ h5.0 in
    let h3 = both _ _ h4.0 in
    let h2 = both _ _ h3.0 in
    let h1 = both _ _ h2.0 in
    record {
      state = leb-true _ _ h1.0;
      resolution = leb-true _ _ h1.1;
      network = record { ttl = bounds_facts _ _ _ h2.1; dscp = leb-true _ _ h3.1; ecn = leb-true _ _ h4.1 };
      icmp = leb-true _ _ h5.1;
      truncated = leb-true _ _ h6.1;
      forward = bounds_facts _ _ _ h7.1;
      reverse = bounds_facts _ _ _ h8.1;
    }

-- what each part of a record asks of its words
pub network_fits : (ws : List ℕ) → words_fit ws ≡ true → NetworkFits ws
network_fits ws e = (fit_facts ws e).network

pub icmp_fits : (ws : List ℕ) → words_fit ws ≡ true → get_or ws 8 0 ≤ 2 ^ 16
icmp_fits ws e = (fit_facts ws e).icmp

pub forward_fits : (ws : List ℕ) → words_fit ws ≡ true → BoundsFit (2 ^ 32) (get_or ws 13 0) (get_or ws 14 0)
forward_fits ws e = (fit_facts ws e).forward

pub reverse_fits : (ws : List ℕ) → words_fit ws ≡ true → BoundsFit (2 ^ 32) (get_or ws 26 0) (get_or ws 27 0)
reverse_fits ws e = (fit_facts ws e).reverse

-- ---- what the code answers

-- a record of its parts
pub record_made : (ws : List ℕ) {time : FlowTime} {forward reverse : DirectionStats} {network : NetworkStats} {icmp : Option ℕ}
    → time ≡ time_at ws → forward ≡ direction_at ws 11 → reverse ≡ direction_at ws 24 → network ≡ network_at ws → icmp ≡ opt16_at (get_or ws 8 0)
    → record {
      time = time;
      forward = forward;
      reverse = reverse;
      network = network;
      transport = record { icmp = icmp };
      capture = record { captured_octets = get_or ws 9 0; truncated = eqb (get_or ws 10 0) 1 };
    }
    ≡ record_of ws
unfolding record_of
record_made ws t f r n i = simp (t, f, r, n, i)

-- the words, written part by part over 37 zeros
pub words_made : (r : FlowRecord) {a b c : List ℕ}
    → c ≡ written b 24 0 (direction_words r.reverse) → b ≡ written a 11 0 (direction_words r.forward) → a ≡ written (replicate 37 0) 0 0 (shared_words r)
    → c ≡ words_of r
unfolding words_of
words_made r x y z = simp (x, y, z)
