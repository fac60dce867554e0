-- What the test of a packet's numbers says of them, and what the code answers. Assumes nothing.
use Rattle.std.specs.Prelude.{ℕ, ◌^◌, ◌≤◌, ◌<◌, ◌≡◌, Bool, true, List, get_or, Option}
use Rattle.std.proofs.Common.{sym, ◌∙◌, arith, leb-true, ltb-true}
use Rattle.flow.specs.SoundLaws.{both}
use Rattle.words.specs.Fields.{opt8_at, opt16_at}
use Rattle.braidpuddle_forms.specs.Facts.{facts_fit, facts_from}

-- each test by name, as a fact
pub record FitFacts (ns : List ℕ) : Type 0 where
  pub frame : get_or ns 1 0 < 2 ^ 32
  pub captured : get_or ns 2 0 < 2 ^ 32
  pub ttl : get_or ns 3 0 ≤ 2 ^ 8
  pub flags : get_or ns 4 0 ≤ 2 ^ 9
  pub icmp : get_or ns 5 0 ≤ 2 ^ 16
  pub dscp : get_or ns 6 0 ≤ 2 ^ 8
  pub ecn : get_or ns 7 0 ≤ 2 ^ 8

pub fit_facts : (ns : List ℕ) → facts_fit ns ≡ true → FitFacts ns
unfolding facts_fit
fit_facts ns e =
    let h6 = both _ _ e in
    let h5 = both _ _ h6.0 in
    let h4 = both _ _ h5.0 in
    let h3 = both _ _ h4.0 in
    let h2 = both _ _ h3.0 in
    let h1 = both _ _ h2.0 in
    record {
      frame = ltb-true _ _ h1.0;
      captured = ltb-true _ _ h1.1;
      ttl = leb-true _ _ h2.1;
      flags = leb-true _ _ h3.1;
      icmp = leb-true _ _ h4.1;
      dscp = leb-true _ _ h5.1;
      ecn = leb-true _ _ h6.1;
    }

pub facts_judged : (ns : List ℕ) (fit : Bool) → fit ≡ facts_fit ns → fit ≡ true → facts_fit ns ≡ true
facts_judged ns fit judged fits = sym judged ∙ fits

-- what each field asks of its number
pub frame_fits : (ns : List ℕ) → facts_fit ns ≡ true → get_or ns 1 0 < 2 ^ 32
frame_fits ns e = (fit_facts ns e).frame

pub captured_fits : (ns : List ℕ) → facts_fit ns ≡ true → get_or ns 2 0 < 2 ^ 32
captured_fits ns e = (fit_facts ns e).captured

pub ttl_fits_lem : (ns : List ℕ) → facts_fit ns ≡ true → get_or ns 3 0 ≤ 2 ^ 8
ttl_fits_lem ns e = (fit_facts ns e).ttl

pub flags_fit : (ns : List ℕ) → facts_fit ns ≡ true → get_or ns 4 0 ≤ 2 ^ 16
flags_fit ns e = omega (arith, (fit_facts ns e).flags)

pub icmp_fits : (ns : List ℕ) → facts_fit ns ≡ true → get_or ns 5 0 ≤ 2 ^ 16
icmp_fits ns e = (fit_facts ns e).icmp

pub dscp_fits : (ns : List ℕ) → facts_fit ns ≡ true → get_or ns 6 0 ≤ 2 ^ 8
dscp_fits ns e = (fit_facts ns e).dscp

pub ecn_fits : (ns : List ℕ) → facts_fit ns ≡ true → get_or ns 7 0 ≤ 2 ^ 8
ecn_fits ns e = (fit_facts ns e).ecn

-- a packet of its fields
pub facts_made : (ns : List ℕ) {ttl dscp ecn : Option ℕ} {flags icmp : Option ℕ}
    → ttl ≡ opt8_at (get_or ns 3 0) → flags ≡ opt16_at (get_or ns 4 0) → icmp ≡ opt16_at (get_or ns 5 0)
    → dscp ≡ opt8_at (get_or ns 6 0) → ecn ≡ opt8_at (get_or ns 7 0)
    → record {
      time = record { 0 = get_or ns 0 0 };
      frame_octets = get_or ns 1 0;
      captured_octets = get_or ns 2 0;
      ttl = ttl;
      tcp_flags = flags;
      icmp = icmp;
      dscp = dscp;
      ecn = ecn;
    }
    ≡ facts_from ns
unfolding facts_from
facts_made ns t f i d e = simp (t, f, i, d, e)
