-- A summary's start is the least and its end the greatest time of its packets. One law for both: `Chooses`. Assumes nothing.
use Rattle.std.specs.Prelude.{ℕ, min, max, ◌≤◌, ◌≡◌, refl, ◌⊎◌}
use Rattle.std.proofs.Common.{sym, ap, ◌∙◌, inl, inr, ⊎_elim}
use mathlib.Core.List.Memᴰ
use mathlib.Core.List.{List, [], ◌∷◌, Memᴰ}
use native.Mathlib.Omega.{arith, min_cases}
use Rattle.flow.specs.declared.time.TimeResolution.{TimeResolution}
use Rattle.flow.specs.declared.record.Direction.{Direction}
use Rattle.flow.specs.declared.record.PacketFacts.{PacketFacts}
use Rattle.flow.specs.declared.record.FlowRecord.{FlowRecord}
use Rattle.flow.specs.Counting.{opened_of, counted_of}
use Rattle.flow.specs.Summary.{Taken, folded_of, summary_of, time_of, least_of, greatest_of}
use Rattle.flow.specs.CountingLaws.{counted_start, counted_end, begun_start, begun_end}

-- n bounds the time of each packet of the list, and is the time of one of them
pub record Extreme (R : ℕ → ℕ → Type 0) (n : ℕ) (ts : List Taken) : Type 0 where
  pub bounds : (t : Taken) → Memᴰ t ts → R n (time_of t)
  pub reached : (t : Taken) × Memᴰ t ts × (time_of t ≡ n)

abbrev pub Least : ℕ → List Taken → Type 0
Least = Extreme (λ a b. a ≤ b)

abbrev pub Greatest : ℕ → List Taken → Type 0
Greatest = Extreme (λ a b. b ≤ a)

-- f chooses one of two numbers, which bounds both; it may choose in any order
record Chooses (f : ℕ → ℕ → ℕ) (R : ℕ → ℕ → Type 0) : Type 0 where
  one : (a b : ℕ) → (f a b ≡ a) ⊎ (f a b ≡ b)
  self : (a : ℕ) → R a a
  first : (a b : ℕ) → R (f a b) a
  second : (a b c : ℕ) → R b c → R (f a b) c
  order : (a b c : ℕ) → f a (f b c) ≡ f b (f a c)

min_chooses : Chooses min (λ a b. a ≤ b)
min_chooses = record {
  one = λ a b. min_cases a b ((min a b ≡ a) ⊎ (min a b ≡ b)) (λ h e. inl e) (λ h e. inr e);
  self = λ a. omega arith;
  first = λ a b. omega arith;
  second = λ a b c h. omega arith;
  order = λ a b c. omega arith;
}

max_chooses : Chooses max (λ a b. b ≤ a)
max_chooses = record {
  one = λ a b. min_cases a b ((max a b ≡ a) ⊎ (max a b ≡ b)) (λ h e. inr (omega arith)) (λ h e. inl (omega arith));
  self = λ a. omega arith;
  first = λ a b. omega arith;
  second = λ a b c h. omega arith;
  order = λ a b c. omega arith;
}

-- what is chosen of n and the packets' times
abbrev chosen_by : (ℕ → ℕ → ℕ) → ℕ → List Taken → ℕ
chosen_by f n [] = n
chosen_by f n (t ∷ ts) = f (time_of t) (chosen_by f n ts)

module _ (f : ℕ → ℕ → ℕ) (R : ℕ → ℕ → Type 0) (laws : Chooses f R) where
  chosen_first : (n : ℕ) (ts : List Taken) → R (chosen_by f n ts) n
  chosen_first n [] = laws.self n
  chosen_first n (t ∷ ts) = laws.second (time_of t) (chosen_by f n ts) n (chosen_first n ts)

  chosen_each : (n : ℕ) (ts : List Taken) (t : Taken) → Memᴰ t ts → R (chosen_by f n ts) (time_of t)
  chosen_each n [] t m = absurd (Memᴰ.not-nil m)
  chosen_each n (u ∷ us) t m =
      ⊎_elim (λ e. rw e (laws.first (time_of u) (chosen_by f n us)))
      (λ rest. laws.second (time_of u) (chosen_by f n us) (time_of t) (chosen_each n us t rest)) (Memᴰ.cases_cons m)

  chosen_one : (p : Taken) (ts : List Taken) → (t : Taken) × Memᴰ t (p ∷ ts) × (time_of t ≡ chosen_by f (time_of p) ts)
  chosen_one p [] = (p, Memᴰ.head refl, refl)
  chosen_one p (u ∷ us) =
      ⊎_elim (λ e. (u, Memᴰ.tail (Memᴰ.head refl), sym e))
      (λ e. let h = chosen_one p us in (h.0, further h.1, h.2 ∙ sym e)) (laws.one (time_of u) (chosen_by f (time_of p) us))
    where
      further : {t : Taken} → Memᴰ t (p ∷ us) → Memᴰ t (p ∷ u ∷ us)
      further m = ⊎_elim (λ e. Memᴰ.head e) (λ rest. Memᴰ.tail (Memᴰ.tail rest)) (Memᴰ.cases_cons m)

  chosen_extreme : (p : Taken) (ts : List Taken) → Extreme R (chosen_by f (time_of p) ts) (p ∷ ts)
  chosen_extreme p ts = record {
    bounds = λ t m. ⊎_elim (λ e. rw e (chosen_first (time_of p) ts)) (chosen_each (time_of p) ts t) (Memᴰ.cases_cons m);
    reached = chosen_one p ts;
  }

  chosen_moved : (a n : ℕ) (ts : List Taken) → chosen_by f (f a n) ts ≡ f a (chosen_by f n ts)
  chosen_moved a n [] = refl
  chosen_moved a n (t ∷ ts) = ap (f (time_of t)) (chosen_moved a n ts) ∙ laws.order (time_of t) a (chosen_by f n ts)

  -- the law: a number of the record for which each packet's time is chosen
  chosen_folds : (m : FlowRecord → ℕ) → ((r : FlowRecord) (d : Direction) (p : PacketFacts) → m (counted_of r d p) ≡ f p.time.0 (m r))
      → (r : FlowRecord) (ts : List Taken) → m (folded_of r ts) ≡ chosen_by f (m r) ts
  chosen_folds m one r [] = refl
  chosen_folds m one r (t ∷ ts) =
      chosen_folds m one (counted_of r t.0 t.1) ts ∙ ap (λ n. chosen_by f n ts) (one r t.0 t.1) ∙ chosen_moved (time_of t) (m r) ts

least_chosen : (n : ℕ) (ts : List Taken) → chosen_by min n ts ≡ least_of n ts
least_chosen n [] = refl
least_chosen n (t ∷ ts) = ap (min (time_of t)) (least_chosen n ts)

greatest_chosen : (n : ℕ) (ts : List Taken) → chosen_by max n ts ≡ greatest_of n ts
greatest_chosen n [] = refl
greatest_chosen n (t ∷ ts) = ap (max (time_of t)) (greatest_chosen n ts)

-- ---- a record that counted a list of packets

-- the start is the least of the old start and the packets' times
pub folded_start : (r : FlowRecord) (ts : List Taken) → (folded_of r ts).time.start.0 ≡ least_of r.time.start.0 ts
folded_start r ts =
    chosen_folds min _ min_chooses (λ r. r.time.start.0) (λ r d p. let h = counted_start r d p in omega arith) r ts ∙ least_chosen r.time.start.0 ts

-- the end is the greatest of the old end and the packets' times
pub folded_end : (r : FlowRecord) (ts : List Taken) → (folded_of r ts).time.end.0 ≡ greatest_of r.time.end.0 ts
folded_end r ts =
    chosen_folds max _ max_chooses (λ r. r.time.end.0) (λ r d p. let h = counted_end r d p in omega arith) r ts ∙ greatest_chosen r.time.end.0 ts

-- ---- a summary

-- the start is the least of the packets' times, the first among them
pub summary_start : (resolution : TimeResolution) (protocol : ℕ) (p : PacketFacts) (ts : List Taken) → (summary_of resolution protocol p ts).time.start.0 ≡ least_of p.time.0 ts
unfolding summary_of
summary_start resolution protocol p ts =
    folded_start (counted_of (opened_of resolution protocol p) Direction.Forward p) ts ∙ ap (λ n. least_of n ts) (begun_start resolution protocol Direction.Forward p)

-- the end is the greatest of the packets' times, the first among them
pub summary_end : (resolution : TimeResolution) (protocol : ℕ) (p : PacketFacts) (ts : List Taken) → (summary_of resolution protocol p ts).time.end.0 ≡ greatest_of p.time.0 ts
unfolding summary_of
summary_end resolution protocol p ts =
    folded_end (counted_of (opened_of resolution protocol p) Direction.Forward p) ts ∙ ap (λ n. greatest_of n ts) (begun_end resolution protocol Direction.Forward p)

-- "start and end widen": the start is at most each packet's time, and is one of them
pub start_is_least : (resolution : TimeResolution) (protocol : ℕ) (p : PacketFacts) (ts : List Taken) → Least (summary_of resolution protocol p ts).time.start.0 ((Direction.Forward, p) ∷ ts)
start_is_least resolution protocol p ts =
    rw (summary_start resolution protocol p ts, ← least_chosen p.time.0 ts) (chosen_extreme min _ min_chooses (Direction.Forward, p) ts)

-- "start and end widen": the end is at least each packet's time, and is one of them
pub end_is_greatest : (resolution : TimeResolution) (protocol : ℕ) (p : PacketFacts) (ts : List Taken) → Greatest (summary_of resolution protocol p ts).time.end.0 ((Direction.Forward, p) ∷ ts)
end_is_greatest resolution protocol p ts =
    rw (summary_end resolution protocol p ts, ← greatest_chosen p.time.0 ts) (chosen_extreme max _ max_chooses (Direction.Forward, p) ts)
