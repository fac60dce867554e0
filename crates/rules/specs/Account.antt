-- What is said of the ledger: a flow found under a key, sums over the packets of flows and records, and numbers that ascend. That
-- packets, batches, sweeps and drains keep to it stands in proofs/AccountLaws.antt. Assumes nothing.
use Rattle.std.specs.Prelude.{◌≡◌, cond, ℕ, suc, ◌+◌, ◌<◌, max, eqb, take, None, Option, Some}
use mathlib.Core.List.{List, [], ◌∷◌, ◌++◌}
use Rattle.rules.specs.Totals.{total, All}
use Rattle.rules.specs.Rules.{Terms, Settings}
use Rattle.rules.specs.Rules as R
use Rattle.rules.specs.Ledger.{Numbered, Story, first, more, ledger}

-- ## Finding by key bytes

module _ (W : Terms) where
  -- a property of the flow, if there is one
  abbrev pub Any : (R.Flow W → Type 0) → Option (R.Flow W) → Type 0
  Any P None = Unit {0}
  Any P (Some f) = P f

  -- to take the flow out leaves the rest
  abbrev pub Inside : List (R.Flow W) → R.Flow W → Type 0
  Inside l f = (m : R.Flow W → ℕ) → m f + total m (R.without W (R.by_key W f) l) ≡ total m l

  -- f is under the key k, and to take out what is under k takes out f
  abbrev pub Under : List ℕ → List (R.Flow W) → R.Flow W → Type 0
  Under k l f = (k ≡ R.by_key W f) × ((m : R.Flow W → ℕ) → m f + total m (R.without W k l) ≡ total m l)

  -- a property of the flow that takes a packet, if it is an old one
  abbrev pub Taking : (R.Flow W → Type 0) → R.Taker W → Type 0
  Taking P (R.old d f) = P f
  Taking P R.new = Unit {0}

-- ## Nothing is lost and nothing counted twice

-- a flow's packets in order of acceptance
abbrev pub packets : {P : Type 0} → Story P → List P
packets (first r p) = p ∷ []
packets (more l d p) = packets l ++ (p ∷ [])

module _ (W : Terms) where
  abbrev M : Terms
  M = ledger W

  -- a measure of packets, over the packets of a flow and of a finished record
  abbrev pub of_flow : (M.Packet → ℕ) → R.Flow M → ℕ
  of_flow m f = total m (packets f.held)

  abbrev pub of_finished : (M.Packet → ℕ) → R.Finished M → ℕ
  of_finished m f = total m (packets f.held)

  module _ (m : M.Packet → ℕ) where
    -- a call's answer: what was open, and the packets taken, are now open or finished
    abbrev pub Conserved : List M.Packet → R.Engine M → R.Told M → Type 0
    Conserved ps e t =
        total (of_flow m) t.engine.flows + total (of_finished m) t.finished ≡ total (of_flow m) e.flows + total m (take t.taken ps)

    -- a call that takes no packet: what was open is now open or finished
    abbrev pub Moved : R.Engine M → R.Told M → Type 0
    Moved e t = total (of_flow m) t.engine.flows + total (of_finished m) t.finished ≡ total (of_flow m) e.flows

-- ## The numbers of a flow's packets ascend

-- the numbers ascend, and are below n
abbrev pub Ascending : {P : Type 0} → ℕ → Story (Numbered P) → Type 0
Ascending n (first r p) = p.number < n
Ascending n (more l d p) = (p.number < n) × Ascending p.number l

-- packets numbered from n on
abbrev pub numbered : {P : Type 0} → ℕ → List P → List (Numbered P)
numbered n [] = []
numbered n (p ∷ ps) = record { number = n; packet = p } ∷ numbered (suc n) ps

module _ (W : Terms) where
  abbrev N : Terms
  N = ledger W

  abbrev pub FlowBelow : ℕ → R.Flow N → Type 0
  FlowBelow n f = Ascending n f.held

  abbrev pub FinishedBelow : ℕ → R.Finished N → Type 0
  FinishedBelow n f = Ascending n f.held

  abbrev pub Sorted : ℕ → R.Engine N → List (R.Finished N) → Type 0
  Sorted n e out = All (FlowBelow n) e.flows × All (FinishedBelow n) out

  abbrev pub SortedTold : ℕ → R.Told N → Type 0
  SortedTold n t = Sorted (n + t.taken) t.engine t.finished

-- ## The clock

-- the clock after the times seen
abbrev pub clock_after : Settings → ℕ → List ℕ → ℕ
clock_after s w [] = w
clock_after s w (t ∷ ts) = clock_after s (cond (eqb s.T 0) w (max w t)) ts
