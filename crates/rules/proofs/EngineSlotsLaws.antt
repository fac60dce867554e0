-- The engine that a table of slots means, at the engine's own types: the clock, and the flows of the slots in order of key bytes
-- (specs/Slots.antt). It is sound exactly if the slots' flows are, in whatever order they sit. Assumes nothing.
use Rattle.std.specs.Prelude.{◌≡◌, refl, false, ◌↔◌, ℕ, length}
use Rattle.std.proofs.Common.{sym, ◌∙◌, subst, arith}
use mathlib.Core.List.Permᴰ
use mathlib.Core.List.{List, [], ◌∷◌, Permᴰ}
use Rattle.rules.specs.Order.{equal}
use Rattle.rules.specs.Totals.{total, All, all_more}
use Rattle.rules.specs.Laws.{Distinct}
use Rattle.rules.proofs.OrderLaws.{all_perm, perm_sort, total_perm}
use Rattle.rules.specs.Rules.{Terms, Settings, Flow, by_key}
use Rattle.rules.specs.Engine.{engine}
use Rattle.rules.specs.Slots.{Slots, occupied, meaning}
use Rattle.rules.specs.Sound.{Pairs, Clear}
use Rattle.rules.proofs.SoundLaws.{clear_flip}
use Rattle.rules.specs.EngineLaws.{SoundFlow}
use Rattle.rules.specs.EngineSound.{SoundEngine}
use Rattle.rules.specs.EngineSlots.{engine_of, SoundSlots}

-- ## Pairs, in any order

module _ {A : Type 0} (rank : A → List ℕ) (C : A → A → Type 0) (flip : (x y : A) → C x y → C y x) where
  pairs_perm : {l k : List A} → Permᴰ l k → Pairs C l → Pairs C k
  pairs_perm Permᴰ.nil d = tt
  pairs_perm (Permᴰ.cons {a = a} {l₂ = k} e p) d = (subst (λ (x : A). All (C x) k) e (all_perm rank (C a) p d.0), pairs_perm p d.1)
  pairs_perm (Permᴰ.swap {a = a} {b = b} {b' = c} {l = l} e f) d =
      subst (λ (x : A). Pairs C (x ∷ c ∷ l)) f (subst (λ (x : A). Pairs C (b ∷ x ∷ l)) e ((flip a b d.0.0, d.1.0), (d.0.1, d.1.1)))
  pairs_perm (Permᴰ.trans p q) d = pairs_perm q (pairs_perm p d)

length_total : {A : Type 0} (l : List A) → length l ≡ total (λ _. 1) l
length_total [] = refl
length_total (x ∷ l) = omega (arith, length_total l)

-- flows that are clear of each other have no key twice, as the laws of slots ask
pub clear_distinct : (W : Terms) (l : List (Flow W)) → Pairs (Clear W) l → Distinct (by_key W) l
clear_distinct W [] a = tt
clear_distinct W (f ∷ l) a =
    (all_more (Clear W f) (λ g. equal (by_key W f) (by_key W g) ≡ false) (λ g c. c.0) l a.0, clear_distinct W l a.1)

-- ## The engine of a clock and a table of slots

module _ (s : Settings) (w : ℕ) (slots : Slots engine) where
  sorted : Permᴰ (meaning engine slots) (occupied engine slots)
  sorted = perm_sort (by_key engine) (occupied engine slots)

  as_many : length (meaning engine slots) ≡ length (occupied engine slots)
  as_many = length_total (meaning engine slots) ∙ total_perm (λ _. 1) sorted ∙ sym (length_total (occupied engine slots))

  pub slots_sound : SoundSlots s w slots ↔ SoundEngine s (engine_of w slots)
  slots_sound = (
    λ h. record {
      clear = pairs_perm (by_key engine) (Clear engine) (clear_flip engine) (Permᴰ.symm sorted) h.clear;
      records = all_perm (by_key engine) (λ f. SoundFlow f.name f.held) (Permᴰ.symm sorted) h.records;
      few = omega (arith, h.few, as_many);
      still = h.still;
    },
    λ h. record {
      clear = pairs_perm (by_key engine) (Clear engine) (clear_flip engine) sorted h.clear;
      records = all_perm (by_key engine) (λ f. SoundFlow f.name f.held) sorted h.records;
      few = omega (arith, h.few, as_many);
      still = h.still;
    },
  )

  -- no key stands in two slots of a sound table
  pub slots_distinct : SoundSlots s w slots → Distinct (by_key engine) (occupied engine slots)
  slots_distinct h = clear_distinct engine (occupied engine slots) h.clear
