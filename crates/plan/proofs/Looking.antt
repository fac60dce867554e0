-- What is asked of each slot of a list that is gone through from the back. Assumes nothing.
use Rattle.std.specs.List.{push}
use Rattle.std.specs.Iterator.{Yields, CallableAtEachTurn}
use Rattle.std.specs.Slice.Iter.{iter_rest, iter_steps_back}
use Rattle.std.proofs.Common.{Iter, Bor}
use Rattle.std.proofs.lemmas.Fn.{serves_by}
use mathlib.Core.Path.{◌≡◌, refl, sym, subst}
use mathlib.Core.List.{List, [], ◌∷◌, ◌++◌}
use Prim.Native.Nat.{ℕ}
use Rattle.rules.specs.Totals.{All}

all_front : (P : ℕ → Type 0) (a b : List ℕ) → All P (a ++ b) → All P a
all_front P [] b h = tt
all_front P (x ∷ a) b h = (h.0, all_front P a b h.1)

all_last : (P : ℕ → Type 0) (a : List ℕ) (x : ℕ) → All P (push a x) → P x
all_last P [] x h = h.0
all_last P (y ∷ a) x h = all_last P a x h.1

all_left : (P : ℕ → Type 0) (xs : List (Bor ℕ)) (s t : Iter ℕ) → Yields iter_steps_back s xs t → All P (iter_rest s) → All P (iter_rest t)
all_left P [] s t e a = subst (λ (u : Iter ℕ). All P (iter_rest u)) e a
all_left P (x ∷ xs) s t y a = all_left P xs y.0 t y.2 (all_front P (iter_rest y.0) (x.now ∷ []) (subst (All P) y.1 a))

pub asked_back : (P : ℕ → Type 0) {F : Type 0} {R : F → Bor ℕ → F → Type 0} {Q : F → Bor ℕ → Type 0} {s : Iter ℕ} {f : F} → All P (iter_rest s)
    → ((x : Bor ℕ) (q : F) → R f x q → q ≡ f) → ((x : Bor ℕ) → P x.now → Q f x) → CallableAtEachTurn iter_steps_back R Q s f
asked_back P {F} {R} {Q} {s} {f} a stays asks =
    serves_by R (λ xs q. q ≡ f) (λ xs q x v e r. stays x v (subst (λ (p : F). R p x v) e r)) iter_steps_back Q s f refl
    (λ xs t q x u y e j. subst (λ (p : F). Q p x) (sym j) (asks x (all_last P (iter_rest u) x.now (subst (All P) e (all_left P xs s t y a)))))
