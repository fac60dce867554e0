-- What the functions on keys answer, one law for each way out. Assumes nothing.
use Rattle.std.specs.Prelude.{None, Option, Some, Err, Ok, Result}
use Prim.Native.Nat.{ℕ, ◌-◌, ◌^◌}
use mathlib.Core.Path.{◌≡◌, sym, ap, ◌∙◌}
use mathlib.Core.Bool.{true}
use mathlib.Core.List.{List}
use Rattle.forms.specs.Lone.{Written, write_one}
use Rattle.key.specs.Key.{version_of}
use Rattle.key.specs.KeyForm.{key}
use Rattle.key.specs.declared.key.FlowKey.{FlowKey}
use Rattle.braidpuddle_forms.specs.Forms.{reported, wrote_as}
use Rattle.braidpuddle_forms.proofs.Reported.{reported_is}
use Rattle.braidpuddle_forms.specs.Keys.{of_key, version_number, key_written}
use Rattle.forms.specs.Answers.{written_of}
use Rattle.forms.specs.declared.refusal.Refusal.{Refusal}

-- ---- a key, or none

module _ (w : Option FlowKey) (whole : Option FlowKey) (says : w ≡ whole) where
  pub is_key : (k : FlowKey) → w ≡ Some k → whole ≡ Some k
  is_key k e = sym says ∙ e

  pub is_none : w ≡ None → whole ≡ None
  is_none e = sym says ∙ e

  -- what is asked of it
  pub asked_none : (ask : FlowKey → ℕ) → w ≡ None → 2 ^ 64 - 1 ≡ of_key whole ask
  asked_none ask e = rw (is_none e)

  pub asked_key : (ask : FlowKey → ℕ) (k : FlowKey) → w ≡ Some k → {r : ℕ} → r ≡ ask k → r ≡ of_key whole ask
  asked_key ask k e is = rw (is_key k e) is

  pub asked_absent : (k : FlowKey) → w ≡ Some k → {o : Option ℕ} → o ≡ version_of k → o ≡ None
      → 0 ≡ of_key whole (λ k. version_number (version_of k))
  asked_absent k e is absent = rw (is_key k e) (ap version_number (sym absent ∙ is))

  pub asked_present : (k : FlowKey) → w ≡ Some k → {o : Option ℕ} {v : ℕ} → o ≡ version_of k → o ≡ Some v
      → v ≡ of_key whole (λ k. version_number (version_of k))
  asked_present k e is present = rw (is_key k e) (ap version_number (sym present ∙ is))

  -- a key that is made of it
  module _ (make : FlowKey → FlowKey) (before : ℕ) (out : List ℕ) where
    pub made_none : w ≡ None → ((4, before), out) ≡ wrote_as (key_written whole make out) before
    made_none e = rw (is_none e)

    module _ (k : FlowKey) (e : w ≡ Some k) (other : FlowKey) (made : other ≡ make k) (r : Result ℕ Refusal) (after : List ℕ)
        (Wrote-so : (written_of r, after) ≡ write_one 4 true (key.write other) out) where
      made_key : (written_of r, after) ≡ key_written whole make out
      made_key = rw (is_key k e, ← made) Wrote-so

      pub made_reported : {x : ℕ × ℕ} → x ≡ reported r before → (x, after) ≡ wrote_as (key_written whole make out) before
      made_reported is =
          ap (λ (y : ℕ × ℕ). (y, after)) is ∙ reported_is r after before ∙ ap (λ (y : Written × List ℕ). wrote_as y before) made_key
