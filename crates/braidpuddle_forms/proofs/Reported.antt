-- What is reported of a form that was written is what writing it answers. Assumes nothing.
use Rattle.std.specs.Prelude.{ℕ, ◌≡◌, refl, List, Result, Ok, Err}
use Rattle.forms.specs.Answers.{written_of}
use Rattle.forms.specs.declared.refusal.Refusal.{Refusal}
use Rattle.braidpuddle_forms.specs.Forms.{reported, wrote_as}

pub reported_is : (r : Result ℕ Refusal) (after : List ℕ) (before : ℕ) → (reported r before, after) ≡ wrote_as (written_of r, after) before
reported_is (Ok n) after before = refl
reported_is (Err why) after before = refl
