-- What is read of a slot is what its bytes say. Assumes nothing.
use Rattle.std.specs.Prelude.{Err, Ok, Result}
use Prim.Native.Nat.{ℕ, ◌-◌}
use mathlib.Core.Path.{◌≡◌, refl, sym, ap, ◌∙◌}
use mathlib.Core.Bool.{Bool, true, false, cond}
use mathlib.Core.List.{List}
use lib.ListN.{length}
use Rattle.memory.specs.Bytes.{words_at}
use Rattle.slots.specs.Table.{key_of}
use Rattle.words.specs.Words.{record_of, words_fit}
use Rattle.forms.specs.Form.{Read, got, and_then}
use Rattle.forms.specs.At.{read_at, placed_front}
use Rattle.index.specs.Hash.{key_from}
use Rattle.key.specs.KeyOr.{no_key, key_or}
use Rattle.key.specs.KeyForm.{key}
use Rattle.key.specs.declared.key.FlowKey.{FlowKey}
use Rattle.flow.specs.Counting.{closed}
use Rattle.flow.specs.declared.record.FlowRecord.{FlowRecord}
use Rattle.flow.specs.declared.time.EndReason.{EndReason}
use Rattle.flow.specs.declared.time.EndReason.TheVariants.{Fin}
use Rattle.wire.specs.declared.record.Flow.{Flow}
use Rattle.rules.specs.Rules.{finish_or}
use Rattle.rules.specs.Engine.{engine, both_fins, finished_flow}
use Rattle.state.specs.Slot.{key_in, words_in, record_in, flow_in}
use Rattle.hand.specs.Slot.{flow_as}
use Rattle.forms.specs.Answers.{stands}
use Rattle.forms.specs.declared.stop.Stop.{Stop}
use Rattle.forms.specs.Form.{stop}

-- ---- the record

module _ (b ws : List ℕ) (loaded : ws ≡ words_at b 80 37) where
  pub words_fit_lem : words_fit (words_in b) ≡ true → words_fit ws ≡ true
  unfolding words_in
  words_fit_lem h = ap words_fit loaded ∙ h

  pub record_read_lem : {r : FlowRecord} → r ≡ record_of ws → r ≡ record_in b
  unfolding record_in words_in
  record_read_lem e = e ∙ ap record_of loaded

-- ---- the key

key_read_lem : (s : List ℕ) → key_or (read_at key s 0) ≡ key_from s
unfolding key_from
key_read_lem s = ap key_or (placed_front key.read s) ∙ go (key.read s)
  where
    go : (r : Read FlowKey (List ℕ)) → key_or (and_then r (λ a rest. got a (length s - length rest))) ≡ key_or r
    go (got k rest) = refl
    go (stop Stop.Short) = refl
    go (stop Stop.Refused) = refl

module _ (b s : List ℕ) (x : Result (FlowKey × ℕ) Stop) (lies : s ≡ key_of b) (says : stands x ≡ read_at key s 0) where
  key_there : key_or (stands x) ≡ key_in b
  unfolding key_in
  key_there = ap key_or says ∙ key_read_lem s ∙ ap key_from lies

  pub key_value : (k : FlowKey) (next : ℕ) → x ≡ Ok (k, next) → k ≡ key_in b
  key_value k next e = ap (λ (y : Result (FlowKey × ℕ) Stop). key_or (stands y)) (sym e) ∙ key_there

  pub key_stopped : (why : Stop) {k : FlowKey} → k ≡ no_key → x ≡ Err why → k ≡ key_in b
  key_stopped Stop.Short blank e = blank ∙ ap (λ (y : Result (FlowKey × ℕ) Stop). key_or (stands y)) (sym e) ∙ key_there
  key_stopped Stop.Refused blank e = blank ∙ ap (λ (y : Result (FlowKey × ℕ) Stop). key_or (stands y)) (sym e) ∙ key_there

-- ---- the flow as it is handed out

module _ (r : FlowRecord) (other : EndReason) (seen : Bool) (is : seen ≡ both_fins r) where
  pub fin_seen_lem : seen ≡ true → Fin ≡ cond (both_fins r) Fin other
  fin_seen_lem e = ap (λ (t : Bool). cond t Fin other) (sym e ∙ is)

  pub fin_unseen : seen ≡ false → other ≡ cond (both_fins r) Fin other
  fin_unseen e = ap (λ (t : Bool). cond t Fin other) (sym e ∙ is)

pub finished_is : (k : FlowKey) (reason : EndReason) (r : FlowRecord) {r' : FlowRecord} → r' ≡ closed r reason
    → ◌≡◌ {A = Flow} (record { key = k; «record» = r' }) (finished_flow k reason r)
finished_is k reason r e = ap (λ (x : FlowRecord). record { key = k; «record» = x }) e

pub finished_slot : (b : List ℕ) (other : EndReason) (r : FlowRecord) (k : FlowKey) (reason : EndReason) {f : Flow} → r ≡ record_in b → k ≡ key_in b
    → reason ≡ cond (both_fins r) Fin other → f ≡ finished_flow k reason r → f ≡ flow_as (finish_or engine other (flow_in b))
unfolding flow_in
finished_slot b other r k reason is own why e =
    e ∙ ap (λ (x : EndReason). finished_flow k x r) why ∙ (λ t. finished_flow (own t) (cond (both_fins (is t)) Fin other) (is t))
