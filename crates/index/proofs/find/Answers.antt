-- `index::find` meets its contract. Assumes nothing.
use native.Mathlib.Omega.{arith}
use mathlib.Core.Path.{refl}
use borrow.Author.Rules.{rules}
use Rattle.index.proofs.Agree.{agree_word}
use Rattle.index.proofs.Walk.{pass_tag, pass_unused, pass_length, pass_word, pass_byte, walk_hits, walk_misses, walk_ends}
use Rattle.index.proofs.find.Goals as goal

pub returns-then-entry-eq0 : goal.returns-then-entry-eq0
returns-then-entry-eq0 c = search (walk_misses, rules)

pub slots-preserved-then-entry-tag : goal.slots-preserved-then-entry-tag
slots-preserved-then-entry-tag c = pass_tag (omega arith) c.slots.invariant c.if-entry-tag.true

pub slots-preserved-then-state-base-ne-USED : goal.slots-preserved-then-state-base-ne-USED
slots-preserved-then-state-base-ne-USED c =
    pass_unused refl (search rules) c.slots.invariant (omega (arith, c.requires.indexed.inside c.slots.place c.if-entry-eq0.false)) (search rules)
    c.if-state-base-ne-USED.true

pub slots-preserved-then-state-base : goal.slots-preserved-then-state-base
slots-preserved-then-state-base c = search (pass_length, rules)

pub slots-preserved-then-load_u64 : goal.slots-preserved-then-load_u64
slots-preserved-then-load_u64 c =
    pass_word refl (search rules) c.slots.invariant (omega (arith, c.requires.indexed.inside c.slots.place c.if-entry-eq0.false)) (search rules)
    c.if-state-base.false _ _ _ (omega arith) c.load_u64.ensures c.load_u64-in-loop-word.ensures c.if-load_u64.true

pub loop-word-preserved : goal.loop-word-preserved
loop-word-preserved c =
    agree_word _ (omega (arith, c.requires.indexed.inside c.slots.place c.if-entry-eq0.false)) (omega arith) (search rules) (search rules)
    c.loop-word.invariant c.load_u64.ensures c.load_u64-in-loop-word.ensures c.if-load_u64.false

pub slots-preserved : goal.slots-preserved
slots-preserved c = search (pass_byte, rules)

pub returns-in-slots : goal.returns-in-slots
returns-in-slots c =
    walk_hits c.requires.indexed c.slots.place c.if-entry-eq0.false c.args.key.now refl c.requires.no_key_twice
    c.requires.capacity_in_bounds (search rules) c.if-state-base-ne-USED.false c.if-state-base.false c.loop-k.invariant c.loop-k-test.false

pub returns : goal.returns
returns c = search (walk_ends, rules)
