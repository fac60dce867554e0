use Prim.Native.Nat.{◌+◌, ◌*◌}
use Rattle.index.proofs.Agree.{Agrees}
use Rattle.index.proofs.Walk.{Walked}
use Rattle.index.proofs.find.Given as goal

-- no slot so far that the index offers has the key
abbrev pub invariant-slots : goal.invariant-slots
invariant-slots l = Walked l.index l.state l.key l.hash l.place

-- the key's bytes so far are this slot's
abbrev pub invariant-loop-word : goal.invariant-loop-word
invariant-loop-word l = Agrees l.state (l.base + 2) l.key 0 (8 * l.word)

abbrev pub invariant-loop-k : goal.invariant-loop-k
invariant-loop-k l = Agrees l.state (l.base + 2) l.key 0 l.k
