use Rattle.memory.proofs.Words.{Stored}
use Rattle.memory.proofs.store_words.Given as goal

abbrev pub invariant-loop-k : goal.invariant-loop-k
invariant-loop-k l = Stored l.initial.s l.at l.ws l.k l.s
