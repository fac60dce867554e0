use Rattle.memory.proofs.Words.{Loaded}
use Rattle.memory.proofs.load_words.Given as goal

abbrev pub invariant-loop-k : goal.invariant-loop-k
invariant-loop-k l = Loaded l.s l.at l.initial.ws l.k l.ws
