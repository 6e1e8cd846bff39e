-- `extra` meets its contract: the octets counted and those still to come have all the characters.
use Rattle.text.proofs.Measures.{Counting}
use Rattle.text.proofs.measuring.extra.Given as goal

abbrev pub invariant-loop-o : goal.invariant-loop-o
invariant-loop-o l = Counting l.octets l.specials l.numbered l.o-index
