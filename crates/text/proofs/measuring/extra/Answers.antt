-- `extra` meets its contract: the octets counted and those still to come have all the characters.
use native.Mathlib.Omega.{arith}
use Rattle.text.proofs.Measures.{counting_step, counting_all}
use Rattle.text.proofs.measuring.extra.Goals.{else-is_special, else-not-is_printable, then-is_special, then-not-is_printable}
use Rattle.text.proofs.measuring.extra.Goals as goal

pub loop-o-preserved : goal.loop-o-preserved
loop-o-preserved c = counting_step c.loop-o.invariant (omega arith) c.is_special.ensures c.is_printable.ensures
    (elim c.if-is_special.branch [
      | then-is_special w ↦ rw w.if-is_special.true (omega arith)
      | else-is_special w ↦ rw w.if-is_special.false (omega arith)
    ])
    (elim c.if-not-is_printable.branch [
      | then-not-is_printable w ↦ rw w.if-not-is_printable.true (omega arith)
      | else-not-is_printable w ↦ rw w.if-not-is_printable.false (omega arith)
    ])

pub returns : goal.returns
returns c = counting_all c.loop-o.invariant (omega arith)
