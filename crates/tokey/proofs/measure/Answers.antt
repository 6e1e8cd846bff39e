-- `measure` meets its contract: reading has come to the place p, and if it finds the octets whole, n length octets before it are 1.
use mathlib.Core.Path.{sym}
use native.Mathlib.Omega.{arith}
use Rattle.tokey.proofs.Measures.{measuring_none, measuring_one, measuring_more, measured_broken, measured_whole}
use Rattle.name.proofs.ReadSteps.{left_over, bad_length, too_long}
use Rattle.tokey.proofs.measure.Goals as goal

pub loop-p-init : goal.loop-p-init
loop-p-init c = measuring_none _

pub returns-then-q-octets : goal.returns-then-q-octets
returns-then-q-octets c = measured_broken _ _ _ (search (left_over, arith))

pub returns-then-o-eq0 : goal.returns-then-o-eq0
returns-then-o-eq0 c = search (measured_whole, arith)

pub returns-then-o-gt-MAX_LABEL : goal.returns-then-o-gt-MAX_LABEL
returns-then-o-gt-MAX_LABEL c = measured_broken _ _ _ (search (bad_length, arith))

pub returns-then-e-ge-MAX_LEN : goal.returns-then-e-ge-MAX_LEN
returns-then-e-ge-MAX_LEN c = measured_broken _ _ _ (search (too_long, arith))

pub overflow_add-n : goal.overflow_add-n
overflow_add-n c = omega (arith, c.loop-p.invariant.few)

pub loop-p-preserved-then-o-eq1 : goal.loop-p-preserved-then-o-eq1
loop-p-preserved-then-o-eq1 c = measuring_one c.loop-p.invariant (omega arith) c.if-o-eq0.false (omega arith) (omega arith) c.if-o-eq1.true

pub loop-p-preserved : goal.loop-p-preserved
loop-p-preserved c = measuring_more c.loop-p.invariant (omega arith) c.if-o-eq0.false (omega arith) (omega arith) c.if-o-eq1.false

pub returns : goal.returns
returns c = measured_broken _ _ _ (sym (c.loop-p.invariant.at.1 c.loop-p-test.false))
