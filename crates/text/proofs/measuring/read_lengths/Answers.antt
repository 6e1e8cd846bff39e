-- `read_lengths` meets its contract: reading has come to the place p, and if it finds the octets whole, `more` is right of those before it.
use mathlib.Core.Path.{sym}
use native.Mathlib.Omega.{arith}
use Rattle.name.proofs.ReadSteps.{left_over, bad_length, too_long, whole}
use Rattle.text.proofs.Measures.{measuring_none, measuring_some, measuring_more, measured_whole}
use Rattle.text.proofs.measuring.read_lengths.Goals as goal

pub loop-p-init : goal.loop-p-init
loop-p-init c = measuring_none _

pub returns-then-q-octets : goal.returns-then-q-octets
returns-then-q-octets c = sym (left_over _ _ c.loop-p.invariant.at (omega arith) c.if-o-eq0.true c.if-q-octets.true)

pub returns-then-o-eq0 : goal.returns-then-o-eq0
returns-then-o-eq0 c = let m = c.loop-p.invariant in
    let w = sym (whole _ _ m.at (omega arith) c.if-o-eq0.true c.if-q-octets.false) in
    (w, measured_whole m w c.if-o-eq0.true)

pub returns-then-n-gt-MAX_LABEL : goal.returns-then-n-gt-MAX_LABEL
returns-then-n-gt-MAX_LABEL c = sym (bad_length _ _ c.loop-p.invariant.at (omega arith) c.if-n-gt-MAX_LABEL.true)

pub returns-then-e-ge-MAX_LEN : goal.returns-then-e-ge-MAX_LEN
returns-then-e-ge-MAX_LEN c =
    sym (too_long _ _ c.loop-p.invariant.at (omega arith) c.if-o-eq0.false c.if-n-gt-MAX_LABEL.false (omega arith))

pub loop-p-preserved : goal.loop-p-preserved
loop-p-preserved c = let m = c.loop-p.invariant in
    measuring_more m c.width.ensures (omega arith) c.if-o-eq0.false (omega arith) (omega arith)
    (omega (arith, measuring_some m c.width.ensures))
