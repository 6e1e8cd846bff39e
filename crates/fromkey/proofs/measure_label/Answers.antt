-- Along the label every octet that is passed is one that the reader takes (`Along`); at each stop the reader stops there too.
use mathlib.Core.Path.{sym, ◌∙◌}
use native.Mathlib.Omega.{arith}
use Rattle.fromkey.proofs.MeasureLabel.{along_cut, along_empty, along_full, along_upper, along_broken}
use Rattle.fromkey.proofs.MeasureLabel.{along_octet}
use Rattle.fromkey.proofs.MeasureLabel.{along_escape, along_ends}
use Rattle.fromkey.proofs.measure_label.Goals as goal

pub returns-then-size-eq0 : goal.returns-then-size-eq0
returns-then-size-eq0 c = search (along_empty, arith)

pub returns-then-o-eq0 : goal.returns-then-o-eq0
returns-then-o-eq0 c = search (along_ends, arith)

pub returns-then-most-size : goal.returns-then-most-size
returns-then-most-size c = along_full c.loop-p.invariant (omega arith) c.if-o-eq0.false (omega arith)

pub returns-then-is_ascii_uppercase : goal.returns-then-is_ascii_uppercase
returns-then-is_ascii_uppercase c =
    let h = rw c.if-is_ascii_uppercase.true at c.is_ascii_uppercase.ensures.cases in
    along_upper c.loop-p.invariant (omega arith) (omega (arith, h)) (omega (arith, h))

pub returns-then-not-completes_escape : goal.returns-then-not-completes_escape
returns-then-not-completes_escape c = along_broken c.loop-p.invariant (omega arith) (omega arith) c.if-o-eq1.true
    (sym c.completes_escape.ensures ∙ c.if-not-completes_escape.true)

pub loop-p-preserved-then-o-eq1 : goal.loop-p-preserved-then-o-eq1
loop-p-preserved-then-o-eq1 c = along_escape c.loop-p.invariant (omega arith) (omega arith) c.if-o-eq1.true
    (sym c.completes_escape.ensures ∙ c.if-not-completes_escape.false)

pub loop-p-preserved : goal.loop-p-preserved
loop-p-preserved c = let l = c.loop-p in
    let h = rw c.if-is_ascii_uppercase.false at c.is_ascii_uppercase.ensures.cases in
    along_octet l.invariant (omega arith) (omega arith) c.if-o-eq0.false c.if-o-eq1.false
    (omega (arith, c.type_inv.key l.p)) (λ low high. omega (arith, h))

pub returns : goal.returns
returns c = along_cut c.loop-p.invariant c.loop-p-test.false
