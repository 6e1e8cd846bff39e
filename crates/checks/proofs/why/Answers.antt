-- `why` meets its contract: each line of the checks 1 to 3 is tested in turn, and past them `why_name` has the others.
use native.Mathlib.Omega.{arith}
use mathlib.Core.Path.{sym, ◌∙◌}
use Rattle.name.proofs.Whole.{whole_fits}
use Rattle.checks.proofs.CheckLines.{limit_0_refused, limit_256_refused, apex_refused, apex_too_long, name_refused}
use Rattle.checks.proofs.why.Goals as goal

pub returns-then-most-lt1 : goal.returns-then-most-lt1
returns-then-most-lt1 c = limit_0_refused _ _ _ _ c.if-most-lt1.true

pub returns-then-most-gt-MAX_LEN : goal.returns-then-most-gt-MAX_LEN
returns-then-most-gt-MAX_LEN c = limit_256_refused _ _ _ _ c.if-most-lt1.false c.if-most-gt-MAX_LEN.true

pub overflow_add-apex : goal.overflow_add-apex
overflow_add-apex c = omega (arith, whole_fits _ (sym c.read.ensures ∙ c.in_default.is))

pub returns-then-most-apex : goal.returns-then-most-apex
returns-then-most-apex c = apex_too_long _ _ _ _ c.if-most-lt1.false c.if-most-gt-MAX_LEN.false (sym c.read.ensures ∙ c.in_default.is)
    (omega arith)

pub returns-in-Err : goal.returns-in-Err
returns-in-Err c = apex_refused _ _ _ _ c.if-most-lt1.false c.if-most-gt-MAX_LEN.false _ (sym c.read.ensures ∙ c.in-Err.is)

pub returns : goal.returns
returns c = name_refused _ _ _ c.why_name.result c.if-most-lt1.false c.if-most-gt-MAX_LEN.false
    (sym c.read.ensures ∙ c.in_default.is) (omega arith) c.why_name.ensures
