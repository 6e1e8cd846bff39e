-- `why_name` meets its contract: what reading finds and the test of the length are the definition's.
use borrow.Author.Tests.{lt-ltb, le-ltb}
use mathlib.Core.Path.{sym, ◌∙◌}
use Rattle.checks.proofs.why_name.Goals as goal

pub returns-then-limit-name : goal.returns-then-limit-name
returns-then-limit-name c = rw (sym c.read.ensures ∙ c.in_default.is, lt-ltb _ _ c.if-limit-name.true)

pub returns-in-Err : goal.returns-in-Err
returns-in-Err c = rw (sym c.read.ensures ∙ c.in-Err.is)

pub returns : goal.returns
returns c = rw (sym c.read.ensures ∙ c.in_default.is, le-ltb _ _ c.if-limit-name.false)
