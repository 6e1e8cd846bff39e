-- `is_plain` meets its contract: a dot and a backslash do not stand for themselves.
use mathlib.Core.Path.{sym}
use mathlib.Core.Bool.{and-true}
use borrow.Author.Tests.{ne_eqb}
use Rattle.text.specs.Characters.{dot, backslash}
use Rattle.fromtext.proofs.is_plain.Goals as goal

pub returns-then-c-eq46 : goal.returns-then-c-eq46
returns-then-c-eq46 c = rw c.if-c-eq46.true

pub returns-then-c-eq92 : goal.returns-then-c-eq92
returns-then-c-eq92 c = rw c.if-c-eq92.true

pub returns : goal.returns
returns c = rw (c.is_printable.ensures, ne_eqb _ dot c.if-c-eq46.false, ne_eqb _ backslash c.if-c-eq92.false) (sym (and-true _))
