-- `extends` meets its contract: the tests are those of the definition.
use borrow.Author.Tests.{lt-ltb, le-ltb}
use lib.ListN.{get_or}
use Rattle.climbing.proofs.extends.Goals as goal

pub returns-then-name-at-lt-MAX_LABEL : goal.returns-then-name-at-lt-MAX_LABEL
returns-then-name-at-lt-MAX_LABEL c = let a = c.args in
    rw (lt-ltb a.at a.cut c.if-at-cut.true, lt-ltb (get_or a.name.now a.at 0) 63 c.if-name-at-lt-MAX_LABEL.true)

pub returns-else-name-at-lt-MAX_LABEL : goal.returns-else-name-at-lt-MAX_LABEL
returns-else-name-at-lt-MAX_LABEL c = let a = c.args in
    rw (lt-ltb a.at a.cut c.if-at-cut.true, le-ltb (get_or a.name.now a.at 0) 63 c.if-name-at-lt-MAX_LABEL.false)

pub returns-else-at-cut : goal.returns-else-at-cut
returns-else-at-cut c = let a = c.args in rw (le-ltb a.at a.cut c.if-at-cut.false)
