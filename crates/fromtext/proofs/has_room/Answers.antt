-- `has_room` meets its contract: the two tests are those of `fits_in`.
use borrow.Author.Tests.{lt-ltb, le-ltb}
use Rattle.fromtext.proofs.has_room.Goals as goal

pub returns-then-size-lt-MAX_LABEL : goal.returns-then-size-lt-MAX_LABEL
returns-then-size-lt-MAX_LABEL c = rw (lt-ltb c.args.size 63 c.if-size-lt-MAX_LABEL.true)

pub returns : goal.returns
returns c = rw (le-ltb c.args.size 63 c.if-size-lt-MAX_LABEL.false)
