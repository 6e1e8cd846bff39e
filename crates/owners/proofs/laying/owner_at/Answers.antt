-- `owner_at` meets its contract: an owner whose start and end are in order and in range has the octets between them, and any other none.
use mathlib.Core.Path.{refl}
use native.Mathlib.Omega.{arith}
use Rattle.owners.proofs.Layouts.{owner_missing, owner_beyond, owner_falls, owner_part}
use Rattle.owners.proofs.laying.owner_at.Goals as goal

pub returns-then-starts-i : goal.returns-then-starts-i
returns-then-starts-i c = owner_missing _ _ _ c.if-starts-i.true

pub returns-then-names-end : goal.returns-then-names-end
returns-then-names-end c = owner_beyond _ _ _ c.if-starts-i.false _ _ refl c.end_of-end.ensures (omega arith)

pub returns-then-end-start : goal.returns-then-end-start
returns-then-end-start c = owner_falls _ _ _ c.if-starts-i.false _ _ refl c.end_of-end.ensures c.if-end-start.true

pub returns : goal.returns
returns c = owner_part _ _ _ c.if-starts-i.false _ _ refl c.end_of-end.ensures (omega arith)
