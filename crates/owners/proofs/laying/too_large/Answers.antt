-- `too_large` meets its contract: each size is tested by itself.
use Rattle.owners.proofs.Layouts.{many_owners, many_octets, not_large}
use Rattle.owners.proofs.laying.too_large.Goals as goal

pub returns-then-starts-gt-MOST_OWNERS : goal.returns-then-starts-gt-MOST_OWNERS
returns-then-starts-gt-MOST_OWNERS c = let a = c.args in
    many_owners _ _ a.names.now a.starts.now c.if-starts-gt-MOST_OWNERS.true

pub returns-then-names-gt-MOST_OCTETS : goal.returns-then-names-gt-MOST_OCTETS
returns-then-names-gt-MOST_OCTETS c = let a = c.args in
    many_octets _ _ a.names.now a.starts.now c.if-starts-gt-MOST_OWNERS.false c.if-names-gt-MOST_OCTETS.true

pub returns : goal.returns
returns c = let a = c.args in
    not_large _ _ a.names.now a.starts.now c.if-starts-gt-MOST_OWNERS.false c.if-names-gt-MOST_OCTETS.false
