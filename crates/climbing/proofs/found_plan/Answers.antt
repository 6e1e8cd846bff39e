-- `found_plan` meets its contract: the number is taken apart again (Finding).
use Rattle.climbing.proofs.Finding.{found_apex, found_longer, found_higher}
use Rattle.climbing.proofs.found_plan.Goals as goal

pub returns-then-index-eq0 : goal.returns-then-index-eq0
returns-then-index-eq0 c = λ octets f. rw c.unchanged.ensures (found_apex f c.if-index-eq0.true)

pub extended-requires : goal.extended-requires
extended-requires c = (found_longer c.requires.finds c.if-index-eq64.true).0

pub returns-then-index-eq64 : goal.returns-then-index-eq64
returns-then-index-eq64 c = λ octets f. rw c.extended.ensures (found_longer f c.if-index-eq64.true).1

pub raised-requires : goal.raised-requires
raised-requires c = let h = found_higher c.requires.finds c.if-index-eq0.false c.if-index-eq64.false in (h.0, h.1)

pub returns : goal.returns
returns c = λ octets f. rw c.raised.ensures (found_higher f c.if-index-eq0.false c.if-index-eq64.false).2
