-- `is_member` meets its contract: the checks place a name that is well formed, within the limit and at or under the apex.
use Rattle.checkowners.proofs.ZoneLines.{member_placed, member_refused}
use Rattle.checkowners.proofs.is_member.Goals as goal

pub returns-then-place-lt-MAX_LEN : goal.returns-then-place-lt-MAX_LEN
returns-then-place-lt-MAX_LEN c = member_placed c.place-place.ensures c.if-place-lt-MAX_LEN.true _ c.is_folded.ensures

pub returns : goal.returns
returns c = member_refused c.place-place.ensures c.requires c.if-place-lt-MAX_LEN.false
