-- `put_octets` meets its contract: the octets from the i-th on are written, and the next is written before them.
use native.Mathlib.Omega.{arith}
use Rattle.tokey.proofs.PutOctets.{putting_left, putting_more, putting_room, putting_all}
use Rattle.tokey.proofs.put_octets.Goals as goal

pub put_two-at-requires : goal.put_two-at-requires
put_two-at-requires c = let p = c.loop-i.invariant in (omega (arith, putting_left p), omega arith)

pub loop-i-preserved : goal.loop-i-preserved
loop-i-preserved c = putting_more c.loop-i.invariant c.loop-i-test.true c.put_two-at.ensures

pub put_octet-requires : goal.put_octet-requires
put_octet-requires c = putting_room c.loop-i.invariant c.loop-i-test.false

pub returns : goal.returns
returns c = putting_all c.loop-i.invariant c.loop-i-test.false c.put_octet.ensures
