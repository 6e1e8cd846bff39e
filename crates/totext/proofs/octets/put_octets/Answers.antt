-- `put_octets` meets its contract: the octets before the i-th are written, and the next is written behind them.
use native.Mathlib.Omega.{arith}
use Rattle.totext.proofs.PutOctets.{putting_room, putting_more, putting_all}
use Rattle.totext.proofs.octets.put_octets.Goals as goal

pub put_octet-end-requires : goal.put_octet-end-requires
put_octet-end-requires c = putting_room c.loop-i.invariant c.loop-i-test.true

pub loop-i-preserved : goal.loop-i-preserved
loop-i-preserved c = putting_more c.loop-i.invariant c.loop-i-test.true c.put_octet-end.ensures

pub returns : goal.returns
returns c = putting_all c.loop-i.invariant (omega arith)
