-- The types of each octet are written behind those of the octets before it (`Octeted`).
use native.Mathlib.Omega.{arith}
use Rattle.fromtypes.proofs.Listing.{octeted_none, octeted_room, octeted_more, octeted_all}
use Rattle.fromtypes.proofs.reading.put_octets.Goals as goal

pub loop-i-init : goal.loop-i-init
loop-i-init c = octeted_none _ _ _ _ _ _ c.requires.bitmap_in_bounds

pub put_bits-k-requires : goal.put_bits-k-requires
put_bits-k-requires c = (octeted_room c.loop-i.invariant c.loop-i-test.true c.requires.n_in_bounds.0, omega arith)

pub loop-i-preserved : goal.loop-i-preserved
loop-i-preserved c = octeted_more c.loop-i.invariant c.loop-i-test.true c.requires.n_in_bounds.0 c.put_bits-k.ensures

pub returns : goal.returns
returns c = octeted_all c.loop-i.invariant c.loop-i-test.false
