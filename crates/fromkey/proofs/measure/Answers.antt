-- At the key's end the labels that were measured are all there are, and their sizes are noted.
use Rattle.fromkey.proofs.MeasureKey.{measuring_whole}
use Rattle.fromkey.proofs.measure.Goals as goal

pub returns : goal.returns
returns c = measuring_whole c.loop-p.invariant c.loop-p-test.false
