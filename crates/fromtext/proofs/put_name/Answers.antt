-- `put_name` meets its contract: the part that is put has n octets, and stands at the front.
use native.Mathlib.Omega.{arith}
use mathlib.Core.Path.{sym, ◌∙◌}
use lib.Seq.{length-take-le}
use Rattle.space.proofs.Putting.{put_front}
use Rattle.fromtext.proofs.put_name.Goals as goal

pub slice_bounds-put_blocks-end : goal.slice_bounds-put_blocks-end
slice_bounds-put_blocks-end c = sym (length-take-le _ _ (omega arith))

pub returns : goal.returns
returns c = c.put_blocks.ensures ∙ put_front _ _
