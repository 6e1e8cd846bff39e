-- `put_blocks` meets its contract: where the octets have room they are copied, and otherwise none.
use mathlib.Core.Path.{refl, sym, ◌∙◌}
use borrow.Author.Tests.{leb-true, leb-false}
use Rattle.space.proofs.Putting.{put_none}
use Rattle.space.proofs.put_blocks.Goals as goal

pub copy-requires : goal.copy-requires
copy-requires c = leb-true _ _ (sym c.within.ensures ∙ c.if-within.true)

pub returns-else-within : goal.returns-else-within
returns-else-within c = put_none _ _ _ refl (leb-false _ _ (sym c.within.ensures ∙ c.if-within.false))
