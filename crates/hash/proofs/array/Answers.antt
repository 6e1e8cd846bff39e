-- 20 octets are put over an array of 20, and any others leave it as it is.
use Rattle.std.proofs.Common.{sym, ◌∙◌, rules}
use Rattle.hash.proofs.Arrays.{put_whole}
use Rattle.hash.proofs.Hashes.{is_array, no_array}
use Rattle.hash.proofs.array.Goals as goal

pub returns-then-octets-eq20 : goal.returns-then-octets-eq20
returns-then-octets-eq20 c = c.put.ensures ∙ put_whole _ _ (search rules) ∙ sym (is_array c.args.octets.now c.if-octets-eq20.true)

pub returns-else-octets-eq20 : goal.returns-else-octets-eq20
returns-else-octets-eq20 c = sym (no_array c.args.octets.now c.if-octets-eq20.false)
