-- `key_length` meets its contract: the octets 0 and 1 of a name are those of its labels, the length octets that are 1 and the last octet.
use native.Mathlib.Omega.{arith}
use Rattle.name.proofs.Whole.{whole_fits}
use Rattle.tokey.proofs.SmallCounts.{small_whole}
use Rattle.key.proofs.KeyLength.{name_key_length, small_in_label}
use Rattle.tokey.proofs.key_length.Goals as goal

pub count_small-requires : goal.count_small-requires
count_small-requires c = whole_fits _ c.requires.0

pub overflow_sub-result : goal.overflow_sub-result
overflow_sub-result c = omega (arith, small_whole _ c.requires.0, small_in_label c.args.name.now)

pub overflow_sub-result-2 : goal.overflow_sub-result-2
overflow_sub-result-2 c = omega (arith, small_whole _ c.requires.0, small_in_label c.args.name.now)

pub returns : goal.returns
returns c = omega (arith, small_whole _ c.requires.0, name_key_length _ c.requires.0)
