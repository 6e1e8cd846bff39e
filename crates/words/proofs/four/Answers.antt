-- `four` meets its contract: no sum of octets wraps, and the sum is their word.
use mathlib.Core.Path.{sym}
use native.Mathlib.Omega.{arith}
use Rattle.words.proofs.Octets.{word_four}
use Rattle.words.proofs.four.Goals as goal

pub overflow_mul-result : goal.overflow_mul-result
overflow_mul-result c = omega (arith, c.type_inv.s 1)

pub overflow_add-result : goal.overflow_add-result
overflow_add-result c = omega (arith, c.type_inv.s 0, c.type_inv.s 1)

pub overflow_mul-result-2 : goal.overflow_mul-result-2
overflow_mul-result-2 c = omega (arith, c.type_inv.s 2)

pub overflow_add-result-2 : goal.overflow_add-result-2
overflow_add-result-2 c = let octet = c.type_inv.s in
    omega (arith, octet 0, octet 1, octet 2)

pub overflow_mul-result-3 : goal.overflow_mul-result-3
overflow_mul-result-3 c = omega (arith, c.type_inv.s 3)

pub overflow_add-result-3 : goal.overflow_add-result-3
overflow_add-result-3 c = let octet = c.type_inv.s in
    omega (arith, octet 0, octet 1, octet 2, octet 3)

pub returns : goal.returns
returns c = sym (word_four c.args.s.now c.requires)
