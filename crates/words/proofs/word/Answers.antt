-- `word` meets its contract: the word of eight octets is made of two words of four, and no sum wraps.
use Prim.Native.Nat.{◌+◌, ◌*◌, ◌^◌, ◌<◌}
use native.Mathlib.Omega.{arith}
use borrow.Author.Tests.{lt-leb}
use lib.ListN.{length}
use Rattle.words.proofs.Octets.{halves_word, halves_fit}
use Rattle.words.proofs.word.Goals as goal

pub returns-then-s-lt8 : goal.returns-then-s-lt8
returns-then-s-lt8 c = rw (lt-leb 8 (length c.args.s.now) c.if-s-lt8.true)

pub overflow_mul-result : goal.overflow_mul-result
overflow_mul-result c = let fits : c.four.result + 4294967296 * c.four-2.result < 2 ^ 64 =
    halves_fit c.args.s.now _ _ c.if-s-lt8.false c.four.ensures c.four-2.ensures
    (λ i. omega (arith, c.type_inv.s i)) in
    omega (arith, fits)

pub overflow_add-result : goal.overflow_add-result
overflow_add-result c = let fits : c.four.result + 4294967296 * c.four-2.result < 2 ^ 64 =
    halves_fit c.args.s.now _ _ c.if-s-lt8.false c.four.ensures c.four-2.ensures
    (λ i. omega (arith, c.type_inv.s i)) in
    omega (arith, fits)

pub returns : goal.returns
returns c = halves_word c.args.s.now _ _ c.if-s-lt8.false c.four.ensures c.four-2.ensures
