-- What is told of the first digits is their test, and one more joins it.
use mathlib.Core.Path.{◌≡◌}
use Prim.Native.Nat.{◌<◌}
use native.Mathlib.Omega.{arith}
use lib.ListN.{length}
use Rattle.hashlabel.proofs.Spelling.{tested_none, tested_more, tested_not, tested_all}
use borrow.Author.Rules.{rules}
use Rattle.hashlabel.proofs.are_digits.Goals.{else-digit-ge32, then-digit-ge32}
use Rattle.hashlabel.proofs.are_digits.Goals as goal

pub loop-digit-init : goal.loop-digit-init
loop-digit-init c = tested_none 32 c.args.digits

pub loop-digit-preserved : goal.loop-digit-preserved
loop-digit-preserved c = let s = c.args.digits in
    let n : length s ≡ 32 = search rules in
    let less : c.loop-digit.digit-index < length s = omega (arith, n, c.loop-digit-test.true) in
    elim c.if-digit-ge32.branch [
      | then-digit-ge32 w ↦ rw w.each-is (tested_not 32 s _ c.loop-digit.invariant less w.if-digit-ge32.true)
      | else-digit-ge32 w ↦ rw w.each-is (tested_more 32 s _ c.loop-digit.invariant less w.if-digit-ge32.false)
    ]

pub returns : goal.returns
returns c = let s = c.args.digits in
    let n : length s ≡ 32 = search rules in
    tested_all 32 s _ c.loop-digit.invariant (omega (arith, n, c.loop-digit-test.false))
