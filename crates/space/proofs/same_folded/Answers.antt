-- `same_folded` meets its contract: nothing is the beginning of any octets, and fewer octets do not begin with more.
use mathlib.Core.Path.{sym, ◌∙◌}
use native.Mathlib.Omega.{arith}
use borrow.Author.Tests.{leb-true, leb-false}
use Rattle.space.proofs.SameBlocks.{same_begins, same_short, same_empty}
use Rattle.space.proofs.same_folded.Goals as goal

pub returns-then-n-eq0 : goal.returns-then-n-eq0
returns-then-n-eq0 c = let a = c.args in same_empty a.s.now a.at a.t.now c.if-n-eq0.true

pub same_octets-requires : goal.same_octets-requires
same_octets-requires c = leb-true _ _ (sym c.within.ensures ∙ c.if-within.true)

pub returns-then-within : goal.returns-then-within
returns-then-within c = same_begins _ _ _ c.same_octets.ensures

pub returns : goal.returns
returns c = let a = c.args in
    same_short a.s.now a.at a.t.now (leb-false _ _ (sym c.within.ensures ∙ c.if-within.false)) (omega arith)
