-- `closer_place` meets its contract: the checks refuse what is no ancestor, and at the place that they find the next closer name begins.
use native.Mathlib.Omega.{arith}
use mathlib.Core.Path.{◌∙◌}
use Prim.Native.Nat.{◌<◌}
use lib.Seq.{drop-length}
use Rattle.name.proofs.LabelSteps.{inside}
use Rattle.covering.proofs.Closers.{closer_refused, closer_same, closer_found}
use borrow.Author.Rules.{rules}
use Rattle.covering.proofs.closer_place.Goals as goal

pub returns-then-at-eq-MAX_LEN : goal.returns-then-at-eq-MAX_LEN
returns-then-at-eq-MAX_LEN c = (search rules, drop-length c.args.query.now ∙ closer_refused _ _ _ c.place-at.ensures (omega arith))

pub returns-then-query-encloser : goal.returns-then-query-encloser
returns-then-query-encloser c = let below : c.place-at.result < 255 = omega (arith, c.place-at.ensures.most) in
    (search rules, drop-length c.args.query.now ∙ closer_same _ _ _ c.place-at.ensures below c.if-query-encloser.true)

pub returns : goal.returns
returns c = let below : c.place-at.result < 255 = omega (arith, c.place-at.ensures.most) in
    let p = c.place-at.ensures in (
      omega (arith, inside (p.last below).reaches.climbs.stands),
      closer_found _ _ _ p below c.if-query-encloser.false,
    )
