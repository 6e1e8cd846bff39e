-- `encloser_of` meets its contract: how the query stands to both ends of the gap says where its encloser stands.
use native.Mathlib.Omega.{arith}
use mathlib.Core.Path.{◌∙◌}
use Rattle.name.proofs.Whole.{whole_fits}
use Rattle.enclosing.specs.Private.Forks.{Nears}
use Rattle.enclosing.proofs.Advancing.{scans_found, scans_none, nears_fewer}
use Rattle.enclosing.proofs.Enclosing.{encloses, no_query}
use Rattle.enclosing.proofs.encloser_of.Goals as goal

pub returns-then-query-gt-MAX_LEN : goal.returns-then-query-gt-MAX_LEN
returns-then-query-gt-MAX_LEN c = no_query _ _ _ (λ e. omega (arith, whole_fits _ e, c.if-query-gt-MAX_LEN.true))

pub relate-x-requires : goal.relate-x-requires
relate-x-requires c = let near : Nears c.args.query.now c.max.result
    c.in-Some.u = scans_found _ _ _ c.scan-found.ensures c.in-Some.is in
    (nears_fewer near (omega (arith, c.max.ensures)), c.same_end-m.ensures)

pub relate-y-requires : goal.relate-y-requires
relate-y-requires c = let near : Nears c.args.query.now c.max.result
    c.in-Some.u = scans_found _ _ _ c.scan-found.ensures c.in-Some.is in
    (nears_fewer near (omega (arith, c.max.ensures)), c.same_end-n.ensures)

pub returns-in-None : goal.returns-in-None
returns-in-None c = no_query _ _ _ (scans_none _ _ _ c.scan-found.ensures c.in-None.is)

pub returns-in-Some : goal.returns-in-Some
returns-in-Some c = let near : Nears c.args.query.now c.max.result
    c.in-Some.u = scans_found _ _ _ c.scan-found.ensures c.in-Some.is in
    c.enclose.ensures ∙ encloses _ _ _ near.stands.here.whole c.relate-x.ensures c.relate-y.ensures
