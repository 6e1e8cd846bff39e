-- `deny` meets its contract: the wildcard passes the limit, is the next closer name, or has a gap of its own (`gaps_both`).
use native.Mathlib.Omega.{arith}
use Rattle.denial.proofs.Deciding.{gaps_long, gaps_same, gaps_both}
use Rattle.denial.proofs.deny.Goals as goal

pub returns-then-limit-n : goal.returns-then-limit-n
returns-then-limit-n c = let a = c.args in
    gaps_long a.apex.now a.limit a.encloser.now a.closer.now c.requires (omega arith) c.deny_one.ensures

pub returns-then-is_wild : goal.returns-then-is_wild
returns-then-is_wild c = let a = c.args in
    gaps_same a.apex.now a.limit a.encloser.now a.closer.now c.requires (omega arith) c.is_wild.ensures c.if-is_wild.true
    c.deny_one-then-is_wild.ensures

pub returns : goal.returns
returns c = let a = c.args in
    gaps_both a.apex.now a.limit a.encloser.now a.closer.now c.requires (omega arith) c.is_wild.ensures c.if-is_wild.false
    c.deny_two.ensures
