-- `is_apex` meets its contract: octets that are as many, folded, and the same when folded are those of the folded apex.
use mathlib.Core.Path.{sym, ◌∙◌}
use Rattle.checkowners.proofs.ZoneLines.{apex_other_length, apex_unfolded, apex_folded}
use Rattle.checkowners.proofs.is_apex.Goals as goal

pub returns-then-owner-apex : goal.returns-then-owner-apex
returns-then-owner-apex c = let a = c.args in
    apex_other_length a.apex.now a.owner.now c.if-owner-apex.true

pub returns-then-is_folded : goal.returns-then-is_folded
returns-then-is_folded c = let a = c.args in
    apex_folded a.apex.now a.owner.now c.if-owner-apex.false (sym c.if-is_folded.true ∙ c.is_folded.ensures) _
    c.same_folded.ensures

pub returns : goal.returns
returns c = let a = c.args in
    apex_unfolded a.apex.now a.owner.now (sym c.if-is_folded.false ∙ c.is_folded.ensures)
