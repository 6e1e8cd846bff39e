-- `check_list` meets its contract: each test of the list is made in turn, and the owners that do not break it are counted.
use mathlib.Core.Path.{◌≡◌, sym, ◌∙◌}
use mathlib.Core.Bool.{false}
use mathlib.Core.Logic.{inl, inr}
use native.Mathlib.Omega.{arith}
use Rattle.owners.specs.Sizes.{most_owners, most_octets, is_too_large}
use Rattle.checkowners.proofs.ZoneLines.{laid_large, laid_behind, laid_breaks, laid_accepted}
use Rattle.checkowners.proofs.check_list.Goals as goal

pub returns-then-too_large : goal.returns-then-too_large
returns-then-too_large c = let a = c.args in
    laid_large most_owners most_octets a.apex.now a.limit a.names.now a.starts.now
    (sym c.if-too_large.true ∙ c.too_large.ensures)

pub returns-then-starts-eq0 : goal.returns-then-starts-eq0
returns-then-starts-eq0 c = let small : false ≡ is_too_large most_owners most_octets c.args.names.now c.args.starts.now =
    sym c.if-too_large.false ∙ c.too_large.ensures in
    let a = c.args in
    laid_behind most_owners most_octets a.apex.now a.limit a.names.now a.starts.now small (inl c.if-starts-eq0.true)

pub returns-then-starts-ne0 : goal.returns-then-starts-ne0
returns-then-starts-ne0 c = let small : false ≡ is_too_large most_owners most_octets c.args.names.now c.args.starts.now =
    sym c.if-too_large.false ∙ c.too_large.ensures in
    let a = c.args in
    laid_behind most_owners most_octets a.apex.now a.limit a.names.now a.starts.now small (inr (omega arith))

pub returns-then-n-starts : goal.returns-then-n-starts
returns-then-n-starts c = let small : false ≡ is_too_large most_owners most_octets c.args.names.now c.args.starts.now =
    sym c.if-too_large.false ∙ c.too_large.ensures in
    let a = c.args in
    laid_breaks most_owners most_octets a.apex.now a.limit a.names.now a.starts.now small
    (omega (arith, c.if-starts-eq0.false)) (omega arith) _ c.count_unbroken-n.ensures c.if-n-starts.true

pub returns : goal.returns
returns c = let small : false ≡ is_too_large most_owners most_octets c.args.names.now c.args.starts.now = sym c.if-too_large.false
    ∙ c.too_large.ensures in
    let a = c.args in
    laid_accepted most_owners most_octets a.apex.now a.limit a.names.now a.starts.now small
    (omega (arith, c.if-starts-eq0.false)) (omega arith) _ c.count_unbroken-n.ensures c.if-n-starts.false
