-- `find_owner` meets its contract: each line of the refusals is tested in turn, and past them the halving answers.
use mathlib.Core.Path.{sym, ◌∙◌}
use Rattle.name.proofs.Marking.{not_marked, marked_whole, marked_starts}
use Rattle.owners.specs.Sizes.{most_owners, most_octets}
use Rattle.findowner.proofs.Turns.{query_refused, list_refused, list_halved}
use Rattle.findowner.proofs.find_owner.Goals as goal

pub returns-then-too_large : goal.returns-then-too_large
returns-then-too_large c = let a = c.args in
    list_refused most_owners most_octets a.names.now a.starts.now a.query.now (search (marked_whole))
    (sym c.if-too_large.true ∙ c.too_large.ensures)

pub halve-requires : goal.halve-requires
halve-requires c = search (marked_starts)

pub returns-in-Err : goal.returns-in-Err
returns-in-Err c = let a = c.args in
    query_refused most_owners most_octets a.names.now a.starts.now a.query.now c.in-Err.fault
    (search (not_marked))

pub returns-else-too_large : goal.returns-else-too_large
returns-else-too_large c = let a = c.args in
    c.halve.ensures
    ∙ list_halved most_owners most_octets a.names.now a.starts.now a.query.now (search (marked_whole))
    (sym c.if-too_large.false ∙ c.too_large.ensures)
