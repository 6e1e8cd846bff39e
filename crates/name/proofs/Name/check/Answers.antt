-- `check` meets its contract: a whole name is held as it is with the places that were noted, any other as the empty one with none.
use mathlib.Core.Path.{◌≡◌, refl}
use mathlib.Core.List.{[]}
use lib.ListN.{length, replicate}
use Rattle.name.specs.Starts.{starts_from, starts_of}
use Rattle.name.specs.Check.{in_array}
use Rattle.name.proofs.Whole.{whole_fits}
use Rattle.name.proofs.Answers.{checks_whole, checks_broken}
use Rattle.name.proofs.Marking.{not_marked, marked_whole, marked_count, marked_array}
use Rattle.name.proofs.Name.check.Goals as goal

-- the empty name has no label, and no place
no-starts : (0 ≡ length (starts_of [])) × (replicate 127 0 ≡ in_array 127 (starts_of []))
unfolding starts_from
no-starts = (refl, refl)

pub holding-requires-clause-octets_bound : goal.holding-requires-clause-octets_bound
holding-requires-clause-octets_bound c = let m = c.mark.ensures in
    let e = c.in-Ok.is in
    whole_fits _ (marked_whole _ _ _ m _ e)

pub holding-requires-clause-labels_value : goal.holding-requires-clause-labels_value
holding-requires-clause-labels_value c = let m = c.mark.ensures in
    let e = c.in-Ok.is in
    (marked_count _ _ _ m _ e, marked_array _ _ _ m _ e)

pub holding-requires-in-Err-clause-labels_value : goal.holding-requires-in-Err-clause-labels_value
holding-requires-in-Err-clause-labels_value c = (no-starts.0, no-starts.1)

pub returns-in-Ok : goal.returns-in-Ok
returns-in-Ok c = checks_whole _ _ (marked_whole _ _ _ c.mark.ensures _ c.in-Ok.is) c.holding.ensures

pub returns-in-Err : goal.returns-in-Err
returns-in-Err c = checks_broken _ _ _ (not_marked _ _ _ c.mark.ensures _ c.in-Err.is) c.holding-in-Err.ensures
