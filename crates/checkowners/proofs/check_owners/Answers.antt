-- `check_owners` meets its contract: the checks of the apex as a name of its own zone are 1 to 3, and past them the list is checked.
use mathlib.Core.Path.{◌∙◌}
use Rattle.owners.specs.Sizes.{most_owners, most_octets}
use Rattle.checkowners.proofs.ZoneLines.{zone_passes, zone_refused, zone_checked}
use Rattle.checkowners.proofs.check_owners.Goals as goal

pub check_list-requires : goal.check_list-requires
check_list-requires c = zone_passes c.place-place.ensures c.if-place-lt-MAX_LEN.true

pub returns-then-place-lt-MAX_LEN : goal.returns-then-place-lt-MAX_LEN
returns-then-place-lt-MAX_LEN c = let a = c.args in
    c.check_list.ensures
    ∙ zone_checked (zone_passes c.place-place.ensures c.if-place-lt-MAX_LEN.true) most_owners most_octets a.names.now a.starts.now

pub returns : goal.returns
returns c = let a = c.args in
    zone_refused c.place-place.ensures most_owners most_octets a.names.now a.starts.now c.why.result c.if-place-lt-MAX_LEN.false
    c.why.ensures
