-- `relate` meets its contract: what is no name is unrelated, and to a name the other function relates.
use Rattle.enclosing.proofs.Advancing.{scans_found, scans_none}
use Rattle.enclosing.proofs.Relating.{unrelated}
use Rattle.enclosing.proofs.forks.relate.Goals as goal

pub relate_names-requires : goal.relate_names-requires
relate_names-requires c = let p = c.requires in (p.0, scans_found _ _ _ c.scan-found.ensures c.in-Some.is, p.1)

pub returns-in-None : goal.returns-in-None
returns-in-None c = unrelated _ _ (scans_none _ _ _ c.scan-found.ensures c.in-None.is)

pub returns-in-Some : goal.returns-in-Some
returns-in-Some c = c.relate_names.ensures
