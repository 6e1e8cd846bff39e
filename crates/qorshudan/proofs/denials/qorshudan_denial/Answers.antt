-- `qorshudan_denial` meets its contract: the values of what the operation says are small, so packing them loses nothing.
use lib.ListN.{length}
use Rattle.denial.proofs.SmallDenials.{denial_small}
use Rattle.qorshudan.proofs.Values.{known_octets}
use Rattle.qorshudan.proofs.denials.qorshudan_denial.Goals as goal

pub pack_denied-requires : goal.pack_denied-requires
pack_denied-requires c = let a = c.args in
    rw c.denial.ensures.says
    (denial_small _ a.limit _ _
    (known_octets a.apex.now c.type_inv.apex)
    (known_octets a.encloser.now c.type_inv.encloser)
    (known_octets a.query.now c.type_inv.query) (length a.space.now))

pub returns : goal.returns
returns c = (_, c.pack_denied.ensures, c.denial.ensures)
