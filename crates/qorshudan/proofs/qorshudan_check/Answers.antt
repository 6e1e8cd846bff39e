-- `qorshudan_check` meets its contract: what reading finds is what checking says, and a name's length fits.
use mathlib.Core.Path.{sym, ◌∙◌}
use native.Mathlib.Omega.{arith}
use Rattle.name.proofs.Whole.{whole_fits}
use Rattle.qorshudan.proofs.Values.{check_small}
use Rattle.qorshudan.proofs.qorshudan_check.Goals as goal

pub pack-requires : goal.pack-requires
pack-requires c = (omega arith, omega arith, omega (arith, whole_fits _ (sym c.read-found.ensures ∙ c.in-Ok.is)))

pub pack_refusal-requires : goal.pack_refusal-requires
pack_refusal-requires c = omega (arith, rw (sym c.read-found.ensures ∙ c.in-Err.is) at (check_small c.args.name.now))

pub returns-in-Ok : goal.returns-in-Ok
returns-in-Ok c = rw (sym c.read-found.ensures ∙ c.in-Ok.is) c.pack.ensures

pub returns-in-Err : goal.returns-in-Err
returns-in-Err c = rw (sym c.read-found.ensures ∙ c.in-Err.is) c.pack_refusal.ensures
