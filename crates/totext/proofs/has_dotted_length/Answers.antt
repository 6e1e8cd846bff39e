-- `has_dotted_length` meets its contract: a name is short, so that no place behind a label is too large a number.
use Prim.Native.Nat.{◌<◌}
use native.Mathlib.Omega.{arith}
use lib.ListN.{get_or}
use Rattle.name.proofs.Whole.{whole_fits}
use Rattle.totext.proofs.has_dotted_length.Goals as goal

pub loop-p-init : goal.loop-p-init
loop-p-init c = (whole_fits _ c.requires, omega arith)

pub overflow_cast-p : goal.overflow_cast-p
overflow_cast-p c = let octet : get_or c.args.name.now c.loop-p.p 0 < 256 = omega (arith, c.type_inv.name c.loop-p.p) in
    omega (arith, octet)

pub overflow_add-p-in-loop-p : goal.overflow_add-p-in-loop-p
overflow_add-p-in-loop-p c = let octet : get_or c.args.name.now c.loop-p.p 0 < 256 = omega (arith, c.type_inv.name c.loop-p.p) in
    omega (arith, octet)

pub loop-p-preserved : goal.loop-p-preserved
loop-p-preserved c = let octet : get_or c.args.name.now c.loop-p.p 0 < 256 = omega (arith, c.type_inv.name c.loop-p.p) in
    (omega arith, omega (arith, octet))
