-- `shift` meets its contract: 128 more than a number from -127 to 127 is positive and fits 16 bits.
use native.Mathlib.Omega.{arith}
use Rattle.qorshudan.proofs.Shifting.{sum_fits, sum_read, shifted_small}
use Rattle.qorshudan.proofs.shift.Goals as goal

pub overflow_add-result : goal.overflow_add-result
overflow_add-result c = sum_fits c.args.number c.requires

pub overflow_cast-result : goal.overflow_cast-result
overflow_cast-result c = rw (sum_read c.args.number c.requires) (tt, omega (arith, shifted_small c.args.number c.requires))

pub returns : goal.returns
returns c = rw (sum_read c.args.number c.requires)
