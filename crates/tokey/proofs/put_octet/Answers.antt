-- `put_octet` meets its contract, by the cases of an octet below 2 and of any other.
use Rattle.tokey.proofs.PutOctets.{octet_some, octet_two, octet_small, octet_large}
use native.Mathlib.Omega.{arith}
use lib.ListN.{length-set}
use Rattle.tokey.proofs.put_octet.Goals as goal

pub overflow_sub-at : goal.overflow_sub-at
overflow_sub-at c = octet_some c.args.o c.requires

pub bounds-space-at : goal.bounds-space-at
bounds-space-at c = omega (arith, octet_two c.args.o c.requires (omega arith))

pub overflow_sub-space : goal.overflow_sub-space
overflow_sub-space c = omega (arith, octet_two c.args.o c.requires (omega arith))

pub bounds-space-at-then-o-lt2 : goal.bounds-space-at-then-o-lt2
bounds-space-at-then-o-lt2 c = simp length-set (omega (arith, octet_two c.args.o c.requires (omega arith)))

pub overflow_sub-result : goal.overflow_sub-result
overflow_sub-result c = omega (arith, octet_two c.args.o c.requires (omega arith))

pub returns-then-o-lt2 : goal.returns-then-o-lt2
returns-then-o-lt2 c = octet_small c.args.o c.requires (omega arith)

pub bounds-space-at-2 : goal.bounds-space-at-2
bounds-space-at-2 c = omega (arith, octet_some c.args.o c.requires)

pub returns : goal.returns
returns c = octet_large c.args.o c.requires (omega arith) c.lower.ensures
