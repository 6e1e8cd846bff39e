-- `put_octet` meets its contract: the width tells the form, and the folded octet is stored in that form.
use Prim.Native.Nat.{◌+◌, ◌≤◌}
use native.Mathlib.Omega.{arith}
use lib.ListN.{length, length-set}
use Rattle.space.specs.Fold.{lower_of}
use Rattle.text.proofs.Characters.{width_some}
use Rattle.totext.proofs.PutOctets.{octet_alone, octet_behind, digits_room, octet_digits}
use Rattle.totext.proofs.octets.put_octet.Goals as goal

pub returns-then-w-eq1 : goal.returns-then-w-eq1
returns-then-w-eq1 c = rw c.lower-c.ensures
    (octet_alone _ _ (lower_of c.args.o) c.requires c.width-w.ensures c.if-w-eq1.true)

pub bounds-space-at-2 : goal.bounds-space-at-2
bounds-space-at-2 c = omega (arith, c.requires, width_some (lower_of c.args.o))

pub bounds-space-at-then-w-eq2 : goal.bounds-space-at-then-w-eq2
bounds-space-at-then-w-eq2 c = simp length-set (omega (arith, c.width-w.ensures, c.requires))

pub returns-then-w-eq2 : goal.returns-then-w-eq2
returns-then-w-eq2 c = rw c.lower-c.ensures
    (octet_behind _ _ (lower_of c.args.o) c.requires c.width-w.ensures c.if-w-eq2.true)

pub bounds-space-at-3 : goal.bounds-space-at-3
bounds-space-at-3 c = let fits : c.args.at + 4 ≤ length c.args.space.now =
    digits_room c.args.space.now _ (lower_of c.args.o) c.requires c.width-w.ensures c.if-w-eq1.false c.if-w-eq2.false in
    simp length-set (omega (arith, fits))

pub bounds-space-at-4 : goal.bounds-space-at-4
bounds-space-at-4 c = let fits : c.args.at + 4 ≤ length c.args.space.now =
    digits_room c.args.space.now _ (lower_of c.args.o) c.requires c.width-w.ensures c.if-w-eq1.false c.if-w-eq2.false in
    simp length-set (omega (arith, fits))

pub bounds-space-at-5 : goal.bounds-space-at-5
bounds-space-at-5 c = let fits : c.args.at + 4 ≤ length c.args.space.now =
    digits_room c.args.space.now _ (lower_of c.args.o) c.requires c.width-w.ensures c.if-w-eq1.false c.if-w-eq2.false in
    simp length-set (omega (arith, fits))

pub returns : goal.returns
returns c = rw c.lower-c.ensures
    (octet_digits _ _ (lower_of c.args.o) c.requires c.width-w.ensures c.if-w-eq1.false c.if-w-eq2.false)
