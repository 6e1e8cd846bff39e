-- The digits of the groups that are read stand at the front of the space.
use Rattle.hashlabel.proofs.Grouped.{Grouped}
use Rattle.hashlabel.proofs.groups.regroup.Given as goal

abbrev pub invariant-loop-g : goal.invariant-loop-g
invariant-loop-g l = Grouped l.base l.n l.other l.m l.s l.initial.d l.d l.g
