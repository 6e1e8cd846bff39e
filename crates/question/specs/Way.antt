-- The four ways of a question (document 02, request Three), and the octet that stands for each.
use Rattle.std.specs.Prelude.{cond, ℕ, eqb, Option, Some, None}
use Rattle.question.specs.declared.Way.{Way}
use Rattle.question.specs.declared.Way.TheVariants.{AbsolutePredecessor, AbsoluteSuccessor, ModifiedPredecessor, ModifiedSuccessor}

abbrev pub octet_of : Way → ℕ
octet_of AbsolutePredecessor = 0
octet_of AbsoluteSuccessor = 1
octet_of ModifiedPredecessor = 2
octet_of ModifiedSuccessor = 3

-- the way that an octet stands for; one above 3 stands for none
abbrev pub way_of : ℕ → Option Way
way_of octet =
    cond (eqb octet 0) (Some AbsolutePredecessor)
    (cond (eqb octet 1) (Some AbsoluteSuccessor)
    (cond (eqb octet 2) (Some ModifiedPredecessor)
    (cond (eqb octet 3) (Some ModifiedSuccessor) None)))
