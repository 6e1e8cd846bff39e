-- How one name stands to another: before it or after it, and the octets of the longest ancestor that they share. And the encloser of a
-- query from how it stands to the ends of its gap.
use Rattle.std.specs.Prelude.{List, reverse, ◌&&◌, cond, ℕ, eqb, leb, length, Ok, Err}
use Rattle.name.specs.Wire.{Reading}
use Rattle.std.specs.declared.cmp.Ordering.TheVariants.{Less, Equal, Greater}
use Rattle.name.specs.Wire.{reading_of}
use Rattle.std.specs.declared.cmp.Ordering.{Ordering}
use Rattle.order.specs.Order.{folded_labels}
use Rattle.order.specs.Compare.{right_order}
use Rattle.encloser.specs.declared.Encloser.{Encloser}
use Rattle.encloser.specs.declared.Encloser.TheVariants.{OfOwner}
use Rattle.enclosing.specs.declared.forks.Relation.{Relation}
use Rattle.enclosing.specs.declared.forks.Relation.TheVariants.{Before, Equal, After, Unrelated}
use Rattle.encloser.specs.Encloser.{shared_ancestor, longer}

abbrev pub related : Ordering → ℕ → Relation
related Less n = Before n
related Equal n = Equal
related Greater n = After n

abbrev pub of_whole : Reading → Relation → Relation
of_whole (Ok _) r = r
of_whole (Err f) r = Unrelated

-- of a name s and octets t
abbrev pub relation_of : List ℕ → List ℕ → Relation
relation_of s t =
    of_whole (reading_of t) (related (right_order (reverse (folded_labels s)) (reverse (folded_labels t))) (length (shared_ancestor s t)))

-- of a query that shares m octets with an owner before it, beside a next name of so many octets
abbrev pub enclose_after : ℕ → Relation → ℕ → Encloser
enclose_after m (Before n) size = longer m n
enclose_after m Equal size = OfOwner 0
enclose_after m (After n) size = cond (eqb n size && leb n m) (OfOwner m) (OfOwner 0)
enclose_after m Unrelated size = OfOwner 0

abbrev pub enclose_of : Relation → Relation → ℕ → Encloser
enclose_of (Before m) next size = OfOwner 0
enclose_of Equal next size = OfOwner 0
enclose_of (After m) next size = enclose_after m next size
enclose_of Unrelated next size = OfOwner 0
