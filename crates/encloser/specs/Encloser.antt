-- The closest encloser of a query in a gap (document 02, request Seven): the longest ancestor that it shares with either end of the gap,
-- as that end spells it.
use Rattle.std.specs.Prelude.{List, reverse, cond, ℕ, ◌-◌, ltb, length, drop}
use Rattle.name.specs.Labels.{wire, labels_of}
use Rattle.order.specs.Order.{folded_labels}
use Rattle.order.specs.Compare.{right_shared}
use Rattle.encloser.specs.declared.Encloser.{Encloser}
use Rattle.encloser.specs.declared.Encloser.TheVariants.{OfOwner, OfNext}
use Rattle.encloser.specs.Gap.{is_in_gap}

-- how many labels the query and a name share, folded, from the right
abbrev pub shared : List ℕ → List ℕ → ℕ
shared query name = right_shared (reverse (folded_labels query)) (reverse (folded_labels name))

-- the ancestor of a name that has its last n labels, spelled as they are; with all of them, the name itself
abbrev pub ancestor : List ℕ → ℕ → List ℕ
ancestor name n = wire (drop (length (labels_of name) - n) (labels_of name))

-- the longest ancestor of a name that is one of the query too
abbrev pub shared_ancestor : List ℕ → List ℕ → List ℕ
shared_ancestor query name = ancestor name (shared query name)

-- the longer of two, by their numbers of octets: the owner's if both are as long
abbrev pub longer : ℕ → ℕ → Encloser
longer owner next = cond (ltb owner next) (OfNext next) (OfOwner owner)

-- where the closest encloser stands; outside of the gap, no octet of the owner
abbrev pub encloser_of : List ℕ → List ℕ → List ℕ → Encloser
encloser_of query owner next =
    cond (is_in_gap query owner next)
    (longer (length (shared_ancestor query owner)) (length (shared_ancestor query next)))
    (OfOwner 0)

-- the last n octets
abbrev pub end : ℕ → List ℕ → List ℕ
end n octets = drop (length octets - n) octets

-- the octets that stand there
abbrev pub octets_of : Encloser → List ℕ → List ℕ → List ℕ
octets_of (OfOwner n) owner next = end n owner
octets_of (OfNext n) owner next = end n next

-- the closest encloser; outside of the gap, the empty part of the owner
abbrev pub closest_of : List ℕ → List ℕ → List ℕ → List ℕ
closest_of query owner next = octets_of (encloser_of query owner next) owner next
