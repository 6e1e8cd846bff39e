-- The next closer name of a query (RFC 5155 section 1.3, for NSEC too): its ancestor, or itself, with one label more than an encloser.
use Rattle.std.specs.Prelude.{List, [], Bool, ◌&&◌, cond, ℕ, ◌+◌, ltb, length}
use Rattle.name.specs.Wire.{reading_of}
use Rattle.name.specs.Labels.{labels_of}
use Rattle.checks.specs.Under.{is_under}
use Rattle.encloser.specs.Gap.{is_whole}
use Rattle.encloser.specs.Encloser.{ancestor}

-- both are well formed, and the query is under the encloser, letter case aside, with more labels
abbrev pub is_proper : List ℕ → List ℕ → Bool
is_proper encloser query =
    is_whole (reading_of encloser) && is_whole (reading_of query) && is_under encloser query
    && ltb (length (labels_of encloser)) (length (labels_of query))

-- the next closer name, spelled as the query is; no octet where the encloser is no proper ancestor of the query
abbrev pub next_closer_of : List ℕ → List ℕ → List ℕ
next_closer_of encloser query = cond (is_proper encloser query) (ancestor query (length (labels_of encloser) + 1)) []
