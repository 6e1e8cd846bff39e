-- The denial of a query that does not exist (RFC 4035 section 5.4, with the gaps of RFC 4470): the gap of its next closer name, and that of
-- the wildcard above its closest encloser, for nothing at or under these exists. A gap goes from the predecessor of the name to its subtree
-- successor, so that neither end lies under what it denies. Names are those of the full alphabet.
use Rattle.std.specs.Prelude.{List, [], ◌∷◌, Bool, not, ◌&&◌, ◌||◌, cond, ℕ, ◌-◌, ltb, length}
use Rattle.space.specs.Fold.{folded}
use Rattle.space.specs.Same.{same_octets}
use Rattle.name.specs.Answer.{Result, answer, refuse_if}
use Rattle.order.specs.Place.{full}
use Rattle.zone.specs.Steps.{successor_steps, predecessor_steps}
use Rattle.checks.specs.Under.{is_under, above, under}
use Rattle.checks.specs.Checks.{checks}
use Rattle.neighbour.specs.Neighbour.{all_labels}
use Rattle.encloser.specs.Wildcard.{wildcard_name}
use Rattle.covering.specs.NextCloser.{is_proper, next_closer_of}

module _ (apex : List ℕ) (limit : ℕ) where
  -- the two ends of the gap of a name: its predecessor, and its subtree successor
  abbrev pub owner_of : List ℕ → List ℕ
  owner_of name = under apex (predecessor_steps full (limit - length apex) all_labels (above apex name))

  abbrev pub next_of : List ℕ → List ℕ
  next_of name = under apex (successor_steps full (limit - length apex) (length (above apex name)) (above apex name))

-- the same name, letter case aside
abbrev pub is_same : List ℕ → List ℕ → Bool
is_same first second = same_octets (folded first) (folded second)

-- the names of the gap of a name, its owner and its next name
abbrev pub one_gap : List ℕ → ℕ → List ℕ → List (List ℕ)
one_gap apex limit name = owner_of apex limit name ∷ next_of apex limit name ∷ []

-- the gaps of two names, of which the ends are these: two gaps, or where they touch, the next name of the one being the other name, one
-- from the first one's owner to the last one's next
abbrev pub joined_gaps : List ℕ → List ℕ → List ℕ → List ℕ → List ℕ → List ℕ → List (List ℕ)
joined_gaps first owner next second other last =
    cond (is_same next second) (owner ∷ last ∷ [])
    (cond (is_same last first) (other ∷ next ∷ [])
    (owner ∷ next ∷ other ∷ last ∷ []))

abbrev pub two_gaps : List ℕ → ℕ → List ℕ → List ℕ → List (List ℕ)
two_gaps apex limit closer wildcard =
    joined_gaps closer (owner_of apex limit closer) (next_of apex limit closer)
    wildcard (owner_of apex limit wildcard) (next_of apex limit wildcard)

-- of a next closer name and a wildcard: that of the first alone where the wildcard passes the limit, or is the first
abbrev pub gaps_of : List ℕ → ℕ → List ℕ → List ℕ → List (List ℕ)
gaps_of apex limit closer wildcard =
    cond (ltb limit (length wildcard) || is_same wildcard closer) (one_gap apex limit closer) (two_gaps apex limit closer wildcard)

-- 1 to 6 for apex, limit and query, 18 where the encloser is no proper ancestor of the query at or under the apex, or the names of the gaps
abbrev pub denial_of : List ℕ → ℕ → List ℕ → List ℕ → Result (List (List ℕ))
denial_of apex limit encloser query =
    checks apex limit query
    (refuse_if (not (is_proper encloser query && is_under apex encloser)) 18
    (answer (gaps_of apex limit (next_closer_of encloser query) (wildcard_name encloser))))
