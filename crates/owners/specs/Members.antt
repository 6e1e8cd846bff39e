-- Which owners a list may have (document 02, Six): first the apex, and then folded members of the zone, each after the one before it.
use Rattle.std.specs.Prelude.{List, [], ◌∷◌, Bool, false, ◌&&◌, cond, ℕ, suc, leb, eqb, length}
use Rattle.name.specs.Wire.{reading_of}
use Rattle.space.specs.Fold.{folded}
use Rattle.space.specs.Same.{same_octets}
use Rattle.checks.specs.Under.{is_under}
use Rattle.encloser.specs.Gap.{is_whole, is_before}

-- a folded member of the zone: well formed, folded, within the limit, and at or under the apex
abbrev pub is_member : List ℕ → ℕ → List ℕ → Bool
is_member apex limit name =
    is_whole (reading_of name) && same_octets (folded name) name && leb (length name) limit && is_under apex name

-- an owner may come behind another
abbrev pub follows : List ℕ → ℕ → List ℕ → List ℕ → Bool
follows apex limit before owner = is_member apex limit owner && is_before before owner

-- how many owners, from the front on, come behind the one before them
unfoldable pub following : List ℕ → ℕ → List ℕ → List (List ℕ) → ℕ
following apex limit before [] = 0
following apex limit before (o ∷ os) = cond (follows apex limit before o) (suc (following apex limit o os)) 0

-- how many owners of a list, from the front on, do not break it
abbrev pub unbroken : List ℕ → ℕ → List (List ℕ) → ℕ
unbroken apex limit [] = 0
unbroken apex limit (o ∷ os) = cond (same_octets o (folded apex)) (suc (following apex limit o os)) 0

-- there is an owner, and the first one starts at 0
abbrev pub starts_at_front : List ℕ → Bool
starts_at_front [] = false
starts_at_front (s ∷ starts) = eqb s 0
