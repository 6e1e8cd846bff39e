-- Denials that a wrong definition gets wrong, by computation, in the zone of the root within 3 octets, where labels have one octet.
use mathlib.Core.Path.{◌≡◌, refl}
use mathlib.Core.List.{List, [], ◌∷◌}
use Prim.Native.Nat.{ℕ}
use Rattle.name.specs.Wire.{read_from}
use Rattle.name.specs.Labels.{split}
use Rattle.name.specs.Answer.{answer, refusal}
use Rattle.zone.specs.Alphabet.{scan, from, below}
use Rattle.zone.specs.Steps.{least, greatest, raised, climb, deeper, successor_steps, fill_labels, predecessor_steps}
use Rattle.gaps.specs.Denial.{denial_of}

abbrev root : List ℕ
root = 0 ∷ []

abbrev label : ℕ → List ℕ
label o = 1 ∷ o ∷ 0 ∷ []

-- C. is denied from b. to d., and the wildcard from ). to +.
pub two_gaps_lem : denial_of root 3 root (label 67) ≡ answer (label 98 ∷ label 100 ∷ label 41 ∷ label 43 ∷ [])
unfolding read_from split scan from below least greatest raised climb deeper successor_steps fill_labels predecessor_steps
two_gaps_lem = refl

-- + behind the wildcard, and ) before it, are denied with it, in one gap
pub behind_wildcard : denial_of root 3 root (label 43) ≡ answer (label 41 ∷ label 44 ∷ [])
unfolding read_from split scan from below least greatest raised climb deeper successor_steps fill_labels predecessor_steps
behind_wildcard = refl

pub before_wildcard : denial_of root 3 root (label 41) ≡ answer (label 40 ∷ label 43 ∷ [])
unfolding read_from split scan from below least greatest raised climb deeper successor_steps fill_labels predecessor_steps
before_wildcard = refl

-- the wildcard itself has one gap
pub wildcard_itself : denial_of root 3 root (label 42) ≡ answer (label 41 ∷ label 43 ∷ [])
unfolding read_from split scan from below least greatest raised climb deeper successor_steps fill_labels predecessor_steps
wildcard_itself = refl

-- b.a. within 5 octets: the next closer name a. is denied, and not b.a. alone
pub next_closer_denied : denial_of root 5 root (1 ∷ 98 ∷ label 97)
    ≡ answer ((3 ∷ 96 ∷ 255 ∷ 255 ∷ root) ∷ (2 ∷ 97 ∷ 0 ∷ root) ∷ (3 ∷ 41 ∷ 255 ∷ 255 ∷ root) ∷ (2 ∷ 42 ∷ 0 ∷ root) ∷ [])
unfolding read_from split scan from below least greatest raised climb deeper successor_steps fill_labels predecessor_steps
next_closer_denied = refl

-- 18 for the query as its own encloser, and 6 before 18
pub no_encloser : denial_of root 3 (label 97) (label 65) ≡ refusal 18 []
unfolding read_from split
no_encloser = refl

pub outside_first : denial_of (label 122) 255 (label 97) (label 97) ≡ refusal 6 []
unfolding read_from split
outside_first = refl
