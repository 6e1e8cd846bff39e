-- Subtree successors that a wrong definition gets wrong, by computation.
use mathlib.Core.Path.{◌≡◌, refl}
use mathlib.Core.List.{List, [], ◌∷◌}
use Prim.Native.Nat.{ℕ}
use Rattle.name.specs.Wire.{read_from}
use Rattle.name.specs.Labels.{split}
use Rattle.name.specs.Answer.{answer, refusal}
use Rattle.zone.specs.Alphabet.{scan, from}
use Rattle.zone.specs.Steps.{least, raised, climb, deeper, successor_steps}
use Rattle.alphabet.specs.declared.Alphabet.TheVariants.{Full, Ldh}
use Rattle.alphabet.specs.Alphabets.{ldh, among}
use Rattle.subtree.specs.Successor.{subtree_successor_in}

-- z.
abbrev apex : List ℕ
apex = 1 ∷ 122 ∷ 0 ∷ []

-- past B.z. and all under it comes b\000.z., and not \000.b.z., which is under it; in the small alphabet b-.z.
pub past_child : subtree_successor_in Full apex 255 (1 ∷ 66 ∷ apex) ≡ answer (2 ∷ 98 ∷ 0 ∷ apex)
unfolding read_from split scan from least raised climb deeper successor_steps
past_child = refl

past_child_ldh : subtree_successor_in Ldh apex 255 (1 ∷ 66 ∷ apex) ≡ answer (2 ∷ 98 ∷ 45 ∷ apex)
unfolding read_from split scan from least raised climb deeper successor_steps ldh among
past_child_ldh = refl

-- past a.\255.z. where no octet more fits comes b.\255.z., and past \255.z. the apex
past_full : subtree_successor_in Full apex 7 (1 ∷ 97 ∷ 1 ∷ 255 ∷ apex) ≡ answer (1 ∷ 98 ∷ 1 ∷ 255 ∷ apex)
unfolding read_from split scan from least raised climb deeper successor_steps
past_full = refl

pub past_last : subtree_successor_in Full apex 5 (1 ∷ 255 ∷ apex) ≡ answer apex
unfolding read_from split scan from least raised climb deeper successor_steps
past_last = refl

-- all names are under the apex
pub past_apex : subtree_successor_in Full apex 255 (1 ∷ 90 ∷ 0 ∷ []) ≡ answer apex
unfolding read_from split scan from least raised climb deeper successor_steps
past_apex = refl

-- 6 for a name outside, and 12 for one that the alphabet does not spell
not_under : subtree_successor_in Full apex 255 (1 ∷ 97 ∷ 0 ∷ []) ≡ refusal 6 []
unfolding read_from split
not_under = refl

not_spelled : subtree_successor_in Ldh apex 255 (1 ∷ 42 ∷ apex) ≡ refusal 12 []
unfolding read_from split ldh among
not_spelled = refl
