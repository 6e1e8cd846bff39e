-- What the gaps of a zone cover, for the three answers of a signer, as a resolver reads them: a name that exists has its own gap, up to its
-- absolute successor; an empty non-terminal is denied from its predecessor to its successor; and a missing name, with all names under it,
-- from its predecessor to its subtree successor.
use Rattle.std.specs.Prelude.{◌≡◌, List, true, false, ◌↔◌, ℕ, ◌≤◌}
use Rattle.name.specs.Answer.{answer}
use Rattle.order.specs.Order.{folded_labels}
use Rattle.checks.specs.Under.{is_under, more}
use Rattle.alphabet.specs.declared.Alphabet.{Alphabet}
use Rattle.neighbour.specs.Neighbour.{successor_in, predecessor_in}
use Rattle.neighbour.specs.Nearest.{InZoneOf}
use Rattle.subtree.specs.Successor.{subtree_successor_in}
use Rattle.covering.specs.Between.{covers_of}

-- the gaps around a name of a zone, and what a name u of the zone has to be so that they cover it
pub record Gaps (alphabet : Alphabet) (apex : List ℕ) (limit : ℕ) (name : List ℕ) : Type 0 where
  -- from the name to its absolute successor: nothing
  pub existing : (next : List ℕ) → successor_in alphabet apex limit name ≡ answer next
      → (u : List ℕ) → InZoneOf alphabet apex limit u → covers_of name next u ≡ false
  -- from its predecessor to its successor, unless it is the apex: the name alone, letter case aside
  pub alone : 1 ≤ more apex name → (owner next : List ℕ) → predecessor_in alphabet apex limit name ≡ answer owner
      → successor_in alphabet apex limit name ≡ answer next
      → (u : List ℕ) → InZoneOf alphabet apex limit u → (covers_of owner next u ≡ true) ↔ (folded_labels u ≡ folded_labels name)
  -- from its predecessor to its subtree successor, unless it is the apex: the name and all names under it
  pub missing : 1 ≤ more apex name → (owner next : List ℕ) → predecessor_in alphabet apex limit name ≡ answer owner
      → subtree_successor_in alphabet apex limit name ≡ answer next
      → (u : List ℕ) → InZoneOf alphabet apex limit u → (covers_of owner next u ≡ true) ↔ (is_under name u ≡ true)
  -- whose ends are names of the zone that are not at or under it
  pub owner_outside : 1 ≤ more apex name → (owner : List ℕ) → predecessor_in alphabet apex limit name ≡ answer owner
      → InZoneOf alphabet apex limit owner × (is_under name owner ≡ false)
  pub next_outside : 1 ≤ more apex name → (next : List ℕ) → subtree_successor_in alphabet apex limit name ≡ answer next
      → InZoneOf alphabet apex limit next × (is_under name next ≡ false)
