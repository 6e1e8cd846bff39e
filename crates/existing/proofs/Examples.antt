-- Examples by computation: the zone of RFC 4592 section 2.2.1, names of it that exist without records, and the closest enclosers of the
-- queries of its section 3.3.1.
use mathlib.Core.Path.{◌≡◌, refl}
use mathlib.Core.List.{List, [], ◌∷◌}
use Prim.Native.Nat.{ℕ}
use native.Mathlib.Omega.{arith}
use lib.ListN.{get_or}
use Rattle.name.specs.Wire.{read_from}
use Rattle.name.specs.Labels.{split}
use Rattle.name.specs.Answer.{answer}
use Rattle.encloser.specs.Encloser.{closest_of}
use Rattle.owners.specs.declared.Found.TheVariants.{Owner}
use Rattle.owners.specs.Layout.{owners_of}
use Rattle.owners.specs.Lists.{joined, starts_from}
use Rattle.owners.specs.Members.{following}
use Rattle.owners.specs.Halving.{halve}
use Rattle.owners.specs.Gaps.{next_of}
use Rattle.owners.specs.Answers.{check_owners_of, find_owner_of}
use Rattle.existing.specs.Existing.{Exists}
use Rattle.existing.proofs.Sides.{at_member}

-- ---- labels in front of a name

abbrev star : List ℕ → List ℕ
star name = 1 ∷ 42 ∷ name

abbrev sub : List ℕ → List ℕ
sub name = 3 ∷ 115 ∷ 117 ∷ 98 ∷ name

abbrev subdel : List ℕ → List ℕ
subdel name = 6 ∷ 115 ∷ 117 ∷ 98 ∷ 100 ∷ 101 ∷ 108 ∷ name

abbrev host1 : List ℕ → List ℕ
host1 name = 5 ∷ 104 ∷ 111 ∷ 115 ∷ 116 ∷ 49 ∷ name

abbrev host2 : List ℕ → List ℕ
host2 name = 5 ∷ 104 ∷ 111 ∷ 115 ∷ 116 ∷ 50 ∷ name

abbrev host3 : List ℕ → List ℕ
host3 name = 5 ∷ 104 ∷ 111 ∷ 115 ∷ 116 ∷ 51 ∷ name

abbrev tcp : List ℕ → List ℕ
tcp name = 4 ∷ 95 ∷ 116 ∷ 99 ∷ 112 ∷ name

abbrev udp : List ℕ → List ℕ
udp name = 4 ∷ 95 ∷ 117 ∷ 100 ∷ 112 ∷ name

abbrev ssh : List ℕ → List ℕ
ssh name = 4 ∷ 95 ∷ 115 ∷ 115 ∷ 104 ∷ name

abbrev telnet : List ℕ → List ℕ
telnet name = 7 ∷ 95 ∷ 116 ∷ 101 ∷ 108 ∷ 110 ∷ 101 ∷ 116 ∷ name

abbrev dns : List ℕ → List ℕ
dns name = 4 ∷ 95 ∷ 100 ∷ 110 ∷ 115 ∷ name

abbrev chat : List ℕ → List ℕ
chat name = 5 ∷ 95 ∷ 99 ∷ 104 ∷ 97 ∷ 116 ∷ name

abbrev foobar : List ℕ → List ℕ
foobar name = 6 ∷ 102 ∷ 111 ∷ 111 ∷ 98 ∷ 97 ∷ 114 ∷ name

abbrev example : List ℕ
example = 7 ∷ 101 ∷ 120 ∷ 97 ∷ 109 ∷ 112 ∷ 108 ∷ 101 ∷ 0 ∷ []

-- ---- the zone

abbrev first_ssh : List ℕ
first_ssh = ssh (tcp (host1 example))

abbrev second_ssh : List ℕ
second_ssh = ssh (tcp (host2 example))

abbrev zone : List (List ℕ)
zone = example ∷ star example ∷ sub (star example) ∷ host1 example ∷ first_ssh ∷ second_ssh ∷ subdel example ∷ []

pub accepted : check_owners_of example 255 (joined zone) (starts_from 0 zone) ≡ answer 7
unfolding read_from split owners_of following joined starts_from
accepted = refl

-- host2, and _tcp under host1, are empty non-terminals: they exist by what is under them
pub non_terminals : Exists example zone (host2 example) × Exists example zone (tcp (host1 example))
unfolding read_from split
non_terminals = (
  (refl, refl, (second_ssh, at_member zone 5 [] (omega arith), refl)),
  (refl, refl, (first_ssh, at_member zone 4 [] (omega arith), refl)),
)

-- ---- its queries

-- the lookup finds the owner of this index, and this encloser is read off its gap
abbrev ReadOff : List ℕ → ℕ → List ℕ → Type 0
ReadOff query i encloser =
    (find_owner_of (joined zone) (starts_from 0 zone) query ≡ answer (Owner i 3))
    × (closest_of query (get_or zone i []) (next_of zone i) ≡ encloser)

pub enclosers : ReadOff (host3 example) 5 example × ReadOff (telnet (tcp (host1 example))) 4 (tcp (host1 example))
    × ReadOff (dns (udp (host2 example))) 5 (host2 example) × ReadOff (telnet (tcp (host3 example))) 5 example
    × ReadOff (chat (udp (host3 example))) 5 example × ReadOff (foobar (star example)) 1 (star example)
unfolding read_from split owners_of halve joined starts_from
enclosers = ((refl, refl), (refl, refl), (refl, refl), (refl, refl), (refl, refl), (refl, refl))
