-- The wildcard that would answer a query that does not exist (RFC 4592 section 3.3.1, the source of synthesis): `*` right above the closest
-- encloser of the query, letter case aside. It answers where it exists.
use Rattle.std.specs.Prelude.{◌≡◌, List, ℕ}
use Rattle.space.specs.Fold.{folded}
use Rattle.encloser.specs.Wildcard.{wildcard_name}
use Rattle.existing.specs.Existing.{Exists, IsClosest}

pub record Expanded (apex : List ℕ) (names : List (List ℕ)) (query wildcard : List ℕ) : Type 0 where
  pub missing : Exists apex names query → ⊥
  pub encloser : List ℕ
  pub closest : IsClosest apex names query encloser
  pub above : folded wildcard ≡ folded (wildcard_name encloser)
