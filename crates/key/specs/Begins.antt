-- What the laws of the key reader speak of: names that have a key, names whose key begins with given octets, and the longest beginning
-- that some key also begins with (document 01, the place of 10).
use Rattle.std.specs.Prelude.{◌≡◌, List, ℕ, Ok}
use Rattle.space.specs.Octets.{Octets}
use Rattle.name.specs.Wire.{reading_of}
use Rattle.name.specs.Reader.{Begins as BeginsOf, Longest as LongestOf}
use Rattle.order.specs.Order.{folded_labels}
use Rattle.key.specs.Key.{key_of}

-- the key of this well formed name is `key`
pub record HasKey (name key : List ℕ) : Type 0 where
  pub octets : Octets name
  pub whole : reading_of name ≡ Ok tt
  pub is : key_of (folded_labels name) ≡ key

-- these octets are the key of some well formed name
pub record IsKey (key : List ℕ) : Type 0 where
  pub name : List ℕ
  pub has : HasKey name key

-- the key of some well formed name begins with these octets
abbrev pub Begins : List ℕ → Type 0
Begins octets = BeginsOf IsKey octets

-- the longest beginning of these octets that some key also begins with has p octets
abbrev pub Longest : List ℕ → ℕ → Type 0
Longest octets p = LongestOf IsKey octets p
