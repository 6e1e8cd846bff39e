-- The sizes of a list (document 02, Thirteen): the most owners, and the most octets of their names. What is defined and proved over lists
-- takes both as arguments.
use Rattle.std.specs.Prelude.{List, Bool, ◌||◌, ℕ, ltb, length}

abbrev pub most_owners : ℕ
most_owners = 16384

-- 4 MiB
abbrev pub most_octets : ℕ
most_octets = 4194304

-- a list of more owners than these, or of more octets
abbrev pub is_too_large : ℕ → ℕ → List ℕ → List ℕ → Bool
is_too_large owners octets names starts = ltb owners (length starts) || ltb octets (length names)
