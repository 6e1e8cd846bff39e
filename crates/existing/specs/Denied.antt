-- What a resolver concludes from an NSEC record alone (RFC 4034 section 4.1, RFC 4035 section 5.4): a name that the record covers does not
-- exist, unless the next name lies under it, for then it is an empty non-terminal.
use Rattle.std.specs.Prelude.{◌≡◌, List, true, false, ℕ}
use Rattle.checks.specs.Under.{is_under}
use Rattle.covering.specs.Between.{covers_of}

-- the record of an owner with this next name denies a name
abbrev pub IsDenied : List ℕ → List ℕ → List ℕ → Type 0
IsDenied owner next name = (covers_of owner next name ≡ true) × (is_under name next ≡ false)
