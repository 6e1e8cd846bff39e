-- Whether a gap covers a name, as a resolver reads an NSEC record (RFC 4034 section 4.1, RFC 4035 section 5.4): the name lies strictly
-- between the owner name and the next name on the ring of all names.
use Rattle.std.specs.Prelude.{List, Bool, ◌&&◌, ◌||◌, cond, ℕ}
use Rattle.name.specs.Wire.{reading_of}
use Rattle.encloser.specs.Gap.{is_whole, is_before}

-- after the owner and before the next name; where the next name is not after the owner, one of the two
abbrev pub is_between : List ℕ → List ℕ → List ℕ → Bool
is_between owner next name =
    cond (is_before owner next) (is_before owner name && is_before name next) (is_before owner name || is_before name next)

-- and all three are well formed
abbrev pub covers_of : List ℕ → List ℕ → List ℕ → Bool
covers_of owner next name =
    is_whole (reading_of owner) && is_whole (reading_of next) && is_whole (reading_of name) && is_between owner next name
