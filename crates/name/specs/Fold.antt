-- Folding a name (document 01, "What a name is"): its upper-case letters become lower-case ones, and no other octet changes.
use Rattle.std.specs.Prelude.{ℕ, List}
use Rattle.space.specs.Fold.{folded}
use Rattle.name.specs.Wire.{reading_of}
use Rattle.name.specs.Answer.{Result, answer, refuse_broken}

-- 4, or its folded octets
abbrev pub fold_of : List ℕ → Result (List ℕ)
fold_of name = refuse_broken (reading_of name) 4 (answer (folded name))
