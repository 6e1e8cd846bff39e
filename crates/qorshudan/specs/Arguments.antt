-- What the numbers that an exported function takes stand for.
use Rattle.std.specs.Prelude.{ℕ, zero, suc}
use Rattle.alphabet.specs.declared.Alphabet.{Alphabet}
use Rattle.alphabet.specs.declared.Alphabet.TheVariants.{Full, Ldh}

-- 0 is the full alphabet, any other number letters, digits and hyphens
abbrev pub alphabet_of : ℕ → Alphabet
alphabet_of zero = Full
alphabet_of (suc n) = Ldh
