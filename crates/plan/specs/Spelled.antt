-- The refusal 12 (document 02, request Eight): a label above the apex has an octet that the alphabet does not allow. The labels are folded,
-- and the apex is free.
use Rattle.std.specs.Prelude.{List, not, ℕ}
use Rattle.name.specs.Answer.{Result, refuse_if}
use Rattle.alphabet.specs.declared.Alphabet.{Alphabet}
use Rattle.alphabet.specs.Alphabets.{all_spelled}
use Rattle.checks.specs.Under.{above}

abbrev pub spelled_check : {A : Type 0} → Alphabet → List ℕ → List ℕ → Result A → Result A
spelled_check alphabet apex name next = refuse_if (not (all_spelled alphabet (above apex name))) 12 next
