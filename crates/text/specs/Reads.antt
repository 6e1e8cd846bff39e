-- What reading a text promises (document 02, One): what is said, the space, and the place after it.
use Rattle.std.specs.Prelude.{◌≡◌, List, [], ◌∷◌, ℕ, length, drop, Result as Outcome, Ok, Err}
use Rattle.name.specs.Answer.{Result, answer, refusal, Fills}
use Rattle.text.specs.declared.TextRefusal.{TextRefusal}
use Rattle.text.specs.declared.TextRefusal.TheVariants.{NoRoom, NotAText}
use Rattle.text.specs.declared.TextRead.{TextRead}
use Rattle.text.specs.ReadText.{read_text_of}

-- what reading said
abbrev pub said : Outcome ℕ TextRefusal → Result ℕ
said (Ok n) = answer n
said (Err (NotAText p)) = refusal 14 (p ∷ [])
said (Err NoRoom) = refusal 9 []

-- the place after it: an answer moves it to the end, and a refusal leaves it
abbrev pub place_after : Result ℕ → ℕ → ℕ → ℕ
place_after (answer n) end at = end
place_after (refusal n vs) end at = at

-- the promise of reading the text t from the place `at` on
pub record Reads (t : List ℕ) (at : ℕ) (before : List ℕ) (read : TextRead) (after : List ℕ) : Type 0 where
  pub fills : Fills (read_text_of (drop at t)) before (said read.outcome) after
  pub place : read.at ≡ place_after (said read.outcome) (length t) at
