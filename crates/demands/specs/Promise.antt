-- How to read an operation's promise `Fills result before outcome after`: given room an answer is written, without room it is 9, and a
-- refusal comes however small the space is; neither of the last two changes the space.
use Rattle.std.specs.Prelude.{◌≡◌, List, ℕ, ◌≤◌, ◌<◌, length, Result as Outcome, Ok, Err}
use Rattle.name.specs.declared.Refusal.{Refusal}
use Rattle.name.specs.declared.Refusal.TheVariants.{NoRoom}
use Rattle.space.specs.Octets.{overlay}
use Rattle.name.specs.Answer.{answer, numbered, said, Fills}

pub record Promise : Type 0 where
  pub given_room : (a before after : List ℕ) (o : Outcome ℕ Refusal) → Fills (answer a) before (said o) after → length a ≤ length before
      → (o ≡ Ok (length a)) × (after ≡ overlay a before)
  pub no_room : (a before after : List ℕ) (o : Outcome ℕ Refusal) → Fills (answer a) before (said o) after → length before < length a
      → (o ≡ Err NoRoom) × (after ≡ before)
  pub refused : (w : Refusal) (before after : List ℕ) (o : Outcome ℕ Refusal) → Fills (numbered w) before (said o) after
      → (o ≡ Err w) × (after ≡ before)
