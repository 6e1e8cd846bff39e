-- A refusal as three numbers.
use Rattle.std.specs.Prelude.{◌≡◌, ℕ}
use Rattle.name.specs.declared.Refusal.{Refusal}
use Rattle.figures.specs.declared.Figures.{Figures}
use Rattle.name.specs.Answer.{number, reason, value, numbered}

-- the number, the reason and the value of what a refusal says
pub record Tells (why : Refusal) (figures : Figures) : Type 0 where
  pub number_is : figures.number ≡ number {A = ℕ} (numbered why)
  pub reason_is : figures.reason ≡ reason {A = ℕ} (numbered why)
  pub value_is : figures.value ≡ value (numbered why)
