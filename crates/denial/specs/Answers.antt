-- The number and the value of each case of a denial.
use Rattle.std.specs.Prelude.{[], ℕ, Result as Outcome, Ok, Err}
use Rattle.name.specs.Answer.{Result, answer, refusal, numbered}
use Rattle.denial.specs.declared.DenialRefusal.{DenialRefusal}
use Rattle.denial.specs.declared.DenialRefusal.TheVariants.{NoEncloser, Refused}

-- 18 where there is no encloser
abbrev pub said : Outcome ℕ DenialRefusal → Result ℕ
said (Ok n) = answer n
said (Err (Refused w)) = numbered w
said (Err NoEncloser) = refusal 18 []
