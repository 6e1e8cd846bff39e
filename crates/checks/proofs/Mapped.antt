-- What keeps every refusal as it is may be done before the checks or behind them (`checks_map`).
use mathlib.Core.Path.{◌≡◌, refl}
use mathlib.Core.List.{List, []}
use mathlib.Core.Bool.{Bool, true, false}
use Prim.Native.Nat.{ℕ}
use Rattle.name.specs.Wire.{Reading}
use Rattle.std.specs.Prelude.{Ok, Err}
use Rattle.name.specs.Answer.{Result, refusal, refuse_if, refuse_broken, fault_values}
use Rattle.checks.specs.Checks.{checks}

module _ {A B : Type 0} (f : Result A → Result B) (keeps : (n : ℕ) (vs : List ℕ) → f (refusal n vs) ≡ refusal n vs) where
  pub if_map : (b : Bool) (n : ℕ) (next : Result A) → f (refuse_if b n next) ≡ refuse_if b n (f next)
  if_map true n next = keeps n []
  if_map false n next = refl

  broken_map : (r : Reading) (n : ℕ) (next : Result A) → f (refuse_broken r n next) ≡ refuse_broken r n (f next)
  broken_map (Ok _) n next = refl
  broken_map (Err w) n next = keeps n (fault_values w)

  pub checks_map : (apex : List ℕ) (limit : ℕ) (name : List ℕ) (next : Result A)
      → f (checks apex limit name next) ≡ checks apex limit name (f next)
  checks_map apex limit name next = simp (if_map, broken_map)
