-- An outcome is determined by its number, its reason and its value, and so by the result that it says: `said` is one to one.
use mathlib.Core.Path.{◌≡◌, refl, sym, ap, ◌∙◌}
use mathlib.Core.Bool.{cond}
use Prim.Native.Nat.{ℕ}
use lib.Dec.{eqb}
use Rattle.name.specs.declared.Fault.{Fault}
use Rattle.name.specs.declared.Fault.TheVariants.{CutShort, LeftOver, BadLength, TooLong}
use Rattle.name.specs.declared.Refusal.{Refusal}
use Rattle.name.specs.declared.Refusal.TheVariants.{BadLimit, BadApex, ApexTooLong, BadName, NameTooLong, NotUnderApex, NoFullLabel}
use Rattle.name.specs.declared.Refusal.TheVariants.{NoRoom, NotAKey, BadSecondName, NotInAlphabet}
use Rattle.std.specs.Prelude.{Result as Outcome, Ok, Err}
use Rattle.name.specs.Answer.{Result, answer, refusal, number, reason, value, numbered, said}

fault_of : ℕ → ℕ → Fault
fault_of r v = cond (eqb r 1) (CutShort v) (cond (eqb r 2) (LeftOver v) (cond (eqb r 3) (BadLength v) (TooLong v)))

-- the refusal with this number, reason and value
refusal_of : ℕ → ℕ → ℕ → Refusal
refusal_of n r v =
    cond (eqb n 1) BadLimit
    (cond (eqb n 2) (BadApex (fault_of r v))
    (cond (eqb n 3) ApexTooLong
    (cond (eqb n 4) (BadName (fault_of r v))
    (cond (eqb n 5) NameTooLong
    (cond (eqb n 6) NotUnderApex
    (cond (eqb n 7) NoFullLabel
    (cond (eqb n 9) NoRoom
    (cond (eqb n 10) (NotAKey v)
    (cond (eqb n 12) NotInAlphabet (BadSecondName (fault_of r v)))))))))))

outcome_of : ℕ → ℕ → ℕ → Outcome ℕ Refusal
outcome_of n r v = cond (eqb n 0) (Ok v) (Err (refusal_of n r v))

outcome_back : (o : Outcome ℕ Refusal) → outcome_of (number (said o)) (reason (said o)) (value (said o)) ≡ o
unfolding outcome_of refusal_of fault_of
outcome_back (Ok n) = refl
outcome_back (Err BadLimit) = refl
outcome_back (Err (BadApex (CutShort p))) = refl
outcome_back (Err (BadApex (LeftOver p))) = refl
outcome_back (Err (BadApex (BadLength p))) = refl
outcome_back (Err (BadApex (TooLong p))) = refl
outcome_back (Err ApexTooLong) = refl
outcome_back (Err (BadName (CutShort p))) = refl
outcome_back (Err (BadName (LeftOver p))) = refl
outcome_back (Err (BadName (BadLength p))) = refl
outcome_back (Err (BadName (TooLong p))) = refl
outcome_back (Err NameTooLong) = refl
outcome_back (Err NotUnderApex) = refl
outcome_back (Err NoFullLabel) = refl
outcome_back (Err NoRoom) = refl
outcome_back (Err (NotAKey p)) = refl
outcome_back (Err (BadSecondName (CutShort p))) = refl
outcome_back (Err (BadSecondName (LeftOver p))) = refl
outcome_back (Err (BadSecondName (BadLength p))) = refl
outcome_back (Err (BadSecondName (TooLong p))) = refl
outcome_back (Err NotInAlphabet) = refl

pub parts_injective : (o q : Outcome ℕ Refusal) → number (said o) ≡ number (said q) → reason (said o) ≡ reason (said q)
    → value (said o) ≡ value (said q) → o ≡ q
parts_injective o q n r v =
    sym (outcome_back o)
    ∙ ap (λ (x : ℕ). outcome_of x (reason (said o)) (value (said o))) n
    ∙ ap (λ (x : ℕ). outcome_of (number (said q)) x (value (said o))) r
    ∙ ap (λ (x : ℕ). outcome_of (number (said q)) (reason (said q)) x) v
    ∙ outcome_back q

pub said_injective : (o q : Outcome ℕ Refusal) → said o ≡ said q → o ≡ q
said_injective o q e =
    parts_injective o q (ap (λ (r : Result ℕ). number r) e) (ap (λ (r : Result ℕ). reason r) e) (ap value e)

-- a refusal's number and values are the same whatever is answered otherwise
as_number : {A : Type 0} → Result A → Result ℕ
as_number (answer a) = answer 0
as_number (refusal n vs) = refusal n vs

pub numbered_injective : {A : Type 0} (v w : Refusal) → numbered {A = A} v ≡ numbered w → v ≡ w
unfolding as_number
numbered_injective {A} v w e = let o : (Err v) ≡ (Err w) = said_injective (Err v) (Err w) (ap as_number e) in cc
