-- What is said fixes the case of an answer and what it holds: each case is found again from its number and value, so that each `said` is
-- one to one.
use mathlib.Core.Path.{◌≡◌, refl, sym, ap, ◌∙◌}
use mathlib.Core.List.{[], ◌∷◌}
use mathlib.Core.Bool.{Bool, true, false}
use Prim.Native.Nat.{ℕ, zero, suc, ◌+◌, ◌-◌}
use native.Mathlib.Omega.{arith}
use borrow.Author.Tests.{ne_eqb}
use lib.Dec.{eqb}
use Rattle.name.specs.Answer.{Result, answer, refusal}
use Rattle.std.specs.Prelude.{Option, Result as Outcome, Some, None, Ok, Err}
use Rattle.types.specs.declared.TypesRefusal.{TypesRefusal}
use Rattle.types.specs.declared.TypesRefusal.TheVariants.{NoRoom, NoSet}
use Rattle.types.specs.declared.NoBitmap.{NoBitmap}
use Rattle.types.specs.Answers.{said, said_member, said_count, said_type}

-- what has an inverse is one to one
undone : {A : Type 0} (f : A → Result ℕ) (back : Result ℕ → A) → ((a : A) → back (f a) ≡ a) → (a b : A) → f a ≡ f b → a ≡ b
undone f back is a b e = sym (is a) ∙ ap back e ∙ is b

outcome_of : Result ℕ → Outcome ℕ TypesRefusal
outcome_of (answer n) = Ok n
outcome_of (refusal n []) = Err NoRoom
outcome_of (refusal n (p ∷ vs)) = Err (NoSet p)

pub said_injective : (o q : Outcome ℕ TypesRefusal) → said o ≡ said q → o ≡ q
unfolding outcome_of
said_injective = undone said outcome_of same
  where
    same : (o : Outcome ℕ TypesRefusal) → outcome_of (said o) ≡ o
    same (Ok n) = refl
    same (Err (NoSet p)) = refl
    same (Err NoRoom) = refl

member_of : Result ℕ → Outcome Bool NoBitmap
member_of (answer zero) = Ok false
member_of (answer (suc n)) = Ok true
member_of (refusal n []) = Ok false
member_of (refusal n (p ∷ vs)) = Err (record { 0 = p })

pub member_injective : (o q : Outcome Bool NoBitmap) → said_member o ≡ said_member q → o ≡ q
unfolding member_of
member_injective = undone said_member member_of same
  where
    same : (o : Outcome Bool NoBitmap) → member_of (said_member o) ≡ o
    same (Ok true) = refl
    same (Ok false) = refl
    same (Err w) = refl

count_of : Result ℕ → Outcome ℕ NoBitmap
count_of (answer n) = Ok n
count_of (refusal n []) = Ok 0
count_of (refusal n (p ∷ vs)) = Err (record { 0 = p })

pub count_injective : (o q : Outcome ℕ NoBitmap) → said_count o ≡ said_count q → o ≡ q
unfolding count_of
count_injective = undone said_count count_of same
  where
    same : (o : Outcome ℕ NoBitmap) → count_of (said_count o) ≡ o
    same (Ok n) = refl
    same (Err w) = refl

pick : Bool → ℕ → Outcome (Option ℕ) NoBitmap
pick true t = Ok None
pick false t = Ok (Some t)

type_of : Result ℕ → Outcome (Option ℕ) NoBitmap
type_of (answer n) = pick (eqb n 0) (n - 1)
type_of (refusal n []) = Ok None
type_of (refusal n (p ∷ vs)) = Err (record { 0 = p })

pub type_injective : (o q : Outcome (Option ℕ) NoBitmap) → said_type o ≡ said_type q → o ≡ q
unfolding type_of pick
type_injective = undone said_type type_of same
  where
    same : (o : Outcome (Option ℕ) NoBitmap) → type_of (said_type o) ≡ o
    same (Ok (Some t)) =
        let e : 1 + t - 1 ≡ t = omega arith in
        rw (ne_eqb (1 + t) 0 (λ k. omega arith), e)
    same (Ok None) = refl
    same (Err w) = refl
