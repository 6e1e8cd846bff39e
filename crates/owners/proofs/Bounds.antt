-- What a check or a lookup tells is small: no index and no number of owners or looks is above the most owners of a list.
use mathlib.Core.Path.{◌≡◌, refl}
use mathlib.Core.List.{List, [], ◌∷◌}
use mathlib.Core.Bool.{Bool, true, false, cond, not, ◌||◌}
use Prim.Native.Nat.{ℕ, zero, suc, ◌+◌, ◌≤◌, ◌<◌}
use native.Mathlib.Omega.{arith}
use borrow.Author.Tests.{ltb-true, ltb-false}
use lib.Dec.{ltb}
use lib.ListN.{length}
use Rattle.facts.proofs.Booleans.{neither_true}
use Rattle.name.specs.Answer.{Result, answer, refusal, value}
use Rattle.name.proofs.Small.{broken_small}
use Rattle.neighbour.proofs.SmallAnswers.{if_small}
use Rattle.owners.specs.declared.Look.{Look}
use Rattle.owners.specs.declared.Look.TheVariants.{NotAfter, After, Broken}
use Rattle.owners.specs.declared.Found.{Found}
use Rattle.owners.specs.declared.Found.TheVariants.{Owner, NoOwner}
use Rattle.owners.specs.Layout.{owners_of}
use Rattle.owners.specs.Sizes.{is_too_large}
use Rattle.owners.specs.Members.{unbroken, starts_at_front}
use Rattle.owners.specs.Halving.{looks, looked_again, go_on, halve}
use Rattle.owners.specs.Answers.{refuse_at, check_list, check_laid_out, check_within}
use Rattle.owners.proofs.Layouts.{owners_length}
use Rattle.owners.proofs.Halvings.{middle}

-- ---- the check

module _ (owners octets : ℕ) (apex : List ℕ) (limit : ℕ) (names starts : List ℕ) where
  list_small : length starts ≤ owners → value (check_list apex limit (owners_of names starts)) ≤ owners
  list_small h = go (ltb (unbroken apex limit (owners_of names starts)) (length (owners_of names starts))) refl
    where
      go : (b : Bool) → ltb (unbroken apex limit (owners_of names starts)) (length (owners_of names starts)) ≡ b
          → value (refuse_at b (unbroken apex limit (owners_of names starts)) (answer (length (owners_of names starts)))) ≤ owners
      go true e =
          omega (
            arith,
            ltb-true (unbroken apex limit (owners_of names starts)) (length (owners_of names starts)) e,
            owners_length names starts,
          )
      go false e = omega (arith, owners_length names starts)

  laid_small : value (check_laid_out owners octets apex limit names starts) ≤ owners
  laid_small = go (is_too_large owners octets names starts || not (starts_at_front starts)) refl
    where
      go : (b : Bool) → is_too_large owners octets names starts || not (starts_at_front starts) ≡ b
          → value (refuse_at b 0 (check_list apex limit (owners_of names starts))) ≤ owners
      go true e = omega arith
      go false e =
          let a = (neither_true (is_too_large owners octets names starts) (not (starts_at_front starts)) e).0 in
          list_small (ltb-false owners (length starts) (neither_true (ltb owners (length starts)) (ltb octets (length names)) a).0)

  pub check_small : value (check_within owners octets apex limit names starts) ≤ owners + 255
  check_small =
      if_small (ltb limit 1 || ltb 255 limit) 1 (owners + 255) _
      (λ a. broken_small apex 2 (owners + 255) _ (omega arith)
      (λ e. if_small (ltb limit (length apex + 2)) 3 (owners + 255) _ (λ b. omega (arith, laid_small))))

-- ---- the lookup

-- no index is beyond a size
abbrev pub Within : ℕ → Result Found → Type 0
Within size (answer (Owner i n)) = i < size
Within size (answer (NoOwner n)) = Unit {0}
Within size (refusal n []) = Unit {0}
Within size (refusal n (i ∷ [])) = i < size
Within size (refusal n (i ∷ j ∷ vs)) = ⊥

again_within : (size : ℕ) (f : Found) → Within size (answer f) → Within size (answer (looked_again f))
again_within size (Owner i n) h = h
again_within size (NoOwner n) h = tt

pub halve_within : (look : ℕ → Look) (size n low high : ℕ) (f : Found) → high ≤ size → Within size (answer f)
    → Within size (halve look n low high f)
unfolding halve
halve_within look size zero low high f h w = w
halve_within look size (suc n) low high f h w =
    go (ltb low high) refl (look (middle low high))
    (halve_within look size n (middle low high + 1) high (Owner (middle low high) (looks f + 1)) h)
    (halve_within look size n low (middle low high) (looked_again f))
  where
    go : (b : Bool) → ltb low high ≡ b → (l : Look)
        → (middle low high < size → Within size (halve look n (middle low high + 1) high (Owner (middle low high) (looks f + 1))))
        → (middle low high ≤ size → Within size (answer (looked_again f))
        → Within size (halve look n low (middle low high) (looked_again f)))
        → Within size (cond b
        (go_on l (middle low high)
        (halve look n (middle low high + 1) high (Owner (middle low high) (looks f + 1)))
        (halve look n low (middle low high) (looked_again f)))
        (answer f))
    go true e NotAfter p q = p (omega (arith, ltb-true low high e))
    go true e After p q = q (omega (arith, ltb-true low high e)) (again_within size f w)
    go true e Broken p q = omega (arith, ltb-true low high e)
    go false e l p q = w
