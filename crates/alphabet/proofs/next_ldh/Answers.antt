-- Each compare names the octet that comes next, and no octet of the alphabet stands between; from z on there is none.
use native.Mathlib.Omega.{arith}
use Rattle.alphabet.proofs.Ldh.{hyphen_octet, digit_octet, letter_octet, ldh_next, ldh_next_end}
use Rattle.alphabet.proofs.next_ldh.Goals as goal

pub returns-then-octet-lt45 : goal.returns-then-octet-lt45
returns-then-octet-lt45 c = ldh_next _ _ hyphen_octet (omega arith) (λ h. omega arith) (λ p a b h. omega arith) (λ p a b h. omega arith)

pub returns-then-octet-lt48 : goal.returns-then-octet-lt48
returns-then-octet-lt48 c =
    ldh_next _ _ (digit_octet 48 (omega arith) (omega arith)) (omega arith) (λ h. omega arith) (λ p a b h. omega arith)
    (λ p a b h. omega arith)

pub returns-then-octet-lt57 : goal.returns-then-octet-lt57
returns-then-octet-lt57 c =
    ldh_next _ _ (digit_octet _ (omega arith) (omega arith)) (omega arith) (λ h. omega arith) (λ p a b h. omega arith)
    (λ p a b h. omega arith)

pub returns-then-octet-lt97 : goal.returns-then-octet-lt97
returns-then-octet-lt97 c =
    ldh_next _ _ (letter_octet 97 (omega arith) (omega arith)) (omega arith) (λ h. omega arith) (λ p a b h. omega arith)
    (λ p a b h. omega arith)

pub returns-then-octet-lt122 : goal.returns-then-octet-lt122
returns-then-octet-lt122 c =
    ldh_next _ _ (letter_octet _ (omega arith) (omega arith)) (omega arith) (λ h. omega arith) (λ p a b h. omega arith)
    (λ p a b h. omega arith)

pub returns : goal.returns
returns c = ldh_next_end _ (omega arith)
