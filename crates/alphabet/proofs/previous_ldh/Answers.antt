-- Each compare names the octet that comes last before it, and no octet of the alphabet stands between; up to the hyphen there is none.
use native.Mathlib.Omega.{arith}
use Rattle.alphabet.proofs.Ldh.{hyphen_octet, digit_octet, letter_octet, ldh_previous, ldh_previous_end}
use Rattle.alphabet.proofs.previous_ldh.Goals as goal

pub returns-then-octet-gt122 : goal.returns-then-octet-gt122
returns-then-octet-gt122 c =
    ldh_previous _ _ (letter_octet 122 (omega arith) (omega arith)) (omega arith) (omega arith) (λ h. omega arith) (λ p a b h. omega arith)
    (λ p a b h. omega arith)

pub returns-then-octet-gt97 : goal.returns-then-octet-gt97
returns-then-octet-gt97 c =
    ldh_previous _ _ (letter_octet _ (omega arith) (omega arith)) (omega arith) (omega arith) (λ h. omega arith) (λ p a b h. omega arith)
    (λ p a b h. omega arith)

pub returns-then-octet-gt57 : goal.returns-then-octet-gt57
returns-then-octet-gt57 c =
    ldh_previous _ _ (digit_octet 57 (omega arith) (omega arith)) (omega arith) (omega arith) (λ h. omega arith) (λ p a b h. omega arith)
    (λ p a b h. omega arith)

pub returns-then-octet-gt48 : goal.returns-then-octet-gt48
returns-then-octet-gt48 c =
    ldh_previous _ _ (digit_octet _ (omega arith) (omega arith)) (omega arith) (omega arith) (λ h. omega arith) (λ p a b h. omega arith)
    (λ p a b h. omega arith)

pub returns-then-octet-gt45 : goal.returns-then-octet-gt45
returns-then-octet-gt45 c = ldh_previous _ _ hyphen_octet (omega arith) (omega arith) (λ h. omega arith) (λ p a b h. omega arith)
    (λ p a b h. omega arith)

pub returns : goal.returns
returns c = ldh_previous_end _ (omega arith)
