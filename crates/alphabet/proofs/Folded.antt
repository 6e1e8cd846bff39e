-- No octet of an alphabet is an upper-case letter: folding leaves each as it is (`allowed_kept`), the least and the greatest too.
use mathlib.Core.Path.{◌≡◌}
use mathlib.Core.Bool.{false}
use Prim.Native.Nat.{ℕ, ◌≤◌}
use native.Mathlib.Omega.{arith}
use borrow.Author.Tests.{le-ltb, lt-ltb, lt-leb}
use lib.Dec.{T}
use Rattle.space.specs.Fold.{lower_of}
use Rattle.name.proofs.Folding.{lower_kept}
use Rattle.order.proofs.Members.{Octet}
use Rattle.zone.specs.Steps.{least, greatest}
use Rattle.zone.proofs.FullAlphabet.{full_not_upper}
use Rattle.alphabet.specs.declared.Alphabet.{Alphabet}
use Rattle.alphabet.specs.declared.Alphabet.TheVariants.{Full, Ldh}
use Rattle.alphabet.specs.Alphabets.{ldh, among, allowed}
use Rattle.alphabet.proofs.Extremes.{greatest_in, least_in}
use Rattle.alphabet.proofs.Ldh.{hyphen_digit_letter, ldh_tests, hyphen_octet}

ldh_not_upper : (o : ℕ) → T (among o ldh) → 65 ≤ o → o ≤ 90 → ⊥
ldh_not_upper o t a b =
    let h : T (hyphen_digit_letter o) = rw (ldh_tests o (omega arith)) at t in
    let f : T (hyphen_digit_letter o) → T false =
    λ x. rw (le-ltb o 48 (omega arith), lt-ltb o 97 (omega arith), lt-leb o 57 (omega arith)) at x in
    f h

pub allowed_not_upper : (alphabet : Alphabet) (o : ℕ) → T (allowed alphabet o) → 65 ≤ o → o ≤ 90 → ⊥
allowed_not_upper Full o t = full_not_upper o t
allowed_not_upper Ldh o t = ldh_not_upper o t

pub allowed_kept : (alphabet : Alphabet) (o : ℕ) → T (allowed alphabet o) → lower_of o ≡ o
allowed_kept alphabet o t = lower_kept o (allowed_not_upper alphabet o t)

-- both alphabets have the hyphen
pub allowed_hyphen : (alphabet : Alphabet) → Octet (allowed alphabet) 45
allowed_hyphen Full = (omega arith, tt)
allowed_hyphen Ldh = hyphen_octet

pub least_kept : (alphabet : Alphabet) → lower_of (least (allowed alphabet)) ≡ least (allowed alphabet)
least_kept alphabet = allowed_kept alphabet _ (least_in (allowed alphabet) 45 (allowed_hyphen alphabet)).1

pub greatest_kept : (alphabet : Alphabet) → lower_of (greatest (allowed alphabet)) ≡ greatest (allowed alphabet)
greatest_kept alphabet = allowed_kept alphabet _ (greatest_in (allowed alphabet) 45 (allowed_hyphen alphabet)).1
