-- What the exported functions on denials say: a next closer name is a name, so that its length has room in the packed number. That is one
-- to one on what a denial says (`packed_denied_injective`), and so is its value on the lengths of the names (`lengths_injective`).
use mathlib.Core.Path.{◌≡◌, refl, ap}
use mathlib.Core.Bool.{Bool, true, false, true≢false}
use mathlib.Core.List.{List, [], ◌∷◌}
use Prim.Native.Nat.{ℕ, ◌≤◌}
use native.Mathlib.Omega.{arith}
use lib.ListN.{length}
use Rattle.name.specs.declared.Refusal.{Refusal}
use Rattle.name.specs.declared.Refusal.TheVariants.{BadLimit, BadApex, ApexTooLong, BadName, NameTooLong, NotUnderApex, NoFullLabel}
use Rattle.name.specs.declared.Refusal.TheVariants.{NoRoom, NotAKey, BadSecondName, NotInAlphabet}
use Rattle.std.specs.Prelude.{Ok, Err, Result as Outcome}
use Rattle.denial.specs.declared.DenialRefusal.TheVariants.{NoEncloser, Refused}
use Rattle.name.specs.Answer.{refusal_number}
use Rattle.name.proofs.Whole.{whole_fits}
use Rattle.covering.specs.NextCloser.{is_proper, next_closer_of}
use Rattle.covering.proofs.Closers.{true_proper, proper_closer}
use Rattle.denial.specs.declared.DenialRefusal.{DenialRefusal}
use Rattle.denial.specs.Answers.{said}
use Rattle.gaps.specs.Denies.{lengths}
use Rattle.qorshudan.specs.Packed.{packed}
use Rattle.qorshudan.proofs.Packing.{Small, outcome_small, packed_same, packed_injective}

pub closer_short : (encloser query : List ℕ) → length (next_closer_of encloser query) ≤ 255
closer_short encloser query = go (is_proper encloser query) refl
  where
    go : (b : Bool) → is_proper encloser query ≡ b → length (next_closer_of encloser query) ≤ 255
    go true t = whole_fits (next_closer_of encloser query) (proper_closer encloser query (true_proper encloser query t)).whole
    go false t = rw t (omega arith)

-- ---- what a denial says

denied_small : (d : Outcome ℕ DenialRefusal) → Small (said d)
denied_small (Ok n) = record { number_small = omega arith; reason_small = omega arith }
denied_small (Err (Refused w)) = outcome_small (Err w)
denied_small (Err NoEncloser) = record { number_small = omega arith; reason_small = omega arith }

-- no other refusal has 18
refusal_few : (w : Refusal) → refusal_number w ≤ 12
refusal_few BadLimit = omega arith
refusal_few (BadApex f) = omega arith
refusal_few ApexTooLong = omega arith
refusal_few (BadName f) = omega arith
refusal_few NameTooLong = omega arith
refusal_few NotUnderApex = omega arith
refusal_few NoFullLabel = omega arith
refusal_few NoRoom = omega arith
refusal_few (NotAKey p) = omega arith
refusal_few (BadSecondName f) = omega arith
refusal_few NotInAlphabet = omega arith

pub packed_denied_injective : (d e : Outcome ℕ DenialRefusal) → packed (said d) ≡ packed (said e) → d ≡ e
packed_denied_injective (Ok n) (Ok m) h = ap Ok (packed_same _ _ (denied_small (Ok n)) (denied_small (Ok m)) h).2
packed_denied_injective (Ok n) (Err (Refused w)) h =
    let o = packed_injective (Ok n) (Err w) h in absurd (true≢false (cc))
packed_denied_injective (Err (Refused w)) (Ok n) h =
    let o = packed_injective (Err w) (Ok n) h in absurd (true≢false (cc))
packed_denied_injective (Err (Refused w)) (Err (Refused v)) h =
    let o = packed_injective (Err w) (Err v) h in cc
packed_denied_injective (Err NoEncloser) (Err NoEncloser) h = refl
packed_denied_injective (Ok n) (Err NoEncloser) h =
    absurd (omega (arith, (packed_same _ _ (denied_small (Ok n)) (denied_small (Err NoEncloser)) h).0))
packed_denied_injective (Err NoEncloser) (Ok n) h =
    absurd (omega (arith, (packed_same _ _ (denied_small (Err NoEncloser)) (denied_small (Ok n)) h).0))
packed_denied_injective (Err (Refused w)) (Err NoEncloser) h =
    absurd (omega (arith, (packed_same _ _ (denied_small (Err (Refused w))) (denied_small (Err NoEncloser)) h).0, refusal_few w))
packed_denied_injective (Err NoEncloser) (Err (Refused w)) h =
    absurd (omega (arith, (packed_same _ _ (denied_small (Err NoEncloser)) (denied_small (Err (Refused w))) h).0, refusal_few w))

-- names that have octets, and no more than 255
abbrev Lengths : List (List ℕ) → Type 0
Lengths [] = Unit {0}
Lengths (n ∷ ns) = (1 ≤ length n) × (length n ≤ 255) × Lengths ns

abbrev each : List (List ℕ) → List ℕ
each [] = []
each (n ∷ ns) = length n ∷ each ns

pub lengths_injective : (ns ms : List (List ℕ)) → Lengths ns → Lengths ms → lengths ns ≡ lengths ms → each ns ≡ each ms
lengths_injective [] [] a b e = refl
lengths_injective [] (m ∷ ms) a b e = absurd (omega (arith, b.0))
lengths_injective (n ∷ ns) [] a b e = absurd (omega (arith, a.0))
lengths_injective (n ∷ ns) (m ∷ ms) a b e =
    let h : length n ≡ length m = omega (arith, a.1, b.1) in
    let t : each ns ≡ each ms = lengths_injective ns ms a.2 b.2 (omega (arith, a.1, b.1)) in cc
