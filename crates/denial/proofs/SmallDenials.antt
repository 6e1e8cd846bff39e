-- What a denial says is small (`denial_small`): its names have at most 255 octets each, so that their lengths are the octets of a number
-- below 2 to the 32nd, and a place is 255 at most.
use mathlib.Core.Path.{◌≡◌, refl}
use mathlib.Core.List.{List, []}
use mathlib.Core.Bool.{Bool, true, false, not, ◌&&◌, ◌||◌, cond}
use Prim.Native.Nat.{ℕ, ◌-◌, ◌^◌, ◌≤◌, ◌<◌}
use native.Mathlib.Omega.{arith}
use borrow.Author.Tests.{ltb-false, not-false}
use lib.Dec.{leb, ltb}
use lib.ListN.{length}
use Rattle.facts.proofs.Booleans.{both_true, neither_true}
use Rattle.space.specs.Octets.{Octets}
use Rattle.name.specs.Answer.{answer, refusal, refuse_if, value}
use Rattle.checks.specs.Under.{is_under}
use Rattle.checks.specs.Checks.{checks}
use Rattle.checks.proofs.Mapped.{if_map, checks_map}
use Rattle.encloser.specs.Wildcard.{wildcard_name}
use Rattle.neighbour.specs.Nearest.{Question}
use Rattle.neighbour.proofs.SmallAnswers.{if_small, checks_small}
use Rattle.covering.specs.NextCloser.{is_proper, next_closer_of}
use Rattle.covering.proofs.Closers.{true_proper}
use Rattle.gaps.specs.Denial.{next_of, is_same, one_gap, two_gaps, gaps_of, denial_of}
use Rattle.gaps.specs.Denies.{lengths, joined, measured}
use Rattle.gaps.proofs.Asking.{closer_question, wildcard_question}
use Rattle.denial.proofs.GapPlans.{owner_few, next_few}

-- two or four names of at most 255 octets each
abbrev Few : List (List ℕ) → Type 0
Few names = lengths names < 2 ^ 32

-- the one or the other of two lists of names
few_cond : (b : Bool) (ns ms : List (List ℕ)) → (b ≡ true → Few ns) → (b ≡ false → Few ms) → Few (cond b ns ms)
few_cond true ns ms f g = f refl
few_cond false ns ms f g = g refl

measured_small : (room : ℕ) (names : List (List ℕ)) → Few names → value (measured room (answer names)) < 2 ^ 32
measured_small room names h = go (leb (length (joined names)) room)
  where
    go : (b : Bool) → value (cond b (answer (lengths names)) (refusal 9 [])) < 2 ^ 32
    go true = h
    go false = omega arith

module _ (apex : List ℕ) (limit : ℕ) where
  one_few : (name : List ℕ) → Question apex limit name → Few (one_gap apex limit name)
  one_few name q = omega (arith, owner_few apex limit name q, next_few apex limit name q)

  two_few : (closer wild : List ℕ) → Question apex limit closer → Question apex limit wild → Few (two_gaps apex limit closer wild)
  two_few closer wild q r =
      let a = owner_few apex limit closer q in
      let b = next_few apex limit closer q in
      let c = owner_few apex limit wild r in
      let d = next_few apex limit wild r in
      few_cond (is_same (next_of apex limit closer) wild) _ _ (λ e. omega (arith, a, d)) (λ e.
      few_cond (is_same (next_of apex limit wild) closer) _ _ (λ f. omega (arith, b, c)) (λ f. omega (arith, a, b, c, d)))

  module _ (encloser query : List ℕ) (oa : Octets apex) (oe : Octets encloser) (oq : Octets query) where
    gaps_few : Question apex limit query → is_proper encloser query && is_under apex encloser ≡ true
        → Few (gaps_of apex limit (next_closer_of encloser query) (wildcard_name encloser))
    gaps_few q t =
        let b = both_true (is_proper encloser query) (is_under apex encloser) t in
        let p = true_proper encloser query b.0 in
        let k = closer_question apex limit query q encloser p b.1 in
        let long = ltb limit (length (wildcard_name encloser)) in
        let closer = next_closer_of encloser query in
        few_cond (long || is_same (wildcard_name encloser) closer) _ _ (λ e. one_few closer k) (λ e.
        two_few closer (wildcard_name encloser) k
        (wildcard_question apex limit query q encloser p b.1 oe
        (ltb-false limit (length (wildcard_name encloser)) (neither_true long (is_same (wildcard_name encloser) closer) e).0)))

    pub denial_small : (room : ℕ) → value (measured room (denial_of apex limit encloser query)) < 2 ^ 32
    denial_small room =
        let none = not (is_proper encloser query && is_under apex encloser) in
        let names = gaps_of apex limit (next_closer_of encloser query) (wildcard_name encloser) in
        let most : value (checks apex limit query (refuse_if none 18 (measured room (answer names)))) ≤ 2 ^ 32 - 1 =
        checks_small apex limit query oa oq (2 ^ 32 - 1) (refuse_if none 18 (measured room (answer names))) (omega arith) (λ q.
        if_small none 18 (2 ^ 32 - 1) (measured room (answer names)) (λ e.
        omega (arith, measured_small room names (gaps_few q (not-false (is_proper encloser query && is_under apex encloser) e))))) in
        rw (
          checks_map (measured room) (λ n vs. refl) apex limit query (refuse_if none 18 (answer names)),
          if_map (measured room) (λ n vs. refl) none 18 (answer names),
        )
        (omega (arith, most))
