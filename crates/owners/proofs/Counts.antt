-- How many owners are looked at: a list of fewer than 2 ^ k owners takes at most k looks (`find_looks`), and to allow no more changes
-- nothing, also where an owner is broken (`find_within_lem`).
use mathlib.Core.Path.{◌≡◌, refl, sym, ◌∙◌}
use mathlib.Core.List.{List}
use mathlib.Core.Bool.{Bool, true, false, true≢false}
use Prim.Native.Nat.{ℕ, ◌^◌, ◌≤◌, ◌<◌}
use native.Mathlib.Omega.{arith}
use borrow.Author.Tests.{ltb-false}
use lib.Dec.{ltb}
use lib.ListN.{length}
use Rattle.facts.proofs.Booleans.{neither_true}
use Rattle.name.specs.Wire.{Reading}
use Rattle.std.specs.Prelude.{Ok, Err}
use Rattle.name.specs.Wire.{reading_of}
use Rattle.name.specs.Answer.{answer, refuse_broken}
use Rattle.owners.specs.declared.Found.{Found}
use Rattle.owners.specs.declared.Found.TheVariants.{NoOwner}
use Rattle.owners.specs.Layout.{owners_of}
use Rattle.owners.specs.Sizes.{is_too_large}
use Rattle.owners.specs.Halving.{looks, halve}
use Rattle.owners.specs.Answers.{refuse_at, look_in, find_within}
use Rattle.owners.proofs.Halvings.{below_power, halve_same, halve_looks}

module _ (k owners octets : ℕ) (names starts query : List ℕ) (h : owners < 2 ^ k) where
  pub find_within_lem : find_within owners octets names starts query
      ≡ refuse_broken (reading_of query) 4
      (refuse_at (is_too_large owners octets names starts) 0
      (halve (look_in (owners_of names starts) query) k 0 (length starts) (NoOwner 0)))
  find_within_lem = go (is_too_large owners octets names starts) refl
    where
      go : (b : Bool) → is_too_large owners octets names starts ≡ b → find_within owners octets names starts query
          ≡ refuse_broken (reading_of query) 4
          (refuse_at (is_too_large owners octets names starts) 0
          (halve (look_in (owners_of names starts) query) k 0 (length starts) (NoOwner 0)))
      go true e = rw e
      go false e =
          let s = ltb-false owners (length starts) (neither_true (ltb owners (length starts)) (ltb octets (length names)) e).0 in
          rw (halve_same (look_in (owners_of names starts) query) (length starts) k 0 (length starts) (NoOwner 0)
          (omega (arith, below_power (length starts))) (omega arith))

  pub find_looks : (f : Found) → find_within owners octets names starts query ≡ answer f → looks f ≤ k
  find_looks f e = go (reading_of query) (is_too_large owners octets names starts) refl refl
    where
      go : (r : Reading) (b : Bool) → reading_of query ≡ r → is_too_large owners octets names starts ≡ b → looks f ≤ k
      go (Ok _) false er eb =
          let g = rw (er, eb) at find_within_lem in
          let d = rw (er, eb) at e in
          omega (arith, halve_looks (look_in (owners_of names starts) query) k 0 (length starts) (NoOwner 0) f (sym g ∙ d))
      go (Ok _) true er eb = absurd (true≢false (let d = rw (er, eb) at e in cc))
      go (Err x) b er eb = absurd (true≢false (let d = rw er at e in cc))
