-- The loop is the halving (`At`): what the halving of all indexes answers is what that of the indexes that are left does.
use mathlib.Core.Path.{◌≡◌, refl, sym, ap, ◌∙◌}
use mathlib.Core.List.{List, [], ◌∷◌}
use mathlib.Core.Bool.{true, false}
use Prim.Native.Nat.{ℕ, zero, suc, ◌+◌, ◌-◌, ◌≤◌, ◌<◌}
use native.Mathlib.Omega.{arith}
use lib.ListN.{length, get_or}
use Rattle.std.specs.Prelude.{Ok, Err}
use Rattle.name.specs.Wire.{reading_of}
use Rattle.name.specs.declared.Fault.{Fault}
use Rattle.name.specs.declared.Refusal.TheVariants.{BadName}
use Rattle.name.specs.Answer.{answer, refusal, numbered}
use Rattle.owners.specs.declared.Look.{Look}
use Rattle.owners.specs.declared.Look.TheVariants.{NotAfter, After, Broken}
use Rattle.owners.specs.declared.Found.TheVariants.{Owner}
use Rattle.owners.specs.Layout.{owners_of}
use Rattle.owners.specs.Halving.{halve, halving}
use Rattle.owners.specs.Sizes.{is_too_large}
use Rattle.owners.specs.Answers.{look_in, find_within}
use Rattle.owners.specs.Private.Looks.{look_from, found_below}
use Rattle.owners.proofs.Halvings.{middle, halve_none, turn_above, turn_below, turn_broken}

-- what is found below an index
pub below_some : (low n : ℕ) → (low ≡ 0 → ⊥) → Owner (low - 1) n ≡ found_below low n
below_some zero n f = absurd (f refl)
below_some (suc i) n f = ap (λ (k : ℕ). Owner k n) (omega arith)

-- ---- the refusals

module _ (owners octets : ℕ) (names starts query : List ℕ) where
  pub query_refused : (f : Fault) → reading_of query ≡ Err f → numbered (BadName f) ≡ find_within owners octets names starts query
  query_refused f e = rw e

  module _ (e : reading_of query ≡ Ok tt) where
    pub list_refused : true ≡ is_too_large owners octets names starts → refusal 16 (0 ∷ []) ≡ find_within owners octets names starts query
    list_refused t = rw (e, ← t)

    pub list_halved : false ≡ is_too_large owners octets names starts
        → halving (look_in (owners_of names starts) query) (length starts) ≡ find_within owners octets names starts query
    list_halved t = rw (e, ← t)

-- ---- the loop

-- what is seen of the owner of an index
pub sees : (names starts query : List ℕ) (i : ℕ) (owner : List ℕ) (seen : Look) → reading_of query ≡ Ok tt
    → owner ≡ get_or (owners_of names starts) i [] → seen ≡ look_from query owner → look_in (owners_of names starts) query i ≡ seen
sees names starts query i owner seen w e s = sym (s ∙ rw (w, e))

-- the indexes from `low` on and below `high` are left
pub record At (names starts query : List ℕ) (low high looks : ℕ) : Type 0 where
  pub up : low ≤ high
  pub within : high ≤ length starts
  pub few : looks + (high - low) ≤ length starts
  pub is : halving (look_in (owners_of names starts) query) (length starts)
      ≡ halve (look_in (owners_of names starts) query) (high - low) low high (found_below low looks)

module _ (names starts query : List ℕ) where
  abbrev look : ℕ → Look
  look = look_in (owners_of names starts) query

  pub at_start : At names starts query 0 (length starts) 0
  at_start =
      record {
        up = omega arith;
        within = omega arith;
        few = omega arith;
        is = ap (λ (n : ℕ). halve look n 0 (length starts) (found_below 0 0)) (omega arith);
      }

module _ {names starts query : List ℕ} {low high looks : ℕ} (a : At names starts query low high looks) where
  pub at_end_lem : high ≤ low → answer (found_below low looks) ≡ halving (look_in (owners_of names starts) query) (length starts)
  at_end_lem h = sym (a.is ∙ halve_none (look_in (owners_of names starts) query) (high - low) low high (found_below low looks) h)

  module _ (h : low < high) where
    pub at_above : look_in (owners_of names starts) query (middle low high) ≡ NotAfter
        → At names starts query (middle low high + 1) high (looks + 1)
    at_above e =
        record {
          up = omega arith;
          within = a.within;
          few = omega (arith, a.few);
          is = a.is ∙ turn_above (look_in (owners_of names starts) query) low high looks h e;
        }

    pub at_below : look_in (owners_of names starts) query (middle low high) ≡ After
        → At names starts query low (middle low high) (looks + 1)
    at_below e =
        record {
          up = omega arith;
          within = omega (arith, a.within);
          few = omega (arith, a.few);
          is = a.is ∙ turn_below (look_in (owners_of names starts) query) low high looks h e;
        }

    pub at_broken : look_in (owners_of names starts) query (middle low high) ≡ Broken
        → refusal 16 (middle low high ∷ []) ≡ halving (look_in (owners_of names starts) query) (length starts)
    at_broken e = sym (a.is ∙ turn_broken (look_in (owners_of names starts) query) low high looks h e)
