-- A question that the checks 1 to 6 let pass gets the answer that the steps give, and its answer is again such a question.
use mathlib.Core.Path.{◌≡◌}
use mathlib.Core.List.{List}
use Prim.Native.Nat.{ℕ, ◌+◌}
use borrow.Author.Tests.{le-ltb}
use lib.ListN.{length}
use mathlib.Core.Logic.{◌⊎◌, inl, inr}
use Rattle.space.specs.Fold.{folded}
use Rattle.order.specs.Order.{SortsBefore}
use Rattle.name.specs.Answer.{Result}
use Rattle.checks.specs.Checks.{checks}
use Rattle.neighbour.specs.Nearest.{Question, InZone, LeastAfter, GreatestBefore}

pub question_passes : {A : Type 0} (apex : List ℕ) (limit : ℕ) (name : List ℕ) (next : Result A) → Question apex limit name
    → checks apex limit name next ≡ next
question_passes apex limit name next q =
    rw (
      le-ltb limit 1 q.some,
      le-ltb 255 limit q.most,
      q.apex_formed.whole,
      le-ltb limit (length apex + 2) q.apex_fits,
      q.name_formed.whole,
      le-ltb limit (length name) q.name_fits,
      q.under,
    )

-- a member of the zone can be asked for
pub member_question : {apex : List ℕ} {limit : ℕ} {name : List ℕ} → Question apex limit name → (u : List ℕ) → InZone apex limit u
    → Question apex limit u
member_question q u z =
    record {
      some = q.some;
      most = q.most;
      apex_formed = q.apex_formed;
      apex_fits = q.apex_fits;
      name_formed = z.formed;
      name_fits = z.fits;
      under = z.under;
    }

-- the nearest of a set is the nearest of a set with the same names
module _ (In To : List ℕ → Type 0) (to : (u : List ℕ) → In u → To u) (from : (u : List ℕ) → To u → In u) where
  pub least_same : {apex name a : List ℕ} → LeastAfter In apex name a → LeastAfter To apex name a
  least_same {apex} {name} {a} h =
      record { member = to a h.member; nearest = go h.nearest }
    where
      go : (SortsBefore name a × ((u : List ℕ) → In u → SortsBefore name u → SortsBefore u a → ⊥))
          ⊎ (((u : List ℕ) → In u → SortsBefore name u → ⊥) × (a ≡ folded apex))
          → (SortsBefore name a × ((u : List ℕ) → To u → SortsBefore name u → SortsBefore u a → ⊥))
          ⊎ (((u : List ℕ) → To u → SortsBefore name u → ⊥) × (a ≡ folded apex))
      go (inl k) = inl (k.0, λ u t p r. k.1 u (from u t) p r)
      go (inr k) = inr (λ u t p. k.0 u (from u t) p, k.1)

  pub greatest_same : {name a : List ℕ} → GreatestBefore In name a → GreatestBefore To name a
  greatest_same {name} {a} h =
      record { member = to a h.member; nearest = go h.nearest }
    where
      go : (SortsBefore a name × ((u : List ℕ) → In u → SortsBefore a u → SortsBefore u name → ⊥))
          ⊎ (((u : List ℕ) → In u → SortsBefore u name → ⊥) × ((u : List ℕ) → In u → SortsBefore a u → ⊥))
          → (SortsBefore a name × ((u : List ℕ) → To u → SortsBefore a u → SortsBefore u name → ⊥))
          ⊎ (((u : List ℕ) → To u → SortsBefore u name → ⊥) × ((u : List ℕ) → To u → SortsBefore a u → ⊥))
      go (inl k) = inl (k.0, λ u t p r. k.1 u (from u t) p r)
      go (inr k) = inr (λ u t p. k.0 u (from u t) p, λ u t p. k.1 u (from u t) p)
