-- A lookup in a list that rises: the owners that are not after the query come first, so that the halving finds the last of them.
use mathlib.Core.Path.{◌≡◌, refl}
use mathlib.Core.List.{List, [], ◌∷◌}
use mathlib.Core.Bool.{Bool, true, false, cond}
use Prim.Native.Nat.{ℕ, zero, suc, ◌≤◌, ◌<◌}
use native.Mathlib.Omega.{arith}
use lib.ListN.{length, get_or}
use Rattle.std.specs.Prelude.{Ok}
use Rattle.name.specs.Wire.{reading_of}
use Rattle.order.specs.Order.{SortsBefore, folded_labels}
use Rattle.order.proofs.Canonical.{before_transitive}
use Rattle.encloser.specs.Gap.{is_before}
use Rattle.encloser.proofs.Gaps.{sorts_true, true_sorts}
use Rattle.owners.specs.declared.Look.TheVariants.{NotAfter, After}
use Rattle.owners.specs.Lists.{Rises, none, next}
use Rattle.owners.specs.Halving.{look_at}

pub sorts_transitive : (a b c : List ℕ) → SortsBefore a b → SortsBefore b c → SortsBefore a c
sorts_transitive a b c h k = before_transitive (folded_labels a) (folded_labels b) (folded_labels c) h k

module _ {In : List ℕ → Type 0} where
  -- what a list that rises has at an index
  pub rises_at : {before : List ℕ} {os : List (List ℕ)} → Rises In before os → (i : ℕ) → i < length os
      → In (get_or os i []) × SortsBefore before (get_or os i [])
  rises_at none i h = absurd (omega arith)
  rises_at (next o m s r) zero h = (m, s)
  rises_at {before} (next {names = os} o m s r) (suc i) h =
      let k = rises_at r i (omega arith) in
      (k.0, sorts_transitive before o (get_or os i []) s k.1)

module _ (query : List ℕ) where
  -- how many owners, from the front on, are not after the query
  unfoldable pub below : List (List ℕ) → ℕ
  below [] = 0
  below (o ∷ os) = cond (is_before query o) 0 (suc (below os))

  pub below_most : (os : List (List ℕ)) → below os ≤ length os
  unfolding below
  below_most [] = omega arith
  below_most (o ∷ os) = go (is_before query o) (below_most os)
    where
      go : (b : Bool) → below os ≤ length os → cond b 0 (suc (below os)) ≤ length (o ∷ os)
      go true ih = omega arith
      go false ih = omega arith

  module _ {In : List ℕ → Type 0} (whole : (name : List ℕ) → In name → reading_of name ≡ Ok tt) where
    look_after : (owner : List ℕ) → reading_of owner ≡ Ok tt → SortsBefore query owner → look_at query owner ≡ After
    look_after owner w s = rw (w, sorts_true query owner s)

    pub look_behind : {before : List ℕ} {os : List (List ℕ)} → Rises In before os → (i : ℕ) → below os ≤ i → i < length os
        → look_at query (get_or os i []) ≡ After
    unfolding below
    look_behind none i a b = absurd (omega arith)
    look_behind (next {names = os} o m s r) i a b = go (is_before query o) refl i a b (look_behind r)
      where
        go : (t : Bool) → is_before query o ≡ t → (j : ℕ) → cond t 0 (suc (below os)) ≤ j → j < length (o ∷ os)
            → ((k : ℕ) → below os ≤ k → k < length os → look_at query (get_or os k []) ≡ After)
            → look_at query (get_or (o ∷ os) j []) ≡ After
        go true e zero p q ih = look_after o (whole o m) (true_sorts query o e)
        go true e (suc j) p q ih =
            let k = rises_at r j (omega arith) in
            look_after (get_or os j []) (whole (get_or os j []) k.0) (sorts_transitive query o (get_or os j []) (true_sorts query o e) k.1)
        go false e zero p q ih = absurd (omega arith)
        go false e (suc j) p q ih = ih j (omega arith) (omega arith)

    pub look_before : {before : List ℕ} {os : List (List ℕ)} → Rises In before os → (i : ℕ) → i < below os
        → look_at query (get_or os i []) ≡ NotAfter
    unfolding below
    look_before none i a = absurd (omega arith)
    look_before (next {names = os} o m s r) i a = go (is_before query o) refl i a (look_before r)
      where
        go : (t : Bool) → is_before query o ≡ t → (j : ℕ) → j < cond t 0 (suc (below os))
            → ((k : ℕ) → k < below os → look_at query (get_or os k []) ≡ NotAfter) → look_at query (get_or (o ∷ os) j []) ≡ NotAfter
        go true e j p ih = absurd (omega arith)
        go false e zero p ih = rw (whole o m, e)
        go false e (suc j) p ih = ih j (omega arith)
