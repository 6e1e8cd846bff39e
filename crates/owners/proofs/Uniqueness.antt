-- Each set of names has one list: two lists that rise from the same name on and have the same members are the same.
use mathlib.Core.Path.{◌≡◌, refl, sym, ap}
use mathlib.Core.List.Memᴰ
use mathlib.Core.List.{List, ◌∷◌, Memᴰ}
use mathlib.Core.Logic.{◌⊎◌, inl, inr}
use Prim.Native.Nat.{ℕ}
use Rattle.order.specs.Order.{SortsBefore, folded_labels}
use Rattle.order.proofs.Canonical.{before_irreflexive}
use Rattle.owners.specs.Lists.{Rises, none, next}
use Rattle.owners.proofs.Searching.{sorts_transitive}

never_itself : (name : List ℕ) → SortsBefore name name → ⊥
never_itself name h = before_irreflexive (folded_labels name) h

module _ {In : List ℕ → Type 0} where
  -- every member comes after the name before the list
  pub rises_after : {before : List ℕ} {os : List (List ℕ)} → Rises In before os → (name : List ℕ) → Memᴰ name os
      → SortsBefore before name
  rises_after none name m = absurd (Memᴰ.not-nil m)
  rises_after {before} (next {names = os} o i s r) name m = go (Memᴰ.cases_cons m) (rises_after r name)
    where
      go : (name ≡ o) ⊎ Memᴰ name os → (Memᴰ name os → SortsBefore o name) → SortsBefore before name
      go (inl e) f = rw e s
      go (inr k) f = sorts_transitive before o name s (f k)

  -- members behind the first name of a list
  pub behind : {o : List ℕ} {os ps : List (List ℕ)} → Rises In o os → ((name : List ℕ) → Memᴰ name (o ∷ os) → Memᴰ name (o ∷ ps))
      → (name : List ℕ) → Memᴰ name os → Memᴰ name ps
  behind {o} {os} {ps} r f name m = go (Memᴰ.cases_cons (f name (Memᴰ.tail m)))
    where
      go : (name ≡ o) ⊎ Memᴰ name ps → Memᴰ name ps
      go (inl e) = absurd (never_itself o (rw e at (rises_after r name m)))
      go (inr k) = k

  pub rises_unique : {before : List ℕ} {os ps : List (List ℕ)} → Rises In before os → Rises In before ps
      → ((name : List ℕ) → Memᴰ name os → Memᴰ name ps) → ((name : List ℕ) → Memᴰ name ps → Memᴰ name os) → os ≡ ps
  rises_unique none none f g = refl
  rises_unique none (next p i s r) f g = absurd (Memᴰ.not-nil (g p (Memᴰ.head refl)))
  rises_unique (next o i s r) none f g = absurd (Memᴰ.not-nil (f o (Memᴰ.head refl)))
  rises_unique (next {names = os} o i s r) (next {names = ps} p j u q) f g =
      let e : o ≡ p = same (Memᴰ.cases_cons (f o (Memᴰ.head refl))) (Memᴰ.cases_cons (g p (Memᴰ.head refl))) in
      let q2 : Rises In o ps = rw (← e) at q in
      let f2 : (name : List ℕ) → Memᴰ name (o ∷ os) → Memᴰ name (o ∷ ps) = rw (← e) at f in
      let g2 : (name : List ℕ) → Memᴰ name (o ∷ ps) → Memᴰ name (o ∷ os) = rw (← e) at g in
      rw (← e) (ap (λ (ns : List (List ℕ)). o ∷ ns) (rises_unique r q2 (behind r f2) (behind q2 g2)))
    where
      same : (o ≡ p) ⊎ Memᴰ o ps → (p ≡ o) ⊎ Memᴰ p os → o ≡ p
      same (inl e) k = e
      same (inr m) (inl e) = sym e
      same (inr m) (inr k) = absurd (never_itself o (sorts_transitive o p o (rises_after r p k) (rises_after q o m)))
