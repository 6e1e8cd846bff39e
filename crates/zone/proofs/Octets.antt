-- The octets of an alphabet: from gives the least from a number on, below the greatest below a number, and none where there is none.
use mathlib.Core.Path.{◌≡◌, ap, subst}
use mathlib.Core.Logic.{◌≢◌}
use mathlib.Core.Option.{Option, none, some}
use mathlib.Core.Bool.{Bool, true, false}
use Prim.Native.Nat.{ℕ, zero, suc, ◌+◌, ◌-◌, ◌≤◌, ◌<◌}
use native.Mathlib.Omega.{arith}
use lib.Dec.{T}
use Rattle.order.proofs.Members.{Octet}
use Rattle.zone.specs.Alphabet.{pick, scan, from, below}

-- m is the least, or the greatest, number with P, and none where there is none
abbrev pub Min : (ℕ → Type 0) → Option ℕ → Type 0
Min P none = (p : ℕ) → P p → ⊥
Min P (some o) = P o × ((p : ℕ) → P p → o ≤ p)

abbrev pub Max : (ℕ → Type 0) → Option ℕ → Type 0
Max P none = (p : ℕ) → P p → ⊥
Max P (some o) = P o × ((p : ℕ) → P p → p ≤ o)

pub min_map : (P Q : ℕ → Type 0) (m : Option ℕ) → ((p : ℕ) → P p → Q p) → ((p : ℕ) → Q p → P p) → Min P m → Min Q m
min_map P Q none f g h = λ p k. h p (g p k)
min_map P Q (some o) f g h = (f o h.0, λ p k. h.1 p (g p k))

pub max_map : (P Q : ℕ → Type 0) (m : Option ℕ) → ((p : ℕ) → P p → Q p) → ((p : ℕ) → Q p → P p) → Max P m → Max Q m
max_map P Q none f g h = λ p k. h p (g p k)
max_map P Q (some o) f g h = (f o h.0, λ p k. h.1 p (g p k))

module _ (allowed : ℕ → Bool) where
  -- scan finds the least allowed octet of a range, and below the greatest.
  scan_law : (x k : ℕ) → Min (λ p. (x ≤ p) × (p < x + k) × T (allowed p)) (scan allowed x k)
  unfolding scan
  scan_law x zero = λ p h. omega arith
  scan_law x (suc k) = go (allowed x) (λ t. t) (λ t. t) (scan allowed (suc x) k) (scan_law (suc x) k)
    where
      other : (T (allowed x) → ⊥) → (p : ℕ) → (x ≤ p) × (p < x + suc k) × T (allowed p) → (suc x ≤ p) × (p < suc x + k) × T (allowed p)
      other g p h = let ne : p ≢ x = λ e. g (subst (λ (z : ℕ). T (allowed z)) e h.2) in (omega arith, omega arith, h.2)

      go : (b : Bool) → (T b → T (allowed x)) → (T (allowed x) → T b) → (m : Option ℕ)
          → Min (λ p. (suc x ≤ p) × (p < suc x + k) × T (allowed p)) m
          → Min (λ p. (x ≤ p) × (p < x + suc k) × T (allowed p)) (pick b x m)
      go true f g m h = ((omega arith, omega arith, f tt), λ p k. k.0)
      go false f g m h = min_map _ _ m (λ p h. (omega arith, omega arith, h.2)) (other g) h

  pub below_law : (x : ℕ) → Max (λ p. (p < x) × T (allowed p)) (below allowed x)
  unfolding below
  below_law zero = λ p h. omega arith
  below_law (suc x) = go (allowed x) (λ t. t) (λ t. t) (below allowed x) (below_law x)
    where
      other : (T (allowed x) → ⊥) → (p : ℕ) → (p < suc x) × T (allowed p) → (p < x) × T (allowed p)
      other g p h = let ne : p ≢ x = λ e. g (subst (λ (z : ℕ). T (allowed z)) e h.1) in (omega arith, h.1)

      go : (b : Bool) → (T b → T (allowed x)) → (T (allowed x) → T b) → (m : Option ℕ)
          → Max (λ p. (p < x) × T (allowed p)) m → Max (λ p. (p < suc x) × T (allowed p)) (pick b x m)
      go true f g m h = ((omega arith, f tt), λ p k. omega arith)
      go false f g m h = max_map _ _ m (λ p h. (omega arith, h.1)) (other g) h

  pub from_law : (x : ℕ) → Min (λ p. (x ≤ p) × Octet allowed p) (from allowed x)
  unfolding from
  from_law x =
      min_map _ _ (scan allowed x (256 - x)) (λ p h. (h.0, (omega arith, h.2))) (λ p h. (h.0, omega arith, h.1.1))
      (scan_law x (256 - x))

  -- what is the least, or the greatest, is found
  pub from_some : (x o : ℕ) → x ≤ o → Octet allowed o → ((p : ℕ) → x ≤ p → Octet allowed p → o ≤ p) → from allowed x ≡ some o
  from_some x o h k f = go (from allowed x) (from_law x)
    where
      go : (m : Option ℕ) → Min (λ p. (x ≤ p) × Octet allowed p) m → m ≡ some o
      go (some q) l = ap some (omega (arith, l.1 o (h, k), f q l.0.0 l.0.1))
      go none l = absurd (l o (h, k))

  pub below_some : (x o : ℕ) → o < x → T (allowed o) → ((p : ℕ) → p < x → T (allowed p) → p ≤ o) → below allowed x ≡ some o
  below_some x o h k f = go (below allowed x) (below_law x)
    where
      go : (m : Option ℕ) → Max (λ p. (p < x) × T (allowed p)) m → m ≡ some o
      go (some q) l = ap some (omega (arith, l.1 o (h, k), f q l.0.0 l.0.1))
      go none l = absurd (l o (h, k))
