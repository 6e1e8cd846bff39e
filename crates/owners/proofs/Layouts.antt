-- The owners that names and starts lay out, by index (`owners_at`): an owner is what its start and the next one, or the end, say.
use mathlib.Core.Path.{◌≡◌, refl, ap, ◌∙◌}
use mathlib.Core.List.{List, [], ◌∷◌}
use mathlib.Core.Bool.{Bool, true, false, cond}
use Prim.Native.Nat.{ℕ, zero, suc, ◌+◌, ◌-◌, ◌≤◌, ◌<◌}
use native.Mathlib.Numerals.{add-one}
use native.Mathlib.Omega.{arith}
use borrow.Author.Tests.{le-leb, lt-leb, lt-ltb, le-ltb}
use lib.Dec.{leb}
use lib.ListN.{length, take, drop, get_or, get_or-eq_default}
use Rattle.owners.specs.Layout.{part, owners_of}
use Rattle.owners.specs.Sizes.{is_too_large}
-- passed on, so that a wrong definition is refused at an example before any law of it is tried
pub use Rattle.owners.proofs.Examples.{no_list, starts_break}

-- an element is there, whatever stands for a missing one
pub get_d_any : {A : Type 0} (l : List A) (i : ℕ) (d e : A) → i < length l → get_or l i d ≡ get_or l i e
get_d_any [] i d e h = absurd (omega arith)
get_d_any (x ∷ l) zero d e h = refl
get_d_any (x ∷ l) (suc i) d e h = get_d_any l i d e (omega arith)

-- ---- sizes

module _ (owners octets : ℕ) (names starts : List ℕ) where
  pub many_owners : owners < length starts → true ≡ is_too_large owners octets names starts
  many_owners h = rw (lt-ltb owners (length starts) h)

  pub many_octets : length starts ≤ owners → octets < length names → true ≡ is_too_large owners octets names starts
  many_octets h g = rw (le-ltb owners (length starts) h, lt-ltb octets (length names) g)

  pub not_large : length starts ≤ owners → length names ≤ octets → false ≡ is_too_large owners octets names starts
  not_large h g = rw (le-ltb owners (length starts) h, le-ltb octets (length names) g)

-- ---- owners

pub owners_length : (names starts : List ℕ) → length (owners_of names starts) ≡ length starts
unfolding owners_of
owners_length names [] = refl
owners_length names (s ∷ starts) = ap suc (owners_length names starts)

pub owners_at : (names starts : List ℕ) (i : ℕ) → i < length starts
    → get_or (owners_of names starts) i [] ≡ part names (get_or starts i 0) (get_or starts (i + 1) (length names))
unfolding owners_of
owners_at names [] i h = absurd (omega arith)
owners_at names (s ∷ starts) zero h = refl
owners_at names (s ∷ starts) (suc i) h =
    owners_at names starts i (omega arith) ∙ ap (λ (end : ℕ). part names (get_or starts i 0) end) (rw (add-one (suc i), add-one i))

module _ (names starts : List ℕ) (i : ℕ) where
  pub owner_missing : length starts ≤ i → [] ≡ get_or (owners_of names starts) i []
  owner_missing h = rw (get_or-eq_default (owners_of names starts) [] {n = i} (rw (owners_length names starts) h))

  module _ (h : i < length starts) (start end : ℕ) (s : start ≡ get_or starts i 0) (e : end ≡ get_or starts (i + 1) (length names)) where
    pub owner_beyond : length names < end → [] ≡ get_or (owners_of names starts) i []
    owner_beyond g = rw (owners_at names starts i h, ← e, lt-leb end (length names) g)

    pub owner_falls : end < start → [] ≡ get_or (owners_of names starts) i []
    owner_falls g =
        let z : end - start ≡ 0 = omega arith in
        rw (owners_at names starts i h, ← e, ← s, z) (go (leb end (length names)))
      where
        go : (b : Bool) → [] ≡ cond b (take 0 (drop start names)) []
        go true = refl
        go false = refl

    pub owner_part : end ≤ length names → take (end - start) (drop start names) ≡ get_or (owners_of names starts) i []
    owner_part g = rw (owners_at names starts i h, ← e, ← s, le-leb end (length names) g)
