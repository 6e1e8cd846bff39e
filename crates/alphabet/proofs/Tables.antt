-- A table of octets that rises, which one test shows of it.
use mathlib.Core.Path.{◌≡◌, refl}
use mathlib.Core.List.{List, [], ◌∷◌}
use mathlib.Core.Bool.{Bool, true, false, cond}
use Prim.Native.Nat.{ℕ, zero, suc, ◌≤◌, ◌<◌}
use native.Mathlib.Omega.{arith}
use borrow.Author.Tests.{leb-true}
use lib.Dec.{T, leb}
use lib.ListN.{length, get_or}

-- the test: each entry is above the one before it, the first is b or more, and the last is an octet
abbrev pub rises : ℕ → List ℕ → Bool
rises b [] = leb b 256
rises b (e ∷ es) = cond (leb b e) (rises (suc e) es) false

-- the rule at an entry
rises_parts : (b e : ℕ) (es : List ℕ) → T (rises b (e ∷ es)) → (b ≤ e) × T (rises (suc e) es)
rises_parts b e es = go (leb b e) refl
  where
    go : (t : Bool) → leb b e ≡ t → T (cond t (rises (suc e) es) false) → (b ≤ e) × T (rises (suc e) es)
    go true q h = (leb-true b e q, h)
    go false q h = absurd h

pub rises_at : (b : ℕ) (es : List ℕ) → T (rises b es) → (i : ℕ) → suc i < length es → get_or es i 0 < get_or es (suc i) 0
rises_at b [] h i less = absurd (omega arith)
rises_at b (e ∷ []) h i less = absurd (omega arith)
rises_at b (e ∷ f ∷ es) h zero less = (rises_parts (suc e) f es (rises_parts b e (f ∷ es) h).1).0
rises_at b (e ∷ f ∷ es) h (suc i) less = rises_at (suc e) (f ∷ es) (rises_parts b e (f ∷ es) h).1 i (omega arith)
