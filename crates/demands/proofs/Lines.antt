-- A line holds of the definition that is its test: each is one case of a test, of a reading or of a measure.
use mathlib.Core.Path.{◌≡◌, refl}
use mathlib.Core.List.{List, [], ◌∷◌}
use mathlib.Core.Bool.{Bool, true, false, cond}
use mathlib.Core.Logic.{◌⊎◌, inl, inr}
use Prim.Native.Nat.{ℕ}
use native.Mathlib.Omega.{arith}
use borrow.Author.Tests.{leb-true, leb-false}
use lib.Dec.{leb}
use lib.ListN.{length}
use Rattle.name.specs.Wire.{Reading}
use Rattle.std.specs.Prelude.{Ok, Err}
use Rattle.name.specs.Wire.{reading_of}
use Rattle.name.specs.Reader.{Longest}
use Rattle.name.specs.Answer.{Result, answer, refusal, fitted, refuse_if, refuse_broken}
use Rattle.name.proofs.Small.{fitted_broken}
use Rattle.demands.specs.Lines.{Line, FaultLine, RoomLine, NameLines, ReadLines}

module _ {A : Type 0} (next : Result A) (later : Result A → Type 0) (l : later next) where
  -- a test whose two answers are the case and its opposite
  pub if_line : (b : Bool) (n : ℕ) (case : Type 0) → (b ≡ true → case) → (b ≡ false → case → ⊥)
      → Line (refuse_if b n next) (refusal n []) case (later (refuse_if b n next))
  if_line b n case holds fails = go b refl
    where
      go : (t : Bool) → b ≡ t → Line (refuse_if t n next) (refusal n []) case (later (refuse_if t n next))
      go true e = inl (holds e, refl)
      go false e = inr (fails e, l)

  pub fault_line : (s : List ℕ) (n : ℕ) → FaultLine (refuse_broken (reading_of s) n next) n s (later (refuse_broken (reading_of s) n next))
  fault_line s n = go (reading_of s) refl
    where
      go : (r : Reading) → reading_of s ≡ r → FaultLine (refuse_broken r n next) n s (later (refuse_broken r n next))
      go (Ok _) e = inr (e, l)
      go (Err f) e = inl (f, e, refl)

pub room_line : (room : ℕ) (a : List ℕ) → RoomLine (fitted room (answer a)) room a
room_line room a = go (leb (length a) room) refl
  where
    go : (t : Bool) → leb (length a) room ≡ t → RoomLine (cond t (answer (length a)) (refusal 9 [])) room a
    go true e = inr (λ h. omega (arith, leb-true (length a) room e, h), refl)
    go false e = inl (leb-false (length a) room e, refl)

-- 4, then 9
pub name_lines : (name : List ℕ) (room : ℕ) (a : List ℕ)
    → NameLines (fitted room (refuse_broken (reading_of name) 4 (answer a))) name room a
name_lines name room a =
    rw (fitted_broken (reading_of name) 4 room (answer a))
    (fault_line (fitted room (answer a)) (λ r. RoomLine r room a) (room_line room a) name 4)

-- what a reader says: that it accepts exactly what it answers, and the place where it refuses
module _ (n : ℕ) (Accepted : List ℕ → Type 0) (reads : List ℕ → Result (List ℕ))
    (accepts : (s a : List ℕ) → reads s ≡ answer a → Accepted s)
    (refuses : (s : List ℕ) (p : ℕ) → reads s ≡ refusal n (p ∷ []) → Accepted s → ⊥)
    (stops : (s : List ℕ) (p : ℕ) → reads s ≡ refusal n (p ∷ []) → Longest Accepted s p) where
  pub read_lines : (s : List ℕ) (room : ℕ) → ((a : List ℕ) × (reads s ≡ answer a)) ⊎ ((p : ℕ) × (reads s ≡ refusal n (p ∷ [])))
      → ReadLines (fitted room (reads s)) n Accepted s room (reads s)
  read_lines s room (inl h) = inr (accepts s h.0 h.1, (h.0, h.1, rw h.1 (room_line room h.0)))
  read_lines s room (inr h) = inl (refuses s h.0 h.1, h.0, stops s h.0 h.1, rw h.1)
