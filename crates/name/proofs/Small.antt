-- Places and lengths are small: a fault's place is at most 255, whatever the octets are.
use mathlib.Core.Path.{◌≡◌, refl}
use mathlib.Core.List.{List, [], ◌∷◌}
use mathlib.Core.Bool.{Bool, true, false, cond}
use Prim.Native.Nat.{ℕ, zero, suc, ◌+◌, ◌≤◌}
use native.Mathlib.Omega.{arith}
use borrow.Author.Tests.{ltb-false}
use lib.Dec.{ltb, eqb, leb}
use lib.ListN.{length}
use Rattle.name.specs.declared.Fault.TheVariants.{BadLength, TooLong}
use Rattle.name.specs.Wire.{Reading}
use Rattle.std.specs.Prelude.{Ok, Err}
use Rattle.name.specs.Wire.{read_from, reading_of, at_length, ended}
use Rattle.name.specs.Answer.{Result, answer, refusal, value, fault_place, refuse_broken, fitted, sized}

-- what is read, if it is a fault, has a place up to 255
Small : Reading → Type 0
Small (Ok _) = Unit {0}
Small (Err f) = fault_place f ≤ 255

ended_small : (p : ℕ) (s : List ℕ) → p ≤ 255 → Small (ended p s)
unfolding Small
ended_small p [] h = tt
ended_small p (x ∷ s) h = h

at_length_small : (p o : ℕ) (s : List ℕ) (next : Reading) → p ≤ 254 → (p + 1 + o ≤ 254 → Small next) → Small (at_length p o s next)
unfolding Small
at_length_small p o s next h f = go (eqb o 0) (ltb 63 o) (ltb 254 (p + 1 + o)) refl
  where
    go : (a b c : Bool) → ltb 254 (p + 1 + o) ≡ c
        → Small (cond a (ended (p + 1) s) (cond b (Err (BadLength p)) (cond c (Err (TooLong p)) next)))
    go true b c e = ended_small (p + 1) s (omega arith)
    go false true c e = omega arith
    go false false true e = omega arith
    go false false false e = f (ltb-false 254 (p + 1 + o) e)

read_small : (s : List ℕ) (p k : ℕ) → p + k ≤ 254 → Small (read_from p k s)
unfolding read_from Small
read_small [] p k h = omega arith
read_small (o ∷ s) p zero h = at_length_small p o s (read_from (p + 1) o s) (omega arith) (λ g. read_small s (p + 1) o g)
read_small (o ∷ s) p (suc k) h = read_small s (p + 1) k (omega arith)

-- a line of the table for octets that must be well formed keeps values small
pub broken_small : (s : List ℕ) (n m : ℕ) (next : Result ℕ) → 255 ≤ m → (reading_of s ≡ Ok tt → value next ≤ m)
    → value (refuse_broken (reading_of s) n next) ≤ m
unfolding Small
broken_small s n m next h f = go (reading_of s) refl (read_small s 0 0 (omega arith))
  where
    go : (r : Reading) → reading_of s ≡ r → Small r → value (refuse_broken r n next) ≤ m
    go (Ok _) e k = f e
    go (Err g) e k = omega arith

pub fitted_small : (a : List ℕ) (room m : ℕ) → length a ≤ m → value (fitted room (answer a)) ≤ m
fitted_small a room m h = go (leb (length a) room)
  where
    go : (b : Bool) → value (cond b (answer (length a)) (refusal 9 [])) ≤ m
    go true = h
    go false = omega arith

-- measuring an answer does not touch the lines before it
pub fitted_broken : (r : Reading) (n room : ℕ) (next : Result (List ℕ))
    → fitted room (refuse_broken r n next) ≡ refuse_broken r n (fitted room next)
fitted_broken (Ok _) n room next = refl
fitted_broken (Err f) n room next = refl

pub sized_broken : (r : Reading) (n : ℕ) (next : Result (List ℕ)) → sized (refuse_broken r n next) ≡ refuse_broken r n (sized next)
sized_broken (Ok _) n next = refl
sized_broken (Err f) n next = refl
