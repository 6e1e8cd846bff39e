-- A table of four octets for each octet, of which the first are its characters: one test that antt computes proves it of every octet
-- (`table_entry`).
use mathlib.Core.Path.{◌≡◌, refl, ap}
use mathlib.Core.List.{List, [], ◌∷◌, ◌++◌}
use mathlib.Core.Bool.{Bool, true, false, ◌&&◌, false≢true}
use Prim.Native.Nat.{ℕ, zero, suc, ◌+◌, ◌*◌, ◌/◌, ◌<◌}
use native.Mathlib.Nat.{add-zero, zero-add}
use native.Mathlib.Omega.{arith}
use borrow.Author.Tests.{eqb-true}
use lib.Dec.{eqb}
use lib.ListN.{length, take, get_or}
use Rattle.facts.proofs.Booleans.{both_true}
use Rattle.space.specs.Fold.{lower_of}
use Rattle.text.specs.WriteText.{characters_of}
use Rattle.totext.specs.Private.Table.{Entry}

abbrev same : List ℕ → List ℕ → Bool
same [] [] = true
same [] (y ∷ t) = false
same (x ∷ s) [] = false
same (x ∷ s) (y ∷ t) = eqb x y && same s t

same_eq : (s t : List ℕ) → same s t ≡ true → s ≡ t
same_eq [] [] h = refl
same_eq [] (y ∷ t) h = absurd (false≢true h)
same_eq (x ∷ s) [] h = absurd (false≢true h)
same_eq (x ∷ s) (y ∷ t) h = let b = both_true (eqb x y) (same s t) h in rw (eqb-true x y b.0, same_eq s t b.1)

abbrev right : ℕ → ℕ → ℕ → ℕ → ℕ → Bool
right o a b c d =
    eqb (1 + d / 16) (length (characters_of (lower_of o)))
    && same (take (length (characters_of (lower_of o))) (a ∷ b ∷ c ∷ d ∷ [])) (characters_of (lower_of o))

right_entry : (o a b c d : ℕ) → right o a b c d ≡ true → Entry o a b c d
right_entry o a b c d h = let r = both_true _ _ h in (eqb-true _ _ r.0, same_eq _ _ r.1)

-- the octets of a table are right, those of the octet o first
abbrev pub rights : ℕ → List ℕ → Bool
rights o [] = true
rights o (a ∷ []) = false
rights o (a ∷ b ∷ []) = false
rights o (a ∷ b ∷ c ∷ []) = false
rights o (a ∷ b ∷ c ∷ d ∷ t) = right o a b c d && rights (suc o) t

from : (t : List ℕ) (o : ℕ) → rights o t ≡ true → (i : ℕ) → i * 4 + 3 < length t
    → Entry (o + i) (get_or t (i * 4) 0) (get_or t (i * 4 + 1) 0) (get_or t (i * 4 + 2) 0) (get_or t (i * 4 + 3) 0)
from [] o h i less = absurd (omega arith)
from (a ∷ []) o h i less = absurd (false≢true h)
from (a ∷ b ∷ []) o h i less = absurd (false≢true h)
from (a ∷ b ∷ c ∷ []) o h i less = absurd (false≢true h)
from (a ∷ b ∷ c ∷ d ∷ t) o h zero less = rw (add-zero o) (right_entry o a b c d (both_true _ _ h).0)
from (a ∷ b ∷ c ∷ d ∷ t) o h (suc i) less =
    let l : List ℕ = a ∷ b ∷ c ∷ d ∷ t in
    let at : (j : ℕ) → get_or l (suc i * 4 + j) 0 ≡ get_or t (i * 4 + j) 0 =
    λ j. let n : suc i * 4 + j ≡ suc (suc (suc (suc (i * 4 + j)))) = omega arith in ap (λ (x : ℕ). get_or l x 0) n in
    let z : get_or l (suc i * 4) 0 ≡ get_or t (i * 4) 0 =
    let n : suc i * 4 ≡ suc (suc (suc (suc (i * 4)))) = omega arith in ap (λ (x : ℕ). get_or l x 0) n in
    let n : o + suc i ≡ suc o + i = omega arith in
    rw (n, z, at 1, at 2, at 3) (from t (suc o) (both_true (right o a b c d) (rights (suc o) t) h).1 i (omega arith))

-- ---- the table of all octets

-- the characters of an octet, with others behind them
abbrev filled : List ℕ → List ℕ
filled [] = []
filled (a ∷ []) = a ∷ 32 ∷ 32 ∷ 0 ∷ []
filled (a ∷ b ∷ []) = a ∷ b ∷ 32 ∷ 16 ∷ []
filled (a ∷ b ∷ c ∷ s) = a ∷ b ∷ c ∷ s

-- those of n octets from o on
abbrev table_from : ℕ → ℕ → List ℕ
table_from zero o = []
table_from (suc n) o = filled (characters_of (lower_of o)) ++ table_from n (suc o)

abbrev pub table : List ℕ
table = table_from 256 0

pub table_entry : (o : ℕ) → o < 256
    → Entry o (get_or table (o * 4) 0) (get_or table (o * 4 + 1) 0) (get_or table (o * 4 + 2) 0) (get_or table (o * 4 + 3) 0)
table_entry o less = rw (zero-add o) at (from table 0 refl o (omega arith))
