-- Octets that are read whole: at a length octet the name ends or a label follows, and they are 255 at most.
use mathlib.Core.Path.{◌≡◌, refl}
use mathlib.Core.List.{List, [], ◌∷◌}
use mathlib.Core.Bool.{Bool, true, false, cond, true≢false}
use mathlib.Core.Logic.{◌⊎◌, inl, inr, ⊎_elim}
use Prim.Native.Nat.{ℕ, zero, suc, ◌+◌, ◌≤◌}
use native.Mathlib.Omega.{arith}
use borrow.Author.Tests.{ltb-false, eqb-true, eqb-false}
use lib.Dec.{ltb, eqb}
use lib.ListN.{length}
use Rattle.name.specs.declared.Fault.TheVariants.{BadLength, TooLong}
use Rattle.name.specs.declared.Fault.{Fault}
use Rattle.name.specs.Wire.{Reading}
use Rattle.std.specs.Prelude.{Ok, Err}
use Rattle.name.specs.Wire.{read_from, reading_of, at_length, ended}

pub broken : {f : Fault} → ◌≡◌ {A = Reading} (Err f) (Ok tt) → ⊥
broken e = true≢false (cc)

ended_nil : (p : ℕ) (s : List ℕ) → ended p s ≡ Ok tt → s ≡ []
ended_nil p [] e = refl
ended_nil p (x ∷ s) e = absurd (broken e)

-- the two ways to pass a length octet
pub record Last (o : ℕ) (s : List ℕ) : Type 0 where
  pub zero_octet : o ≡ 0
  pub end : s ≡ []

pub record Label (p o : ℕ) (next : Reading) : Type 0 where
  pub some : o ≡ 0 → ⊥
  pub small : o ≤ 63
  pub fits : p + 1 + o ≤ 254
  pub on : next ≡ Ok tt

pub at_whole : (p o : ℕ) (s : List ℕ) (next : Reading) → at_length p o s next ≡ Ok tt → Last o s ⊎ Label p o next
at_whole p o s next e = go (eqb o 0) (ltb 63 o) (ltb 254 (p + 1 + o)) refl refl refl e
  where
    go : (a b c : Bool) → eqb o 0 ≡ a → ltb 63 o ≡ b → ltb 254 (p + 1 + o) ≡ c
        → cond a (ended (p + 1) s) (cond b (Err (BadLength p)) (cond c (Err (TooLong p)) next)) ≡ Ok tt
        → Last o s ⊎ Label p o next
    go true b c ea eb ec r = inl (record { zero_octet = eqb-true o 0 ea; end = ended_nil (p + 1) s r })
    go false true c ea eb ec r = absurd (broken r)
    go false false true ea eb ec r = absurd (broken r)
    go false false false ea eb ec r =
        inr (record { some = eqb-false o 0 ea; small = ltb-false 63 o eb; fits = ltb-false 254 (p + 1 + o) ec; on = r })

pub whole_length : (s : List ℕ) (p k : ℕ) → p + k ≤ 254 → read_from p k s ≡ Ok tt → p + length s ≤ 255
unfolding read_from
whole_length [] p k h e = absurd (broken e)
whole_length (o ∷ s) p zero h e =
    ⊎_elim
    (λ w. rw w.end (omega arith))
    (λ w. let m : p + 1 + length s ≤ 255 = whole_length s (p + 1) o w.fits w.on in omega arith)
    (at_whole p o s (read_from (p + 1) o s) e)
whole_length (o ∷ s) p (suc k) h e =
    let m : p + 1 + length s ≤ 255 = whole_length s (p + 1) k (omega arith) e in omega arith

pub whole_fits : (s : List ℕ) → reading_of s ≡ Ok tt → length s ≤ 255
whole_fits s e = let m : 0 + length s ≤ 255 = whole_length s 0 0 (omega arith) e in omega arith
